-- A list is read item by item.
use Rattle.std.proofs.{Common.{arith, map, ap}, lemmas.List.map-append}
use Rattle.ciborium_value.proofs.Sources.Sequences.{so, takes, blames, blames_next}
use Rattle.ciborium_value.proofs.Sources.Sequences.{list_begins, list_more, list_blames, list_ends}
use Rattle.ciborium_value.proofs.Sources.Sequences.{owed_more, owed_all, passes_on}
use Rattle.ciborium_value.proofs.deserialize.sequences.VecDeserialize.deserialize.Goals as goal

pub loop-values-init : goal.loop-values-init
loop-values-init g c = record {
  inside = list_begins _ (ap (map g.T.Deserialize.reading.content) c.new-values.ensures.items) c.in_ok-seq.ensures.ok;
  owed = c.in_ok-seq.ensures.took;
  only = c.begin_seq.ensures.only;
  less = c.in_ok-seq.ensures.less;
}

pub returns-in_err-next-clause-takes : goal.returns-in_err-next-clause-takes
returns-in_err-next-clause-takes g c =
    passes_on _ c.in_err-next.field-0.0 c.from_residual-in_err-next.ensures.1
    (blames (so c.loop-values.invariant.inside (blames_next c.in_err-next.ensures.refused.0)))
    (λ first h. c.next.ensures.only first (c.loop-values.invariant.only first h))
    (omega (arith, c.in_err-next.ensures.no_more, c.loop-values.invariant.less))

pub returns-in_err-value-clause-takes : goal.returns-in_err-value-clause-takes
returns-in_err-value-clause-takes g c =
    passes_on _ c.in_err-value.field-0.0 c.from_residual-in_err-value.ensures.1
    (blames (so c.loop-values.invariant.inside
    (list_blames _ _ _ (rw c.if-branch.true at c.in_ok-next.ensures.ok) c.in_err-value.ensures.takes.refused)))
    (λ first h. c.deserialize.ensures.takes.only first
    (c.next.ensures.only first (c.loop-values.invariant.only first h)))
    (omega (
      arith,
      c.in_ok-next.ensures.less,
      c.in_err-value.ensures.takes.no_more,
      c.loop-values.invariant.less,
    ))

pub loop-values-preserved : goal.loop-values-preserved
loop-values-preserved g c = record {
  inside = rw (c.in-Ok.ensures.items, map-append) (so c.loop-values.invariant.inside
      (list_more _ _ _ (rw c.if-branch.true at c.in_ok-next.ensures.ok) c.in_ok-value.ensures.takes.ok));
  owed = owed_more g.S.Source.is_unread g.S.Source.owes _ _ _ _ _ _ c.loop-values.invariant.owed
      (rw c.if-branch.true at c.in_ok-next.ensures.took) c.in_ok-value.ensures.takes.took;
  only = λ first h. c.deserialize.ensures.takes.only first
      (c.next.ensures.only first (c.loop-values.invariant.only first h));
  less = omega (arith, c.in_ok-next.ensures.less, c.in_ok-value.ensures.takes.less, c.loop-values.invariant.less);
}

pub returns-clause-takes : goal.returns-clause-takes
returns-clause-takes g c = record {
  ok = takes (so c.loop-values.invariant.inside (list_ends _ (rw c.if-branch.false at c.in_ok-next.ensures.ok)));
  refused = tt;
  took = owed_all g.S.Source.is_unread g.S.Source.owes _ _ _ _ c.loop-values.invariant.owed
      (rw c.if-branch.false at c.in_ok-next.ensures.took);
  only = λ first h. c.next.ensures.only first (c.loop-values.invariant.only first h);
  less = omega (arith, c.in_ok-next.ensures.less, c.loop-values.invariant.less);
  no_more = tt;
}
