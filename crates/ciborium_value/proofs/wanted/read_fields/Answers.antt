-- A map is read by names pair by pair.
use Rattle.std.proofs.Common.{arith, ◌∙◌, subst, sym}
use Rattle.ciborium_value.specs.{Ahead.end_of, Sources.IsFaultOf}
use Rattle.ciborium_value.proofs.Sources.Sequences.{so, takes, blames, passes_on}
use Rattle.ciborium_value.proofs.Sources.{Dictionaries.{owed_pair, owed_pairs}, NamedFields.fields_more}
use Rattle.ciborium_value.proofs.Sources.NamedFields.{fields_blame_next, fields_blame_name, fields_blame_field}
use Rattle.ciborium_value.proofs.Sources.NamedFields.{fields_end}
use Rattle.ciborium_value.proofs.wanted.read_fields.Goals as goal

pub returns-in_err-next : goal.returns-in_err-next
returns-in_err-next g c =
    passes_on _ c.in_err-next.field-0.0 c.from_residual-in_err-next.ensures.1
    (blames (so c.loop-seq.invariant.inside (fields_blame_next c.in_err-next.ensures.refused)))
    (λ first h. c.next.ensures.only first (c.loop-seq.invariant.only first h))
    (omega (arith, c.in_err-next.ensures.no_more, c.loop-seq.invariant.less))

pub returns-in_err-place : goal.returns-in_err-place
returns-in_err-place g c =
    passes_on _ c.in_err-place.field-0.0 c.from_residual-in_err-place.ensures.1
    (blames (so c.loop-seq.invariant.inside (fields_blame_name (g.F.Labels.place_of c.loop-seq.fields) _ _
    (rw c.if-branch.true at c.in_ok-next.ensures.ok) c.in_err-place.ensures.takes.refused)))
    (λ first h. c.label.ensures.takes.only first (c.next.ensures.only first (c.loop-seq.invariant.only first h)))
    (omega (
      arith,
      c.in_ok-next.ensures.less,
      c.in_err-place.ensures.takes.no_more,
      c.loop-seq.invariant.less,
    ))

pub returns-in_err-read_field : goal.returns-in_err-read_field
returns-in_err-read_field g c =
    let e = g.S.Source.cause c.read_field.new.source c.in_err-read_field.field-0.0 in
    passes_on _ c.in_err-read_field.field-0.0 c.from_residual-in_err-read_field.ensures.1
    (blames (so c.loop-seq.invariant.inside (fields_blame_field (g.F.Labels.place_of c.loop-seq.fields) _ _
    (rw c.if-branch.true at c.in_ok-next.ensures.ok) _ c.in_ok-place.ensures.takes.ok
    (λ name at l i f st. subst (IsFaultOf (end_of f) e)
    (c.loop-seq.invariant.names name (g.F.WantedFields.content c.loop-seq.fields) l i)
    (c.in_err-read_field.ensures.refused name at l i f st)))))
    (λ first h. c.read_field.ensures.only first (c.label.ensures.takes.only first
    (c.next.ensures.only first (c.loop-seq.invariant.only first h))))
    (omega (
      arith,
      c.in_ok-next.ensures.less,
      c.in_ok-place.ensures.takes.less,
      c.in_err-read_field.ensures.no_more,
      c.loop-seq.invariant.less,
    ))

pub loop-seq-preserved : goal.loop-seq-preserved
loop-seq-preserved g c = record {
  names = λ name d l i. c.in_ok-read_field.ensures.names name d l i ∙ c.loop-seq.invariant.names name d l i;
  inside = so c.loop-seq.invariant.inside (fields_more (g.F.Labels.place_of c.loop-seq.fields) _ _
      (rw c.if-branch.true at c.in_ok-next.ensures.ok) _ c.in_ok-place.ensures.takes.ok
      (λ name at l i f st. let there = c.in_ok-read_field.ensures.ok name at l i f st in
      (sym (c.loop-seq.invariant.names name (g.F.WantedFields.content c.loop-seq.fields) l i) ∙ there.0, there.1)));
  owed = owed_pair g.S.Source.is_unread g.S.Source.owes _ _ _ _ _ _ _ c.loop-seq.invariant.owed
      (rw c.if-branch.true at c.in_ok-next.ensures.took) c.in_ok-place.ensures.takes.took
      c.in_ok-read_field.ensures.took;
  only = λ first h. c.read_field.ensures.only first (c.label.ensures.takes.only first
      (c.next.ensures.only first (c.loop-seq.invariant.only first h)));
  less = omega (
    arith,
    c.in_ok-next.ensures.less,
    c.in_ok-place.ensures.takes.less,
    c.in_ok-read_field.ensures.less,
    c.loop-seq.invariant.less,
  );
}

pub returns : goal.returns
returns g c = record {
  ok = takes (so c.loop-seq.invariant.inside (fields_end (rw c.if-branch.false at c.in_ok-next.ensures.ok)));
  refused = tt;
  took = owed_pairs g.S.Source.is_unread g.S.Source.owes _ _ _ _ c.loop-seq.invariant.owed
      (rw c.if-branch.false at c.in_ok-next.ensures.took);
  only = λ first h. c.next.ensures.only first (c.loop-seq.invariant.only first h);
  less = omega (arith, c.in_ok-next.ensures.less, c.loop-seq.invariant.less);
  no_more = tt;
}
