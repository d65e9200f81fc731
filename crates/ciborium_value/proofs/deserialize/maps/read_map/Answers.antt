-- A map is read pair by pair.
use Rattle.std.proofs.Common.{arith, map, sym, refl, ap, ◌≡◌, ◌∙◌, ◌&&◌, Bool, List}
use Rattle.ciborium_value.specs.{GivenParts.has_key, lemmas.PutEntries.{one-has, one-put}}
use Rattle.ciborium_value.proofs.Sources.Sequences.{so, takes, blames, passes_on}
use Rattle.ciborium_value.proofs.Sources.Dictionaries.{map_begins, map_more, map_blames_again, map_blames_key}
use Rattle.ciborium_value.proofs.Sources.Dictionaries.{map_blames_next, map_blames_value, map_ends, owed_pair}
use Rattle.ciborium_value.proofs.Sources.Dictionaries.{owed_pairs}
use Rattle.ciborium_value.proofs.deserialize.maps.read_map.Given.{Over}
use Rattle.ciborium_value.proofs.deserialize.maps.read_map.Goals as goal

-- a key occurs again where its content does
again-is : (g : Over) (once : Bool) (es : List (g.row.K.Denot × g.row.V.Denot)) (k : g.row.K.Denot) →
    (once && has_key g.K.Deserialize.reading.order
    (map (λ e. (g.K.Deserialize.reading.content e.0, g.V.Deserialize.reading.content e.1)) es)
    (g.K.Deserialize.reading.content k)) ≡ (once && has_key g.K.Ord.cmp es k)
again-is g once es k = ap (λ t. once && t) (one-has g.K.Ord.cmp g.K.Deserialize.reading.order
    g.K.Deserialize.reading.content g.V.Deserialize.reading.content g.met.K.Key.orders es k)

pub loop-entries-init : goal.loop-entries-init
loop-entries-init g c = record {
  inside = map_begins (ap (map _) c.new-entries.ensures.empty) c.in_ok-seq.ensures.ok;
  owed = c.in_ok-seq.ensures.took;
  only = c.begin_map.ensures.only;
  less = c.in_ok-seq.ensures.less;
}

pub returns-in_err-next : goal.returns-in_err-next
returns-in_err-next g c =
    passes_on _ c.in_err-next.field-0.0 c.from_residual-in_err-next.ensures.1
    (blames (so c.loop-entries.invariant.inside (map_blames_next c.in_err-next.ensures.refused)))
    (λ first h. c.next.ensures.only first (c.loop-entries.invariant.only first h))
    (omega (arith, c.in_err-next.ensures.no_more, c.loop-entries.invariant.less))

pub returns-in_err-key : goal.returns-in_err-key
returns-in_err-key g c =
    passes_on _ c.in_err-key.field-0.0 c.from_residual-in_err-key.ensures.1
    (blames (so c.loop-entries.invariant.inside
    (map_blames_key _ _ (rw c.if-branch.true at c.in_ok-next.ensures.ok) c.in_err-key.ensures.takes.refused)))
    (λ first h. c.deserialize.ensures.takes.only first
    (c.next.ensures.only first (c.loop-entries.invariant.only first h)))
    (omega (
      arith,
      c.in_ok-next.ensures.less,
      c.in_err-key.ensures.takes.no_more,
      c.loop-entries.invariant.less,
    ))

pub returns-in_err-value : goal.returns-in_err-value
returns-in_err-value g c =
    passes_on _ c.in_err-value.field-0.0 c.from_residual-in_err-value.ensures.1
    (blames (so c.loop-entries.invariant.inside
    (map_blames_value _ _ _ (rw c.if-branch.true at c.in_ok-next.ensures.ok) c.in_ok-key.ensures.takes.ok
    (again-is g c.args.once c.loop-entries.entries.entries c.in_ok-key.key ∙ sym c.occurs_again.ensures ∙
    c.if-occurs_again.false) c.in_err-value.ensures.takes.refused)))
    (λ first h. c.deserialize-in-loop-entries.ensures.takes.only first
    (c.deserialize.ensures.takes.only first (c.next.ensures.only first (c.loop-entries.invariant.only first h))))
    (omega (
      arith,
      c.in_ok-next.ensures.less,
      c.in_ok-key.ensures.takes.less,
      c.in_err-value.ensures.takes.no_more,
      c.loop-entries.invariant.less,
    ))

pub returns-then-occurs_again : goal.returns-then-occurs_again
returns-then-occurs_again g c =
    passes_on _ c.refuse_at.result refl (rw c.refuse_at.ensures
    (blames (so c.loop-entries.invariant.inside
    (map_blames_again _ _ _ (rw c.if-branch.true at c.in_ok-next.ensures.ok) c.in_ok-key.ensures.takes.ok
    (again-is g c.args.once c.loop-entries.entries.entries c.in_ok-key.key ∙ sym c.occurs_again.ensures ∙
    c.if-occurs_again.true)))))
    (λ first h. c.deserialize.ensures.takes.only first
    (c.next.ensures.only first (c.loop-entries.invariant.only first h)))
    (omega (
      arith,
      c.in_ok-next.ensures.less,
      c.in_ok-key.ensures.takes.less,
      c.loop-entries.invariant.less,
    ))

pub loop-entries-preserved : goal.loop-entries-preserved
loop-entries-preserved g c = record {
  inside =
      let put = one-put g.K.Ord.cmp g.K.Deserialize.reading.order g.K.Deserialize.reading.content
      g.V.Deserialize.reading.content g.met.K.Key.orders c.loop-entries.entries.entries
      (c.in_ok-key.key, c.in_ok-value.value) in
      rw (c.in-Ok.ensures.entries, ← put) (so c.loop-entries.invariant.inside
      (map_more _ _ _ (rw c.if-branch.true at c.in_ok-next.ensures.ok) c.in_ok-key.ensures.takes.ok
      (again-is g c.args.once c.loop-entries.entries.entries c.in_ok-key.key ∙ sym c.occurs_again.ensures ∙
      c.if-occurs_again.false) c.in_ok-value.ensures.takes.ok));
  owed = owed_pair g.S.Source.is_unread g.S.Source.owes _ _ _ _ _ _ _ c.loop-entries.invariant.owed
      (rw c.if-branch.true at c.in_ok-next.ensures.took) c.in_ok-key.ensures.takes.took
      c.in_ok-value.ensures.takes.took;
  only = λ first h. c.deserialize-in-loop-entries.ensures.takes.only first
      (c.deserialize.ensures.takes.only first (c.next.ensures.only first (c.loop-entries.invariant.only first h)));
  less = omega (
    arith,
    c.in_ok-next.ensures.less,
    c.in_ok-key.ensures.takes.less,
    c.in_ok-value.ensures.takes.less,
    c.loop-entries.invariant.less,
  );
}

pub returns : goal.returns
returns g c = record {
  ok = takes (so c.loop-entries.invariant.inside (map_ends (rw c.if-branch.false at c.in_ok-next.ensures.ok)));
  refused = tt;
  took = owed_pairs g.S.Source.is_unread g.S.Source.owes _ _ _ _ c.loop-entries.invariant.owed
      (rw c.if-branch.false at c.in_ok-next.ensures.took);
  only = λ first h. c.next.ensures.only first (c.loop-entries.invariant.only first h);
  less = omega (arith, c.in_ok-next.ensures.less, c.loop-entries.invariant.less);
  no_more = tt;
}
