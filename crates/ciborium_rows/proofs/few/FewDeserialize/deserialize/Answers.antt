-- Few numbers are read one by one; where five were read a further item is refused.
use Rattle.std.proofs.Common.{arith, ◌≡◌, ◌+◌, ◌-◌, ◌++◌, suc, [], ◌∷◌, length, sym, subst}
use Rattle.ciborium_value.proofs.Sources.Sequences.{so, Follows, IsBefore, IsInside, takes, blames, blames_next}
use Rattle.ciborium_value.{proofs.Sources.Sequences.{owed_more, owed_all, passes_on}, specs.Given.given_byte}
use Rattle.ciborium_value.specs.Sources.{RefusesAhead, of_kind}
use Rattle.ciborium_rows.{proofs.FewItems.{few_from, few_more, few_blames, few_refuses, few_ends}, specs.Few.given_few}
use Rattle.ciborium_ll.specs.declared.kind.Kind.TheVariants as kinds
use Rattle.ciborium_rows.proofs.few.FewDeserialize.deserialize.Goals as goal

pub returns-in_err-next-clause-takes : goal.returns-in_err-next-clause-takes
returns-in_err-next-clause-takes g c =
    passes_on _ c.in_err-next.field-0.0 c.from_residual-in_err-next.ensures.1
    (blames (so c.loop-numbers.invariant.inside (blames_next c.in_err-next.ensures.refused.0)))
    (λ first h. c.next.ensures.only first (c.loop-numbers.invariant.only first h))
    (omega (arith, c.in_err-next.ensures.no_more, c.loop-numbers.invariant.less))

pub returns-then-len-ge-MOST-clause-takes : goal.returns-then-len-ge-MOST-clause-takes
returns-then-len-ge-MOST-clause-takes g c =
    let vs = c.loop-numbers.numbers.items in
    let full : 5 - length vs ≡ 0 = omega (arith, c.if-len-ge-MOST.true, c.len.ensures) in
    let inside = rw full at c.loop-numbers.invariant.inside in
    record {
      ok = tt;
      refused = rw c.refuse.ensures
          (blames (so inside (few_refuses vs _ _ (rw c.if-branch.true at c.in_ok-next.ensures.ok))));
      took = tt;
      only = λ first h. c.next.ensures.only first (c.loop-numbers.invariant.only first h);
      less = tt;
      no_more = omega (arith, c.in_ok-next.ensures.less, c.loop-numbers.invariant.less);
    }

pub returns-in_err-number-clause-takes : goal.returns-in_err-number-clause-takes
returns-in_err-number-clause-takes g c =
    let vs = c.loop-numbers.numbers.items in
    let room : 5 - length vs ≡ suc (5 - (length vs + 1)) = omega (arith, c.if-len-ge-MOST.false, c.len.ensures) in
    let inside = rw room at c.loop-numbers.invariant.inside in
    passes_on _ c.in_err-number.field-0.0 c.from_residual-in_err-number.ensures.1
    (blames (so inside (few_blames (5 - (length vs + 1)) vs _ _ (rw c.if-branch.true at c.in_ok-next.ensures.ok)
    c.in_err-number.ensures.takes.refused)))
    (λ first h. c.deserialize.ensures.takes.only first
    (c.next.ensures.only first (c.loop-numbers.invariant.only first h)))
    (omega (
      arith,
      c.in_ok-next.ensures.less,
      c.in_err-number.ensures.takes.no_more,
      c.loop-numbers.invariant.less,
    ))

pub loop-numbers-preserved : goal.loop-numbers-preserved
loop-numbers-preserved g c =
    let vs = c.loop-numbers.numbers.items in
    let room : 5 - length vs ≡ suc (5 - (length vs + 1)) = omega (arith, c.if-len-ge-MOST.false, c.len.ensures) in
    let inside = rw room at c.loop-numbers.invariant.inside in
    let more = so inside (few_more (5 - (length vs + 1)) vs _ _ (rw c.if-branch.true at c.in_ok-next.ensures.ok)
    c.in_ok-number.ensures.takes.ok) in
    let longer : length c.push.new.self.items ≡ length vs + 1 = grind (arith, c.in-Ok.ensures.items) in
    record {
      most = omega (arith, longer, c.if-len-ge-MOST.false, c.len.ensures);
      inside = rw (longer, c.in-Ok.ensures.items) more;
      owed = owed_more g.S.Source.is_unread g.S.Source.owes _ _ _ _ _ _ c.loop-numbers.invariant.owed
          (rw c.if-branch.true at c.in_ok-next.ensures.took) c.in_ok-number.ensures.takes.took;
      only = λ first h. c.deserialize.ensures.takes.only first
          (c.next.ensures.only first (c.loop-numbers.invariant.only first h));
      less = omega (arith, c.in_ok-next.ensures.less, c.in_ok-number.ensures.takes.less, c.loop-numbers.invariant.less);
    }

pub returns-clause-takes : goal.returns-clause-takes
returns-clause-takes g c =
    record {
      ok = takes (so c.loop-numbers.invariant.inside
          (few_ends _ _ (rw c.if-branch.false at c.in_ok-next.ensures.ok)));
      refused = tt;
      took = owed_all g.S.Source.is_unread g.S.Source.owes _ _ _ _ c.loop-numbers.invariant.owed
          (rw c.if-branch.false at c.in_ok-next.ensures.took);
      only = λ first h. c.next.ensures.only first (c.loop-numbers.invariant.only first h);
      less = omega (arith, c.in_ok-next.ensures.less, c.loop-numbers.invariant.less);
      no_more = tt;
    }
