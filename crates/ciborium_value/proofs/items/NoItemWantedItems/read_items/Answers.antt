-- What is left of a sequence is dropped item by item.
use Rattle.std.proofs.Common.{arith}
use Rattle.ciborium_value.specs.{EnteredSequences.RefusesInTurn, GivenParts.no_part_given}
use Rattle.ciborium_value.proofs.{Writing.Progress.exits, Sources.Sequences.{so, blames_next, drop_more, drop_blames}}
use Rattle.ciborium_value.proofs.Sources.Sequences.{drop_ends, dropped_more, dropped_all, refuses_parts, takes_parts}
use Rattle.ciborium_value.proofs.items.NoItemWantedItems.read_items.Goals as goal

pub returns-in_err-next-clause-refused : goal.returns-in_err-next-clause-refused
returns-in_err-next-clause-refused g c =
    exits _ c.in_err-next.field-0.0 (λ x. RefusesInTurn g.S.Source.stands_before g.S.Source.seq_stands
    c.args.source.now c.args.seq.now no_part_given (g.S.Source.cause c.next.new.self x)) c.from_residual.ensures.1
    (refuses_parts (so c.loop-source.invariant.inside (blames_next c.in_err-next.ensures.refused.0)))

pub returns-in_err-value-clause-refused : goal.returns-in_err-value-clause-refused
returns-in_err-value-clause-refused g c =
    exits _ c.in_err-value.field-0.0 (λ x. RefusesInTurn g.S.Source.stands_before g.S.Source.seq_stands
    c.args.source.now c.args.seq.now no_part_given (g.S.Source.cause c.value.new.self x))
    c.from_residual-in_err-value.ensures.1
    (refuses_parts (so c.loop-source.invariant.inside
    (drop_blames _ _ (rw c.if-branch.true at c.in_ok-next.ensures.ok) c.in_err-value.ensures.takes.refused)))

pub loop-source-preserved : goal.loop-source-preserved
loop-source-preserved g c = record {
  inside = so c.loop-source.invariant.inside (drop_more _ _
      (rw c.if-branch.true at c.in_ok-next.ensures.ok) c.in_ok-value.ensures.takes.ok);
  owed = dropped_more g.S.Source.is_unread g.S.Source.owes _ _ _ _ _ _ _ c.loop-source.invariant.owed
      (rw c.if-branch.true at c.in_ok-next.ensures.took) c.in_ok-value.ensures.takes.took;
  only = λ first h. c.value.ensures.takes.only first (c.next.ensures.only first (c.loop-source.invariant.only first h));
  less = omega (arith, c.in_ok-next.ensures.less, c.in_ok-value.ensures.takes.less, c.loop-source.invariant.less);
}

pub returns-clause-ok : goal.returns-clause-ok
returns-clause-ok g c =
    takes_parts (so c.loop-source.invariant.inside (drop_ends (rw c.if-branch.false at c.in_ok-next.ensures.ok)))

pub returns-clause-took : goal.returns-clause-took
returns-clause-took g c = dropped_all g.S.Source.is_unread g.S.Source.owes _ _ _ _ _ c.loop-source.invariant.owed
    (rw c.if-branch.false at c.in_ok-next.ensures.took)
