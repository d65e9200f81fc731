use Rattle.std.proofs.Common.{◌-◌, ◌∙◌, Bool, Err, IfErr, IfOk, List, MatchOption, None, Ok, OnOk, Option, Result, Some}
use Rattle.std.proofs.Common.{ap, inl, inr, refl, subst, sym, ℕ}
use Rattle.ciborium_value.specs.{Spelling.Spelling, Tree.Tree, declared.tree.Value.Value, inner.Frames.TreeFrame}
use Rattle.ciborium.specs.{Errors.HasEndedBy, declared.de.error.Error.Error, inner.Turns.IsPlacedInOrder}
use Rattle.ciborium_value.specs.{View.tree_of, inner.Stack.frames_of}
use Rattle.ciborium.proofs.Turns.Turned.{depth-closed, depth-placed, turn-begun, turn-break, turn-by, turn-ended}
use Rattle.ciborium.{proofs.Turns.Turned.{turn-refused, turn-whole}}
use Rattle.ciborium.proofs.Exits.{passed_on}
use Rattle.ciborium.proofs.de.building.turn.Goals as goal

-- no head is pushed behind a value that is done
rests-so : {V E P : Type 0} (r : Result (Option V) E) → P → IfOk r (λ o. MatchOption o (Unit {0}) (λ _. P))
rests-so (Ok None) p = tt
rests-so (Ok (Some v)) p = p
rests-so (Err e) p = tt

fewer-so : {V E P : Type 0} (r : Result V E) → P → OnOk r P
fewer-so (Ok v) p = p
fewer-so (Err e) p = tt

-- neither error of a value that is placed says that no byte is left
placed-ends : {E : Type 0} (can_fail : Bool) (left : Option (List ℕ)) (spelling : Spelling) (before : List TreeFrame)
    (v : Tree) (at : ℕ) (after : List TreeFrame) (r : Result (Option Value) (Error E)) →
    IsPlacedInOrder spelling before v at after r → IfErr r (HasEndedBy can_fail left)
placed-ends can_fail left spelling before v at after (Ok o) h = tt
placed-ends can_fail left spelling before v at after (Err e) (inl memory) =
    subst (HasEndedBy can_fail left) (sym memory) tt
placed-ends can_fail left spelling before v at after (Err e) (inr (more, (k, order, is))) =
    subst (HasEndedBy can_fail left) (sym is) tt

pub returns-in_err-value-clause-turn : goal.returns-in_err-value-clause-turn
returns-in_err-value-clause-turn g c = rw (passed_on c.from_residual.result _ c.from_residual.ensures.1)
    (turn-by g.S.Rules.spelling g.A.Access.remaining c.args.decoder.now c.next.new.decoder (frames_of c.args.stack.now)
    c.args.levels c.depth.result _ c.depth.ensures refl c.in_err-value.ensures.part (λ z xs p. turn-refused))

pub returns-in-Whole-clause-depth : goal.returns-in-Whole-clause-depth
returns-in-Whole-clause-depth g c = depth-placed g.S.Rules.spelling c.place.result (frames_of c.args.stack.now)
    (frames_of c.place.new.stack) (tree_of c.in-Whole.value) c.offset.result c.args.levels c.place.ensures c.requires

pub returns-in-Whole-clause-turn : goal.returns-in-Whole-clause-turn
returns-in-Whole-clause-turn g c =
    turn-by g.S.Rules.spelling g.A.Access.remaining c.args.decoder.now c.next.new.decoder (frames_of c.args.stack.now)
    c.args.levels c.depth.result _ c.depth.ensures (ap Ok c.in-Whole.is) c.in_ok-value.ensures.part
    (λ z xs p. turn-whole (frames_of c.place.new.stack) c.offset.result c.place.result c.offset.ensures c.place.ensures)

pub returns-in-Ok-clause-turn : goal.returns-in-Ok-clause-turn
returns-in-Ok-clause-turn g c =
    turn-by g.S.Rules.spelling g.A.Access.remaining c.args.decoder.now c.next.new.decoder (frames_of c.args.stack.now)
    c.args.levels c.depth.result _ c.depth.ensures (ap Ok c.in-Begun.is) c.in_ok-value.ensures.part
    (λ z xs p. turn-begun (frames_of c.begin_frame.new.self) c.in-Ok.ensures.ok)

pub returns-in-Some-clause-depth : goal.returns-in-Some-clause-depth
returns-in-Some-clause-depth g c = depth-placed g.S.Rules.spelling c.place-in-Some.result (frames_of c.close.new.self)
    (frames_of c.place-in-Some.new.stack) (tree_of c.in-Some.value) c.offset-in-Some.result c.args.levels
    c.place-in-Some.ensures
    (depth-closed (frames_of c.args.stack.now) (frames_of c.close.new.self) (tree_of c.in-Some.value) c.args.levels
    c.in-Some.ensures c.requires)

pub returns-in-Some-clause-turn : goal.returns-in-Some-clause-turn
returns-in-Some-clause-turn g c =
    turn-by g.S.Rules.spelling g.A.Access.remaining c.args.decoder.now c.next.new.decoder (frames_of c.args.stack.now)
    c.args.levels c.depth.result _ c.depth.ensures (ap Ok c.in-Ended.is) c.in_ok-value.ensures.part
    (λ z xs p. turn-ended c.in-Some.value (frames_of c.place-in-Some.new.stack) c.offset-in-Some.result
    c.place-in-Some.result c.in-Some.ensures c.offset-in-Some.ensures c.place-in-Some.ensures)

pub returns-in-None-clause-turn : goal.returns-in-None-clause-turn
returns-in-None-clause-turn g c =
    turn-by g.S.Rules.spelling g.A.Access.remaining c.args.decoder.now c.next.new.decoder (frames_of c.args.stack.now)
    c.args.levels c.depth.result _ c.depth.ensures (ap Ok c.in-Ended.is) c.in_ok-value.ensures.part
    (λ z xs p. turn-break c.in-None.ensures.0
    (c.saturating_sub-offset.ensures ∙ ap (λ n. n - 1) c.offset-in-None.ensures))

pub returns-in_err-value-clause-ended : goal.returns-in_err-value-clause-ended
returns-in_err-value-clause-ended g c =
    rw (passed_on c.from_residual.result _ c.from_residual.ensures.1) c.in_err-value.ensures.ended

pub returns-in-Err-clause-turn : goal.returns-in-Err-clause-turn
returns-in-Err-clause-turn g c =
    let t = c.in_ok-value.ensures.part in (t.0, t.1, t.2, λ z xs p s. tt, t.4)

pub returns-in-Whole-clause-rests : goal.returns-in-Whole-clause-rests
returns-in-Whole-clause-rests g c = rests-so c.place.result (rw c.in-Whole.is at c.in_ok-value.ensures.rests)

pub returns-in-Whole-clause-fewer : goal.returns-in-Whole-clause-fewer
returns-in-Whole-clause-fewer g c = fewer-so c.place.result c.in_ok-value.ensures.fewer

pub returns-in-Whole-clause-ended : goal.returns-in-Whole-clause-ended
returns-in-Whole-clause-ended g c = placed-ends _ _ g.S.Rules.spelling (frames_of c.args.stack.now)
    (tree_of c.in-Whole.value) c.offset.result (frames_of c.place.new.stack) c.place.result c.place.ensures

pub returns-in-Some-clause-rests : goal.returns-in-Some-clause-rests
returns-in-Some-clause-rests g c = rests-so c.place-in-Some.result (rw c.in-Ended.is at c.in_ok-value.ensures.rests)

pub returns-in-Some-clause-fewer : goal.returns-in-Some-clause-fewer
returns-in-Some-clause-fewer g c = fewer-so c.place-in-Some.result c.in_ok-value.ensures.fewer

pub returns-in-Some-clause-ended : goal.returns-in-Some-clause-ended
returns-in-Some-clause-ended g c = placed-ends _ _ g.S.Rules.spelling (frames_of c.close.new.self)
    (tree_of c.in-Some.value) c.offset-in-Some.result (frames_of c.place-in-Some.new.stack) c.place-in-Some.result
    c.place-in-Some.ensures
