use Rattle.std.proofs.Common.{◌≡◌, ◌∙◌, ◌≤◌, arith, rules, refl, sym, subst, ℕ, List, length, None, Some, Ok, Err}
use Rattle.std.proofs.Common.{MatchOption, Option, Result}
use Rattle.ciborium_ll.specs.{declared.decoder.Decoder.Decoder, Decoding.{TakesBeforeAny, left_of, with_left}}
use Rattle.ciborium_value.specs.{declared.tree.Value.Value, inner.Frames.TreeFrame, inner.Stack.frames_of}
use Rattle.ciborium_value.specs.{Spelling.Spelling, Refuses.Refuses}
use Rattle.ciborium.specs.{declared.de.error.Error.Error, ValueAnswers.IsRefusedBy, inner.Turns.{IsReading, IsTurned}}
use Rattle.ciborium.specs.{inner.Turns.IsValueRead, inner.ValuesInBytes.StandsAt}
use Rattle.ciborium.proofs.{Turns.Turned.begin, Readers.WhateverFollows.{so-then, so-unread}}
use Rattle.ciborium.proofs.de.building.read_value.Goals as goal

-- reading has come so far
abbrev Reading : {W : Type 0} → Spelling → List TreeFrame → ℕ → Decoder (List ℕ) W → Decoder (List ℕ) W → Type 0
Reading spelling os l d e = (xs : List ℕ) (p : ℕ) → StandsAt spelling Some d xs p → IsReading spelling Some e os l xs p

-- a turn goes on
abbrev Turns : {W : Type 0} → Spelling → List TreeFrame → List TreeFrame → ℕ → Result (Option Value) (Error Unit) →
    Decoder (List ℕ) W → Decoder (List ℕ) W → Type 0
Turns spelling os us l x d e = (xs : List ℕ) (p : ℕ) → IsReading spelling Some d os l xs p →
    IsTurned spelling Some e us l xs p x

turned : {S W : Type 0} (remaining : S → Option (List ℕ)) (first before after : Decoder S W) (spelling : Spelling)
    (os us : List TreeFrame) (l : ℕ) (x : Result (Option Value) (Error Unit)) →
    TakesBeforeAny remaining first before (Reading spelling os l) →
    TakesBeforeAny remaining before after (Turns spelling os us l x) →
    TakesBeforeAny remaining first after (λ d e. (xs : List ℕ) (p : ℕ) → StandsAt spelling Some d xs p →
    IsTurned spelling Some e us l xs p x)
turned remaining first before after spelling os us l x reading turn =
    so-then remaining first before after (Reading spelling os l) (Turns spelling os us l x)
    (λ d e. (xs : List ℕ) (p : ℕ) → StandsAt spelling Some d xs p → IsTurned spelling Some e us l xs p x)
    (λ u v w h k xs p s. k xs p (h xs p s)) reading turn

pub turns-init : goal.turns-init
turns-init g c = record {
  same = refl;
  depth = search rules;
  fewer = omega arith;
  reading = so-unread g.A.Access.remaining c.args.decoder.now c.args.decoder.now
      (Reading g.S.Rules.spelling (frames_of c.new-stack.result) c.args.levels) (refl, refl)
      (λ u xs p s. begin g.S.Rules.spelling Some (with_left c.args.decoder.now u) (frames_of c.new-stack.result)
      c.args.levels xs p c.new-stack.ensures s);
}

pub turns-preserved : goal.turns-preserved
turns-preserved g c = record {
  same = c.in-Ok-None.ensures.same_reader ∙ c.turns.invariant.same;
  depth = subst (λ o. MatchOption o (length (frames_of c.turn.new.stack) ≤ c.args.levels) (λ _. Unit {0}))
      c.in-Ok-None.field-0-is c.in-Ok-None.ensures.depth;
  fewer = omega (arith, c.in-Ok-None.ensures.fewer, c.turns.invariant.fewer);
  reading = turned g.A.Access.remaining c.args.decoder.now c.turns.decoder c.turn.new.decoder g.S.Rules.spelling
      (frames_of c.turns.stack) (frames_of c.turn.new.stack) c.args.levels (Ok None) c.turns.invariant.reading
      (subst (λ o. TakesBeforeAny g.A.Access.remaining c.turns.decoder c.turn.new.decoder
      (Turns g.S.Rules.spelling (frames_of c.turns.stack) (frames_of c.turn.new.stack) c.args.levels (Ok o)))
      c.in-Ok-None.field-0-is c.in-Ok-None.ensures.turn);
}

pub returns-in-Ok-Some-clause-value : goal.returns-in-Ok-Some-clause-value
returns-in-Ok-Some-clause-value g c =
    turned g.A.Access.remaining c.args.decoder.now c.turns.decoder c.turn.new.decoder g.S.Rules.spelling
    (frames_of c.turns.stack) (frames_of c.turn.new.stack) c.args.levels (Ok (Some c.in-Ok-Some.value))
    c.turns.invariant.reading (subst (λ o. TakesBeforeAny g.A.Access.remaining c.turns.decoder c.turn.new.decoder
    (Turns g.S.Rules.spelling (frames_of c.turns.stack) (frames_of c.turn.new.stack) c.args.levels (Ok o)))
    c.in-Ok-Some.field-0-is c.in-Ok-Some.ensures.turn)

pub returns-in-Err-clause-value : goal.returns-in-Err-clause-value
returns-in-Err-clause-value g c = so-then g.A.Access.remaining c.args.decoder.now c.turn.new.decoder c.forget.new.self
    (λ d e. (xs : List ℕ) (p : ℕ) → StandsAt g.S.Rules.spelling Some d xs p →
    IsTurned g.S.Rules.spelling Some e (frames_of c.turn.new.stack) c.args.levels xs p (Err c.in-Err.refusal))
    (λ d e. left_of Some e ≡ left_of Some d) (λ d e. (xs : List ℕ) (p : ℕ) → StandsAt g.S.Rules.spelling Some d xs p →
    IsValueRead g.S.Rules.spelling Some e c.args.levels xs p (Err c.in-Err.refusal))
    (λ u v w h k xs p s. subst (λ o. IsRefusedBy o c.in-Err.refusal
    (Refuses g.S.Rules.spelling xs p (Some c.args.levels))) (sym k) (h xs p s))
    (turned g.A.Access.remaining c.args.decoder.now c.turns.decoder c.turn.new.decoder g.S.Rules.spelling
    (frames_of c.turns.stack) (frames_of c.turn.new.stack) c.args.levels (Err c.in-Err.refusal)
    c.turns.invariant.reading c.in-Err.ensures.turn)
    (so-unread g.A.Access.remaining c.turn.new.decoder c.forget.new.self (λ d e. left_of Some e ≡ left_of Some d)
    c.forget.ensures.unread (λ u. refl))
