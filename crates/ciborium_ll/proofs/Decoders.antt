-- What is left in the reader of a decoder, and what was taken from one that has begun.
use Rattle.std.proofs.Common.{◌≡◌, ℕ, List, Option, Some, None, Result, IfNone, refl, ap, subst}
use Rattle.std.specs.Io.KnownBytes.{Consumes}
use Rattle.ciborium_ll.specs.{Decoding.{HasBegun, ReadsNothing, Takes, left_of, with_left}, ReaderSteps.IsHeadTaken}
use Rattle.ciborium_ll.specs.declared.{decoder.Decoder.Decoder, header.{Error.Error, Header.Header}}

-- where nothing was read, what is left is what was
pub unread-left : {S W : Type 0} (remaining : S → Option (List ℕ)) (d e : Decoder S W) → ReadsNothing d e →
    left_of remaining e ≡ left_of remaining d
unread-left remaining d e (now, count) = ap remaining now

-- in a decoder that was just made the reader has what it had when it was lent
pub begun-left : {S W : Type 0} (remaining : S → Option (List ℕ)) (d : Decoder S W) (lent : S) (p : ℕ) →
    HasBegun d lent p → left_of remaining d ≡ remaining lent
begun-left remaining d lent p begins = ap remaining begins.reader

-- what the first pull of it takes
pub first-taken : {S W E : Type 0} (remaining : S → Option (List ℕ)) (d new : Decoder S W) (lent : S) (p : ℕ)
    (result : Result Header (Error E)) → HasBegun d lent p →
    IfNone d.pushed (Takes remaining d new (λ x. IsHeadTaken {E = E} x d.counter.count result)) → (b : List ℕ) ×
    Consumes (remaining lent) (remaining new.reader.now) b × IsHeadTaken {E = E} b p result
first-taken {S} {W} {E} remaining d new lent p result begins taken =
    let (b, consumes, count, head, bytes) = without d.pushed begins.pushed taken in (
      b,
      subst (λ o. Consumes o (remaining new.reader.now) b) (begun-left remaining d lent p begins) consumes,
      subst (λ k. IsHeadTaken {E = E} b k result) begins.count head,
    )
  where
    without : {A : Type 0} (o : Option A) → o ≡ None → {P : Type 0} → IfNone o P → P
    without None e h = h
    without (Some a) e h = absurd cc

-- the same, where the bytes are known that are left
pub unread-with : {S W : Type 0} (d e : Decoder S W) (u : List ℕ) → ReadsNothing d e →
    ReadsNothing (with_left d u) (with_left e u)
unread-with d e u (now, count) = (refl, count)

pub unread-count : {S W : Type 0} (d e : Decoder S W) → ReadsNothing d e → e.counter.count ≡ d.counter.count
unread-count d e (now, count) = count
