-- Heads that are pulled.
use Rattle.ciborium_ll.proofs.{Decoders.unread-count, HeadAnswers.{header-fits, head-some}}
use Rattle.ciborium_ll.specs.{Bytes.greatest_offset, Decoding.{ReadsNothing, Takes, left_of}, Header.SpellsHeader}
use Rattle.ciborium_ll.specs.{ReaderSteps.IsHeadTaken, Refusal.{Refusal, IsUsable}, declared.decoder.Decoder.Decoder}
use Rattle.std.proofs.Common.{◌≡◌, ℕ, ◌+◌, ◌-◌, ◌<◌, List, ◌++◌, length, Option, Some, None, Result, Ok, IfSome, IfNone}
use Rattle.std.proofs.Common.{sym, subst, arith}
use Rattle.ciborium.specs.{Errors.from_ll, ValueAnswers.IsRefusedBy, declared.de.error.Error.Error}
use Rattle.ciborium.specs.inner.ValuesInBytes.{IsPulled, heads_by, heads_left}
use Rattle.ciborium_ll.specs.{declared.header.Header.Header, declared.header.Error.Error as LlError}
use Rattle.ciborium_ll.specs.declared.header.Error.TheVariants as ll
use Rattle.ciborium_ll.specs.ReaderSteps as reading
use Rattle.ciborium.specs.declared.de.error.Error.TheVariants as errors

-- the error that an error of the lowest layer becomes refuses as it does
pub refused-from : {E : Type 0} (left : Option (List ℕ)) (e : LlError E) (P : Refusal → Type 0) →
    reading.IsRefusalOf left e P → IsRefusedBy left (from_ll e) P
refused-from left ll.Memory P h = tt
refused-from left u v h = h

pub refused-map : {E : Type 0} (left : Option (List ℕ)) (e : Error E) (P Q : Refusal → Type 0) →
    ((r : Refusal) → P r → Q r) → IsRefusedBy left e P → IsRefusedBy left e Q
refused-map left (errors.Io x) P Q f a = λ end. f _ (a end)
refused-map left (errors.Syntax p) P Q f a = f _ a
refused-map left (errors.Semantic (Some p) k) P Q f a = f _ a
refused-map left (errors.Semantic None k) P Q f a = a
refused-map left errors.RecursionLimitExceeded P Q f a = f _ a
refused-map left errors.Memory P Q f a = tt
refused-map left errors.TooLong P Q f a = f _ a

pub head-read : {S W : Type 0} (remaining : S → Option (List ℕ)) (d : Decoder S W) (xs : List ℕ) (p : ℕ) (h : Header) →
    ((x : List ℕ) × (r : List ℕ) × SpellsHeader x h × IsUsable xs p × (xs ≡ x ++ r) × (d.last ≡ p) ×
    (d.counter.count ≡ p + length x) × (left_of remaining d ≡ Some r)) → IsPulled remaining d h xs p
head-read remaining d xs p h (x, r, spelled, usable, split, last, count, left) =
    (x, r, spelled, usable, split, last, (count, left))

abbrev pub answered : (E : Type 0) → Header → Result Header (LlError E)
answered E h = Ok h

pub fewer-heads : (E : Type 0) {S W : Type 0} (remaining : S → Option (List ℕ)) (d e : Decoder S W) (h : Header) →
    e.pushed ≡ None →
    IfSome d.pushed (λ head. (answered E h ≡ answered E head.0) × (e.last ≡ head.1) × ReadsNothing d e) →
    IfNone d.pushed (Takes remaining d e (λ x. IsHeadTaken {E = E} x d.counter.count (Ok h))) →
    heads_left e < heads_left d
fewer-heads E remaining d e h none pushed taken = subst
    (λ o. heads_by (greatest_offset - e.counter.count) o < heads_by (greatest_offset - d.counter.count) d.pushed)
    (sym none) (by d.pushed pushed taken)
  where
    by : (o : Option (Header × ℕ)) → IfSome o (λ head. (answered E h ≡ answered E head.0) × (e.last ≡ head.1) ×
        ReadsNothing d e) → IfNone o (Takes remaining d e (λ x. IsHeadTaken {E = E} x d.counter.count (Ok h))) →
        heads_by (greatest_offset - e.counter.count) None < heads_by (greatest_offset - d.counter.count) o
    by None a (b, t, count, u, bytes) =
        let some = head-some b h u.answers.0 in
        let fits = header-fits {E = E} b d.counter.count h u in
        omega (arith, some, fits, count)
    by (Some head) a b = let same : e.counter.count ≡ d.counter.count = unread-count d e a.2 in omega (arith, same)
