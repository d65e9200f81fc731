-- Reading the items of a sequence one after the other (RFC 8742, section 2): the next item, or the
-- end where none follows.
use Rattle.std.specs.{Io.KnownBytes.{Consumes, IsAtEnd}, Prelude.{◌≡◌, ◌<◌, ℕ, ◌+◌, Bool, true, List, [], length}}
use Rattle.std.specs.Prelude.{Option, Some, None, Result, Ok, Err, IfErr, IfOk, IfSome, OnOk}
use Rattle.ciborium_ll.specs.{Accesses.left_at_failure, Bytes.greatest_offset, declared.header.Header.Header}
use Rattle.ciborium_value.specs.{Readings.Reading, Sources.{IsGrantedFault, RefusesAhead, TakesAhead, TakesItem}}
use Rattle.ciborium_value.specs.{Sources.TakesOnly, Spelling.any, Tree.Tree, View.result_map}
use Rattle.ciborium.specs.{Errors.fault_of, TypedAnswers.{RefusesGiven, TakesBeginning, TakesGiven}}
use Rattle.ciborium.specs.{ValueAnswers.TakesBytes, ValueClauses.ReadsWhole}
use Rattle.ciborium.specs.declared.de.{byte_source.ByteSource.ByteSource, error.Error.{Error, TheVariants.{Io, Syntax}}}
use Rattle.ciborium.specs.declared.de.error.Error.TheVariants.{Semantic, RecursionLimitExceeded, Memory, TooLong}
use Rattle.ciborium.specs.inner.ByteSources.{HasTakenSince, IsUnread, ReadsValue, StandsBefore, fault_at}

-- ---- the clauses of a call that reads the next item: what the reader had left before it, what it is
-- left with, and the answer

-- P holds of the answer, unless it is the end
abbrev pub Otherwise : {A E : Type 0} → Result (Option A) E → (Result A E → Type 0) → Type 0
Otherwise (Ok None) P = Unit {0}
Otherwise (Ok (Some v)) P = P (Ok v)
Otherwise (Err e) P = P (Err e)

-- `Io` is the only error
abbrev pub IsReadIo : {E : Type 0} → Error E → Type 0
IsReadIo (Io e) = Unit {0}
IsReadIo (Syntax p) = ⊥
IsReadIo (Semantic p k) = ⊥
IsReadIo RecursionLimitExceeded = ⊥
IsReadIo Memory = ⊥
IsReadIo TooLong = ⊥

-- the end is answered where nothing is taken and, if the bytes are known, none are left; where none
-- are left no item is answered, and
-- the error of a reader that fails there is `Io`
abbrev pub TellsEnd : {A E : Type 0} → Option (List ℕ) → Option (List ℕ) → Result (Option A) (Error E) → Type 0
TellsEnd before after (Ok None) = Consumes before after [] × IsAtEnd after
TellsEnd before after (Ok (Some v)) = ¬ (before ≡ Some [])
TellsEnd before after (Err e) = before ≡ Some [] → IsReadIo e

-- the same where an item would begin at offset p. At the greatest offset none does
abbrev pub TellsEndAt : {A E : Type 0} → ℕ → Option (List ℕ) → Option (List ℕ) → Result (Option A) (Error E) → Type 0
TellsEndAt p before after (Ok None) = Consumes before after [] × IsAtEnd after
TellsEndAt p before after (Ok (Some v)) = ¬ (before ≡ Some [])
TellsEndAt p before after (Err e) = before ≡ Some [] → p < greatest_offset → IsReadIo e

-- and there the answer is `TooLong`, whatever is left
abbrev pub IsFullAt : {A E : Type 0} → ℕ → Result (Option A) (Error E) → Type 0
IsFullAt p r = p ≡ greatest_offset → r ≡ Err TooLong

-- a call that reads the next item, which would begin at offset p, within so many levels, of a
-- reader that can or cannot fail before its end: what it says of the end; or otherwise what a call
-- says that reads one value there, where P holds of the tree if reading is one call of `value`
pub record ReadsNextFrom {T A E : Type 0} (can_fail : Bool) (p l : ℕ) (reading : Reading T A)
    (before after : Option (List ℕ)) (End : Type 0) (P : Result Tree (Error E) → Type 0)
    (r : Result (Option T) (Error E)) : Type 0 where
  pub end : End
  pub ok : Otherwise r (λ q. TakesGiven (Some l) reading.taken before after (result_map reading.content q))
  pub refused : Otherwise r (λ q. RefusesGiven p (Some l) reading.taken before
      (left_at_failure can_fail after) (result_map reading.content q))
  pub memory : IfErr r (λ e. IsGrantedFault (fault_of (left_at_failure can_fail after) e) reading.needs_memory)
  pub taken : TakesBeginning before after
  pub value : Otherwise r (λ q. IfSome reading.whole (λ tree. P (result_map (λ v. tree (reading.content v)) q)))

-- the bytes begin at offset 0
abbrev pub ReadsNextAsTypeFrom : {T A E : Type 0} → Bool → ℕ → Reading T A → Option (List ℕ) →
    Option (List ℕ) → Result (Option T) (Error E) → Type 0
ReadsNextAsTypeFrom can_fail l reading before after r = ReadsNextFrom can_fail 0 l reading before
    after (TellsEnd before after r) (ReadsWhole any before l after) r

-- the same of any reader
abbrev pub ReadsNextAsType : {T A E : Type 0} → ℕ → Reading T A → Option (List ℕ) →
    Option (List ℕ) → Result (Option T) (Error E) → Type 0
ReadsNextAsType l reading before after r = ReadsNextAsTypeFrom true l reading before after r

-- they begin at offset p
abbrev pub ReadsNextAtFrom : {T A E : Type 0} → Bool → ℕ → ℕ → Reading T A → Option (List ℕ) →
    Option (List ℕ) → Result (Option T) (Error E) → Type 0
ReadsNextAtFrom can_fail p l reading before after r = ReadsNextFrom can_fail p l reading before
    after (TellsEndAt p before after r × IsFullAt p r) (TakesBytes any p before l after) r

-- the same of any reader
abbrev pub ReadsNextAt : {T A E : Type 0} → ℕ → ℕ → Reading T A → Option (List ℕ) →
    Option (List ℕ) → Result (Option T) (Error E) → Type 0
ReadsNextAt p l reading before after r = ReadsNextAtFrom true p l reading before after r

-- P holds where the answer is an item, and Q where it is the end or an error
abbrev pub MatchItem : {A E : Type 0} → Result (Option A) E → Type 0 → Type 0 → Type 0
MatchItem (Ok None) P Q = Q
MatchItem (Ok (Some v)) P Q = P
MatchItem (Err e) P Q = Q

-- from offset p to offset q some bytes were taken, a beginning of those that are known, and nothing
-- else
abbrev pub TakesTo : ℕ → ℕ → Option (List ℕ) → Option (List ℕ) → Type 0
TakesTo p q before after = (s : List ℕ) × Consumes before after s × (q ≡ p + length s)

-- the offset of what comes next was p, and is q: behind an item it has moved by the bytes that were
-- taken, and otherwise it stays
abbrev pub MovesOffset : {A E : Type 0} → ℕ → ℕ → Option (List ℕ) → Option (List ℕ) → Result (Option A) E → Type 0
MovesOffset p q before after r = MatchItem r (TakesTo p q before after) (q ≡ p)

-- ---- how it is read

-- P holds of the answer, which is not the end
abbrev pub IfNotEnded : {A E : Type 0} → Result (Option A) E → (Result A E → Type 0) → Type 0
IfNotEnded (Ok None) P = ⊥
IfNotEnded (Ok (Some v)) P = P (Ok v)
IfNotEnded (Err e) P = P (Err e)

-- the source, where this head was pulled first, at offset p, and is pending
abbrev pub behind_head : {S W : Type 0} → ByteSource S W → ℕ → Header → ByteSource S W
behind_head s p h = record {
  decoder = s.decoder;
  pending = Some (h, p);
  levels = s.levels;
  scratch = s.scratch;
  failure = s.failure;
  unpushed = s.unpushed;
}

-- a value was read from the source: all that reading a value of the type says
abbrev pub IsReadFrom : {S W T A E : Type 0} → Bool → (S → Option (List ℕ)) → Reading T A →
    ByteSource S W → ByteSource S W → Result T (Error E) → Type 0
IsReadFrom can_fail remaining reading old new r = record {
  ok : IfOk r (λ v. TakesAhead (StandsBefore remaining) old new reading.taken (reading.content v));
  took : OnOk r (TakesItem (IsUnread remaining) old new);
  only : TakesOnly (HasTakenSince remaining) old new;
  refused : IfErr r (λ e. RefusesAhead (StandsBefore remaining) old reading.taken
      (fault_at can_fail remaining new e));
  memory : IfErr r (λ e. IsGrantedFault (fault_at can_fail remaining new e) reading.needs_memory);
  whole : IfSome reading.whole (λ tree. ReadsValue can_fail remaining old new
      (result_map (λ v. tree (reading.content v)) r));
}
