-- The first head of a reader that may have none: what reading it answers, and how it tells the end
-- from a cut (RFC 8742, section 2).
use Rattle.std.specs.Prelude.{◌≡◌, ℕ, ◌+◌, List, [], Option, Some, None, Result, Ok, Err}
use Rattle.ciborium_ll.specs.{Decoding.{PullsTo, left_of}, ReaderSteps.IsHeadTaken, declared.decoder.Decoder.Decoder}
use Rattle.ciborium_ll.specs.declared.header.{Error.{Error, TheVariants.{Io, Syntax, TooLong, Memory}}, Header.Header}

-- `Io` is the only error
abbrev pub IsHeadIo : {E : Type 0} → Error E → Type 0
IsHeadIo (Io e) = Unit {0}
IsHeadIo (Syntax p) = ⊥
IsHeadIo TooLong = ⊥
IsHeadIo Memory = ⊥

-- b are the bytes taken at offset p, where reading the first head answers so: none at the end, and
-- otherwise just those that
-- decide the answer
abbrev pub IsFirstTaken : {E : Type 0} → List ℕ → ℕ → Result (Option Header) (Error E) → Type 0
IsFirstTaken b p (Ok None) = b ≡ []
IsFirstTaken {E} b p (Ok (Some header)) = IsHeadTaken {E = E} b p (Ok header)
IsFirstTaken {E} b p (Err e) = IsHeadTaken {E = E} b p (Err e)

-- a head that is taken is measured; the end, or a refusal, changes nothing
abbrev pub MeasuresFirst : {S W E : Type 0} → Decoder S W → Decoder S W → Result (Option Header) (Error E) → Type 0
MeasuresFirst old new (Ok None) = new.head_len ≡ old.head_len
MeasuresFirst old new (Ok (Some header)) = new.counter.count ≡ old.counter.count + new.head_len
MeasuresFirst old new (Err e) = new.head_len ≡ old.head_len

-- reading the first head at the front of b, whose first byte is at offset p, answers so: the end
-- where b is empty, and otherwise
-- what a pull answers
abbrev pub PullsFirstTo : {E : Type 0} → ℕ → ℕ → Option (List ℕ) → List ℕ → ℕ →
    Result (Option Header) (Error E) → Type 0
PullsFirstTo last count left b p (Ok None) = (b ≡ []) × (count ≡ p) × (left ≡ Some [])
PullsFirstTo {E} last count left b p (Ok (Some header)) = PullsTo {E = E} last count left b p (Ok header)
PullsFirstTo {E} last count left b p (Err e) = PullsTo {E = E} last count left b p (Err e)

-- the decoder has read so
abbrev pub PullsFirst : {S W E : Type 0} → (S → Option (List ℕ)) → Decoder S W → List ℕ → ℕ →
    Result (Option Header) (Error E) → Type 0
PullsFirst remaining d b p result = PullsFirstTo d.last d.counter.count (left_of remaining d) b p result

-- the answer where nothing is left: the end, unless the reader failed
abbrev pub IsEndOrFault : {E : Type 0} → Result (Option Header) (Error E) → Type 0
IsEndOrFault (Ok None) = Unit {0}
IsEndOrFault (Ok (Some header)) = ⊥
IsEndOrFault (Err e) = IsHeadIo e
