-- What a call takes from a reader, where the reader's bytes are known, and how offsets count it.
use Rattle.std.specs.{Io.KnownBytes.Consumes, Prelude.{◌≡◌, ℕ, ◌+◌, ◌<◌, ◌≤◌, List, [], length, take, Option, Some}}
use Rattle.std.specs.Prelude.{MatchOption, IsTrue, Result, Ok, Err}
use Rattle.ciborium_ll.specs.{Bytes.{AreBytes, greatest_offset}, Header.{SpellsHeader, is_ill_formed}, Refusal.Refusal}
use Rattle.ciborium_ll.specs.{Refusal.{io, syntax, too_long, HeadRefuses, IsUsable}, declared.header.Error.Error}
use Rattle.ciborium_ll.specs.declared.header.{Error.TheVariants.{Io, Syntax, TooLong, Memory}, Header.Header}

-- some bytes are taken between the offsets p and q, and nothing else, and P holds of them; each is
-- below 256
abbrev pub Advances : Option (List ℕ) → Option (List ℕ) → ℕ → ℕ → (List ℕ → Type 0) → Type 0
Advances old new p q P = (b : List ℕ) × Consumes old new b × (q ≡ p + length b) × P b × AreBytes b

-- an error other than `Memory`, of a call that leaves this of the reader, is a refusal of which P
-- holds; `Io` is one where the reader
-- came to its end
abbrev pub IsRefusalOf : {E : Type 0} → Option (List ℕ) → Error E → (Refusal → Type 0) → Type 0
IsRefusalOf left (Io e) P = left ≡ Some [] → P io
IsRefusalOf left (Syntax p) P = P (syntax p)
IsRefusalOf left TooLong P = P too_long
IsRefusalOf left Memory P = Unit {0}

-- what the bytes of a whole head are parsed as: the header that they spell, or none where they are
-- ill-formed
abbrev pub IsParsed : List ℕ → Option Header → Type 0
IsParsed b header = MatchOption header (IsTrue (is_ill_formed b)) (SpellsHeader b)

-- every beginning of b, at offset p, ends inside a head: no byte of b can be spared where the head
-- at p is judged
abbrev pub NoneIsSpare : List ℕ → ℕ → Type 0
NoneIsSpare b p = (k : ℕ) → k < length b → HeadRefuses (take k b) p io

-- what the bytes taken at offset p are by themselves, where reading a head answers so: the head, or
-- what refuses
abbrev pub AnswersHead : {E : Type 0} → List ℕ → ℕ → Result Header (Error E) → Type 0
AnswersHead b p (Ok header) = SpellsHeader b header × IsUsable b p
AnswersHead b p (Err (Io e)) = HeadRefuses b p io
AnswersHead b p (Err (Syntax at)) = HeadRefuses b p (syntax at)
AnswersHead b p (Err TooLong) = HeadRefuses b p too_long
AnswersHead b p (Err Memory) = ⊥

-- b are the bytes taken at offset p, where reading a head answers so: just those that decide the
-- answer
pub record IsHeadTaken {E : Type 0} (b : List ℕ) (p : ℕ) (r : Result Header (Error E)) : Type 0
  where
    pub answers : AnswersHead b p r
    pub needed : NoneIsSpare b p

-- b is taken at offset p where a buffer is filled: all that it then holds, or less at `Io`; nothing
-- where it would pass the
-- greatest offset
abbrev pub IsFillTaken : {E : Type 0} → List ℕ → ℕ → List ℕ → Result (Unit {0}) (Error E) → Type 0
IsFillTaken b p buffer (Ok u) = (b ≡ buffer) × (p + length buffer ≤ greatest_offset)
IsFillTaken b p buffer (Err (Io e)) = (length b < length buffer) × (p + length buffer ≤ greatest_offset)
IsFillTaken b p buffer (Err (Syntax at)) = ⊥
IsFillTaken b p buffer (Err TooLong) = (b ≡ []) × (greatest_offset < p + length buffer)
IsFillTaken b p buffer (Err Memory) = ⊥
