-- What a decoder shows: its reader, the count of bytes read, the head that was pushed back, and
-- where the last head stood.
use Rattle.std.specs.Prelude.{◌≡◌, ℕ, ◌+◌, Bool, List, ◌++◌, length, Option, Some, None, MatchOption, MatchResult}
use Rattle.std.specs.Prelude.{Result, Ok, Err}
use Rattle.ciborium_ll.specs.{declared.header.Header.Header, declared.header.Error.Error}
use Rattle.ciborium_ll.specs.{declared.decoder.Decoder.Decoder, Accesses.HasEnded, Header.SpellsHeader}
use Rattle.ciborium_ll.specs.{ReaderSteps.{Advances, IsRefusalOf}, Refusal.{HeadRefuses, IsUsable}}

-- how many bytes were read, from the offset on at which the decoder began
abbrev pub count_of : {S W : Type 0} → Decoder S W → ℕ
count_of d = d.counter.count

-- the head that was pushed back, with its offset
abbrev pub pushed_of : {S W : Type 0} → Decoder S W → Option (Header × ℕ)
pushed_of d = d.pushed

-- the offset of the head that was pulled last, and before any pull the offset at which the decoder
-- began
abbrev pub last_of : {S W : Type 0} → Decoder S W → ℕ
last_of d = d.last

-- how many bytes the head has that was last taken from the reader, and 0 before the first
abbrev pub head_len_of : {S W : Type 0} → Decoder S W → ℕ
head_len_of d = d.head_len

-- a head that is taken from the reader is measured; a pushed one that is answered, or a refusal,
-- changes nothing
abbrev pub MeasuresHead : {S W E : Type 0} → Decoder S W → Decoder S W → Result Header (Error E) → Type 0
MeasuresHead old new result = MatchOption old.pushed
    (MatchResult result (λ _. new.counter.count ≡ old.counter.count + new.head_len) (λ _. new.head_len ≡ old.head_len))
    (λ _. new.head_len ≡ old.head_len)

-- a head that was pushed back is the one whose bytes are counted
abbrev pub IsMeasured : {S W : Type 0} → Decoder S W → Type 0
IsMeasured d = MatchOption d.pushed (Unit {0}) (λ head. d.counter.count ≡ head.1 + d.head_len)

-- what is unread
abbrev pub left_of : {S W : Type 0} → (S → Option (List ℕ)) → Decoder S W → Option (List ℕ)
left_of remaining d = remaining d.reader.now

-- the decoder holds the reader that it held, so what is left in it is left to the one who lent it
abbrev pub HasSameReader : {S W : Type 0} → Decoder S W → Decoder S W → Type 0
HasSameReader old new = new.reader.ghost_name ≡ old.reader.ghost_name

-- where a call could not be given more, the reader is at its end, unless it can fail before
abbrev pub HasEndedFor : {S W E : Type 0} → Bool → (S → Option (List ℕ)) → Decoder S W → Error E → Type 0
HasEndedFor can_fail remaining d e = HasEnded can_fail (left_of remaining d) e

-- nothing has been pulled since the reader was lent, at this offset
pub record HasBegun {S W : Type 0} (d : Decoder S W) (lent : S) (offset : ℕ) : Type 0 where
  pub reader : d.reader.now ≡ lent
  pub count : d.counter.count ≡ offset
  pub pushed : d.pushed ≡ None
  pub last : d.last ≡ offset
  pub head_len : d.head_len ≡ 0

-- some bytes are taken from the reader and counted, and nothing else, and P holds of them
abbrev pub Takes : {S W : Type 0} → (S → Option (List ℕ)) → Decoder S W → Decoder S W → (List ℕ → Type 0) → Type 0
Takes remaining old new P = Advances (left_of remaining old) (left_of remaining new)
    old.counter.count new.counter.count P

-- the decoder, as it stands where just u is left of its reader
abbrev pub with_left : {S W : Type 0} → Decoder S W → List ℕ → Decoder (List ℕ) W
with_left d u =
    record {
      reader = record {
        ref_ptr = d.reader.ref_ptr;
        ghost_name = d.reader.ghost_name;
        now = u;
      };
      access = d.access;
      counter = d.counter;
      pushed = d.pushed;
      last = d.last;
      head_len = d.head_len;
    }

-- some bytes are taken from the reader and counted, and nothing else; P holds of the decoder before
-- and after, whatever follows
-- those bytes. So it is said of a reader whose bytes nobody knows, too.
abbrev pub TakesBeforeAny : {S W : Type 0} → (S → Option (List ℕ)) → Decoder S W → Decoder S W →
    (Decoder (List ℕ) W → Decoder (List ℕ) W → Type 0) → Type 0
TakesBeforeAny remaining old new P = Takes remaining old new
    (λ b. (c : List ℕ) → P (with_left old (b ++ c)) (with_left new c))

-- nothing is read
abbrev pub ReadsNothing : {S W : Type 0} → Decoder S W → Decoder S W → Type 0
ReadsNothing old new = (new.reader.now ≡ old.reader.now) × (count_of new ≡ count_of old)

-- the offset of the next head
abbrev pub next_offset : ℕ → Option (Header × ℕ) → ℕ
next_offset count None = count
next_offset count (Some pushed) = pushed.1

abbrev pub offset_of : {S W : Type 0} → Decoder S W → ℕ
offset_of d = next_offset d.counter.count d.pushed

-- b is unread, and its first byte is at offset p, where this head was pushed back: its bytes count
-- as unread, and it is usable
abbrev pub IsAheadBy : {S W : Type 0} → (S → Option (List ℕ)) → Decoder S W → List ℕ → ℕ → Option (Header × ℕ) → Type 0
IsAheadBy remaining d b p None = (d.counter.count ≡ p) × (left_of remaining d ≡ Some b)
IsAheadBy remaining d b p (Some pushed) = (pushed.1 ≡ p) × (h : List ℕ) × (r : List ℕ) × SpellsHeader h pushed.0 ×
    IsUsable b p × (b ≡ h ++ r) × (d.counter.count ≡ p + length h) × (left_of remaining d ≡ Some r)

-- b is unread, a head that was pushed back included, and its first byte is at offset p
abbrev pub IsAhead : {S W : Type 0} → (S → Option (List ℕ)) → Decoder S W → List ℕ → ℕ → Type 0
IsAhead remaining d b p = IsAheadBy remaining d b p d.pushed

-- reading the head at the front of b, whose first byte is at offset p, answers so: then the last
-- head stood there, what follows it
-- is left, and this many bytes are counted; a refusal is the one of the definitions
abbrev pub PullsTo : {E : Type 0} → ℕ → ℕ → Option (List ℕ) → List ℕ → ℕ → Result Header (Error E) → Type 0
PullsTo last count left b p (Ok header) = (h : List ℕ) × (r : List ℕ) ×
    SpellsHeader h header × IsUsable b p × (b ≡ h ++ r) × (last ≡ p) × (count ≡ p + length h) × (left ≡ Some r)
PullsTo last count left b p (Err e) = IsRefusalOf left e (HeadRefuses b p)

-- the decoder has read so
abbrev pub Pulls : {S W E : Type 0} → (S → Option (List ℕ)) → Decoder S W → List ℕ → ℕ →
    Result Header (Error E) → Type 0
Pulls remaining d b p result = PullsTo d.last d.counter.count (left_of remaining d) b p result
