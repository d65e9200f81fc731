-- Where a source over bytes stands.
use Rattle.std.specs.Prelude.{◌<◌, ◌≡◌, ℕ, ◌+◌, ◌*◌, ◌-◌, ◌≤◌, List, ◌++◌, length, map, Option, Some, None, Bool, true}
use Rattle.std.specs.{Prelude.{false, IfErr, IfOk, MatchResult, OnOk, Result, if◌then◌else◌}, Borrow.GName}
use Rattle.std.specs.Vec.Iter.{into_iter_items}
use Rattle.ciborium_ll.specs.{declared.header.Header.Header, declared.decoder.Decoder.Decoder, Bytes.greatest_offset}
use Rattle.ciborium_ll.specs.{Accesses.left_at_failure, Decoding.{HasSameReader, IsAheadBy, Takes, TakesBeforeAny}}
use Rattle.ciborium_ll.specs.{Decoding.{left_of, offset_of}, Header.SpellsHeader, Item.{Item, unsigned}}
use Rattle.ciborium_ll.specs.{Refusal.IsUsable, Spells.Spells}
use Rattle.ciborium_value.specs.Ahead.{Ahead, Rest, Span, bottom, parts, pairs, entry, level_due, item, after, of_bytes}
use Rattle.ciborium_value.specs.{Ahead.{past, inside, end_of}, Meaning.{meaning, is_bignum_tag}, Nesting.Limit}
use Rattle.ciborium_value.specs.{Nesting.nesting, Places.{ContainerType, an_array, a_map}, Sources.{Fault, HasItem}}
use Rattle.ciborium_value.specs.{Sources.{IsFaultOf, IsGrantedFault, TakesOnly}, Given.{Steps, Given, gives}}
use Rattle.ciborium_value.specs.{Given.{is_null_simple, outcome}, Tree.Tree, declared.labels.LabelType.LabelType}
use Rattle.ciborium_value.specs.{declared.labels.LabelType.TheVariants.{Name, Number, Other}, Spelling.any}
use Rattle.ciborium.specs.{declared.de.error.Error.Error, declared.de.byte_source.ByteSource.ByteSource}
use Rattle.ciborium.specs.{declared.de.byte_source.ByteLevel.ByteLevel, declared.de.byte_source.ByteSeq.ByteSeq}
use Rattle.ciborium.specs.{declared.de.byte_source.Left.Left, inner.Turns.IsTreeRead, inner.ValuesInBytes.HasEndedAfter}
use Rattle.ciborium.specs.{Errors.fault_of, inner.FrontItems.{Denies, Reads}, inner.Skips.{EntersUnread, IsBare}}
use Rattle.ciborium.specs.inner.Unread.{SpellsPair, AreSpelled, FitsAhead, ending, span_of, HasCount}
use Rattle.ciborium_ll.specs.declared.header.Header.TheVariants as header
use Rattle.ciborium.specs.declared.de.byte_source.Left.TheVariants as left

-- ---- what is unread

-- a head that means the same wherever it stands: it can be handed out where it is not in the bytes
abbrev pub is_portable : Header → Bool
is_portable (header.Positive n) = true
is_portable (header.Simple n) = is_null_simple n
is_portable _ = false

-- the head of null or undefined
abbrev pub tells_null : Header → Bool
tells_null (header.Simple n) = is_null_simple n
tells_null _ = false

-- how the item that a head begins is read as a label
abbrev pub head_label_type : Header → LabelType
head_label_type (header.Positive n) = Number
head_label_type (header.Negative n) = Number
head_label_type (header.Bytes n) = Name
head_label_type (header.Text n) = Name
head_label_type (header.Tag t) = if is_bignum_tag t then Number else Name
head_label_type _ = Other

-- the head with this spelling, at the front of b, was pulled: it is usable, and its bytes are
-- counted
abbrev pub IsHeadCounted : {S W : Type 0} → Decoder S W → Header × ℕ → List ℕ → List ℕ → Type 0
IsHeadCounted d h b x = is_portable h.0 ≡ false → IsUsable b h.1 × (d.counter.count ≡ h.1 + length x)

-- b is unread, the spelling of a head that is pending included
abbrev pub IsUnreadBy : {S W : Type 0} → (S → Option (List ℕ)) → Decoder S W → Option (Header × ℕ) → List ℕ → Type 0
IsUnreadBy remaining d None b = left_of remaining d ≡ Some b
IsUnreadBy remaining d (Some h) b = (x : List ℕ) × (y : List ℕ) × SpellsHeader x h.0 ×
    (b ≡ x ++ y) × (left_of remaining d ≡ Some y) × IsHeadCounted d h b x

abbrev pub IsUnread : {S W : Type 0} → (S → Option (List ℕ)) → ByteSource S W → List ℕ → Type 0
IsUnread remaining s b = IsUnreadBy remaining s.decoder s.pending b

abbrev pub offset_next : {S W : Type 0} → Decoder S W → Option (Header × ℕ) → ℕ
offset_next d None = offset_of d
offset_next d (Some h) = h.1

-- where what comes next begins: a head that is pending, or what the decoder pulls
abbrev pub offset_of_next : {S W : Type 0} → ByteSource S W → ℕ
offset_of_next s = offset_next s.decoder s.pending

-- the head that was taken from the front of what was unread is counted
abbrev pub CountsHead : {S W : Type 0} → (ByteSource S W → List ℕ → Type 0) → ByteSource S W →
    ByteSource S W → Header × ℕ → Type 0
CountsHead IsUnread old new h = (b x y : List ℕ) → IsUnread old b → SpellsHeader x h.0 →
    b ≡ x ++ y → IsHeadCounted new.decoder h b x

-- ---- what was taken

-- since the first state a beginning of what was unread was taken and counted, and nothing else
unfoldable pub HasTaken : {S W : Type 0} → (S → Option (List ℕ)) → Decoder S W → Decoder S W → Type 0
HasTaken remaining first d = (d.reader.ghost_name ≡ first.reader.ghost_name) × Takes remaining first d (λ _. Unit {0})

abbrev pub HasTakenSince : {S W : Type 0} → (S → Option (List ℕ)) → ByteSource S W → ByteSource S W → Type 0
HasTakenSince remaining first s = HasTaken remaining first.decoder s.decoder

-- ---- where it stands

-- the offset at which what is left ends, where it is known, of which so many bytes were counted
abbrev pub known_end : Option (List ℕ) → ℕ → ℕ
known_end None n = n
known_end (Some b) n = n + length b

-- the reader, by name, and where what is there ends
abbrev pub reader_of : {S W : Type 0} → (S → Option (List ℕ)) → Decoder S W → GName × ℕ
reader_of remaining d = (d.reader.ghost_name, known_end (left_of remaining d) d.counter.count)

abbrev pub end_at : {S W : Type 0} → (S → Option (List ℕ)) → ByteSource S W → ℕ
end_at remaining s = (reader_of remaining s.decoder).1

-- why a call refused that leaves this source
abbrev pub fault_at : {S W E : Type 0} → Bool → (S → Option (List ℕ)) → ByteSource S W → Error E → Fault
fault_at can_fail remaining s e = fault_of (left_at_failure can_fail (remaining s.decoder.reader.now)) e

-- behind an item no head is pending
abbrev pub HasNoneBehind : Option (Header × ℕ) → Ahead → Type 0
HasNoneBehind pending (item i f) = Unit {0}
HasNoneBehind pending (after f) = pending ≡ None

abbrev pub StandsBefore : {S W : Type 0} → (S → Option (List ℕ)) → ByteSource S W → Limit → Ahead → Type 0
StandsBefore remaining s l a = (b : List ℕ) × IsUnread remaining s b ×
    FitsAhead (reader_of remaining s.decoder) b a × (l ≡ Some s.levels) × HasNoneBehind s.pending a

-- what is left of a container with this count (None: open)
abbrev pub parts_left : Option ℕ → Left
parts_left (Some n) = left.Counted n
parts_left None = left.Open

-- so many parts are left, or any number up to a break
abbrev pub HoldsParts : {X : Type 0} → Option ℕ → Span → List X → Type 0
HoldsParts count span xs = (span ≡ span_of count) × HasCount count xs

-- what is left of a sequence is these items
abbrev pub HoldsItems : Left → Span → List Item → Type 0
HoldsItems (left.Counted n) span is = HoldsParts (Some n) span is
HoldsItems left.Open span is = HoldsParts None span is
HoldsItems (left.Bytes v) span is = (span ≡ of_bytes) × (map unsigned (into_iter_items v) ≡ is)

-- what is left of a map is these pairs
abbrev pub HoldsPairs : Left → Span → List (Item × Item) → Type 0
HoldsPairs (left.Counted n) span ps = HoldsParts (Some n) span ps
HoldsPairs left.Open span ps = HoldsParts None span ps
HoldsPairs (left.Bytes v) span ps = ⊥

abbrev pub HoldsRest : Left → Rest → Type 0
HoldsRest q (bottom name b) = ⊥
HoldsRest q (parts span is f) = HoldsItems q span is
HoldsRest q (pairs span ps f) = HoldsPairs q span ps
HoldsRest q (entry v span ps f) = ⊥
HoldsRest q (level_due f) = ⊥

abbrev pub SeqStands : ByteSeq → Limit → Rest → Type 0
SeqStands q l f = (l ≡ Some q.levels) × HoldsRest q.left f

-- the levels to give back behind the content of a tag or a variant
abbrev pub LevelStands : ByteLevel → Limit → Rest → Type 0
LevelStands level l f = l ≡ Some level.levels

-- a level was taken, which this one gives back
abbrev pub TakesLevel : {S W : Type 0} → ByteSource S W → ByteSource S W → ByteLevel → Type 0
TakesLevel old new level = (level.levels ≡ old.levels) × (old.levels ≡ new.levels + 1)

-- ---- what is owed

-- b began a container, and so many parts complete it, with a break where one is due
abbrev pub OwesParts : {X : Type 0} → (List ℕ → X → Type 0) → Option ℕ → List ℕ → List ℕ → Type 0
OwesParts {X} SpellsPart count b u = (t z : List ℕ) (xs : List X) → AreSpelled SpellsPart t xs →
    HasCount count xs → u ≡ t ++ (ending (span_of count) ++ z) → HasItem b z

-- b began a container of which this is left, and it is read up to u
abbrev pub LeftOwes : Left → ContainerType → List ℕ → List ℕ → Type 0
LeftOwes (left.Counted n) an_array b u = OwesParts Spells (Some n) b u
LeftOwes (left.Counted n) a_map b u = OwesParts SpellsPair (Some n) b u
LeftOwes left.Open an_array b u = OwesParts Spells None b u
LeftOwes left.Open a_map b u = OwesParts SpellsPair None b u
LeftOwes (left.Bytes v) an_array b u = HasItem b u
LeftOwes (left.Bytes v) a_map b u = ⊥

abbrev pub SeqOwes : ByteSeq → ContainerType → List ℕ → List ℕ → Type 0
SeqOwes q s b u = LeftOwes q.left s b u

-- a sequence was entered
abbrev pub EntersItemsUnread : {S W A : Type 0} → (S → Option (List ℕ)) → ByteSource S W →
    ByteSource S W → Given A → (Span → List Item → Steps A) → ByteSeq → Type 0
EntersItemsUnread remaining old new taken f q = EntersUnread (IsUnread remaining)
    (λ p. SeqOwes p an_array) Spells (λ p. HoldsItems p.left) old new (Some old.levels) (Some new.levels) taken f q

-- what is left of a sequence was read: f takes this from its items, and the source stands past it
abbrev pub ReadsRest : {S W A : Type 0} → (S → Option (List ℕ)) → ByteSource S W → ByteSource S W →
    ByteSeq → (List Item → Steps A) → A → Type 0
ReadsRest remaining old new q f v = (l : Limit) (span : Span) (is : List Item) (r : Rest) →
    StandsBefore remaining old (inside span l) (after (parts span is r)) →
    SeqStands q l (parts span is r) → (outcome (inside span l) (f is) ≡ gives v) × StandsBefore remaining new l (past r)

-- it is refused only where the items that are left are, and for that
abbrev pub RefusesRest : {S W A : Type 0} → (S → Option (List ℕ)) → ByteSource S W → ByteSeq →
    (List Item → Steps A) → Fault → Type 0
RefusesRest remaining old q f fault = (l : Limit) (span : Span) (is : List Item) (r : Rest) →
    StandsBefore remaining old (inside span l) (after (parts span is r)) →
    SeqStands q l (parts span is r) → IsFaultOf (end_of r) fault (outcome (inside span l) (f is))

-- ---- how much can still be read

-- a head that can be handed out where it is not in the bytes weighs less than others
abbrev pub head_weight : Header → ℕ
head_weight (header.Positive n) = 1
head_weight (header.Simple n) = 1
head_weight _ = 2

abbrev pub pending_head_weight : Option (Header × ℕ) → ℕ
pending_head_weight None = 0
pending_head_weight (Some h) = head_weight h.0

abbrev pub bytes_weight : {S W : Type 0} → ByteSource S W → ℕ
bytes_weight s = 3 * (greatest_offset - s.decoder.counter.count)

abbrev pub weight_left : {S W : Type 0} → ByteSource S W → ℕ
weight_left s = bytes_weight s + pending_head_weight s.pending

abbrev pub bytes_left : Left → ℕ
bytes_left (left.Counted n) = 0
bytes_left left.Open = 0
bytes_left (left.Bytes v) = length (into_iter_items v)

abbrev pub seq_left : ByteSeq → ℕ
seq_left q = bytes_left q.left

-- a byte string is left, with bytes of which P holds
abbrev pub HasBytes : Left → (List ℕ → Type 0) → Type 0
HasBytes (left.Counted n) P = ⊥
HasBytes left.Open P = ⊥
HasBytes (left.Bytes v) P = P (into_iter_items v)

-- ---- what a call leaves and answers

-- the reader is the same, a beginning of what was unread was taken, the levels stay, no head is
-- pending, and no more is left to read
pub record KeepsSource {S W : Type 0} (remaining : S → Option (List ℕ)) (old new : ByteSource S W) : Type 0 where
  pub same_reader : HasSameReader old.decoder new.decoder
  pub only : TakesOnly (HasTaken remaining) old.decoder new.decoder
  pub levels : new.levels ≡ old.levels
  pub pending : new.pending ≡ None
  pub no_more : weight_left new ≤ weight_left old

-- the same where an item is read: behind an answer less is left
pub record PassesItem {S W A E : Type 0} (remaining : S → Option (List ℕ)) (old new : ByteSource S W)
    (result : Result A E) : Type 0 where
  pub kept : KeepsSource remaining old new
  pub fewer : OnOk result (weight_left new < weight_left old)

-- the same of the head behind any number of tags
pub record ReadsBareHead {S W : Type 0} (can_fail : Bool) (remaining : S → Option (List ℕ))
    (old new : ByteSource S W) (numbers : Bool) (result : Result (Header × ℕ) (Error
    (Unit {0}))) : Type 0 where
  pub kept : KeepsSource remaining old new
  pub fewer : IfOk result (λ h. bytes_weight new + head_weight h.0 ≤ weight_left old)
  pub bare : IfOk result (λ h. IsBare numbers h.0)
  pub memory : IfErr result (λ e. IsGrantedFault (fault_at can_fail remaining new e) false)

-- the item ahead was taken and gives what counts of the answer, or it is refused, and only where
-- the item is
abbrev pub AnswersItem : {S W A T : Type 0} → Bool → (S → Option (List ℕ)) → ByteSource S W →
    ByteSource S W → Limit → Given A → (T → A) → Result T (Error (Unit {0})) → Type 0
AnswersItem can_fail remaining old new l taken content result =
    MatchResult result (λ v. Reads (IsUnread remaining) old new l taken (content v))
    (λ e. Denies (IsUnread remaining) (end_at remaining) old l taken (fault_at can_fail remaining new e))

-- ---- a value of any shape

-- the head alone spells an item, which means this tree and takes no level
abbrev pub MeansTree : Header → Tree → Type 0
MeansTree h v = (s : List ℕ) → SpellsHeader s h → (i : Item) × Spells s i × (meaning i ≡ Some v) × (nesting i ≡ 0)

-- the value ahead, the bytes of a head that was pending included, was read so, whatever follows the
-- bytes that were taken
abbrev pub ReadsValue : {S W E : Type 0} → Bool → (S → Option (List ℕ)) → ByteSource S W →
    ByteSource S W → Result Tree (Error E) → Type 0
ReadsValue can_fail remaining old new r = HasSameReader old.decoder new.decoder ×
    IfErr r (λ e. HasEndedAfter can_fail remaining new.decoder e) × TakesBeforeAny remaining old.decoder new.decoder
    (λ d e. (xs : List ℕ) (p : ℕ) → IsAheadBy Some d xs p old.pending → IsTreeRead any Some e old.levels xs p r)
