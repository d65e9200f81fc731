-- What is written for an input as bytes, not in hex: a sequence of items (RFC 8742), or one item,
-- which is dumped.
use Rattle.std.specs.Prelude.{◌≡◌, ◌⊎◌, ℕ, ◌+◌, ◌<◌, ◌≤◌, Bool, true, false, List, [], ◌++◌, length, take, drop, Option}
use Rattle.std.specs.Prelude.{Some, Result, MatchResult}
use Rattle.ciborium_ll.specs.{ItemLengths.IsNoItem, Levels.AreItem, declared.{item_heads.NoItem.NoItem, kind.Kind.Kind}}
use Rattle.ciborium_value.specs.{Given.{gives, refuses}, Tree.Tree, View.tree_of}
use Rattle.ciborium_value.specs.declared.tree.Value.{Value}
use Rattle.cbor.specs.{declared.answer.LineRefusal.LineRefusal, declared.reading.Showing.Showing}
use Rattle.cbor.specs.{declared.reading.Spelling.Spelling, declared.streams.Next.Next, Answer.IsFrontRefused}
use Rattle.cbor.specs.{Answer.{refusal_behind, refused_text, wants_memory}, Dumped.IsDumpOf, Forms.formless_text}
use Rattle.cbor.specs.{Lines.text_line, Sequence.refused_item_text, Shown.{shown_spelling, shown_text, shown_tree}}
use Rattle.cbor.specs.Spellings.{HasItemBefore, IsItem}
use Rattle.cbor.specs.declared.streams.Next.TheVariants as next

-- a tree as it is shown, and a line feed
abbrev pub shown_line : Showing → Tree → List ℕ
shown_line showing v = text_line (shown_text showing v)

-- the line that says in which place an item of this number is refused, and why
abbrev pub refused_line : List ℕ → ℕ → List ℕ → List ℕ
refused_line place number reason = place ++ text_line (refused_item_text number reason)

-- behind so many other bytes, b begins with no item within so many levels, and this is the reason,
-- with an offset that is counted from the first of those; or with one that has no form
abbrev pub TellsNoItem : Showing → ℕ → List ℕ → ℕ → List ℕ → Type 0
TellsNoItem showing skipped b limit reason = ((e : LineRefusal) × IsFrontRefused (shown_spelling showing) b limit e ×
    (wants_memory e ≡ false) × (reason ≡ refused_text (refusal_behind skipped e))) ⊎
    ((v : Tree) × (left : List ℕ) × (k : Kind) ×
    HasItemBefore (shown_spelling showing) b limit v left × (shown_tree showing v ≡ refuses k) ×
    (reason ≡ formless_text k))

-- what is left of a stream is shown by these lines, where its next item has this number, counted
-- from 1, and begins at this offset; and whether no item is refused
pub data AreItemsShown (place : List ℕ) (showing : Showing) (limit : ℕ) :
    ℕ → ℕ → List ℕ → Bool → List ℕ → Type 0 where
  -- nothing is left
  ended : (number offset : ℕ) → AreItemsShown place showing limit number offset [] true []
  -- an item s at the front is shown, and then what follows it
  shown : (number offset : ℕ) (s left : List ℕ) (v u : Tree) (all : Bool) (lines : List ℕ) →
      IsItem (shown_spelling showing) s limit v → shown_tree showing v ≡ gives u →
      AreItemsShown place showing limit (number + 1) (offset + length s) left all lines →
      AreItemsShown place showing limit number offset (s ++ left) all (shown_line showing u ++ lines)
  -- a well-formed item s at the front is refused, and then what follows it is shown
  refused : (number offset : ℕ) (s left reason : List ℕ) (all : Bool) (lines : List ℕ) →
      AreItem s → TellsNoItem showing offset s limit reason →
      AreItemsShown place showing limit (number + 1) (offset + length s) left all lines →
      AreItemsShown place showing limit number offset (s ++ left) false (refused_line place number reason ++ lines)
  -- no well-formed item of at most 256 levels stands at the front: that is the end
  no_item : (number offset : ℕ) (b reason : List ℕ) (why : NoItem) → 0 < length b →
      IsNoItem b why → TellsNoItem showing offset b limit reason →
      AreItemsShown place showing limit number offset b false (refused_line place number reason)

-- the stream b is shown behind w, each item within so many levels, and nothing else is written
abbrev pub IsStreamShown : List ℕ → Showing → List ℕ → ℕ → List ℕ → Bool → Option (List ℕ) → Type 0
IsStreamShown place showing b limit w all after = (lines : List ℕ) ×
    AreItemsShown place showing limit 1 0 b all lines × (after ≡ Some (w ++ lines))

-- the item s is judged so: it is a value, spelled so and within so many levels, or is refused
abbrev pub IsJudged : Spelling → List ℕ → ℕ → Result Value LineRefusal → Type 0
IsJudged spelling s limit judged = MatchResult judged
    (λ value. IsItem spelling s limit (tree_of value)) (λ e. IsFrontRefused spelling s limit e)

-- an item of so many bytes begins b, and is judged so
abbrev pub IsFront : Spelling → List ℕ → ℕ → Result Value LineRefusal → ℕ → Type 0
IsFront spelling b limit judged size = (size ≤ length b) × AreItem (take size b) ×
    IsJudged spelling (take size b) limit judged

-- of the bytes b an item was taken, which is judged so, or none stands at their front
abbrev pub IsTaken : Spelling → List ℕ → ℕ → Option (List ℕ) → Next → Type 0
IsTaken spelling b limit after (next.Item judged size) = IsFront spelling b limit judged size ×
    (after ≡ Some (drop size b))
IsTaken spelling b limit after (next.NoItem e) = IsFrontRefused spelling b limit e × (why : NoItem) × IsNoItem b why

-- the line of an item s, which is shown or not, has this number and begins at this offset
abbrev pub IsItemLine : List ℕ → Showing → ℕ → ℕ → ℕ → List ℕ → Bool → List ℕ → Type 0
IsItemLine place showing limit number offset s true line = (v : Tree) × (u : Tree) ×
    IsItem (shown_spelling showing) s limit v × (shown_tree showing v ≡ gives u) × (line ≡ shown_line showing u)
IsItemLine place showing limit number offset s false line = (reason : List ℕ) ×
    TellsNoItem showing offset s limit reason × (line ≡ refused_line place number reason)

-- of the bytes b the item at the front was read, spelled so and within so many levels, and is the
-- value, of so many bytes, or is refused for this reason
abbrev pub IsReadNext : Spelling → List ℕ → ℕ → Option (List ℕ) → Result (Value × ℕ) LineRefusal → Type 0
IsReadNext spelling b limit after next = MatchResult next
    (λ item. (left : List ℕ) × HasItemBefore spelling b limit (tree_of item.0) left ×
    (after ≡ Some left) × (item.1 + length left ≡ length b)) (λ reason. IsFrontRefused spelling b limit reason)

-- a well-formed item begins these bytes
abbrev pub HoldsItem : List ℕ → Type 0
HoldsItem b = (size : ℕ) × (size ≤ length b) × AreItem (take size b)

-- the lines of a dump: behind the reason in which that of no item ends stands a line feed
abbrev pub dump_lines : Bool → List ℕ → List ℕ
dump_lines true text = text
dump_lines false text = text_line text

-- all of b is dumped behind w, and nothing else is written; is_item says whether b is one item
abbrev pub IsDumpedBehind : List ℕ → List ℕ → Bool → Option (List ℕ) → Type 0
IsDumpedBehind b w is_item after = (text : List ℕ) × IsDumpOf b is_item text ×
    (after ≡ Some (w ++ dump_lines is_item text))
