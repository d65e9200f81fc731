-- What is written for a stream of items as bytes (RFC 8742) that are shown by the notation of their
-- very heads. Texts are lists of bytes.
use Rattle.std.specs.Prelude.{◌≡◌, ℕ, ◌+◌, ◌<◌, ◌≤◌, Bool, true, false, List, [], ◌++◌, length, take, drop, Option}
use Rattle.std.specs.Prelude.{Some}
use Rattle.ciborium_ll.specs.{ItemLengths.IsNoItem, Levels.AreItem, declared.item_heads.NoItem.NoItem}
use Rattle.ciborium_ll.specs.declared.item_heads.NoItem.TheVariants.{Incomplete, Malformed, TooDeep}
use Rattle.cbor.specs.{declared.exact_streams.Next.Next, Dumped.reason_text, Exact.IsExactly, Lines.text_line}
use Rattle.cbor.specs.Streams.{refused_line}
use Rattle.cbor.specs.declared.exact_streams.Next.TheVariants as next

-- a reason, with its offset counted from so many bytes before
abbrev pub reason_behind : ℕ → NoItem → NoItem
reason_behind skipped Incomplete = Incomplete
reason_behind skipped (Malformed p) = Malformed (skipped + p)
reason_behind skipped (TooDeep p) = TooDeep (skipped + p)

-- what is left of a stream is shown by these lines, where its next item has this number, counted
-- from 1, and begins at this offset; and whether all of it is items
pub data AreExactLines (place : List ℕ) : ℕ → ℕ → List ℕ → Bool → List ℕ → Type 0 where
  -- nothing is left
  ended : (number offset : ℕ) → AreExactLines place number offset [] true []
  -- an item s at the front is shown, and then what follows it
  shown : (number offset : ℕ) (s left text : List ℕ) (all : Bool) (lines : List ℕ) → AreItem s →
      IsExactly s text → AreExactLines place (number + 1) (offset + length s) left all lines →
      AreExactLines place number offset (s ++ left) all (text_line text ++ lines)
  -- no well-formed item of at most 256 levels stands at the front: that is the end
  no_item : (number offset : ℕ) (b : List ℕ) (why : NoItem) → 0 < length b → IsNoItem b why →
      AreExactLines place number offset b false (refused_line place number (reason_text (reason_behind offset why)))

-- the stream b is shown so behind w, and nothing else is written
abbrev pub IsShownExactly : List ℕ → List ℕ → List ℕ → Bool → Option (List ℕ) → Type 0
IsShownExactly place b w all after = (lines : List ℕ) × AreExactLines place 1 0 b all lines ×
    (after ≡ Some (w ++ lines))

-- an item of so many bytes begins b, and the text shows it
abbrev pub IsFrontExactly : List ℕ → ℕ → List ℕ → Type 0
IsFrontExactly b size text = (size ≤ length b) × AreItem (take size b) × IsExactly (take size b) text

-- of the bytes b an item was taken, which the text shows, or none stands at their front
abbrev pub IsNextExactly : List ℕ → Option (List ℕ) → List ℕ → Next → Type 0
IsNextExactly b after text next.End = b ≡ []
IsNextExactly b after text (next.Item size) = IsFrontExactly b size text × (after ≡ Some (drop size b))
IsNextExactly b after text (next.NoItem why) = (0 < length b) × IsNoItem b why
