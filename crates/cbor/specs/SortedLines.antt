-- What is written for the lines of an input that are sorted.
use Rattle.std.specs.Prelude.{◌≡◌, ℕ, ◌+◌, ◌<◌, Bool, List, [], ◌∷◌, ◌++◌, length, Option, Some, IsPermutation, codes}
use Rattle.std.specs.{Prelude.decimal, Bool.MatchBool, List.flat_map}
use Rattle.hex.specs.Hex.{encode_lower}
use Rattle.ciborium_value.specs.{Encoding.encoding, Tree.Tree, declared.key_order.KeyOrder.KeyOrder}
use Rattle.cbor.specs.{declared.answer.LineRefusal.LineRefusal, declared.reading.Spelling.TheVariants.Any}
use Rattle.cbor.specs.{declared.sorting.Unsorted.Unsorted, declared.sorting.Unsorted.TheVariants.{Line, Unread}}
use Rattle.cbor.specs.{Answer.{IsRefused, refused_text}, Lines.{AreMeant, first_line, text_line}, Sorted.AreSorted}

-- the encoding of a tree in lower-case hex, and a line feed (RFC 8949, section 4.1)
abbrev pub hex_line : Tree → List ℕ
hex_line v = encode_lower (encoding v) ++ (10 ∷ [])

-- each line of b is an item; what they mean is put behind w in this order, each tree as often as it
-- came
abbrev pub AreSortedLines : KeyOrder → List ℕ → ℕ → List ℕ → Option (List ℕ) → Type 0
AreSortedLines order b limit w after = (came : List Tree) × (sorted : List Tree) × AreMeant Any b limit [] came ×
    IsPermutation came sorted × AreSorted order sorted × (after ≡ Some (w ++ flat_map hex_line sorted))

-- the line of this number, counted from 1, is the first that is no item, and why
abbrev pub refused_line_text : ℕ → List ℕ → List ℕ
refused_line_text n reason = codes "line " ++ (decimal n ++ (codes ": " ++ reason))

-- a line of b is no item, or an allocation failed for it, and those before it are items; this is its
-- number
abbrev pub IsFirstRefused : List ℕ → ℕ → ℕ → LineRefusal → Type 0
IsFirstRefused b limit n e = (came : List Tree) × (rest : List ℕ) × AreMeant Any b limit rest came ×
    (0 < length rest) × IsRefused Any (first_line rest) limit e × (n ≡ length came + 1)

-- why the lines of b are not sorted; what the devices and memory do is told elsewhere
abbrev pub IsUnsortedFor : List ℕ → ℕ → Unsorted → Type 0
IsUnsortedFor b limit (Line n e) = IsFirstRefused b limit n e
IsUnsortedFor b limit (Unread fault) = Unit {0}

-- a line is refused, and the line that says so is put behind w
abbrev pub IsRefusalToldBehind : List ℕ → ℕ → List ℕ → Option (List ℕ) → Type 0
IsRefusalToldBehind b limit w after = (n : ℕ) × (e : LineRefusal) × IsFirstRefused b limit n e ×
    (after ≡ Some (w ++ text_line (refused_line_text n (refused_text e))))

-- each line is an item and they are sorted, or the first that is none is told
abbrev pub AreSortedOrRefused : KeyOrder → List ℕ → ℕ → List ℕ → Bool → Option (List ℕ) → Type 0
AreSortedOrRefused order b limit w all after = MatchBool all
    (AreSortedLines order b limit w after) (IsRefusalToldBehind b limit w after)
