-- What reading the payload of a string answers.
use Rattle.std.specs.Prelude.{◌≡◌, ℕ, ◌+◌, ◌≤◌, List, ◌++◌, length, Option, Result, Ok, Err, Bool, true, false, None}
use Rattle.std.specs.Prelude.{Some}
use Rattle.ciborium_ll.specs.{Bytes.greatest_offset, Decoding.left_of, StringRefusal.IsAllowed, Strings.ContentRefuses}
use Rattle.ciborium_ll.specs.{Strings.IsStringTaken, declared.{decoder.Decoder.Decoder, strings.StringType.StringType}}
use Rattle.ciborium_value.specs.{View.tree_of, declared.tree.Value.Value, inner.ReadItems.string_tree}
use Rattle.ciborium.specs.{ValueAnswers.IsRefusedBy, declared.de.{error.Error.Error, held.Copied.Copied}}
use Rattle.ciborium.specs.{declared.de.held.Copied.TheVariants.{Whole, NoText, NoMemory}, inner.ValuesInBytes.IsAt}
use Rattle.ciborium.specs.declared.de.front.Part.{Part}
use Rattle.ciborium.specs.declared.de.front.Part.TheVariants as parts

abbrev pub string_type : Bool → StringType
string_type true = StringType.Text
string_type false = StringType.Bytes

-- the payload of a string of this length, whose head is at offset at, stands at xs, offset p
abbrev pub IsStringRead : {S W E : Type 0} → StringType → (S → Option (List ℕ)) → Decoder S W →
    Option ℕ → ℕ → List ℕ → ℕ → Result Value (Error E) → Type 0
IsStringRead {S} {E} type remaining d len at xs p (Ok v) = (b : List ℕ) × (added : List ℕ) ×
    (r : List ℕ) × IsStringTaken {E = E} type len at b p (Ok tt) added × (tree_of v ≡ string_tree type added) ×
    (xs ≡ b ++ r) × IsAt remaining d r (p + length b) × (p + length b ≤ greatest_offset)
IsStringRead type remaining d len at xs p (Err e) =
    IsRefusedBy (left_of remaining d) e (ContentRefuses type len at xs p)

-- what is made of a payload where it stands
abbrev pub IsCopied : StringType → List ℕ → Copied → Type 0
IsCopied type b (Whole v) = IsAllowed type b × (tree_of v ≡ string_tree type b)
IsCopied type b NoText = ¬ IsAllowed type b
IsCopied type b NoMemory = Unit {0}

-- the same of a string of n bytes that is read where it is held: at None nothing is taken
abbrev pub IsHeldRead : {S W E : Type 0} → StringType → (S → Option (List ℕ)) → Decoder S W →
    ℕ → ℕ → List ℕ → ℕ → Result (Option Value) (Error E) → Type 0
IsHeldRead type remaining d n at xs p (Ok None) = IsAt remaining d xs p
IsHeldRead {E} type remaining d n at xs p (Ok (Some v)) = IsStringRead {E = E} type remaining d (Some n) at xs p (Ok v)
IsHeldRead type remaining d n at xs p (Err e) = IsStringRead type remaining d (Some n) at xs p (Err e)

-- the same where the value is a part
abbrev pub IsStringPart : {S W E : Type 0} → StringType → (S → Option (List ℕ)) → Decoder S W →
    Option ℕ → ℕ → List ℕ → ℕ → Result Part (Error E) → Type 0
IsStringPart {E} type remaining d len at xs p (Ok (parts.Whole v)) =
    IsStringRead {E = E} type remaining d len at xs p (Ok v)
IsStringPart type remaining d len at xs p (Ok part) = ⊥
IsStringPart type remaining d len at xs p (Err e) = IsStringRead type remaining d len at xs p (Err e)
