-- Labels: the keys of a map that stand for the fields of a struct, by name or by number.
use Rattle.std.specs.{Int.complement_if, Ordering.int_eq, Prelude.{ℕ, ◌^◌, ℤ, pos, negsuc, Bool, true, false, List}}
use Rattle.std.specs.Prelude.{Option, Some, None, Ok, Err, nat_lt, bytes_eq, codes, if◌then◌else◌}
use Rattle.ciborium_ll.specs.Item.{Item, unsigned, negative, bytes, text, tag}
use Rattle.ciborium_value.specs.{Given.{Given, mapped, given_integer, given_place, given_skip}, Meaning.is_bignum_tag}
use Rattle.ciborium_value.specs.{Places.a_map, Sinks.{Named, container_of, in_turn, named_text, number_item}}
use Rattle.ciborium_value.specs.declared.labels.LabelType.{LabelType, TheVariants.{Name, Number, Other}}
use Prim.Native.String.{String}
use Rattle.ciborium_ll.specs.declared.kind.Kind.TheVariants as kinds

-- what a key is: a name, by the bytes of its UTF-8, a number, or neither
pub data Label : Type 0 where
  named : List ℕ → Label
  numbered : ℤ → Label
  other : Label

-- a name, as text in the language
abbrev pub label : String → Label
label s = named (codes s)

abbrev pub is_label : Label → Label → Bool
is_label (named a) (named b) = bytes_eq a b
is_label (numbered y) (numbered z) = int_eq y z
is_label _ _ = false

-- one that a key can be: a name, or a number that one head holds
abbrev pub is_proper : Label → Bool
is_proper (named a) = true
is_proper (numbered (pos n)) = nat_lt n (2 ^ 64)
is_proper (numbered (negsuc n)) = nat_lt n (2 ^ 64)
is_proper other = false

-- what writing it names
abbrev pub label_item : Label → Named
label_item (named a) = named_text a
label_item (numbered z) = Ok (number_item z)
label_item other = Err kinds.Other

-- the definite map of fields by their labels
abbrev pub fields_of : List (Label × Named) → Named
fields_of fs = container_of a_map (in_turn label_item (λ r. r) fs)

-- parts before others, or left out with what they are made of; and how many
abbrev pub parts_or : {V : Type 0} → Option V → (V → List Named) → List Named → List Named
parts_or None parts behind = behind
parts_or (Some v) parts behind = parts v

abbrev pub number_or : {V : Type 0} → Option V → ℕ → ℕ → ℕ
number_or None n m = m
number_or (Some v) n m = n

-- ---- what is read of a key

-- how a key is read: as a number, or as a name, tags before it skipped, or else it is passed over
abbrev pub label_type : Item → LabelType
label_type (unsigned n) = Number
label_type (negative n) = Number
label_type (bytes open_ b) = Name
label_type (text open_ b) = Name
label_type (tag t i) = if is_bignum_tag t then Number else Name
label_type _ = Other

abbrev pub name_place : {P : Type 0} → (Label → P) → List ℕ → P
name_place place name = place (named name)

-- the place among labels of a key that is read so
abbrev pub placed : {P : Type 0} → (Label → P) → LabelType → Given P
placed place Name i = given_place (name_place place) i
placed place Number i = mapped (λ n. place (numbered (complement_if n.0 n.1))) (given_integer i)
placed place Other i = mapped (λ _. place other) (given_skip i)

-- the place among labels of a key
abbrev pub label_place : {P : Type 0} → (Label → P) → Given P
label_place place i = placed place (label_type i) i

-- the label that a key is
abbrev pub given_label : Given Label
given_label i = label_place (λ x. x) i
