-- The words of the contracts of `Sink` and `Serialize`.
use Rattle.std.specs.Prelude.{Bool, true, ◌≡◌, ℕ, ℤ, pos, negsuc, ◌^◌, List, [], ◌∷◌, if◌then◌else◌, nat_lt, Option}
use Rattle.std.specs.Prelude.{Some, None, Result, Ok, Err, false}
use Rattle.ciborium_ll.specs.{Item.Item, declared.kind.Kind.Kind}
use Rattle.ciborium_value.specs.{Encoding.item_of, Number.shortest_bytes, Places.{ContainerType, Place, within, tagged}}
use Rattle.ciborium_value.specs.{Places.{HasRoom, added, ended, IsComplete, IsCutBetween, Out, container}, View.tree_of}
use Rattle.ciborium_value.specs.declared.tree.Value.{Value}
use Rattle.ciborium_ll.specs.Item as item

-- ---- what values name

-- a tag over the bytes of a number, without leading zeros (RFC 8949, section 3.4.3)
abbrev pub bignum_item : ℕ → ℕ → Item
bignum_item t n = item.tag t (item.bytes false (shortest_bytes n))

-- the item of a number: major type 0 or 1 where one head holds it, else tag 2 or 3
abbrev pub number_item : ℤ → Item
number_item (pos n) = if nat_lt n (2 ^ 64) then item.unsigned n else bignum_item 2 n
number_item (negsuc n) = if nat_lt n (2 ^ 64) then item.negative n else bignum_item 3 n

-- what a value names: the item that it writes, or the kind with which it is refused
abbrev pub Named : Type 0
Named = Result Item Kind

-- an item before others, or the first refusal
abbrev pub and_then : Named → Result (List Item) Kind → Result (List Item) Kind
and_then (Err k) rest = Err k
and_then (Ok i) (Err k) = Err k
and_then (Ok i) (Ok is) = Ok (i ∷ is)

-- each item, or the first refusal
abbrev pub all_named : List Named → Result (List Item) Kind
all_named [] = Ok []
all_named (x ∷ xs) = and_then x (all_named xs)

abbrev pub contained : ContainerType → Bool → Result (List Item) Kind → Named
contained s open_ (Ok is) = Ok (container s open_ is)
contained s open_ (Err k) = Err k

-- the definite container of what its parts name, or the first refusal among them
abbrev pub container_of : ContainerType → List Named → Named
container_of s parts = contained s false (all_named parts)

-- the same container, open
abbrev pub open_container_of : ContainerType → List Named → Named
open_container_of s parts = contained s true (all_named parts)

-- what the entries of a map name, keys and values in turn
abbrev pub in_turn : {A B : Type 0} → (A → Named) → (B → Named) → List (A × B) → List Named
in_turn f g [] = []
in_turn f g (e ∷ es) = f e.0 ∷ g e.1 ∷ in_turn f g es

-- a name
abbrev pub named_text : List ℕ → Named
named_text name = Ok (item.text false name)

-- a tag over what its content names
abbrev pub tag_of : ℕ → Named → Named
tag_of t (Ok i) = Ok (item.tag t i)
tag_of t (Err k) = Err k

-- null, or what the content names
abbrev pub or_null : {A : Type 0} → (A → Named) → Option A → Named
or_null f None = Ok (item.simple 22)
or_null f (Some x) = f x

-- the item of a `Value`
abbrev pub named_value : Value → Named
named_value v = Ok (item_of (tree_of v))

-- ---- why a sink refused

-- the value has no item, an allocation failed, or the device failed
pub data Cause : Type 0 where
  value : Kind → Cause
  memory : Cause
  device : Cause

-- no refusal for the value
abbrev pub IsOutside : Cause → Type 0
IsOutside (value k) = ⊥
IsOutside memory = Unit {0}
IsOutside device = Unit {0}

-- a refusal for the value comes only where a kind is named, and with it
abbrev pub IsOwed : Cause → Named → Type 0
IsOwed (value k) named = named ≡ Err k
IsOwed memory named = Unit {0}
IsOwed device named = Unit {0}

-- want of memory comes only from those that take memory
abbrev pub IsGranted : Cause → Type 0 → Type 0
IsGranted (value k) TakesMemory = Unit {0}
IsGranted memory TakesMemory = TakesMemory
IsGranted device TakesMemory = Unit {0}

-- ---- what a call does, at each place where the sink may stand

-- the sink stands where an item may come
abbrev pub IsReady : {S : Type 0} → (S → Place → Type 0) → S → Type 0
IsReady StandsAt s = (p : Place) × StandsAt s p × HasRoom p

-- the item was added
abbrev pub Adds : {S : Type 0} → (S → Place → Type 0) → S → S → Item → Type 0
Adds StandsAt old new i = (p : Place) → StandsAt old p → HasRoom p → StandsAt new (added p i)

-- a container was begun
abbrev pub Begins : {S : Type 0} → (S → Place → Type 0) → ContainerType → S → S → Option ℕ → Type 0
Begins StandsAt s old new n = (p : Place) → StandsAt old p → HasRoom p → StandsAt new (within s n [] p)

-- a tag waits for the next item
abbrev pub Tags : {S : Type 0} → (S → Place → Type 0) → S → S → ℕ → Type 0
Tags StandsAt old new t = (p : Place) → StandsAt old p → HasRoom p → StandsAt new (tagged t p)

-- a container that was begun with n can end
abbrev pub CanEnd : {S : Type 0} → (S → Place → Type 0) → S → Option ℕ → Type 0
CanEnd StandsAt s n = (p : Place) × StandsAt s p × IsComplete p n

-- it ended
abbrev pub Ends : {S : Type 0} → (S → Place → Type 0) → S → S → Option ℕ → Type 0
Ends StandsAt old new n = (p : Place) → StandsAt old p → IsComplete p n → StandsAt new (ended p)

-- refused: where the bytes are known, a proper beginning of what the call adds is out, and nothing
-- else
abbrev pub Breaks : {S : Type 0} → (S → Place → Type 0) → (S → Out) → S → S → Item → Type 0
Breaks StandsAt out old new i = (p : Place) → StandsAt old p → HasRoom p → IsCutBetween (out new) p (added p i)

abbrev pub BreaksBegin : {S : Type 0} → (S → Place → Type 0) → (S → Out) → ContainerType → S → S → Option ℕ → Type 0
BreaksBegin StandsAt out s old new n = (p : Place) → StandsAt old p → HasRoom p →
    IsCutBetween (out new) p (within s n [] p)

abbrev pub BreaksTag : {S : Type 0} → (S → Place → Type 0) → (S → Out) → S → S → ℕ → Type 0
BreaksTag StandsAt out old new t = (p : Place) → StandsAt old p → HasRoom p → IsCutBetween (out new) p (tagged t p)

abbrev pub BreaksEnd : {S : Type 0} → (S → Place → Type 0) → (S → Out) → S → S → Option ℕ → Type 0
BreaksEnd StandsAt out old new n = (p : Place) → StandsAt old p → IsComplete p n → IsCutBetween (out new) p (ended p)

-- what a value names was added
abbrev pub AddsNamed : {S : Type 0} → (S → Place → Type 0) → S → S → Named → Type 0
AddsNamed StandsAt old new (Ok i) = Adds StandsAt old new i
AddsNamed StandsAt old new (Err k) = ⊥

-- refused: where it names an item, a proper beginning of that
abbrev pub BreaksNamed : {S : Type 0} → (S → Place → Type 0) → (S → Out) → S → S → Named → Type 0
BreaksNamed StandsAt out old new (Ok i) = Breaks StandsAt out old new i
BreaksNamed StandsAt out old new (Err k) = Unit {0}
