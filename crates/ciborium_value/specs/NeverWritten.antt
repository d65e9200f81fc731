-- What is never written as null or undefined, and what never as a byte string.
use Rattle.std.{proofs.Common.{ap, ◌∙◌}, specs.Prelude.{◌≡◌, ℕ, ◌^◌, ℤ, pos, negsuc, Bool, true, false, List, Option}}
use Rattle.std.specs.Prelude.{Some, None, Result, Ok, Err, IfOk, if◌then◌else◌, nat_lt, refl}
use Rattle.ciborium_ll.specs.{Item.Item, declared.kind.Kind.Kind}
use Rattle.ciborium_value.specs.{Encoding.{boolean_item, item_of}, Folded.short_bytes, Given.is_null}
use Rattle.ciborium_value.specs.{Places.{ContainerType, an_array, a_map}, ReadsBack.{IsDefinite, named, of_ok}}
use Rattle.ciborium_value.specs.Sinks.{Named, all_named, bignum_item, contained, container_of, number_item, or_null}
use Rattle.ciborium_value.specs.{WrittenTrees.written_tree, lemmas.ReadsBackNumbers.definite-number}
use Rattle.ciborium_ll.specs.Item as items

-- what a value is never written as
pub data Avoided : Type 0 where
  -- null or undefined, under no tag
  nulls : Avoided
  -- a byte string on which a tag folds (RFC 8949, section 3.4.3)
  byte_strings : Avoided

-- the item is something else, in bytes and in a tree
abbrev pub IsOther : Avoided → Item → Type 0
IsOther nulls i = (is_null i ≡ false) × (is_null (item_of (written_tree i)) ≡ false)
IsOther byte_strings i = short_bytes (written_tree i) ≡ None

-- so is the item that is named, if there is one
abbrev pub IsNever : Avoided → Named → Type 0
IsNever a r = (i : Item) → r ≡ Ok i → IsOther a i

-- ---- items that are neither

abbrev IsNotNull : Item → Type 0
IsNotNull i = is_null i ≡ false

abbrev IsNoBytes : Item → Type 0
IsNoBytes i = short_bytes (written_tree i) ≡ None

never-item : (a : Avoided) (i : Item) → IsDefinite i → IsNotNull i → IsNoBytes i → IsNever a (named i)
never-item nulls i same h k = of_ok (named i) (IsOther nulls) (h, ap is_null same ∙ h)
never-item byte_strings i same h k = of_ok (named i) IsNoBytes k

pub never-boolean : (a : Avoided) (b : Bool) → IsNever a (named (boolean_item b))
never-boolean a false = never-item a (items.simple 20) refl refl refl
never-boolean a true = never-item a (items.simple 21) refl refl refl

pub never-text : (a : Avoided) (b : List ℕ) → IsNever a (named (items.text false b))
never-text a b = never-item a (items.text false b) refl refl refl

either : (P : Item → Type 0) (t : Bool) (i j : Item) → P i → P j → P (if t then i else j)
either P true i j h k = h
either P false i j h k = k

number-holds : (P : Item → Type 0) → ((n : ℕ) → P (items.unsigned n)) →
    ((n : ℕ) → P (items.negative n)) → ((t n : ℕ) → P (bignum_item t n)) → (z : ℤ) → P (number_item z)
number-holds P u m b (pos n) = either P (nat_lt n (2 ^ 64)) (items.unsigned n) (bignum_item 2 n) (u n) (b 2 n)
number-holds P u m b (negsuc n) = either P (nat_lt n (2 ^ 64)) (items.negative n) (bignum_item 3 n) (m n) (b 3 n)

pub never-number : (a : Avoided) (z : ℤ) → IsNever a (named (number_item z))
never-number a z = never-item a (number_item z) (definite-number z)
    (number-holds IsNotNull (λ n. refl) (λ n. refl) (λ t n. refl) z)
    (number-holds IsNoBytes (λ n. refl) (λ n. refl) (λ t n. refl) z)

contained-other : (a : Avoided) (s : _) (r : Result (List Item) Kind) → IfOk (contained s false r) (IsOther a)
contained-other nulls an_array (Ok is) = (refl, refl)
contained-other nulls a_map (Ok is) = (refl, refl)
contained-other byte_strings an_array (Ok is) = refl
contained-other byte_strings a_map (Ok is) = refl
contained-other a s (Err k) = tt

pub never-container : (a : Avoided) (s : ContainerType) (parts : List Named) → IsNever a (container_of s parts)
never-container a s parts = of_ok (container_of s parts) (IsOther a) (contained-other a s (all_named parts))

-- ---- items that are one of them

pub never-bytes : (b : List ℕ) → IsNever nulls (named (items.bytes false b))
never-bytes b = of_ok (named (items.bytes false b)) (IsOther nulls) (refl, refl)

pub never-null : IsNever byte_strings (named (items.simple 22))
never-null = of_ok (named (items.simple 22)) IsNoBytes refl

pub never-option : {T : Type 0} {written : T → Named} →
    ((v : T) → IsNever byte_strings (written v)) → (m : Option T) → IsNever byte_strings (or_null written m)
never-option h None = never-null
never-option h (Some v) = h v
