-- What the calls of a source take from an item: a value, or a refusal of a kind; or within a limit
-- nesting, where no level is left.
use Rattle.std.specs.{Option.ok_or, Prelude.{ℕ, zero, suc, ℤ, pos, negsuc, Bool, true, false, List, [], ◌∷◌, length}}
use Rattle.std.specs.Prelude.{map, chars, Option, Some, None, if◌then◌else◌, ◌||◌, ◌==◌, nat_le, nat_lt, Result, Ok}
use Rattle.std.specs.{Prelude.Err, Int.complement_if, Str.is_utf8}
use Rattle.ciborium_ll.specs.Item.{Item, Items, Pairs, unsigned, negative, bytes, text, array, tag, simple, float}
use Rattle.ciborium_value.specs.Meaning.{big_endian, without_zeros, is_bignum_tag, folding_bytes, bignum_meaning}
use Rattle.ciborium_value.specs.{Meaning.simple_meaning, Nesting.{Limit, nesting}, Tree.{Tree, Trees, TreePairs}}
use Rattle.ciborium_ll.specs.declared.kind.Kind.{Kind}
use Rattle.ciborium_ll.specs.Item as items
use Rattle.ciborium_value.specs.Tree as trees
use Rattle.ciborium_ll.specs.declared.kind.Kind.TheVariants as kinds

-- what reading an item gives within a limit
pub data Outcome (A : Type 0) : Type 0 where
  gives : A → Outcome A
  refuses : Kind → Outcome A
  nests : Outcome A

-- how an item is read, step by step: a limit has a say only where a level is taken
pub data Steps : Type 0 → Type 1 where
  -- a value, or a refusal of a kind
  decided : {A : Type 0} → Result A Kind → Steps A
  -- these inside a level, which has to be left
  leveled : {A : Type 0} → Steps A → Steps A
  -- what is made of the value of these
  mapped : {A B : Type 0} → (A → B) → Steps A → Steps B
  -- the first where the test is true, else the second
  chosen : {A : Type 0} → Bool → Steps A → Steps A → Steps A
  -- one after the other
  then_read : {A B : Type 0} → Steps A → (A → Steps B) → Steps B
  -- the others inside the level that the first took, where the test of its value is true
  then_inside : {A B : Type 0} → (A → Bool) → Steps A → (A → Steps B) → Steps B

-- what reading an item gives
abbrev pub Given : Type 0 → Type 1
Given A = Item → Steps A

abbrev pub give : {A : Type 0} → A → Steps A
give v = decided (Ok v)

abbrev pub refuse : {A : Type 0} → Kind → Steps A
refuse k = decided (Err k)

-- each part in turn; the first that does not give a value decides
abbrev pub take_each : {X A : Type 0} → (X → Steps A) → List X → Steps (List A)
take_each f [] = give []
take_each f (x ∷ xs) = then_read (f x) (λ v. mapped (λ vs. v ∷ vs) (take_each f xs))

-- these inside so many levels, all of which have to be left
abbrev pub within_levels : {A : Type 0} → ℕ → Steps A → Steps A
within_levels zero s = s
within_levels (suc n) s = leveled (within_levels n s)

-- ---- outcomes within a limit

abbrev pub settled : {A : Type 0} → Result A Kind → Outcome A
settled (Ok v) = gives v
settled (Err k) = refuses k

abbrev pub then_take : {A B : Type 0} → Outcome A → (A → Outcome B) → Outcome B
then_take (gives v) f = f v
then_take (refuses k) f = refuses k
then_take nests f = nests

abbrev pub outcome_map : {A B : Type 0} → (A → B) → Outcome A → Outcome B
outcome_map f (gives v) = gives (f v)
outcome_map f (refuses k) = refuses k
outcome_map f nests = nests

-- what there is, else a refusal of the kind
abbrev pub of_meaning : {A : Type 0} → Kind → Option A → Outcome A
of_meaning k o = settled (ok_or o k)

-- a container is entered where a level is left
abbrev pub within_level : {A : Type 0} → Limit → Outcome A → Outcome A
within_level None o = o
within_level (Some zero) o = nests
within_level (Some (suc n)) o = o

-- the levels left inside it
abbrev pub deeper : Limit → Limit
deeper None = None
deeper (Some zero) = Some zero
deeper (Some (suc n)) = Some n

-- those left inside what takes a level or none
abbrev pub deeper_if : Bool → Limit → Limit
deeper_if true l = deeper l
deeper_if false l = l

-- what steps give within a limit, which decides nothing but nesting
abbrev pub outcome : {A : Type 0} → Limit → Steps A → Outcome A
outcome l (decided r) = settled r
outcome l (leveled s) = within_level l (outcome (deeper l) s)
outcome l (mapped f s) = outcome_map f (outcome l s)
outcome l (chosen b s t) = if b then outcome l s else outcome l t
outcome l (then_read s f) = then_take (outcome l s) (λ v. outcome l (f v))
outcome l (then_inside test s f) = then_take (outcome l s) (λ v. outcome (deeper_if (test v) l) (f v))

-- ---- an item without its leading tags

abbrev pub untagged : Item → Item
untagged (unsigned n) = unsigned n
untagged (negative n) = negative n
untagged (bytes open_ b) = bytes open_ b
untagged (text open_ b) = text open_ b
untagged (array open_ is) = array open_ is
untagged (items.map open_ ps) = items.map open_ ps
untagged (tag t i) = untagged i
untagged (simple n) = simple n
untagged (float raw) = float raw

-- ---- numbers

-- the number of a byte string under tag 2 or 3: at most 16 bytes behind the leading zeros (RFC
-- 8949, section 3.4.3)
abbrev pub magnitude : List ℕ → Result ℕ Kind
magnitude b = if nat_le (length (without_zeros b)) 16 then Ok (big_endian b) else Err kinds.TooLarge

-- the same of an item, which must be a byte string, definite or open
abbrev pub bignum_of : Item → Result ℕ Kind
bignum_of (bytes open_ b) = magnitude b
bignum_of _ = Err kinds.Bytes

abbrev pub given_bignum : Given ℕ
given_bignum i = decided (bignum_of i)

abbrev pub with_sign : Bool → Result ℕ Kind → Result (Bool × ℕ) Kind
with_sign s (Ok n) = Ok (s, n)
with_sign s (Err k) = Err k

-- tags 2 and 3 make a bignum, others are skipped
abbrev pub number_under : ℕ → Item → Result (Bool × ℕ) Kind → Result (Bool × ℕ) Kind
number_under t i r = if is_bignum_tag t then with_sign (t == 3) (bignum_of i) else r

-- the number of an item, n as (false, n) and -1 - n as (true, n) (sections 3.1 and 3.4.3)
abbrev pub number_of : Item → Result (Bool × ℕ) Kind
number_of (unsigned n) = Ok (false, n)
number_of (negative n) = Ok (true, n)
number_of (tag t i) = number_under t i (number_of i)
number_of _ = Err kinds.Integer

abbrev pub given_integer : Given (Bool × ℕ)
given_integer i = decided (number_of i)

-- a number from 0 on that is below the bound
abbrev pub number_below : ℕ → Bool × ℕ → Steps ℕ
number_below bound (true, n) = refuse kinds.Range
number_below bound (false, n) = chosen (nat_lt n bound) (give n) (refuse kinds.Range)

-- a number n or -1 - n, where n is below the bound
abbrev pub number_within : ℕ → Bool × ℕ → Steps ℤ
number_within bound p = chosen (nat_lt p.1 bound) (give (complement_if p.0 p.1)) (refuse kinds.Range)

-- ---- booleans, null, characters

abbrev pub boolean_of : ℕ → Result Bool Kind
boolean_of n = if n == 20 then Ok false else if n == 21 then Ok true else Err kinds.Bool

abbrev pub bare_boolean : Item → Result Bool Kind
bare_boolean (simple n) = boolean_of n
bare_boolean _ = Err kinds.Bool

abbrev pub given_boolean : Given Bool
given_boolean i = decided (bare_boolean (untagged i))

-- null and undefined (section 3.3)
abbrev pub is_null_simple : ℕ → Bool
is_null_simple n = (n == 22) || (n == 23)

abbrev pub unit_of : ℕ → Result (Unit {0}) Kind
unit_of n = if is_null_simple n then Ok tt else Err kinds.Unit

abbrev pub bare_unit : Item → Result (Unit {0}) Kind
bare_unit (simple n) = unit_of n
bare_unit _ = Err kinds.Unit

abbrev pub given_unit : Given (Unit {0})
given_unit i = decided (bare_unit (untagged i))

-- null or undefined, under no tag
abbrev pub is_null : Item → Bool
is_null (simple n) = is_null_simple n
is_null _ = false

-- the one character of a text
abbrev pub lone_character : List ℕ → Result ℕ Kind
lone_character [] = Err kinds.Char
lone_character (c ∷ []) = Ok c
lone_character (c ∷ d ∷ cs) = Err kinds.Char

abbrev pub definite_character : Bool → List ℕ → Result ℕ Kind
definite_character false b = lone_character (chars b)
definite_character true b = Err kinds.Char

abbrev pub bare_character : Item → Result ℕ Kind
bare_character (text open_ b) = definite_character open_ b
bare_character _ = Err kinds.Char

abbrev pub given_character : Given ℕ
given_character i = decided (bare_character (untagged i))

-- ---- strings

abbrev pub bare_text : Item → Result (List ℕ) Kind
bare_text (text open_ b) = Ok b
bare_text _ = Err kinds.Text

-- a text, definite or open, by the bytes of its UTF-8
abbrev pub given_text : Given (List ℕ)
given_text i = decided (bare_text (untagged i))

abbrev pub unpack : Items → List Item
unpack items.no_items = []
unpack (items.item i is) = i ∷ unpack is

-- a number from 0 to 255
abbrev pub given_byte : Given ℕ
given_byte i = then_read (given_integer i) (number_below 256)

abbrev pub bare_bytes : Given (List ℕ)
bare_bytes (bytes open_ b) = give b
bare_bytes (array open_ is) = leveled (take_each given_byte (unpack is))
bare_bytes _ = refuse kinds.Bytes

-- a byte string, definite or open; or, with a level, an array of numbers from 0 to 255
abbrev pub given_bytes : Given (List ℕ)
given_bytes i = bare_bytes (untagged i)

-- ---- containers

abbrev pub bare_seq : Given (Bool × List Item)
bare_seq (bytes open_ b) = give (false, map unsigned b)
bare_seq (array open_ is) = leveled (give (true, unpack is))
bare_seq _ = refuse kinds.Array

-- the items of an array, with a level, or the bytes of a byte string, without one; and whether they
-- took a level
abbrev pub given_seq : Given (Bool × List Item)
given_seq i = bare_seq (untagged i)

abbrev pub unpack_pairs : Pairs → List (Item × Item)
unpack_pairs items.no_pairs = []
unpack_pairs (items.pair k v ps) = (k, v) ∷ unpack_pairs ps

abbrev pub bare_pairs : Given (Bool × List (Item × Item))
bare_pairs (items.map open_ ps) = leveled (give (true, unpack_pairs ps))
bare_pairs _ = refuse kinds.Map

-- the pairs of a map, which took a level
abbrev pub given_pairs : Given (Bool × List (Item × Item))
given_pairs i = bare_pairs (untagged i)

-- what is read of the parts of a container, inside the level that it took
abbrev pub read_inside : {X A : Type 0} → Given (Bool × X) → (X → Steps A) → Given A
read_inside entered f i = then_inside (λ p. p.0) (entered i) (λ p. f p.1)

-- ---- names, tags and variants

abbrev pub bare_name : Item → Result (List ℕ) Kind
bare_name (bytes open_ b) = if is_utf8 b then Ok b else Err kinds.Name
bare_name (text open_ b) = Ok b
bare_name _ = Err kinds.Name

-- a text, or a byte string that is UTF-8 once its parts are joined, by its bytes
abbrev pub given_name : Given (List ℕ)
given_name i = decided (bare_name (untagged i))

-- the place of such a name
abbrev pub given_place : {P : Type 0} → (List ℕ → P) → Given P
given_place place i = mapped place (given_name i)

-- the outermost tag, if there is one, and what it stands before (section 3.4)
abbrev pub outer_tag : Item → Option ℕ × Item
outer_tag (unsigned n) = (None, unsigned n)
outer_tag (negative n) = (None, negative n)
outer_tag (bytes open_ b) = (None, bytes open_ b)
outer_tag (text open_ b) = (None, text open_ b)
outer_tag (array open_ is) = (None, array open_ is)
outer_tag (items.map open_ ps) = (None, items.map open_ ps)
outer_tag (tag t i) = (Some t, i)
outer_tag (simple n) = (None, simple n)
outer_tag (float raw) = (None, float raw)

-- the same, with a level, tag or none
abbrev pub given_outer_tag : Given (Option ℕ × Item)
given_outer_tag i = leveled (give (outer_tag i))

-- one pair: its key as a name, with a level, and its value
abbrev pub lone_pair : Pairs → Steps (List ℕ × Item)
lone_pair items.no_pairs = refuse kinds.Variant
lone_pair (items.pair k v items.no_pairs) = leveled (mapped (λ name. (name, v)) (given_name k))
lone_pair (items.pair k v (items.pair k' v' ps)) = refuse kinds.Variant

abbrev pub definite_pair : Bool → Pairs → Steps (List ℕ × Item)
definite_pair false ps = lone_pair ps
definite_pair true ps = refuse kinds.Variant

abbrev pub bare_variant : Given (List ℕ × Item)
bare_variant (text open_ b) = leveled (give (b, simple 22))
bare_variant (items.map open_ ps) = definite_pair open_ ps
bare_variant _ = refuse kinds.Variant

-- a text, which names a variant and stands for null as its data; or a definite map of one pair, a
-- name and the data
abbrev pub given_variant : Given (List ℕ × Item)
given_variant i = bare_variant (untagged i)

-- ---- whatever is ahead

-- an item of any kind, whether it has a meaning or not, where it nests within the levels
abbrev pub given_skip : Given (Unit {0})
given_skip i = within_levels (nesting i) (give tt)

-- ---- whatever is ahead, as a tree

-- a tag: a number over the bytes on which it folds, else with a level the tag over what its item
-- gives
abbrev pub given_tag : ℕ → Option (List ℕ) → Steps Tree → Steps Tree
given_tag t (Some b) s = decided (ok_or (bignum_meaning t b) kinds.TooLarge)
given_tag t None s = leveled (mapped (trees.tag t) s)

abbrev mutual
  -- the meaning of an item within the levels, or in order the first reason why it has none
  pub given_value : Item → Steps Tree
  given_value (items.unsigned n) = give (trees.integer (pos n))
  given_value (items.negative n) = give (trees.integer (negsuc n))
  given_value (items.bytes open_ b) = give (trees.bytes b)
  given_value (items.text open_ b) = give (trees.text b)
  given_value (items.array open_ is) = leveled (mapped trees.array (given_items is))
  given_value (items.map open_ ps) = leveled (mapped trees.map (given_tree_pairs ps))
  given_value (items.tag t i) = given_tag t (folding_bytes t i) (given_value i)
  given_value (items.simple n) = decided (ok_or (simple_meaning n) kinds.Simple)
  given_value (items.float raw) = refuse kinds.Float

  pub given_items : Items → Steps Trees
  given_items items.no_items = give trees.no_trees
  given_items (items.item i is) = then_read (given_value i) (λ v. mapped (trees.tree v) (given_items is))

  pub given_tree_pairs : Pairs → Steps TreePairs
  given_tree_pairs items.no_pairs = give trees.no_tree_pairs
  given_tree_pairs (items.pair k v ps) = then_read (given_value k) (λ x. then_read (given_value v)
      (λ y. mapped (trees.tree_pair x y) (given_tree_pairs ps)))
