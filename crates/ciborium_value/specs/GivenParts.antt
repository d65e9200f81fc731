-- What types that are made of others take from an item.
use Rattle.std.specs.{BTreeMap.{insert_entry, is_at}, Map.lookup, Option.is_some, Prelude.{Bool, List, [], ◌∷◌, Option}}
use Rattle.std.specs.{Prelude.{Some, None, ◌&&◌}, declared.cmp.Ordering.Ordering}
use Rattle.ciborium_ll.specs.Item.{Item}
use Rattle.ciborium_value.specs.Given.{Steps, Given, chosen, give, is_null, mapped, read_inside, refuse, take_each}
use Rattle.ciborium_value.specs.Given.{given_pairs, given_seq, given_value, then_read}
use Rattle.ciborium_ll.specs.declared.kind.Kind.TheVariants as kinds

-- what was taken, looked at once more
abbrev pub given_then : {A B : Type 0} → Given A → (A → Steps B) → Given B
given_then taken f i = then_read (taken i) f

-- null, or what the content takes; no tag is skipped before the null
abbrev pub given_option : {A : Type 0} → Given A → Given (Option A)
given_option taken i = chosen (is_null i) (give None) (mapped Some (taken i))

-- ---- sequences

-- the items of a sequence, read on so
abbrev pub after_seq : {A : Type 0} → (List Item → Steps A) → Given A
after_seq parts = read_inside given_seq parts

-- each item of a sequence
abbrev pub given_list : {A : Type 0} → Given A → Given (List A)
given_list taken = after_seq (take_each taken)

-- ---- items in a row

-- no part more: further items are read as values, and dropped
abbrev pub no_part_given : List Item → Steps (Unit {0})
no_part_given is = then_read (take_each given_value is) (λ _. give tt)

-- a part, which must be there, and the parts after it
abbrev pub part_given : {A B : Type 0} → Given A → (List Item → Steps B) → List Item → Steps (A × B)
part_given taken behind [] = refuse kinds.Length
part_given taken behind (i ∷ is) = then_read (taken i) (λ v. mapped (λ c. (v, c)) (behind is))

-- what is made of the parts of a sequence
abbrev pub given_made : {A B : Type 0} → (A → B) → (List Item → Steps A) → Given B
given_made make parts = given_then (after_seq parts) (λ c. give (make c))

abbrev pub given_tuple1 : {A : Type 0} → Given A → Given A
given_tuple1 a = given_made (λ p. p.0) (part_given a no_part_given)

abbrev pub given_tuple2 : {A B : Type 0} → Given A → Given B → Given (A × B)
given_tuple2 a b = given_made (λ p. (p.0, p.1.0)) (part_given a (part_given b no_part_given))

abbrev pub given_tuple3 : {A B C : Type 0} → Given A → Given B → Given C → Given (A × B × C)
given_tuple3 a b c = given_made (λ p. (p.0, p.1.0, p.1.1.0)) (part_given a (part_given b (part_given c no_part_given)))

abbrev pub given_tuple4 : {A B C D : Type 0} → Given A → Given B → Given C → Given D → Given (A × B × C × D)
given_tuple4 a b c d = given_made (λ p. (p.0, p.1.0, p.1.1.0, p.1.1.1.0))
    (part_given a (part_given b (part_given c (part_given d no_part_given))))

-- ---- maps

-- the pairs of a map, read on so
abbrev pub after_pairs : {A : Type 0} → (List (Item × Item) → Steps A) → Given A
after_pairs parts = read_inside given_pairs parts

abbrev pub take_entry : {A B : Type 0} → Given A → Given B → Item × Item → Steps (A × B)
take_entry f g p = then_read (f p.0) (λ a. then_read (g p.1) (λ b. give (a, b)))

-- the entries with these pairs put in, in turn: a later pair replaces the value at an equal key
abbrev pub put_all : {K V : Type 0} → (K → K → Ordering) → List (K × V) → List (K × V) → List (K × V)
put_all order es [] = es
put_all order es (p ∷ ps) = put_all order (insert_entry order es p.0 p.1) ps

-- an entry has an equal key
abbrev pub has_key : {K V : Type 0} → (K → K → Ordering) → List (K × V) → K → Bool
has_key order es k = is_some (lookup (is_at (order k)) es)

-- the same of pairs that are read, onto these entries; or, where each key occurs but once, an equal
-- key is refused
abbrev pub put_each : {K V : Type 0} → Bool → (K → K → Ordering) → Given K → Given V →
    List (K × V) → List (Item × Item) → Steps (List (K × V))
put_each once order key value es [] = give es
put_each once order key value es (p ∷ ps) = then_read (key p.0) (λ k. chosen
    (once && has_key order es k) (refuse kinds.DuplicateKey) (then_read (value p.1)
    (λ v. put_each once order key value (insert_entry order es k v) ps)))

-- a map, whose entries stand in the keys' order
abbrev pub given_map : {K V : Type 0} → Bool → (K → K → Ordering) → Given K → Given V → Given (List (K × V))
given_map once order key value = after_pairs (put_each once order key value [])
