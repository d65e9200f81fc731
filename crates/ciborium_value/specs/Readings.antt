-- How types are read: what counts of a value, what an item gives, and what reading takes.
use Rattle.std.specs.Prelude.{ℕ, ℤ, pos, negsuc, ◌<◌, Bool, true, false, List, map, Option, Some, None}
use Rattle.std.specs.{Ordering.{nat_cmp, int_cmp, ordering_then}, Cmp.Lexicographic.slice_cmp, Option.option_cmp}
use Rattle.std.specs.{Option.option_map, declared.cmp.Ordering.Ordering, declared.cmp.Ordering.TheVariants.Equal}
use Rattle.ciborium_ll.specs.{Item.Item, declared.kind.Kind.Kind}
use Rattle.ciborium_value.specs.Given.{Steps, Given, chosen, give, number_below, number_within, refuse, given_integer}
use Rattle.ciborium_value.specs.{Given.given_value, GivenParts.{after_seq, no_part_given, part_given, given_list}}
use Rattle.ciborium_value.specs.{GivenParts.{given_made, given_map, given_option, given_then}, Order.tree_cmp}
use Rattle.ciborium_value.specs.Tree.{Tree}

-- how values of the type T are read, of which C is what counts: capacities do not
pub record Reading (T C : Type 0) : Type 1 where
  pub content : T → C
  -- what is taken from an item
  pub taken : Given C
  -- how contents compare, where the type is a key of maps
  pub order : C → C → Ordering
  -- whether reading takes memory
  pub needs_memory : Bool
  -- where reading is one call of `value`, the tree that it answered
  pub whole : Option (C → Tree)

-- ---- readings made of others, by what counts of a value

-- where all contents count as one key
abbrev pub unordered : {C : Type 0} → C → C → Ordering
unordered x y = Equal

-- what is read by one call that takes no memory
abbrev pub plain : {T C : Type 0} → (T → C) → (C → C → Ordering) → Given C → Reading T C
plain content order taken = record {
  content = content;
  taken = taken;
  order = order;
  needs_memory = false;
  whole = None;
}

-- what is read by one call that may take memory
abbrev pub spacious : {T C : Type 0} → (T → C) → (C → C → Ordering) → Given C → Reading T C
spacious content order taken = record {
  content = content;
  taken = taken;
  order = order;
  needs_memory = true;
  whole = None;
}

-- what another type reads, looked at once more: it gives a content or is refused
abbrev pub checked : {T U A C : Type 0} → (T → C) → (C → C → Ordering) → Reading U A → (A → Steps C) → Reading T C
checked content order r f = record {
  content = content;
  taken = given_then r.taken f;
  order = order;
  needs_memory = r.needs_memory;
  whole = None;
}

-- what another type reads, where this test holds of it, else refused with the kind
abbrev pub such_that : {T U A : Type 0} → (T → A) → Reading U A → (A → Bool) → Kind → Reading T A
such_that content r test kind = checked content r.order r (λ v. chosen (test v) (give v) (refuse kind))

-- as another type, which is this part of it
abbrev pub read_as : {T U C : Type 0} → (T → U) → Reading U C → Reading T C
read_as part r = record {
  content = λ v. r.content (part v);
  taken = r.taken;
  order = r.order;
  needs_memory = r.needs_memory;
  whole = r.whole;
}

-- the same, where contents compare so: for a type that is a key of maps
abbrev pub ordered_by : {T C : Type 0} → (C → C → Ordering) → Reading T C → Reading T C
ordered_by order r = record {
  content = r.content;
  taken = r.taken;
  order = order;
  needs_memory = r.needs_memory;
  whole = r.whole;
}

-- ---- numbers

-- a number of either sign, of any size
abbrev pub any_number : Reading (Bool × ℕ) (Bool × ℕ)
any_number = plain (λ n. n) unordered given_integer

-- a number from 0 on, below the bound
abbrev pub below : ℕ → Reading ℕ ℕ
below bound = checked (λ n. n) nat_cmp any_number (number_below bound)

-- n or -1 - n, for n below the bound
abbrev pub bounded : ℕ → Reading ℤ ℤ
bounded bound = checked (λ n. n) int_cmp any_number (number_within bound)

-- such a number
abbrev pub IsBounded : ℕ → ℤ → Type 0
IsBounded bound (pos n) = n < bound
IsBounded bound (negsuc n) = n < bound

-- ---- options and lists

-- nothing, or what the content is read from
abbrev pub option_of : {T C : Type 0} → Reading T C → Reading (Option T) (Option C)
option_of r = record {
  content = option_map r.content;
  taken = given_option r.taken;
  order = option_cmp r.order;
  needs_memory = r.needs_memory;
  whole = None;
}

-- a list by its items
abbrev pub list_of : {L T C : Type 0} → (L → List T) → Reading T C → Reading L (List C)
list_of items r = spacious (λ v. map r.content (items v)) (slice_cmp r.order) (given_list r.taken)

-- ---- parts in a row

-- parts that are read one after another, onto a C
abbrev pub ItemsGiven : Type 0 → Type 1
ItemsGiven C = List Item → Steps C

-- no part more
abbrev pub no_part : ItemsGiven (Unit {0})
no_part = no_part_given

-- a part, and those after it; where it is missing the array is refused as Length
abbrev pub part : {T A C : Type 0} → Reading T A → ItemsGiven C → ItemsGiven (A × C)
part r behind = part_given r.taken behind

-- an array of these parts; what stands after them is read as values, and dropped
abbrev pub array_of : {T C : Type 0} → (T → C) → ItemsGiven C → Reading T C
array_of content parts = spacious content unordered (after_seq parts)

-- the same, of which a tuple is made
abbrev tuple_of : {T C D : Type 0} → (T → D) → (D → D → Ordering) → (C → D) → ItemsGiven C → Reading T D
tuple_of content order make parts = spacious content order (given_made make parts)

abbrev pub tuple1_of : {T A C : Type 0} → (T → A) → Reading A C → Reading T C
tuple1_of alone a = tuple_of (λ t. a.content (alone t)) a.order (λ p. p.0) (part a no_part)

abbrev pub tuple2_of : {A B C D : Type 0} → Reading A C → Reading B D → Reading (A × B) (C × D)
tuple2_of a b = tuple_of (λ t. (a.content t.0, b.content t.1))
    (λ x y. ordering_then (a.order x.0 y.0) (b.order x.1 y.1)) (λ p. (p.0, p.1.0)) (part a (part b no_part))

abbrev pub tuple3_of : {A B C D E F : Type 0} → Reading A D → Reading B E → Reading C F →
    Reading (A × B × C) (D × E × F)
tuple3_of a b c = tuple_of (λ t. (a.content t.0, b.content t.1, c.content t.2))
    (λ x y. ordering_then (ordering_then (a.order x.0 y.0) (b.order x.1 y.1)) (c.order x.2 y.2))
    (λ p. (p.0, p.1.0, p.1.1.0)) (part a (part b (part c no_part)))

abbrev pub tuple4_of : {A B C D E F G H : Type 0} → Reading A E → Reading B F → Reading C G →
    Reading D H → Reading (A × B × C × D) (E × F × G × H)
tuple4_of a b c d = tuple_of (λ t. (a.content t.0, b.content t.1, c.content t.2, d.content t.3))
    (λ x y. ordering_then (ordering_then (ordering_then (a.order x.0 y.0) (b.order x.1 y.1))
    (c.order x.2 y.2)) (d.order x.3 y.3)) (λ p. (p.0, p.1.0, p.1.1.0, p.1.1.1.0))
    (part a (part b (part c (part d no_part))))

-- ---- maps

-- a map by its entries, which compare by their keys and then by their values
abbrev pub map_by : {M K V C D : Type 0} → Bool → (M → List (K × V)) → Reading K C →
    Reading V D → Reading M (List (C × D))
map_by once entries k v = spacious (λ m. map (λ e. (k.content e.0, v.content e.1)) (entries m))
    (slice_cmp (λ x y. ordering_then (k.order x.0 y.0) (v.order x.1 y.1))) (given_map once k.order k.taken v.taken)

-- of equal keys the last one counts
abbrev pub map_of : {M K V C D : Type 0} → (M → List (K × V)) → Reading K C → Reading V D → Reading M (List (C × D))
map_of entries k v = map_by false entries k v

-- equal keys are refused
abbrev pub unique_map_of : {M K V C D : Type 0} → (M → List (K × V)) → Reading K C →
    Reading V D → Reading M (List (C × D))
unique_map_of entries k v = map_by true entries k v

-- ---- whatever is ahead

-- what one call of `value` reads, by its tree; trees compare so
abbrev pub whole_by : {T : Type 0} → (Tree → Tree → Ordering) → (T → Tree) → Reading T Tree
whole_by order tree = record {
  content = tree;
  taken = given_value;
  order = order;
  needs_memory = true;
  whole = Some (λ v. v);
}

-- the same, in the derived order
abbrev pub whole_of : {T : Type 0} → (T → Tree) → Reading T Tree
whole_of tree = whole_by tree_cmp tree
