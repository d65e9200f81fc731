-- How a type is read under a tag (RFC 8949, section 3.4), which takes a level, tag or none.
use Rattle.std.specs.{Prelude.{ℕ, Bool, true, false, Option, Some, None, ◌==◌}, Ordering.{nat_cmp, ordering_then}}
use Rattle.std.specs.Option.{option_cmp}
use Rattle.ciborium_value.specs.{Readings.{Reading, checked}, Given.{Steps, Given, chosen, give, mapped, refuse}}
use Rattle.ciborium_value.specs.Given.{given_outer_tag, then_inside}
use Rattle.ciborium_ll.specs.declared.kind.Kind.TheVariants as kinds

-- the outermost tag, if there is one, and what is taken from the item under it
abbrev pub given_with_tag : {A : Type 0} → Given A → Given (Option ℕ × A)
given_with_tag taken i = then_inside (λ p. true) (given_outer_tag i) (λ p. mapped (λ v. (p.0, v)) (taken p.1))

-- a value with the tag around it, if there is one
abbrev pub with_tag : {T V C : Type 0} → (T → Option ℕ) → (T → V) → Reading V C → Reading T (Option ℕ × C)
with_tag tag value r = record {
  content = λ t. (tag t, r.content (value t));
  taken = given_with_tag r.taken;
  order = λ x y. ordering_then (option_cmp nat_cmp x.0 y.0) (r.order x.1 y.1);
  needs_memory = r.needs_memory;
  whole = None;
}

-- whether it is this tag
abbrev pub is_tag : ℕ → Option ℕ → Bool
is_tag t None = false
is_tag t (Some u) = u == t

-- whether it is this tag or none
abbrev pub is_no_other_tag : ℕ → Option ℕ → Bool
is_no_other_tag t None = true
is_no_other_tag t (Some u) = u == t

-- the value under a tag, or none, for which the test holds; another one is refused
abbrev pub if_tag : {C : Type 0} → (Option ℕ → Bool) → Option ℕ × C → Steps C
if_tag test p = chosen (test p.0) (give p.1) (refuse kinds.Tag)

-- a value whose tag is tested; what its content refuses comes first
abbrev pub tag_tested : {T V C : Type 0} → (Option ℕ → Bool) → (T → V) → Reading V C → Reading T C
tag_tested {V = V} test value r = checked (λ x. r.content (value x)) r.order
    (with_tag {T = Option ℕ × V} (λ p. p.0) (λ p. p.1) r) (if_tag test)

-- a value that must stand under this tag
abbrev pub tag_required : {T V C : Type 0} → ℕ → (T → V) → Reading V C → Reading T C
tag_required t value r = tag_tested (is_tag t) value r

-- a value that may stand under this tag
abbrev pub tag_accepted : {T V C : Type 0} → ℕ → (T → V) → Reading V C → Reading T C
tag_accepted t value r = tag_tested (is_no_other_tag t) value r
