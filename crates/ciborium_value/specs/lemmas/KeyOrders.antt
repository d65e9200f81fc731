-- Values that are made of others compare as their contents do.
use Rattle.std.specs.{Prelude.{◌≡◌, List, [], ◌∷◌, Option, Some, None, map, refl}, Cmp.Lexicographic.slice_cmp}
use Rattle.std.specs.{Option.{option_cmp, option_map}, Ordering.ordering_then, declared.cmp.Ordering.Ordering}
use mathlib.Core.Path.{◌∙◌, ap}

pub ordering_then-same : {a b c d : Ordering} → a ≡ c → b ≡ d → ordering_then a b ≡ ordering_then c d
ordering_then-same {a} {b} {c} {d} h k = ap (λ o. ordering_then o b) h ∙ ap (ordering_then c) k

module _ {T C : Type 0} (cmp : T → T → Ordering) (order : C → C → Ordering) (content : T → C)
    (orders : (a b : T) → cmp a b ≡ order (content a) (content b)) where
  pub option_cmp-map : (a b : Option T) → option_cmp cmp a b ≡ option_cmp order
      (option_map content a) (option_map content b)
  option_cmp-map None None = refl
  option_cmp-map None (Some y) = refl
  option_cmp-map (Some x) None = refl
  option_cmp-map (Some x) (Some y) = orders x y

  pub slice_cmp-map : (xs ys : List T) → slice_cmp cmp xs ys ≡ slice_cmp order (map content xs) (map content ys)
  slice_cmp-map [] [] = refl
  slice_cmp-map [] (y ∷ ys) = refl
  slice_cmp-map (x ∷ xs) [] = refl
  slice_cmp-map (x ∷ xs) (y ∷ ys) = ordering_then-same (orders x y) (slice_cmp-map xs ys)
