-- Outcomes that give a value: what they are made of.
use Rattle.std.proofs.Common.{◌≡◌, List, ◌∷◌, Option, Some, None, refl, ap}
use Rattle.ciborium_value.specs.{DeterministicForms.{one_more, one_pair_more}, Given.{Outcome, gives, refuses}}
use Rattle.ciborium_value.specs.{Given.{then_take, outcome_map, of_meaning}, Tree.{Tree, Trees, tree, TreePairs}}
use Rattle.ciborium_value.specs.Tree.{tree_pair}
use Rattle.ciborium_ll.specs.declared.kind.Kind.{Kind}

-- one before others
abbrev pub and_take : {A : Type 0} → Outcome A → Outcome (List A) → Outcome (List A)
and_take o os = then_take o (λ v. outcome_map (λ vs. v ∷ vs) os)

-- a tree before others, and a pair before others
abbrev pub tree_first : Outcome Tree → Outcome Trees → Outcome Trees
tree_first o os = then_take o (λ v. outcome_map (tree v) os)

abbrev pub pair_first : Outcome Tree → Outcome Tree → Outcome TreePairs → Outcome TreePairs
pair_first k v os = then_take k (λ x. then_take v (λ y. outcome_map (tree_pair x y) os))

pub one_given : {A : Type 0} (x y : A) → gives x ≡ gives y → x ≡ y
one_given x y e = cc

pub refused_or_given : {A : Type 0} (j : Kind) (y : A) → refuses j ≡ gives y → ⊥
refused_or_given j y e = cc

pub mapped_gives : {A B : Type 0} (f : A → B) (r : Outcome A) (y : B) → outcome_map f r ≡ gives y →
    (x : A) × (r ≡ gives x) × (f x ≡ y)
mapped_gives f (gives x) y e = (x, refl, one_given (f x) y e)
mapped_gives f u y e = absurd cc

pub then_gives : {A B : Type 0} (r : Outcome A) (f : A → Outcome B) (y : B) →
    then_take r f ≡ gives y → (x : A) × (r ≡ gives x) × (f x ≡ gives y)
then_gives (gives x) f y e = (x, refl, e)
then_gives u f y e = absurd cc

pub more_gives : (r : Outcome Tree) (s : Outcome Trees) (y : Trees) → one_more r s ≡ gives y →
    (v : Tree) × (vs : Trees) × (r ≡ gives v) × (s ≡ gives vs) × (tree v vs ≡ y)
more_gives (gives v) s y e = let (vs, is, given) = mapped_gives (tree v) s y e in
    (v, vs, refl, is, given)
more_gives u s y e = absurd cc

pub pair_gives : (q r : Outcome Tree) (s : Outcome TreePairs) (y : TreePairs) → one_pair_more q r s ≡ gives y →
    (k : Tree) × (v : Tree) × (ps : TreePairs) × (q ≡ gives k) × (r ≡ gives v) × (s ≡ gives ps) × (tree_pair k v ps ≡ y)
pair_gives (gives k) (gives v) s y e = let (ps, is, given) = mapped_gives (tree_pair k v) s y e in
    (k, v, ps, refl, refl, is, given)
pair_gives u v s y e = absurd cc

-- a meaning that gives a value is there
pub meaning_given : {A : Type 0} (j : Kind) (m : Option A) (y : A) → of_meaning j m ≡ gives y → m ≡ Some y
meaning_given j (Some x) y e = ap Some (one_given x y e)
meaning_given j None y e = absurd cc
