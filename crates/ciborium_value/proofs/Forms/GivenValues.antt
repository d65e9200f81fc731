-- Outcomes by the value that they give, if they give one: why there is none does not count.
use Rattle.std.{proofs.Common.{◌≡◌, Option, Some, None, refl, ap, option_map}, specs.Option.option_and_then}
use Rattle.ciborium_value.specs.{DeterministicForms.one_more, Given.{Outcome, gives, refuses, nests, then_take}}
use Rattle.ciborium_value.specs.{Given.outcome_map, Meaning.trees_more, Tree.{Tree, Trees}}

-- the value of an outcome that gives one
abbrev pub given : {A : Type 0} → Outcome A → Option A
given (gives x) = Some x
given (refuses j) = None
given nests = None

-- an outcome with a value gives it
pub gives_given : {A : Type 0} (r : Outcome A) (x : A) → given r ≡ Some x → r ≡ gives x
gives_given (gives y) x e = let same : y ≡ x = cc in ap gives same
gives_given u x e = absurd cc

-- the value of a mapping is the mapping of the value
pub given-map : {A B : Type 0} (f : A → B) (r : Outcome A) → given (outcome_map f r) ≡ option_map f (given r)
given-map f (gives x) = refl
given-map f (refuses j) = refl
given-map f nests = refl

-- the value of one outcome after another
pub given-then : {A B : Type 0} (r : Outcome A) (f : A → Outcome B) →
    given (then_take r f) ≡ option_and_then (λ x. given (f x)) (given r)
given-then (gives x) f = refl
given-then (refuses j) f = refl
given-then nests f = refl

-- the value of a tree before others
pub given-more : (r : Outcome Tree) (s : Outcome Trees) → given (one_more r s) ≡ trees_more (given r) (given s)
given-more (gives v) (gives vs) = refl
given-more (gives v) (refuses j) = refl
given-more (gives v) nests = refl
given-more (refuses j) s = refl
given-more nests s = refl
