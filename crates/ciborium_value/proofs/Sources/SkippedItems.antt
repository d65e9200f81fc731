-- What passing over an item gives: nothing, where the item nests within the levels.
use Rattle.std.proofs.Common.{◌≡◌, ℕ, zero, suc, ◌<◌, Some, None, refl, ap, arith}
use Rattle.ciborium_ll.specs.Item.{Item}
use Rattle.ciborium_value.specs.{Labels.{Label, label_type, label_place, other}, Nesting.{Limit, IsWithin, nesting}}
use Rattle.ciborium_value.specs.Given.{gives, nests, outcome, outcome_map, give, within_levels, given_skip}
use Rattle.ciborium_value.specs.declared.labels.LabelType.TheVariants as types

levels-gives : (n : ℕ) (l : Limit) → IsWithin l n → outcome l (within_levels n (give (tt {0}))) ≡ gives (tt {0})
levels-gives zero l h = refl
levels-gives (suc n) None h = levels-gives n None h
levels-gives (suc n) (Some zero) h = absurd (omega (arith, h))
levels-gives (suc n) (Some (suc m)) h = levels-gives n (Some m) (omega (arith, h))

levels-nests : (n m : ℕ) → m < n → outcome (Some m) (within_levels n (give (tt {0}))) ≡ nests
levels-nests zero m h = absurd (omega (arith, h))
levels-nests (suc n) zero h = refl
levels-nests (suc n) (suc m) h = levels-nests n m (omega (arith, h))

pub skip-gives : (l : Limit) (i : Item) → IsWithin l (nesting i) → outcome l (given_skip i) ≡ gives (tt {0})
skip-gives l i h = levels-gives (nesting i) l h

pub skip-nests : (m : ℕ) (i : Item) → m < nesting i → outcome (Some m) (given_skip i) ≡ nests
skip-nests m i h = levels-nests (nesting i) m h

-- a key that is neither a name nor a number
pub other-place : {P : Type 0} (place : Label → P) (l : Limit) (i : Item) → label_type i ≡ types.Other →
    IsWithin l (nesting i) → outcome l (label_place place i) ≡ gives (place other)
other-place place l i is h = rw is (ap (outcome_map (λ _. place other)) (skip-gives l i h))
