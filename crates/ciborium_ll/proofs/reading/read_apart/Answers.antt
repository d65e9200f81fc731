use Rattle.std.proofs.Common.{◌≡◌, ℕ, List, Option, rules, subst}
use Rattle.ciborium_ll.{proofs.Advancing.head-behind, specs.ReaderSteps.Advances}
use Rattle.ciborium_ll.proofs.reading.read_apart.Goals as goal

ends-at : (a b c : Option (List ℕ)) (p q r : ℕ) (P : List ℕ → Type 0) → b ≡ c → q ≡ r → Advances a b p q P →
    Advances a c p r P
ends-at a b c p q r P left count h = subst (λ k. Advances a c p k P) count (subst (λ o. Advances a o p q P) left h)

pub returns-clause-head : goal.returns-clause-head
returns-clause-head g c =
    ends-at _ _ _ _ _ _ _ (search rules) (search rules) (head-behind _ _ _ _ _ _ _ _ _ c.fill.auto.buffer
    c.in_ok-fill.ensures.taken c.read_behind.ensures.head)
