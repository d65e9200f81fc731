-- What a sequence of few items gives.
use Rattle.std.specs.Prelude.{ℕ, zero, suc, List, [], ◌∷◌}
use Rattle.ciborium_ll.specs.Item.{Item}
use Rattle.ciborium_value.specs.{Given.{Steps, Given, give, mapped, refuse, then_read}, GivenParts.after_seq}
use Rattle.ciborium_ll.specs.declared.kind.Kind.TheVariants as kinds

-- one more, where there is room for it; else a refusal, whatever it is
abbrev pub one_of_few : {A : Type 0} → ℕ → Steps A → (ℕ → Steps (List A)) → Steps (List A)
one_of_few zero s r = refuse kinds.Length
one_of_few (suc n) s r = then_read s (λ v. mapped (λ vs. v ∷ vs) (r n))

-- at most n items, each in turn
abbrev pub few_items : {A : Type 0} → Given A → List Item → ℕ → Steps (List A)
few_items taken [] n = give []
few_items taken (i ∷ is) n = one_of_few n (taken i) (few_items taken is)

abbrev pub given_few : {A : Type 0} → ℕ → Given A → Given (List A)
given_few n taken = after_seq (λ is. few_items taken is n)
