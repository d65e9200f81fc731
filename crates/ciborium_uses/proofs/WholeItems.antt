-- What reading all of some bytes answers, where it answers this value, or refuses for want of memory.
use Rattle.std.proofs.Common.{◌≡◌, ◌⊎◌, inl, inr, Result, Ok, Err}
use Rattle.ciborium.specs.{declared.de.error.Error.Error, declared.de.error.Error.TheVariants.Memory}

pub answered : {E A : Type 0} (u w : A) (r : Result A (Error E)) → r ≡ Ok u → (r ≡ Ok w) ⊎ (r ≡ Err Memory) → u ≡ w
answered u w r is (inl same) = cc
answered u w r is (inr same) = cc

pub refused : {E A : Type 0} (e : Error E) (w : A) (r : Result A (Error E)) → r ≡ Err e →
    (r ≡ Ok w) ⊎ (r ≡ Err Memory) → e ≡ Memory
refused e w r is (inl same) = cc
refused e w r is (inr same) = cc
