-- Numbers as labels.
use Rattle.std.proofs.{Common.{ap, sym, ◌==◌}, lemmas.Bool.Decides.{Decides-eqb, Decides-int_eq}}
use Rattle.std.specs.{Bool.{Decides, beq}, Int.complement_if, Ordering.int_eq, Prelude.{◌≡◌, ℕ, pos, negsuc, Bool}}
use Rattle.std.specs.Prelude.{true, false, ◌&&◌, refl}

same_answer : {P Q : Type 0} (a b : Bool) → Decides a P → Decides b Q → (P → Q) → (Q → P) → a ≡ b
same_answer true false d e f g = sym (e.1 (f (d.0 refl)))
same_answer false true d e f g = d.1 (g (e.0 refl))
same_answer u v d e f g = refl

-- numbers are equal where both their parts are
pub int_eq_parts : (s t : Bool) (m n : ℕ) → int_eq (complement_if s m) (complement_if t n) ≡ (beq s t && (m == n))
int_eq_parts false false m n = same_answer (int_eq (pos m) (pos n)) (m == n)
    (Decides-int_eq (pos m) (pos n)) (Decides-eqb m n) (λ e. cc) (ap pos)
int_eq_parts true true m n = same_answer (int_eq (negsuc m) (negsuc n)) (m == n)
    (Decides-int_eq (negsuc m) (negsuc n)) (Decides-eqb m n) (λ e. cc) (ap negsuc)
int_eq_parts u v m n = refl
