-- What a spelling asks of the head at the front.
use Rattle.std.proofs.Common.{◌≡◌, ℕ, suc, ◌+◌, ◌*◌, ◌%◌, ◌<◌, ◌≤◌, cond, ltb, leb, eqb, Bool, true, false, ◌&&◌, List}
use Rattle.std.proofs.Common.{◌∷◌, ◌++◌, length, Option, Some, None, refl, sym, ap, ◌∙◌, arith, lt-ltb, le-ltb}
use Rattle.std.proofs.{Common.{ltb-false, ne_eqb, inl, inr}, lemmas.Nat.{div-mul-add, mod-mul-add}}
use Rattle.std.proofs.lemmas.Bool.Decides.{nat_tests}
use Rattle.ciborium_ll.proofs.{ShortestHead.no_other_is_as_short, UsableHeads.argument-information}
use Rattle.ciborium_ll.proofs.UsableHeads.{argument_length-information, information-below, pass, and_false}
use Rattle.ciborium_ll.specs.{Head.{IsSimple, information, argument_bytes, shortest_head}, Refusal.argument}
use Rattle.ciborium_ll.specs.{Refusal.{argument_length, HasHead}, declared.kind.Kind.{Kind, TheVariants.NotShortest}}
use Rattle.ciborium_ll.specs.declared.kind.Kind.TheVariants.{Open}
use Rattle.ciborium_value.specs.Spelling.{Spelling, any, deterministic, deterministic_fault, spelling_fault}
use Rattle.ciborium_value.specs.declared.key_order.KeyOrder.{KeyOrder}

-- what is wrong with a head of this major type and argument that has so many bytes
abbrev pub long_fault : ℕ → ℕ → ℕ → Option Kind
long_fault m n size = cond (ltb (length (shortest_head m n)) size) (Some NotShortest) None

fault-number : (m a n k : ℕ) (b : List ℕ) → m < 7 → a < 28 → argument a b ≡ n → 1 + argument_length a ≡ k →
    deterministic_fault m a b ≡ long_fault m n k
fault-number m a n k b lt low e f =
    pass _ _ _ (and_false (leb 2 m && leb m 5) (eqb a 31) (ne_eqb a 31 (λ z. omega (arith, low, z)))) ∙
    ap (λ t. cond t (Some NotShortest) (cond (eqb m 7 && eqb a 23) (Some NotShortest) None)) long ∙
    ap (λ t. cond (ltb (length (shortest_head m n)) k) (Some NotShortest) (cond t (Some NotShortest) None))
    (ap (λ t. t && eqb a 23) (ne_eqb m 7 (λ z. omega (arith, lt, z))))
  where
    long : (ltb m 7 && (ltb a 28 && ltb (length (shortest_head m (argument a b))) (1 + argument_length a))) ≡ ltb
        (length (shortest_head m n)) k
    long = ap (λ t. t && (ltb a 28 && ltb (length (shortest_head m (argument a b))) (1 + argument_length a)))
        (lt-ltb m 7 lt) ∙
        ap (λ t. t && ltb (length (shortest_head m (argument a b))) (1 + argument_length a)) (lt-ltb a 28 low) ∙
        ap (λ j. ltb (length (shortest_head m j)) (1 + argument_length a)) e ∙ ap (ltb (length (shortest_head m n))) f

fault-byte : (order : KeyOrder) (m a : ℕ) (b : List ℕ) → a < 32 →
    spelling_fault (deterministic order) ((m * 32 + a) ∷ b) ≡ deterministic_fault m a b
fault-byte order m a b h = ap (λ j. deterministic_fault j ((m * 32 + a) % 32) b) (div-mul-add m 32 a h) ∙
    ap (λ j. deterministic_fault m j b) (mod-mul-add m 32 a h)

-- a head with an argument is judged by its length
pub fault-head : (order : KeyOrder) (b : List ℕ) (m n k : ℕ) (r : List ℕ) → m < 7 → HasHead b m n k r →
    spelling_fault (deterministic order) b ≡ long_fault m n k
fault-head order b m n k r lt (h, (w, few, is), len, split) =
    let a : ℕ = information w n in
    let below = information-below w n few in
    let bytes = argument_length-information w n few in
    let size : length h ≡ suc (length (argument_bytes w n)) = ap length is in
    ap (spelling_fault (deterministic order)) (split ∙ ap (λ (c : List ℕ). c ++ r) is) ∙
    fault-byte order m a (argument_bytes w n ++ r) (omega (arith, below)) ∙
    fault-number m a n k (argument_bytes w n ++ r) lt below (argument-information w n r few)
    (omega (arith, bytes, size, len))

-- the shortest has no fault
pub short-fault : (spelling : Spelling) (b : List ℕ) (m n k : ℕ) (r : List ℕ) → m < 7 → HasHead b m n k r →
    k ≤ length (shortest_head m n) → spelling_fault spelling b ≡ None
short-fault any b m n k r lt s few = refl
short-fault (deterministic order) b m n k r lt s few = fault-head order b m n k r lt s ∙ pass _ _ _ (le-ltb _ _ few)

-- and no other has none
pub fault-short : (order : KeyOrder) (b : List ℕ) (m n k : ℕ) (r : List ℕ) → m < 7 → (s : HasHead b m n k r) →
    spelling_fault (deterministic order) b ≡ None → s.0 ≡ shortest_head m n
fault-short order b m n k r lt s none =
    let few = ltb-false _ _ (short (ltb (length (shortest_head m n)) k) (sym (fault-head order b m n k r lt s) ∙ none))
    in
    let len = s.2 in
    no_other_is_as_short s.0 m n s.1 (omega (arith, few, len))
  where
    short : (t : Bool) → ◌≡◌ {A = Option Kind} (cond t (Some NotShortest) None) None → t ≡ false
    short true e = absurd cc
    short false e = refl

-- ---- the others

pub fault-open : (order m r : _) → 2 ≤ m → m ≤ 5 → spelling_fault (deterministic order) ((m * 32 + 31) ∷ r) ≡ Some Open
fault-open order m r low high = fault-byte order m 31 r (omega arith) ∙
    (let e : deterministic_fault m 31 r ≡ Some Open = grind (arith, nat_tests) in e)

pub fault-break : (spelling : Spelling) (r : List ℕ) → spelling_fault spelling (255 ∷ r) ≡ None
fault-break any r = refl
fault-break (deterministic order) r = refl

pub fault-float : (spelling : Spelling) (j : ℕ) (r : List ℕ) → j < 3 → spelling_fault spelling ((249 + j) ∷ r) ≡ None
fault-float (deterministic order) (suc (suc (suc j))) r h = let never : ⊥ = omega (arith, h) in absurd never
fault-float u v r h = refl

pub fault-simple : (spelling s n r : _) → IsSimple s n → (n ≡ 23 → ⊥) → spelling_fault spelling (s ++ r) ≡ None
fault-simple any s n r h other = refl
fault-simple (deterministic order) s n r (inl h) other =
    let few = h.0 in
    ap (λ (c : List ℕ). spelling_fault (deterministic order) (c ++ r)) h.1 ∙ fault-byte order 7 n r (omega (arith, few))
    ∙ pass _ _ _ (ne_eqb n 23 other)
fault-simple (deterministic order) s n r (inr h) other =
    ap (λ (c : List ℕ). spelling_fault (deterministic order) (c ++ r)) h.2

pub fault-undefined : (order r : _) → spelling_fault (deterministic order) (247 ∷ r) ≡ Some NotShortest
fault-undefined order r = refl
