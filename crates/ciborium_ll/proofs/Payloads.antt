-- Payloads that are appended piece by piece.
use Rattle.std.proofs.Common.{◌≡◌, ℕ, ◌+◌, ◌-◌, List, [], ◌++◌, append-nil, subst, length, take, drop, Option, Ok, Err}
use Rattle.std.proofs.{Common.{refl, sym, ap, ◌∙◌, arith, append_assoc, length-append}, Math.Seq.take-append_seam}
use Rattle.std.proofs.{Math.Seq.drop-append_seam, lemmas.List.take_all}
use Rattle.ciborium_ll.{proofs.Advancing.{Advances-map, Advances-then}, specs.ReaderSteps.Advances}
use Rattle.ciborium_ll.specs.{StringRefusal.IsAllowed, Strings.{Extends, Grows, IsPayloadTaken, IsPiecesTaken}}
use Rattle.ciborium_ll.specs.{Strings.IsSomeTaken, declared.header.Error.{Error, TheVariants.{Io, Syntax, TooLong}}}
use Rattle.ciborium_ll.specs.declared.{header.Error.TheVariants.Memory, strings.StringType.StringType}

-- ---- piece after piece

-- what has been appended of n bytes, of which so many are left
abbrev pub Appended : ℕ → ℕ → List ℕ → List ℕ → List ℕ → Type 0
Appended n left b old new = (new ≡ old ++ b) × (length b + left ≡ n)

-- one more
pub some-appended : (E : Type 0) (a b c : Option (List ℕ)) (p q r n left size : ℕ) (old mid new : List ℕ) →
    Advances a b p q (λ x. Appended n left x old mid) →
    Advances b c q r (λ x. IsSomeTaken {E = E} left x (Ok size) mid new) →
    Advances a c p r (λ x. Appended n (left - size) x old new)
some-appended E a b c p q r n left size old mid new before now =
    Advances-then a b c p q r (λ x. Appended n left x old mid) (λ x. IsSomeTaken {E = E} left x (Ok size) mid new)
    (λ x. Appended n (left - size) x old new)
    (λ x y s h. (
      h.3 ∙ ap (λ l. l ++ y) s.0 ∙ append_assoc old x y,
      omega (arith, s.1, h.1, h.2, length-append x y),
    )) before now

behind-some : {E : Type 0} (n left : ℕ) (old mid new x y : List ℕ) (e : Error E) → Appended n left x old mid →
    IsSomeTaken {E = E} left y (Err e) mid new → IsPiecesTaken {E = E} n (x ++ y) (Err e) old new
behind-some n left old mid new x y (Io e) s h = (omega (arith, s.1, h.0, length-append x y), (x, h.1 ∙ s.0))
behind-some n left old mid new x y Memory s h = (omega (arith, s.1, h.0, length-append x y), (x, h.1 ∙ s.0))
behind-some n left old mid new x y u s h = absurd h

-- a refusal
pub some-refused : {E : Type 0} (a b c : Option (List ℕ)) (p q r n left : ℕ) (old mid new : List ℕ) (e : Error E) →
    Advances a b p q (λ x. Appended n left x old mid) →
    Advances b c q r (λ x. IsSomeTaken {E = E} left x (Err e) mid new) →
    Advances a c p r (λ x. IsPiecesTaken {E = E} n x (Err e) old new)
some-refused {E} a b c p q r n left old mid new e before now =
    Advances-then a b c p q r (λ x. Appended n left x old mid) (λ x. IsSomeTaken {E = E} left x (Err e) mid new)
    (λ x. IsPiecesTaken {E = E} n x (Err e) old new)
    (λ x y s h. behind-some {E = E} n left old mid new x y e s h) before now

-- ---- a payload that was appended whole, or whose pieces are taken off again

-- what was put behind old bytes is taken off
taken-off : (old mid new : List ℕ) (start : ℕ) → start ≡ length old → new ≡ take start mid → Extends old mid →
    new ≡ old ++ []
taken-off old mid new start at same (added, more) =
    same ∙ ap (λ k. take k mid) at ∙ ap (take (length old)) more ∙ take-append_seam old added ∙ sym (append-nil old)

-- the bytes behind the old ones
behind : (old mid x : List ℕ) (start : ℕ) → start ≡ length old → mid ≡ old ++ x →
    take (length mid - start) (drop start mid) ≡ x
behind old mid x start at more =
    let rest : drop start mid ≡ x = ap (λ k. drop k mid) at ∙ ap (drop (length old)) more ∙ drop-append_seam old x in
    take_all (length mid - start) (drop start mid) (omega
    (arith, at, ap length more, length-append old x, ap length rest)) ∙ rest

dropped : {E : Type 0} (type : StringType) (n head start : ℕ) (old mid new x : List ℕ) (e : Error E) →
    start ≡ length old → new ≡ take start mid → IsPiecesTaken {E = E} n x (Err e) old mid →
    Grows old new (IsPayloadTaken {E = E} type n head x (Err e))
dropped type n head start old mid new x (Io e) at same h = ([], taken-off old mid new start at same h.1, (h.0, refl))
dropped type n head start old mid new x (Syntax o) at same h = absurd h
dropped type n head start old mid new x TooLong at same h = absurd h
dropped type n head start old mid new x Memory at same h = ([], taken-off old mid new start at same h.1, (h.0, refl))

-- a piece was refused
pub payload-dropped : {E : Type 0} (type : StringType) (a b : Option (List ℕ)) (p q n head start : ℕ)
    (old mid new : List ℕ) (e : Error E) → start ≡ length old → new ≡ take start mid →
    Advances a b p q (λ x. IsPiecesTaken {E = E} n x (Err e) old mid) →
    Advances a b p q (λ x. Grows old new (IsPayloadTaken {E = E} type n head x (Err e)))
payload-dropped {E} type a b p q n head start old mid new e at same =
    Advances-map a b p q (λ x. IsPiecesTaken {E = E} n x (Err e) old mid)
    (λ x. Grows old new (IsPayloadTaken {E = E} type n head x (Err e)))
    (λ x h. dropped {E = E} type n head start old mid new x e at same h)

-- the payload is none of its type
pub payload-refused : (type : StringType) (a b : Option (List ℕ)) (p q n head start : ℕ) (old mid new : List ℕ) →
    start ≡ length old → new ≡ take start mid → ¬ IsAllowed type (take (length mid - start) (drop start mid)) →
    Advances a b p q (λ x. (length x ≡ n) × (mid ≡ old ++ x)) →
    Advances a b p q (λ x. Grows old new (λ added. (head ≡ head) × (length x ≡ n) × ¬ IsAllowed type x × (added ≡ [])))
payload-refused type a b p q n head start old mid new at same not =
    Advances-map a b p q (λ x. (length x ≡ n) × (mid ≡ old ++ x))
    (λ x. Grows old new (λ added. (head ≡ head) × (length x ≡ n) × ¬ IsAllowed type x × (added ≡ [])))
    (λ x h. (
      [],
      taken-off old mid new start at same (x, h.1),
      (refl, h.0, subst (λ l. ¬ IsAllowed type l) (behind old mid x start at h.1) not, refl),
    ))

-- it is one
pub payload-whole : (type : StringType) (a b : Option (List ℕ)) (p q n start : ℕ) (old mid : List ℕ) →
    start ≡ length old → IsAllowed type (take (length mid - start) (drop start mid)) →
    Advances a b p q (λ x. (length x ≡ n) × (mid ≡ old ++ x)) →
    Advances a b p q (λ x. Grows old mid (λ added. (length x ≡ n) × IsAllowed type x × (added ≡ x)))
payload-whole type a b p q n start old mid at allowed = Advances-map a b p q (λ x. (length x ≡ n) × (mid ≡ old ++ x))
    (λ x. Grows old mid (λ added. (length x ≡ n) × IsAllowed type x × (added ≡ x)))
    (λ x h. (x, h.1, (h.0, subst (IsAllowed type) (behind old mid x start at h.1) allowed, refl)))
