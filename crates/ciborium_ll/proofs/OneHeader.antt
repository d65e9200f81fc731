-- Bytes have at most one spelled header at their front: what the reader of heads finds there says which.
use Rattle.std.proofs.Common.{◌≡◌, ℕ, ◌<◌, cond, eqb, List, [], ◌∷◌, ◌++◌, length, drop, Option, Some, None, refl, sym}
use Rattle.std.proofs.{Common.{ap, ◌∙◌, inl, inr, arith}, lemmas.List.append_cancel_right}
use Rattle.ciborium_ll.specs.{declared.header.Header.Header, declared.header.Header.TheVariants.{Positive, Negative}}
use Rattle.ciborium_ll.specs.declared.header.Header.TheVariants.{Bytes, Text, Array, Map, Tag, Simple, Float, Break}
use Rattle.ciborium_ll.specs.{Header.{SpellsHeader, IsCounted}, laws.HeaderLaws.{OneHeader, OneHeaderAtFront}}
use Rattle.ciborium_ll.proofs.FrontHeads.{Front, nothing, counted, opened, plain, raw, front, front_open, front-head}
use Rattle.ciborium_ll.proofs.FrontHeads.{front-simple}
use lib.Seq.{drop_at}

abbrev counted_header : ℕ → ℕ → Header
counted_header m n = cond (eqb m 0)
    (Positive n) (cond (eqb m 1) (Negative n) (cond (eqb m 2) (Bytes (Some n)) (cond (eqb m 3) (Text (Some n))
    (cond (eqb m 4) (Array (Some n)) (cond (eqb m 5) (Map (Some n)) (Tag n))))))

abbrev opened_header : ℕ → Header
opened_header m = cond (eqb m 2) (Bytes None) (cond (eqb m 3) (Text None)
    (cond (eqb m 4) (Array None) (cond (eqb m 5) (Map None) Break)))

-- the header at the front
abbrev header_at : Front → Header
header_at nothing = Break
header_at (counted m n r) = counted_header m n
header_at (opened m r) = opened_header m
header_at (plain n r) = Simple n
header_at (raw size r) = Float size

-- what follows the header
abbrev rest_at : Front → List ℕ
rest_at nothing = []
rest_at (counted m n r) = r
rest_at (opened m r) = r
rest_at (plain n r) = r
rest_at (raw size r) = drop size r

-- h stands at the front of b, and r follows it
abbrev Stands : List ℕ → Header → List ℕ → Type 0
Stands b h r = (header_at (front b) ≡ h) × (rest_at (front b) ≡ r)

found : (b : List ℕ) (f : Front) (h : Header) (r : List ℕ) → front b ≡ f → header_at f ≡ h → rest_at f ≡ r →
    Stands b h r
found b f h r e i j = (ap header_at e ∙ i, ap rest_at e ∙ j)

found-counted : (b r : List ℕ) (m : ℕ) (n : Option ℕ) (H : Option ℕ → Header) → m < 7 →
    ((k : ℕ) → counted_header m k ≡ H (Some k)) → opened_header m ≡ H None → IsCounted b m n → Stands (b ++ r) (H n) r
found-counted b r m (Some n) H lt e o s = found (b ++ r) (counted m n r) (H (Some n)) r (front-head b m n r lt s) (e n)
    refl
found-counted b r m None H lt e o s = found (b ++ r) (opened m r) (H None) r
    (ap (λ c. front (c ++ r)) s ∙ front_open m r) o refl

-- behind an initial byte and raw bytes
found-float : (b bytes r : List ℕ) (first size k : ℕ) → front (first ∷ (bytes ++ r)) ≡ raw k (bytes ++ r) →
    b ≡ first ∷ bytes → length bytes ≡ k → length bytes ≡ size → Stands (b ++ r) (Float size) r
found-float b bytes r first size k f e l s = found (b ++ r)
    (raw k (bytes ++ r)) (Float size) r (ap (λ c. front (c ++ r)) e ∙ f) (ap Float (sym l ∙ s)) (drop_at bytes r k l)

-- a header that is spelled at the front is found there
spelled-stands : (b r : List ℕ) (h : Header) → SpellsHeader b h → Stands (b ++ r) h r
spelled-stands b r (Positive n) s = found (b ++ r) (counted 0 n r) (Positive n) r (front-head b 0 n r (omega arith) s)
    refl refl
spelled-stands b r (Negative n) s = found (b ++ r) (counted 1 n r) (Negative n) r (front-head b 1 n r (omega arith) s)
    refl refl
spelled-stands b r (Bytes n) s = found-counted b r 2 n Bytes (omega arith) (λ k. refl) refl s
spelled-stands b r (Text n) s = found-counted b r 3 n Text (omega arith) (λ k. refl) refl s
spelled-stands b r (Array n) s = found-counted b r 4 n Array (omega arith) (λ k. refl) refl s
spelled-stands b r (Map n) s = found-counted b r 5 n Map (omega arith) (λ k. refl) refl s
spelled-stands b r (Tag n) s = found (b ++ r) (counted 6 n r) (Tag n) r (front-head b 6 n r (omega arith) s) refl refl
spelled-stands b r (Simple n) (inl s) = found (b ++ r) (plain n r) (Simple n) r
    (ap (λ c. front (c ++ r)) s.1 ∙ front-simple n r s.0) refl refl
spelled-stands b r (Simple n) (inr s) = found (b ++ r) (plain n r) (Simple n) r (ap (λ c. front (c ++ r)) s.2) refl refl
spelled-stands b r (Float size) (bytes, (inl s), l) = found-float b bytes r 249 size 2 refl s.1 s.0 l
spelled-stands b r (Float size) (bytes, (inr (inl s)), l) = found-float b bytes r 250 size 4 refl s.1 s.0 l
spelled-stands b r (Float size) (bytes, (inr (inr s)), l) = found-float b bytes r 251 size 8 refl s.1 s.0 l
spelled-stands b r Break s = found (b ++ r) (opened 7 r) Break r (ap (λ c. front (c ++ r)) s) refl refl

pub one_header_at_front : OneHeaderAtFront
one_header_at_front a b x y h k s t e =
    let left = spelled-stands a x h s in
    let right = spelled-stands b y k t in
    let same : x ≡ y = sym left.1 ∙ ap (λ c. rest_at (front c)) e ∙ right.1 in (
      append_cancel_right a b x (e ∙ ap (λ (c : List ℕ). b ++ c) (sym same)),
      same,
      sym left.0 ∙
          ap (λ c. header_at (front c)) e ∙ right.0,
    )

pub one_header : OneHeader
one_header b h k s t = (one_header_at_front b b [] [] h k s t refl).2
