-- A reader of heads over lists, for proofs alone: it finds each head that stands at the front.
use Rattle.std.proofs.Common.{◌≡◌, ℕ, suc, ◌+◌, ◌*◌, ◌/◌, ◌%◌, ◌<◌, cond, ltb, eqb, List, [], ◌∷◌, ◌++◌, length, get_or}
use Rattle.std.proofs.{Common.{take, drop, ap, ◌∙◌, arith}, lemmas.Bool.lt-ltb, lemmas.Nat.{div-mul-add, mod-mul-add}}
use Rattle.std.proofs.lemmas.Nat.{from_be_bytes-to_be_bytes_2, from_be_bytes-to_be_bytes_4, from_be_bytes-to_be_bytes_8}
use Rattle.std.specs.Int.{to_be_bytes, from_be_bytes, w16, w32, w64}
use Rattle.ciborium_ll.specs.Head.{Width, within, one_byte, two_bytes, four_bytes, eight_bytes, argument_bytes, head_in}
use Rattle.ciborium_ll.specs.Head.{IsHead, capacity}

pub data Front : Type 0 where
  nothing : Front
  -- a major type, an argument, and what follows
  counted : ℕ → ℕ → List ℕ → Front
  opened : ℕ → List ℕ → Front
  plain : ℕ → List ℕ → Front
  raw : ℕ → List ℕ → Front

abbrev pub front_number : ℕ → ℕ → List ℕ → Front
front_number m a bs = cond (ltb a 24) (counted m a bs) (cond (eqb a 24) (counted m (get_or bs 0 0) (drop 1 bs))
    (cond (eqb a 25) (counted m (from_be_bytes w16 (take 2 bs)) (drop 2 bs))
    (cond (eqb a 26) (counted m (from_be_bytes w32 (take 4 bs)) (drop 4 bs))
    (counted m (from_be_bytes w64 (take 8 bs)) (drop 8 bs)))))

abbrev pub front_other : ℕ → List ℕ → Front
front_other a bs = cond (ltb a 24) (plain a bs) (cond (eqb a 24) (plain (get_or bs 0 0) (drop 1 bs))
    (cond (eqb a 25) (raw 2 bs) (cond (eqb a 26) (raw 4 bs) (raw 8 bs))))

abbrev pub front_in : ℕ → ℕ → List ℕ → Front
front_in m a bs = cond (ltb a 31) (cond (ltb m 7) (front_number m a bs) (front_other a bs)) (opened m bs)

abbrev pub front : List ℕ → Front
front [] = nothing
front (x ∷ bs) = front_in (x / 32) (x % 32) bs

pub front_first : (m a : ℕ) (bs : List ℕ) → a < 32 → front ((m * 32 + a) ∷ bs) ≡ front_in m a bs
front_first m a bs h = ap (λ d. front_in d ((m * 32 + a) % 32) bs) (div-mul-add m 32 a h) ∙
    ap (λ k. front_in m k bs) (mod-mul-add m 32 a h)

pub front_open : (m : ℕ) (bs : List ℕ) → front ((m * 32 + 31) ∷ bs) ≡ opened m bs
front_open m bs = front_first m 31 bs (omega arith)

below_31 : (m a : ℕ) (bs : List ℕ) → a < 31 → m < 7 → front ((m * 32 + a) ∷ bs) ≡ front_number m a bs
below_31 m a bs h k = front_first m a bs (omega arith) ∙
    ap (λ t. cond t (cond (ltb m 7) (front_number m a bs) (front_other a bs)) (opened m bs)) (lt-ltb a 31 h) ∙
    ap (λ t. cond t (front_number m a bs) (front_other a bs)) (lt-ltb m 7 k)

pub front-head_in : (f : Width) (m n : ℕ) (bs : List ℕ) → m < 7 → n < capacity f →
    front (head_in f m n ++ bs) ≡ counted m n bs
front-head_in within m n bs k h = below_31 m n bs (omega arith) k ∙
    ap (λ t. cond t (counted m n bs) (cond (eqb n 24) (counted m (get_or bs 0 0) (drop 1 bs))
    (cond (eqb n 25) (counted m (from_be_bytes w16 (take 2 bs)) (drop 2 bs))
    (cond (eqb n 26) (counted m (from_be_bytes w32 (take 4 bs)) (drop 4 bs))
    (counted m (from_be_bytes w64 (take 8 bs)) (drop 8 bs)))))) (lt-ltb n 24 h)
front-head_in one_byte m n bs k h = below_31 m 24 (n ∷ bs) (omega arith) k
front-head_in two_bytes m n bs k h = below_31 m 25 (to_be_bytes w16 n ++ bs) (omega arith) k ∙
    ap (λ v. counted m v bs) (from_be_bytes-to_be_bytes_2 n h)
front-head_in four_bytes m n bs k h = below_31 m 26 (to_be_bytes w32 n ++ bs) (omega arith) k ∙
    ap (λ v. counted m v bs) (from_be_bytes-to_be_bytes_4 n h)
front-head_in eight_bytes m n bs k h = below_31 m 27 (to_be_bytes w64 n ++ bs) (omega arith) k ∙
    ap (λ v. counted m v bs) (from_be_bytes-to_be_bytes_8 n h)

pub front-head : (b : List ℕ) (m n : ℕ) (bs : List ℕ) → m < 7 → IsHead b m n → front (b ++ bs) ≡ counted m n bs
front-head b m n bs k h = ap (λ c. front (c ++ bs)) h.2 ∙ front-head_in h.0 m n bs k h.1

pub head-length : (b : List ℕ) (m n : ℕ) → IsHead b m n → 0 < length b
head-length b m n h = let more : length b ≡ suc (length (argument_bytes h.0 n)) = ap length h.2 in omega (arith, more)

pub front-simple : (n : ℕ) (bs : List ℕ) → n < 24 → front ((224 + n) ∷ bs) ≡ plain n bs
front-simple n bs h = front_first 7 n bs (omega arith) ∙ ap (λ t. cond t (front_other n bs) (opened 7 bs))
    (lt-ltb n 31 (omega arith)) ∙ ap (λ t. cond t (plain n bs) (cond (eqb n 24) (plain (get_or bs 0 0) (drop 1 bs))
    (cond (eqb n 25) (raw 2 bs) (cond (eqb n 26) (raw 4 bs) (raw 8 bs))))) (lt-ltb n 24 h)
