-- What is written for a header is the shortest spelling of it.
use Rattle.std.proofs.Common.{◌≡◌, ℕ, suc, ◌<◌, ◌≤◌, ◌⊎◌, cond, List, [], ◌∷◌, length, Option, Some, None, refl, sym}
use Rattle.std.proofs.Common.{ap, ◌∙◌, inl, inr, arith, lt-ltb, le-ltb}
use Rattle.ciborium_ll.specs.{declared.header.Header.Header, declared.header.Header.TheVariants.{Positive, Negative}}
use Rattle.ciborium_ll.specs.declared.header.Header.TheVariants.{Bytes, Text, Array, Map, Tag, Simple, Float, Break}
use Rattle.ciborium_ll.specs.Head.{initial_byte, IsHead, shortest_head, IsSimple, simple_bytes, IsFloat}
use Rattle.ciborium_ll.specs.Header.{IsCounted, counted_bytes, header_bytes, SpellsHeader, IsProperCount}
use Rattle.ciborium_ll.specs.laws.HeaderLaws.{HeaderBytesSpell, NoSpellingIsShorter, NoOtherSpellingIsAsShort}
use Rattle.ciborium_ll.proofs.ShortestHead.{shortest_is_head, none_is_shorter, no_other_is_as_short}

counted-spelled : (m : ℕ) (n : Option ℕ) → IsProperCount n → IsCounted (counted_bytes m n) m n
counted-spelled m (Some n) h = shortest_is_head m n h
counted-spelled m None h = refl

simple-low : (n : ℕ) → n < 24 → simple_bytes n ≡ initial_byte 7 n ∷ []
simple-low n h = ap (λ t. cond t (initial_byte 7 n ∷ []) (0xf8 ∷ n ∷ [])) (lt-ltb n 24 h)

simple-high : (n : ℕ) → 32 ≤ n → simple_bytes n ≡ 0xf8 ∷ n ∷ []
simple-high n h = ap (λ t. cond t (initial_byte 7 n ∷ []) (0xf8 ∷ n ∷ [])) (le-ltb n 24 (omega arith))

simple-spelled : (n : ℕ) → (n < 24) ⊎ (32 ≤ n) → n < 256 → IsSimple (simple_bytes n) n
simple-spelled n (inl h) lt = inl (h, simple-low n h)
simple-spelled n (inr h) lt = inr (h, lt, simple-high n h)

pub header_bytes_spelled : HeaderBytesSpell
header_bytes_spelled (Positive n) w p = shortest_is_head 0 n p
header_bytes_spelled (Negative n) w p = shortest_is_head 1 n p
header_bytes_spelled (Bytes n) w p = counted-spelled 2 n p
header_bytes_spelled (Text n) w p = counted-spelled 3 n p
header_bytes_spelled (Array n) w p = counted-spelled 4 n p
header_bytes_spelled (Map n) w p = counted-spelled 5 n p
header_bytes_spelled (Tag n) w p = shortest_is_head 6 n p
header_bytes_spelled (Simple n) w p = simple-spelled n w p
header_bytes_spelled (Float size) w p = absurd w
header_bytes_spelled Break w p = refl

-- written is no longer than b, and no other list is as short as b
abbrev Least : List ℕ → List ℕ → Type 0
Least written b = (length written ≤ length b) × (length b ≤ length written → b ≡ written)

least-itself : (written b : List ℕ) → b ≡ written → Least written b
least-itself written b e = (let l : length b ≡ length written = ap length e in omega arith, λ h. e)

least-head : (b : List ℕ) (m n : ℕ) → IsHead b m n → Least (shortest_head m n) b
least-head b m n s = (none_is_shorter b m n s, no_other_is_as_short b m n s)

least-counted : (b : List ℕ) (m : ℕ) (n : Option ℕ) → IsCounted b m n → Least (counted_bytes m n) b
least-counted b m (Some n) s = least-head b m n s
least-counted b m None s = least-itself (counted_bytes m None) b s

least : (b : List ℕ) (h : Header) → SpellsHeader b h → Least (header_bytes h) b
least b (Positive n) s = least-head b 0 n s
least b (Negative n) s = least-head b 1 n s
least b (Bytes n) s = least-counted b 2 n s
least b (Text n) s = least-counted b 3 n s
least b (Array n) s = least-counted b 4 n s
least b (Map n) s = least-counted b 5 n s
least b (Tag n) s = least-head b 6 n s
least b (Simple n) (inl s) = least-itself (simple_bytes n) b (s.1 ∙ sym (simple-low n s.0))
least b (Simple n) (inr s) = least-itself (simple_bytes n) b (s.2 ∙ sym (simple-high n s.0))
least b (Float size) (raw, s, l) = (omega arith, λ h. absurd (none b raw s h))
  where
    none : (b raw : List ℕ) → IsFloat b raw → length b ≤ 0 → ⊥
    none b raw (inl s) h = let l : length b ≡ suc (length raw) = ap length s.1 in omega arith
    none b raw (inr (inl s)) h = let l : length b ≡ suc (length raw) = ap length s.1 in omega arith
    none b raw (inr (inr s)) h = let l : length b ≡ suc (length raw) = ap length s.1 in omega arith
least b Break s = least-itself (header_bytes Break) b s

pub no_spelling_is_shorter : NoSpellingIsShorter
no_spelling_is_shorter b h s = (least b h s).0

pub no_other_spelling_is_as_short : NoOtherSpellingIsAsShort
no_other_spelling_is_as_short b h s le = (least b h s).1 le
