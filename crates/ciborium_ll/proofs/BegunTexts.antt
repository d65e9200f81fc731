-- Bytes that end inside a character, and the texts of which they are the beginning.
use Rattle.std.proofs.Common.{◌≡◌, ℕ, zero, suc, ◌+◌, ◌-◌, ◌*◌, ◌<◌, ◌≤◌, cond, Bool, true, false, List, [], ◌∷◌, ◌++◌}
use Rattle.std.proofs.Common.{length, get_or, take, drop, Some, None, refl, sym, ap, ◌∙◌, subst, arith, inl, inr, ◌⊎◌}
use Rattle.std.proofs.Common.{IsUtf8, Option, length-append, length-drop, take-append-drop, get_or-drop, replicate}
use Rattle.std.proofs.{Common.append_assoc, iter.FirstChar.{wide, after_text}, lemmas.Bool.Decides.nat_tests}
use Rattle.std.proofs.lemmas.List.{take-append-le, drop-append-le, get_or_append_left, length-replicate}
use Rattle.std.proofs.{lemmas.{List.Elements.All-replicate, Str.{IsUtf8-append, IsUtf8-nil}}, str.Faults.Ranged}
use Rattle.std.proofs.str.{Faults.no_char, Laws.{Follows, order, both}, Lossy.utf8_error_len_some, Valid.of_one}
use Rattle.std.{proofs.str.Valid.{of_two, of_three, of_four, longer}, specs.{Int.is_in_range, Str.continuation_len}}
use Rattle.std.specs.Str.{IsValidUpTo, Lossy.{error_len_of_some, utf8_error_len, second_byte_min, second_byte_max}}
use Rattle.ciborium_ll.specs.{Bytes.AreBytes, ItemLengths.BeginText}
use lib.Utf8.{scalar, scalars, encodes}

-- ---- characters byte by byte

-- a byte that may follow a first byte
pub record Second (x y : ℕ) : Type 0 where
  pub least : 128 ≤ y
  pub most : y < 192
  pub three_low : 224 ≤ x → x < 240 → 32 ≤ (x - 224) * 64 + (y - 128)
  pub three_apart : 224 ≤ x → x < 240 → ((x - 224) * 64 + (y - 128) < 864) ⊎ (896 ≤ (x - 224) * 64 + (y - 128))
  pub four : 240 ≤ x → x < 245 → (16 ≤ (x - 240) * 64 + (y - 128)) × ((x - 240) * 64 + (y - 128) < 272)

module _ (x y : ℕ) (h : is_in_range (second_byte_min x) (second_byte_max x) y ≡ true) where
  second-least : 128 ≤ y
  second-least = grind (arith, nat_tests)

  second-most : y < 192
  second-most = grind (arith, nat_tests)

  second-three_low : 224 ≤ x → x < 240 → 32 ≤ (x - 224) * 64 + (y - 128)
  second-three_low l u = grind (arith, nat_tests)

  second-three_high : 224 ≤ x → x < 238 → (x - 224) * 64 + (y - 128) < 864
  second-three_high l u = grind (arith, nat_tests)

  second-four : 240 ≤ x → x < 245 → (16 ≤ (x - 240) * 64 + (y - 128)) × ((x - 240) * 64 + (y - 128) < 272)
  second-four l u = grind (arith, nat_tests)

  second-is : Second x y
  second-is = record {
    least = second-least;
    most = second-most;
    three_low = second-three_low;
    three_apart = λ l u. by l (order x 238);
    four = second-four;
  }
    where
      by : 224 ≤ x → (x < 238) ⊎ (238 ≤ x) → ((x - 224) * 64 + (y - 128) < 864) ⊎ (896 ≤ (x - 224) * 64 + (y - 128))
      by l (inl lt) = inl (second-three_high l lt)
      by l (inr le) = inr (omega arith)

second-fits : (x y : ℕ) → x < 245 → Second x y → is_in_range (second_byte_min x) (second_byte_max x) y ≡ true
second-fits x y h s =
    let a = s.least in
    let b = s.most in
    let c = s.three_low in
    let d = s.three_apart in
    let e = s.four in
    grind (arith, nat_tests)

is_one : (x : ℕ) → x < 128 → IsUtf8 (x ∷ [])
is_one x h = of_one (x ∷ []) 0 (omega arith) h

is_two : (x y : ℕ) → 194 ≤ x → x < 224 → Follows y → IsUtf8 (x ∷ y ∷ [])
is_two x y l h f = of_two (x ∷ y ∷ []) 0 (omega arith) (l, h) f

is_three : (x y z : ℕ) → 224 ≤ x → x < 240 → Second x y → Follows z → IsUtf8 (x ∷ y ∷ z ∷ [])
is_three x y z l h s f =
    let low = s.three_low l h in
    let next : Follows y = (s.least, s.most) in
    of_three (x ∷ y ∷ z ∷ []) 0 (omega arith) (l, h) next f (omega arith) (by (s.three_apart l h))
  where
    by : ((x - 224) * 64 + (y - 128) < 864) ⊎ (896 ≤ (x - 224) * 64 + (y - 128)) →
        ((x - 224) * 4096 + (y - 128) * 64 + (z - 128) < 55296) ⊎
        (57344 ≤ (x - 224) * 4096 + (y - 128) * 64 + (z - 128))
    by (inl lt) = inl (omega (arith, f))
    by (inr le) = inr (omega arith)

is_four : (x y z w : ℕ) → 240 ≤ x → x < 245 → Second x y → Follows z → Follows w → IsUtf8 (x ∷ y ∷ z ∷ w ∷ [])
is_four x y z w l h s f g = of_four (x ∷ y ∷ z ∷ w ∷ []) 0 (omega arith) l (s.least, s.most) f g (s.four l h)

-- ---- bytes at whose front no text stands

abbrev pub NoneStands : List ℕ → Type 0
NoneStands r = (w : ℕ) → 0 < w → IsUtf8 (take w r) → ⊥

not_one : (x : ℕ) (r : List ℕ) → NoneStands (x ∷ r) → 128 ≤ x
not_one x r n = by (order x 128)
  where
    by : (x < 128) ⊎ (128 ≤ x) → 128 ≤ x
    by (inl lt) = absurd (n 1 (omega arith) (is_one x lt))
    by (inr le) = le

not_two : (x y : ℕ) (r : List ℕ) → NoneStands (x ∷ y ∷ r) → 194 ≤ x → Follows y → 224 ≤ x
not_two x y r n l f = by (order x 224)
  where
    by : (x < 224) ⊎ (224 ≤ x) → 224 ≤ x
    by (inl lt) = absurd (n 2 (omega arith) (is_two x y l lt f))
    by (inr le) = le

not_three : (x y z : ℕ) (r : List ℕ) → NoneStands (x ∷ y ∷ z ∷ r) → 224 ≤ x → Second x y → Follows z → 240 ≤ x
not_three x y z r n l s f = by (order x 240)
  where
    by : (x < 240) ⊎ (240 ≤ x) → 240 ≤ x
    by (inl lt) = absurd (n 3 (omega arith) (is_three x y z l lt s f))
    by (inr le) = le

not_four : (x y z w : ℕ) (r : List ℕ) → NoneStands (x ∷ y ∷ z ∷ w ∷ r) → 240 ≤ x → x < 245 →
    Second x y → Follows z → Follows w → ⊥
not_four x y z w r n l h s f g = n 4 (omega arith) (is_four x y z w l h s f g)

-- ---- the tests of the bytes at fault

first-fits : (x : ℕ) → 194 ≤ x → x < 245 → is_in_range 0xC2 0xF4 x ≡ true
first-fits x l h = grind (arith, nat_tests)

first-is : (x : ℕ) → is_in_range 0xC2 0xF4 x ≡ true → (194 ≤ x) × (x < 245)
first-is x h = (low x h, high x h)
  where
    low : (v : ℕ) → is_in_range 0xC2 0xF4 v ≡ true → 194 ≤ v
    low v k = grind (arith, nat_tests)

    high : (v : ℕ) → is_in_range 0xC2 0xF4 v ≡ true → v < 245
    high v k = grind (arith, nat_tests)

next-fits : (x : ℕ) → Follows x → is_in_range 0x80 0xBF x ≡ true
next-fits x f = grind (arith, nat_tests)

next-is : (x : ℕ) → is_in_range 0x80 0xBF x ≡ true → Follows x
next-is x h = (low x h, high x h)
  where
    low : (v : ℕ) → is_in_range 0x80 0xBF v ≡ true → 128 ≤ v
    low v k = grind (arith, nat_tests)

    high : (v : ℕ) → is_in_range 0x80 0xBF v ≡ true → v < 192
    high v k = grind (arith, nat_tests)

passes : (t : Bool) (k : ℕ) (o : Option ℕ) → cond t o (Some k) ≡ None → (t ≡ true) × (o ≡ None)
passes true k o h = (refl, h)
passes false k o h = absurd cc

fails : (t : Bool) (o p : Option ℕ) → t ≡ true → cond t o p ≡ o
fails t o p e = ap (λ u. cond u o p) e

-- of bytes that begin with a character
begins-second : (n x y z w : ℕ) → Ranged n x y z w → 128 ≤ x → (194 ≤ x) × (x < 245) × Second x y
begins-second n x y z w g l =
    let s = g.second l in (
      s.0,
      below (order x 245),
      record {
        least = s.2.0;
        most = s.2.1;
        three_low = λ p q. (g.in_three p q).0;
        three_apart = λ p q. (g.in_three p q).1;
        four = λ p q. (g.fourth p).2;
      },
    )
  where
    below : (x < 245) ⊎ (245 ≤ x) → x < 245
    below (inl lt) = lt
    below (inr le) = let f = g.fourth (omega arith) in let s = g.second l in absurd (omega arith)

-- ---- a character that has begun can end

fault-none : (r t : List ℕ) (k : ℕ) → NoneStands r → Ranged (length (r ++ t)) (get_or (r ++ t) 0 0)
    (get_or (r ++ t) 1 0) (get_or (r ++ t) 2 0) (get_or (r ++ t) 3 0) → 0 < length r → error_len_of_some r ≡ Some k → ⊥
fault-none [] t k n g some e = omega arith
fault-none (x ∷ []) t k n g some e =
    let b = begins-second _ _ _ _ _ g (not_one x [] n) in
    let no : error_len_of_some (x ∷ []) ≡ None = fails _ _ _ (first-fits x b.0 b.1) in
    cc
fault-none (x ∷ y ∷ []) t k n g some e =
    let b = begins-second _ _ _ _ _ g (not_one x (y ∷ []) n) in
    let no : error_len_of_some (x ∷ y ∷ []) ≡ None =
    fails _ _ _ (first-fits x b.0 b.1) ∙ fails _ _ _ (second-fits x y b.1 b.2) in
    cc
fault-none (x ∷ y ∷ z ∷ []) t k n g some e =
    let b = begins-second _ _ _ _ _ g (not_one x (y ∷ z ∷ []) n) in
    let f = (g.third (not_two x y (z ∷ []) n b.0 (b.2.least, b.2.most))).1 in
    let no : error_len_of_some (x ∷ y ∷ z ∷ []) ≡ None =
    fails _ _ _ (first-fits x b.0 b.1) ∙ fails _ _ _ (second-fits x y b.1 b.2) ∙
    fails _ _ _ (next-fits z f) in
    cc
fault-none (x ∷ y ∷ z ∷ w ∷ r) t k n g some e =
    let b = begins-second _ _ _ _ _ g (not_one x (y ∷ z ∷ w ∷ r) n) in
    let l = not_two x y (z ∷ w ∷ r) n b.0 (b.2.least, b.2.most) in
    let f = (g.third l).1 in
    let m = not_three x y z (w ∷ r) n l b.2 f in
    not_four x y z w r n m b.1 b.2 f (g.fourth m).1

-- where bytes are at fault, nothing that follows makes a text of them
pub no_text-fault : (r t : List ℕ) (k : ℕ) →
    NoneStands r → 0 < length r → error_len_of_some r ≡ Some k → IsUtf8 (r ++ t) → ⊥
no_text-fault r t k n some e ([], (p, q)) = omega (arith, ap length q, length-append r t)
no_text-fault r t k n some e ((c ∷ cs), (p, q)) =
    no_char (r ++ t) 0 (λ g. fault-none r t k n (shorter g) some e) c (encodes cs)
    (both (scalar c) (scalars cs) p).0
    (sym q)
  where
    shorter : {x y z w : ℕ} → Ranged (length (r ++ t) - 0) x y z w → Ranged (length (r ++ t)) x y z w
    shorter {x} {y} {z} {w} g = subst (λ m. Ranged m x y z w) (omega arith) g

-- the bytes that end the character
abbrev pub CharEnds : List ℕ → Type 0
CharEnds r = (t : List ℕ) × IsUtf8 (r ++ t) × (length (r ++ t) ≡ suc (continuation_len (get_or r 0 0)))

behind-two : (x : ℕ) → 194 ≤ x → x < 224 → continuation_len x ≡ 1
behind-two x l h = grind (arith, nat_tests)

behind-three : (x : ℕ) → 224 ≤ x → x < 240 → continuation_len x ≡ 2
behind-three x l h = grind (arith, nat_tests)

behind-four : (x : ℕ) → 240 ≤ x → continuation_len x ≡ 3
behind-four x l = grind (arith, nat_tests)

least-second : (x : ℕ) → Second x (second_byte_min x)
least-second x = second-is x (second_byte_min x) (grind (arith, nat_tests))

follows-128 : Follows 128
follows-128 = (omega arith, omega arith)

after-first : (x : ℕ) → 194 ≤ x → x < 245 → CharEnds (x ∷ [])
after-first x l h = by (order x 224) (order x 240)
  where
    by : (x < 224) ⊎ (224 ≤ x) → (x < 240) ⊎ (240 ≤ x) → CharEnds (x ∷ [])
    by (inl lt) m = (128 ∷ [], is_two x 128 l lt follows-128, ap suc (sym (behind-two x l lt)))
    by (inr le) (inl lt) = (
      second_byte_min x ∷ 128 ∷ [],
      is_three x (second_byte_min x) 128 le lt (least-second x) follows-128,
      ap suc (sym (behind-three x le lt)),
    )
    by (inr le) (inr m) = (
      second_byte_min x ∷ 128 ∷ 128 ∷ [],
      is_four x (second_byte_min x) 128 128 m h (least-second x) follows-128 follows-128,
      ap suc (sym (behind-four x m)),
    )

after-second : (x y : ℕ) → 224 ≤ x → x < 245 → Second x y → CharEnds (x ∷ y ∷ [])
after-second x y l h s = by (order x 240)
  where
    by : (x < 240) ⊎ (240 ≤ x) → CharEnds (x ∷ y ∷ [])
    by (inl lt) = (
      128 ∷ [],
      is_three x y 128 l lt s follows-128,
      ap suc (sym (behind-three x l lt)),
    )
    by (inr le) = (
      128 ∷ 128 ∷ [],
      is_four x y 128 128 le h s follows-128 follows-128,
      ap suc (sym (behind-four x le)),
    )

-- where no bytes are at fault, the character can end
pub char-ends : (r : List ℕ) → NoneStands r → 0 < length r → length r < 4 → error_len_of_some r ≡ None → CharEnds r
char-ends (x ∷ []) n some few e =
    let f = first-is x (passes _ _ _ e).0 in
    after-first x f.0 f.1
char-ends (x ∷ y ∷ []) n some few e =
    let p = passes _ _ _ e in
    let f = first-is x p.0 in
    let s = second-is x y (passes _ _ _ p.1).0 in
    after-second x y (not_two x y [] n f.0 (s.least, s.most)) f.1 s
char-ends (x ∷ y ∷ z ∷ []) n some few e =
    let p = passes _ _ _ e in
    let q = passes _ _ _ p.1 in
    let f = first-is x p.0 in
    let s = second-is x y q.0 in
    let g = next-is z (passes _ _ _ q.1).0 in
    let l = not_two x y (z ∷ []) n f.0 (s.least, s.most) in
    let m = not_three x y z [] n l s g in
    (128 ∷ [], is_four x y z 128 m f.1 s g follows-128, ap suc (sym (behind-four x m)))
char-ends u n some few e = absurd (omega arith)

-- a text has all the bytes of its first character
pub char-room : (b : List ℕ) → IsUtf8 b → 0 < length b → continuation_len (get_or b 0 0) < length b
char-room b u some = let w = wide b u some in room (get_or b 0 0) (length b) some w.0 w.1 w.2
  where
    room : (x n : ℕ) → 0 < n → (128 ≤ x → 1 < n) → (224 ≤ x → 2 < n) → (240 ≤ x → 3 < n) → continuation_len x < n
    room x n z h i j = grind (arith, nat_tests)

-- ---- the beginning of a text

-- zero bytes fill what is missing
pub zeros : ℕ → List ℕ
zeros k = replicate k 0

pub length-zeros : (k : ℕ) → length (zeros k) ≡ k
unfolding zeros
length-zeros k = length-replicate k 0

pub bytes-zeros : (k : ℕ) → AreBytes (zeros k)
unfolding zeros
bytes-zeros k = All-replicate (λ x. x < 256) k 0 (omega arith)

pub text-zeros : (k : ℕ) → IsUtf8 (zeros k)
unfolding zeros
text-zeros zero = IsUtf8-nil
text-zeros (suc k) = IsUtf8-append (0 ∷ []) (replicate k 0) (is_one 0 (omega arith)) (text-zeros k)

pub begin-text : (n : ℕ) (b : List ℕ) → length b ≤ n → IsUtf8 b → BeginText n b
begin-text n b le u =
    let z : List ℕ = zeros (n - length b) in
    let len = length-zeros (n - length b) in
    (z, omega (arith, length-append b z), IsUtf8-append b z u (text-zeros (n - length b)))

module _ (b : List ℕ) (at : ℕ) (v : IsValidUpTo b at) where
  none-behind : NoneStands (drop at b)
  none-behind w some u = v.longest (at + w) (omega arith) (longer b at w v.front u)

  some-behind : 0 < length (drop at b)
  some-behind = let s = v.short in omega (arith, length-drop at b)

  parts : b ≡ take at b ++ drop at b
  parts = sym (take-append-drop at b)

  text-behind : (t : List ℕ) → IsUtf8 (b ++ t) → IsUtf8 (drop at b ++ t)
  text-behind t u =
      let s = v.short in
      let front : take at (b ++ t) ≡ take at b = take-append-le at b t (omega arith) in
      subst IsUtf8 (drop-append-le at b t (omega arith))
      (after_text (b ++ t) at u (subst IsUtf8 (sym front) v.front))

  pub none-begun : (n k : ℕ) → utf8_error_len (drop at b) ≡ Some k → BeginText n b → ⊥
  none-begun n k e (t, len, u) = no_text-fault (drop at b) t k none-behind some-behind
      (sym (utf8_error_len_some (drop at b) some-behind) ∙ e) (text-behind t u)

  -- where the character that begins there has room
  pub begun-room : (n : ℕ) → BeginText n b → continuation_len (get_or b at 0) < n - at
  begun-room n (t, len, u) =
      let s = v.short in
      let some = some-behind in
      let first : get_or (drop at b ++ t) 0 0 ≡ get_or b at 0 =
      get_or_append_left (drop at b) t 0 0 some ∙ get_or-drop at b 0 0 ∙
      ap (λ k. get_or b k 0) (let k : at + 0 ≡ at = omega arith in k) in
      let room : continuation_len (get_or (drop at b ++ t) 0 0) < length (drop at b ++ t) =
      char-room (drop at b ++ t) (text-behind t u) (omega (arith, length-append (drop at b) t)) in
      subst (λ x. continuation_len x < n - at) first
      (omega (arith, room, length-append (drop at b) t, length-append b t, length-drop at b, len))

  ended : (n : ℕ) → continuation_len (get_or b at 0) < n - at → CharEnds (drop at b) → BeginText n b
  ended n room (t, u, len) =
      let s = v.short in
      let first : get_or (drop at b) 0 0 ≡ get_or b at 0 =
      get_or-drop at b 0 0 ∙ ap (λ k. get_or b k 0) (let k : at + 0 ≡ at = omega arith in k) in
      let size : length (drop at b ++ t) ≡ suc (continuation_len (get_or b at 0)) =
      len ∙ ap (λ x. suc (continuation_len x)) first in
      let same : b ++ t ≡ take at b ++ (drop at b ++ t) =
      ap (λ (l : List ℕ). l ++ t) parts ∙ append_assoc (take at b) (drop at b) t in
      let text : IsUtf8 (b ++ t) =
      subst IsUtf8 (sym same) (IsUtf8-append (take at b) (drop at b ++ t) v.front u) in
      let fits : length (b ++ t) ≤ n =
      omega (arith, size, length-append b t, length-append (drop at b) t, length-drop at b) in
      more n t (begin-text n (b ++ t) fits text)
    where
      more : (n : ℕ) (t : List ℕ) → BeginText n (b ++ t) → BeginText n b
      more n t (z, len, u) = (t ++ z, ap length (sym (append_assoc b t z)) ∙ len, subst IsUtf8 (append_assoc b t z) u)

  pub room-begun : (n : ℕ) → length (drop at b) < 4 → utf8_error_len (drop at b) ≡ None →
      continuation_len (get_or b at 0) < n - at → BeginText n b
  room-begun n few e room = ended n room
      (char-ends (drop at b) none-behind some-behind few (sym (utf8_error_len_some (drop at b) some-behind) ∙ e))
