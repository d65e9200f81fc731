-- What is printed of a tree denotes it.
use Rattle.std.proofs.Common.{◌≡◌, ◌<◌, ◌≤◌, ◌+◌, ◌*◌, ◌/◌, ◌%◌, ◌^◌, ◌==◌, ℕ, zero, suc, Bool, true, false, List, []}
use Rattle.std.proofs.Common.{◌∷◌, ◌++◌, Option, Some, None, ℤ, pos, negsuc, codes, decimal, if◌then◌else◌, nat_lt}
use Rattle.std.proofs.Common.{get_or, length, refl, sym, ap, ◌∙◌, subst, arith, rules, append_assoc, append-nil, All}
use Rattle.std.proofs.{Common.{slice_index, inl, inr, nat_le, option_map}, lemmas.Bool.{lt-ltb, Decides.eqb_tells}}
use Rattle.std.proofs.lemmas.{Fmt.{decimal_is_IsNumeral_wide, decimal_by_steps_wide}, List.Elements.All-head}
use Rattle.std.{proofs.lemmas.{List.Elements.All-tail, Str.{encode_ascii, Parse.tells_digits}}, specs.Char.digit_value}
use Rattle.std.specs.{Fmt.signed_decimal, List.{flat_map, repeat}, Str.Parse.{AllDigits, digits_value_after, IsNumeral}}
use Rattle.std.specs.Str.Parse.{digits_value}
use Rattle.hex.specs.Hex.{encode_lower, encode_with, lower_digits}
use Rattle.ciborium_value.proofs.Denoting.{OneTree.one_tree_is_denoted, Texts.{plain_byte, unit_character, utf8_token}}
use Rattle.ciborium_value.specs.{Counts.{tree_pairs_count, trees_count}, Denotes.{BeginsTree, BeginsItems, BeginsPairs}}
use Rattle.ciborium_value.specs.Denotes.{DenotesWithin, IsSeparated, IsToken, alone, depth, depth_of_items}
use Rattle.ciborium_value.specs.Denotes.{depth_of_pairs, item, listed, mapped, no_item, no_pair, pair, tagged}
use Rattle.ciborium_value.specs.Notation.{comma as comma_text, escape, escaped, last_break, line_break, needs_escape}
use Rattle.ciborium_value.specs.Notation.{notation_on, notations_on, one_level_more, pair_notations_on, styled_notation}
use Rattle.ciborium_value.specs.{ProperTrees.{AreProperTreePairs, AreProperTrees, IsProperTree}, Tokens.Token}
use Rattle.ciborium_value.specs.Tokens.{begin_array, begin_map, begin_tag, begins_float, behind, behind_blanks, colon}
use Rattle.ciborium_value.specs.Tokens.{comma, digit_of, digits_behind, end_array, end_map, end_tag, hex_at, is_white}
use Rattle.ciborium_value.specs.Tokens.{leaf, prepended, text_at, token_at, unsigned_at, whole_at, digits_at, is_high}
use Rattle.ciborium_value.specs.Tokens.{minus_token, number_token, one_digit_more, plus_token, text_token, token_of}
use Rattle.ciborium_value.specs.{Tokens.unit_in, Tree.{Tree, TreePairs, Trees}, laws.NotationLaws.PrintedAlikeIsEqual}
use Rattle.ciborium_value.specs.laws.NotationLaws.{PrintedIsDenoted}
use Rattle.ciborium_ll.specs.Integer.{IsInRange}
use Rattle.ciborium_value.specs.Tree as trees

-- ---- what may follow a tree: a comma, a closing bracket, a parenthesis, a colon or a line feed

pub data Ends : ℕ → Type 0 where
  comma_ends : Ends 44
  array_ends : Ends 93
  map_ends : Ends 125
  tag_ends : Ends 41
  colon_ends : Ends 58
  line_ends : Ends 10

abbrev pub Follows : List ℕ → Type 0
Follows [] = Unit {0}
Follows (b ∷ t) = Ends b

-- what may follow the digits of a number
abbrev pub Stops : List ℕ → Type 0
Stops [] = Unit {0}
Stops (b ∷ t) = (digit_of 10 b ≡ None) × (begins_float (b ∷ t) ≡ false) × ((b == 120) ≡ false) × ((b == 111) ≡ false) ×
    ((b == 98) ≡ false)

stops : (t : List ℕ) → Follows t → Stops t
stops [] h = tt
stops (b ∷ t) comma_ends = (refl, refl, refl, refl, refl)
stops (b ∷ t) h = (refl, refl, refl, refl, refl)

no-parenthesis : (t : List ℕ) → Follows t → behind (codes "(") t ≡ None
no-parenthesis (b ∷ t) comma_ends = refl
no-parenthesis t h = refl

-- ---- digits

digit : (base b : ℕ) → digit_value b < base → digit_of base b ≡ Some (digit_value b)
digit base b h = ap (λ c. if c then Some (digit_value b) else None) (lt-ltb (digit_value b) base h)

run : (m : ℕ) (ds r : List ℕ) → AllDigits 10 ds → Stops r → digits_behind 10 m (ds ++ r) ≡ (
  digits_value_after 10 m ds,
  r,
)
run m [] [] all s = refl
run m [] (b ∷ r) all s =
    ap (λ (o : Option ℕ). elim o [ None ↦ (m, b ∷ r) | Some d ↦ digits_behind 10 (m * 10 + d) r ]) s.0
run m (c ∷ ds) r (h, all) s =
    ap (λ (o : Option ℕ). elim o [ None ↦ (m, c ∷ (ds ++ r)) | Some d ↦ digits_behind 10 (m * 10 + d) (ds ++ r) ])
    (digit 10 c h) ∙ run (m * 10 + digit_value c) ds r all s

-- a digit of base16
nibble : (d : ℕ) → d < 16 → (digit_of 16 (slice_index lower_digits d) ≡ Some d) ×
    (is_white (slice_index lower_digits d) ≡ false)
nibble (suc (suc (suc (suc (suc (suc (suc (suc (suc (suc (suc (suc (suc (suc (suc (suc n)))))))))))))))) h =
    absurd (omega (arith, h))
nibble d h = (refl, refl)

-- ---- numbers

in-decimal : (c : ℕ) (ds : List ℕ) → AllDigits 10 (c ∷ ds) → (48 ≤ c) × (c ≤ 57)
in-decimal c ds all = let r = (tells_digits.parts c ds all).0 in (omega (arith, r), omega (arith, r))

number-plus : (c : ℕ) (t : List ℕ) → (c == 45) ≡ false → number_token (c ∷ t) ≡ plus_token (whole_at (c ∷ t))
number-plus c t minus = ap (λ (b : Bool). elim (if b then Some t else None) as (λ x. Option (Token × List ℕ)) [
  | Some r ↦ minus_token (whole_at r)
  | None ↦ plus_token (whole_at (c ∷ t))
]) minus

-- a token that begins with a digit
digit-token : (c : ℕ) (t : List ℕ) → 48 ≤ c → c ≤ 57 → token_at (c ∷ t) ≡ plus_token (whole_at (c ∷ t))
digit-token c t low high =
    let quote : (c == 34) ≡ false = search (rules, low) in
    let minus : (c == 45) ≡ false = search (rules, low) in
    let from : nat_le 48 c ≡ true = search (rules, low) in
    let to : nat_le c 57 ≡ true = search (rules, high) in
    rw quote (rw minus (rw from (rw to (number-plus c t minus))))

-- zero is one digit, and no other number begins with it
abbrev BeginsRight : ℕ → List ℕ → Type 0
BeginsRight n ds = (n ≡ 0 → ds ≡ 48 ∷ []) × (0 < n → (48 < get_or ds 0 0) × (0 < length ds))

begins-right : (n : ℕ) → n < 10 ^ 64 → BeginsRight n (decimal n)
begins-right = decimal_by_steps_wide BeginsRight one more
  where
    one : (n : ℕ) → n < 10 → BeginsRight n ((48 + n) ∷ [])
    one n h = (λ e. ap (λ m. (48 + m) ∷ []) e, λ some. (omega (arith, some), omega arith))

    more : (n : ℕ) (ds : List ℕ) → 10 ≤ n → BeginsRight (n / 10) ds → BeginsRight n (ds ++ ((48 + n % 10) ∷ []))
    more n [] h p = absurd (let q = p.1 (omega (arith, h)) in omega (arith, q.1))
    more n (d ∷ ds) h p = (
      λ e. absurd (omega (arith, e, h)),
      λ some. let q = p.1 (omega (arith, h)) in (q.0, omega arith),
    )

first-not-zero : (n c : ℕ) (ds : List ℕ) → 0 < n → n ≤ 2 ^ 64 → decimal n ≡ c ∷ ds → (c == 48) ≡ false
first-not-zero n c ds some most e =
    let first = ((begins-right n (omega (arith, most))).1 some).0 in
    let same : get_or (decimal n) 0 0 ≡ c = ap (λ (l : List ℕ). get_or l 0 0) e in
    let above : 48 < c = omega (arith, first, same) in
    search (rules, above)

zero-at : (r : List ℕ) → Stops r → unsigned_at (48 ∷ r) ≡ Some (0, r)
zero-at [] s = refl
zero-at (b ∷ r) s = ap (λ x. picked x (b == 111) (b == 98)) s.2 ∙ ap (λ x. picked false x (b == 98)) s.3 ∙
    ap (picked false false) s.4
  where
    -- what stands there, where a letter for a base follows the zero or none does
    picked : Bool → Bool → Bool → Option (ℕ × List ℕ)
    picked hex octal binary = elim (if hex then Some r else None) [
      | Some t ↦ digits_at 16 t
      | None ↦ elim (if octal then Some r else None) [
        | Some t ↦ digits_at 8 t
        | None ↦ elim (if binary then Some r else None) [ Some t ↦ digits_at 2 t | None ↦ Some (0, b ∷ r) ]
      ]
    ]

digits-at : (c n : ℕ) (ds r : List ℕ) → (c == 48) ≡ false → AllDigits 10 (c ∷ ds) → digits_value 10 (c ∷ ds) ≡ n →
    Stops r → unsigned_at (c ∷ (ds ++ r)) ≡ Some (n, r)
digits-at c n ds r other all value s = ap picked other ∙
    ap (λ (o : Option ℕ). elim o as (λ x. Option (ℕ × List ℕ)) [
      | None ↦ None
      | Some d ↦ Some (digits_behind 10 0 (c ∷ (ds ++ r)))
    ]) (digit 10 c all.0) ∙
    ap Some (run 0 (c ∷ ds) r all s) ∙ ap (λ m. Some (m, r)) value
  where
    -- what stands there, where the first digit is zero or is not
    picked : Bool → Option (ℕ × List ℕ)
    picked b = elim (if b then behind (codes "x") (ds ++ r) else None) [
      | Some t ↦ digits_at 16 t
      | None ↦ elim (if b then behind (codes "o") (ds ++ r) else None) [
        | Some t ↦ digits_at 8 t
        | None ↦ elim (if b then behind (codes "b") (ds ++ r) else None) [
          | Some t ↦ digits_at 2 t
          | None ↦ if b then Some (0, ds ++ r) else digits_at 10 (c ∷ (ds ++ r))
        ]
      ]
    ]

no-float : (r : List ℕ) → Stops r → begins_float r ≡ false
no-float [] s = refl
no-float (b ∷ r) s = s.1

-- the digits of a number, and that they make it
decimal-whole : (n : ℕ) (r : List ℕ) → n ≤ 2 ^ 64 → Stops r →
    (c : ℕ) × (ds : List ℕ) × (decimal n ≡ c ∷ ds) × (48 ≤ c) × (c ≤ 57) × (whole_at (c ∷ (ds ++ r)) ≡ Some (n, r))
decimal-whole n r most s = of (decimal n) refl (decimal_is_IsNumeral_wide n (omega (arith, most)))
  where
    float : unsigned_at (decimal n ++ r) ≡ Some (n, r) → whole_at (decimal n ++ r) ≡ Some (n, r)
    float e = ap (λ (o : Option (ℕ × List ℕ)). elim o as (λ x. Option (ℕ × List ℕ)) [
      | None ↦ None
      | Some p ↦ if begins_float p.1 then None else Some p
    ]) e ∙ ap (λ b. if b then None else Some (n, r)) (no-float r s)

    found : (m c : ℕ) (ds : List ℕ) → m ≡ n → decimal n ≡ c ∷ ds → AllDigits 10 (c ∷ ds) →
        digits_value 10 (c ∷ ds) ≡ n → unsigned_at (c ∷ (ds ++ r)) ≡ Some (n, r)
    found zero c ds m e all value =
        let ten : c ∷ ds ≡ 48 ∷ [] = sym e ∙ (begins-right n (omega (arith, most))).0 (sym m) in
        ap (λ (l : List ℕ). unsigned_at (l ++ r)) ten ∙ zero-at r s ∙ ap (λ x. Some (x, r)) m
    found (suc k) c ds m e all value = digits-at c n ds r (first-not-zero n c ds (omega (arith, m)) most e) all value s

    of : (l : List ℕ) → l ≡ decimal n → IsNumeral 10 (decimal n) × (digits_value 10 (decimal n) ≡ n) →
        (c : ℕ) × (ds : List ℕ) × (decimal n ≡ c ∷ ds) × (48 ≤ c) × (c ≤ 57) × (whole_at (c ∷ (ds ++ r)) ≡ Some (n, r))
    of [] e (numeral, value) = let zero = ap length e in absurd (omega (arith, numeral.0, zero))
    of (c ∷ ds) e (numeral, value) =
        let all : AllDigits 10 (c ∷ ds) = subst (AllDigits 10) (sym e) numeral.1 in
        let range = in-decimal c ds all in (
          c,
          ds,
          sym e,
          range.0,
          range.1,
          ap (λ (l : List ℕ). whole_at (l ++ r)) e ∙ float (ap (λ (l : List ℕ). unsigned_at (l ++ r)) (sym e) ∙
              found n c ds refl (sym e) all (ap (digits_value 10) e ∙ value)),
        )

plus-number : (n : ℕ) (r : List ℕ) → n < 2 ^ 64 → Follows r →
    plus_token (Some (n, r)) ≡ Some (leaf (trees.integer (pos n)), r)
plus-number n r h f =
    let less : nat_lt n (2 ^ 128) ≡ true = search (rules, h) in
    let small : nat_lt n (2 ^ 64) ≡ true = search (rules, h) in
    rw (no-parenthesis r f) (rw less (rw small refl))

minus-number : (n : ℕ) (r : List ℕ) → n < 2 ^ 64 → minus_token (Some (suc n, r)) ≡ Some (
  leaf (trees.integer (negsuc
      n)),
  r,
)
minus-number n r h =
    let less : nat_le (suc n) (2 ^ 127) ≡ true = search (rules, h) in
    let small : nat_lt n (2 ^ 64) ≡ true = search (rules, h) in
    rw less (rw small refl)

number-token : (z : ℤ) (r : List ℕ) → IsInRange z → Follows r →
    token_at (signed_decimal z ++ r) ≡ Some (leaf (trees.integer z), r)
number-token (pos n) r h f =
    let (c, ds, e, low, high, whole) = decimal-whole n r (omega (arith, h)) (stops r f) in
    ap (λ (l : List ℕ). token_at (l ++ r)) e ∙ digit-token c (ds ++ r) low high ∙ ap plus_token whole ∙
    plus-number n r h f
number-token (negsuc n) r h f =
    let (c, ds, e, low, high, whole) = decimal-whole (suc n) r (omega (arith, h)) (stops r f) in
    ap minus_token (ap (λ (l : List ℕ). whole_at (l ++ r)) e ∙ whole) ∙ minus-number n r h

tag-token : (n : ℕ) (r : List ℕ) → n < 2 ^ 64 → token_at (decimal n ++ (40 ∷ r)) ≡ Some (begin_tag n, r)
tag-token n r h =
    let (c, ds, e, low, high, whole) = decimal-whole n (40 ∷ r) (omega (arith, h)) (refl, refl, refl, refl, refl) in
    let small : nat_lt n (2 ^ 64) ≡ true = search (rules, h) in
    ap (λ (l : List ℕ). token_at (l ++ (40 ∷ r))) e ∙ digit-token c (ds ++ (40 ∷ r)) low high ∙ ap plus_token whole ∙
    rw small refl

-- no blank begins a number
not-blank : (c : ℕ) (t : List ℕ) → 48 ≤ c → c ≤ 57 → behind_blanks (c ∷ t) ≡ Some (c ∷ t)
not-blank c t low high =
    let space : (c == 32) ≡ false = search (rules, low) in
    let tab : (c == 9) ≡ false = search (rules, low) in
    let feed : (c == 10) ≡ false = search (rules, low) in
    let return : (c == 13) ≡ false = search (rules, low) in
    let slash : (c == 47) ≡ false = search (rules, low) in
    let sign : (c == 35) ≡ false = search (rules, low) in
    rw space (rw tab (rw feed (rw return (rw slash (rw sign refl)))))

decimal-not-blank : (n : ℕ) (r : List ℕ) → n ≤ 2 ^ 64 → behind_blanks (decimal n ++ r) ≡ Some (decimal n ++ r)
decimal-not-blank n r h = let (c, ds, e, low, high, whole) = decimal-whole n [] h tt in
    subst (λ (l : List ℕ). behind_blanks (l ++ r) ≡ Some (l ++ r)) (sym e) (not-blank c (ds ++ r) low high)

number-not-blank : (z : ℤ) (r : List ℕ) → IsInRange z →
    behind_blanks (signed_decimal z ++ r) ≡ Some (signed_decimal z ++ r)
number-not-blank (pos n) r h = decimal-not-blank n r (omega (arith, h))
number-not-blank (negsuc n) r h = refl

-- ---- byte strings

hex-run : (b r : List ℕ) → All (λ x. x < 256) b → hex_at None (encode_lower b ++ (39 ∷ r)) ≡ Some (b, r)
unfolding encode_with
hex-run [] r all = refl
hex-run (x ∷ b) r all =
    let small = All-head (λ y. y < 256) x b all in
    let high = nibble (x / 16) (omega (arith, small)) in
    let low = nibble (x % 16) (omega arith) in
    let whole : x / 16 * 16 + x % 16 ≡ x = omega arith in
    rw high.1 (rw high.0 (rw low.1 (rw low.0 (rw whole
    (ap (prepended (x ∷ [])) (hex-run b r (All-tail (λ y. y < 256) x b all)))))))

-- ---- texts

hex-pair : (b : ℕ) → encode_lower (b ∷ []) ≡ slice_index lower_digits (b / 16) ∷ slice_index lower_digits (b % 16) ∷ []
unfolding encode_with
hex-pair b = refl

more-digit : (n c d : ℕ) → digit_of 16 c ≡ Some d → one_digit_more (Some n) c ≡ Some (n * 16 + d)
more-digit n c d e = ap (λ (o : Option ℕ). elim o as (λ x. Option ℕ) [ None ↦ None | Some d ↦ Some (n * 16 + d) ]) e

control : (b : ℕ) (x : List ℕ) → b < 32 →
    text_at ((codes "\\u00" ++ encode_lower (b ∷ [])) ++ x) ≡ prepended (b ∷ []) (text_at x)
control b x h =
    let hi = slice_index lower_digits (b / 16) in
    let lo = slice_index lower_digits (b % 16) in
    let high = nibble (b / 16) (omega (arith, h)) in
    let low = nibble (b % 16) (omega arith) in
    let whole : (0 * 16 + b / 16) * 16 + b % 16 ≡ b = omega arith in
    let pairs = λ (o : Option ℕ). option_map {U = ℕ × List ℕ} (λ n. (n, x)) o in
    let unit : unit_in (48 ∷ 48 ∷ hi ∷ lo ∷ x) ≡ Some (b, x) =
    ap (λ o. pairs (one_digit_more o lo)) (more-digit 0 hi (b / 16) high.0) ∙
    ap pairs (more-digit (0 * 16 + b / 16) lo (b % 16) low.0) ∙ ap (λ n. Some (n, x)) whole in
    let plain : is_high b ≡ false = search (rules, h) in
    ap (λ (l : List ℕ). text_at ((codes "\\u00" ++ l) ++ x)) (hex-pair b) ∙
    unit_character (48 ∷ 48 ∷ hi ∷ lo ∷ x) x b b unit plain (inl (omega (arith, h))) refl ∙
    ap (λ (l : List ℕ). prepended l (text_at x)) (encode_ascii b (omega (arith, h)))

escape-at : (b : ℕ) (x : List ℕ) → needs_escape b ≡ true → text_at (escape b ++ x) ≡ prepended (b ∷ []) (text_at x)
escape-at b x needs = elim (eqb_tells b 34) [
  | inl h ↦ is 34 h.1 refl
  | inr h34 ↦ elim (eqb_tells b 92) [
    | inl h ↦ is 92 h.1 refl
    | inr h92 ↦ elim (eqb_tells b 8) [
      | inl h ↦ is 8 h.1 refl
      | inr h8 ↦ elim (eqb_tells b 9) [
        | inl h ↦ is 9 h.1 refl
        | inr h9 ↦ elim (eqb_tells b 10) [
          | inl h ↦ is 10 h.1 refl
          | inr h10 ↦ elim (eqb_tells b 12) [
            | inl h ↦ is 12 h.1 refl
            | inr h12 ↦ elim (eqb_tells b 13) [
              | inl h ↦ is 13 h.1 refl
              | inr h13 ↦ rw h34.0 (rw h92.0 (rw h8.0 (rw h9.0 (rw h10.0 (rw h12.0 (rw h13.0 (control b x
                  (below h34.0 h92.0))))))))
            ]
          ]
        ]
      ]
    ]
  ]
]
  where
    is : (k : ℕ) → b ≡ k → text_at (escape k ++ x) ≡ prepended (k ∷ []) (text_at x) →
        text_at (escape b ++ x) ≡ prepended (b ∷ []) (text_at x)
    is k e h = subst (λ c. text_at (escape c ++ x) ≡ prepended (c ∷ []) (text_at x)) (sym e) h

    below : (b == 34) ≡ false → (b == 92) ≡ false → b < 32
    below quote slash = search (rules, needs, quote, slash)

escaped-at : (b : ℕ) (x : List ℕ) → text_at (escaped b ++ x) ≡ prepended (b ∷ []) (text_at x)
escaped-at b x = of (needs_escape b) refl
  where
    of : (c : Bool) → c ≡ needs_escape b → text_at (escaped b ++ x) ≡ prepended (b ∷ []) (text_at x)
    of true e = ap (λ c. text_at ((if c then escape b else b ∷ []) ++ x)) (sym e) ∙ escape-at b x (sym e)
    of false e = ap (λ c. text_at ((if c then escape b else b ∷ []) ++ x)) (sym e) ∙ plain_byte b x (sym e)

text-run : (t r : List ℕ) → text_at (flat_map escaped t ++ (34 ∷ r)) ≡ Some (t, r)
text-run [] r = refl
text-run (b ∷ t) r = ap text_at (append_assoc (escaped b) (flat_map escaped t) (34 ∷ r)) ∙
    escaped-at b (flat_map escaped t ++ (34 ∷ r)) ∙ ap (prepended (b ∷ [])) (text-run t r)

-- ---- tokens, and blanks before them

at : (s r : List ℕ) (k : Token) → behind_blanks s ≡ Some s → token_at s ≡ Some (k, r) → IsToken s k r
at s r k b e = (s, b, e)

-- the same behind other blanks
past : (l : ℕ) (t x r : List ℕ) (v : Tree) → behind_blanks t ≡ behind_blanks x → BeginsTree l x v r → BeginsTree l t v r
past l t x r v b (alone _ _ _ _ (s, c, e)) = alone l v t r (s, b ∙ c, e)
past l t x r v b (tagged m n u _ s w _ (y, c, e) d end) = tagged m n u t s w r (y, b ∙ c, e) d end
past l t x r v b (listed m vs _ s _ (y, c, e) d) = listed m vs t s r (y, b ∙ c, e) d
past l t x r v b (mapped m ps _ s _ (y, c, e) d) = mapped m ps t s r (y, b ∙ c, e) d

past-token : (t x r : List ℕ) (k : Token) → behind_blanks t ≡ behind_blanks x → IsToken x k r → IsToken t k r
past-token t x r k b (s, c, e) = (s, b ∙ c, e)

indents : (level : ℕ) (x : List ℕ) → behind_blanks (repeat level (codes "  ") ++ x) ≡ behind_blanks x
indents zero x = refl
indents (suc level) x = indents level x

breaks : (lines : Option ℕ) (x : List ℕ) → behind_blanks (line_break lines ++ x) ≡ behind_blanks x
breaks None x = refl
breaks (Some level) x = indents level x

last-is : (lines : Option ℕ) (n : ℕ) → last_break lines (suc n) ≡ line_break lines
last-is lines n = let some : (suc n == 0) ≡ false = search rules in ap (λ c. if c then [] else line_break lines) some

last-breaks : (lines : Option ℕ) (n : ℕ) (x : List ℕ) → behind_blanks (last_break lines n ++ x) ≡ behind_blanks x
last-breaks lines zero x = refl
last-breaks lines (suc n) x = ap (λ (l : List ℕ). behind_blanks (l ++ x)) (last-is lines n) ∙ breaks lines x

-- what stands between the items: a comma, or nothing before the first
abbrev between : Bool → Option ℕ → List ℕ
between false lines = []
between true lines = comma_text lines

-- what stands behind it, past blanks
separated : (l : ℕ) (due : Bool) (lines : Option ℕ) (x r : List ℕ) (v : Tree) → BeginsTree l x v r →
    (s : List ℕ) × IsSeparated due (between due lines ++ (line_break lines ++ x)) s × BeginsTree l s v r
separated l false lines x r v d = (line_break lines ++ x, refl, past l (line_break lines ++ x) x r v (breaks lines x) d)
separated l true None x r v d = (32 ∷ x, at (44 ∷ 32 ∷ x) (32 ∷ x) comma refl refl, past l (32 ∷ x) x r v refl d)
separated l true (Some level) x r v d = (
  line_break (Some level) ++ x,
  at (44 ∷ (line_break (Some level) ++ x)) (line_break (Some level) ++ x) comma refl refl,
  past l (line_break (Some level) ++ x) x r v (breaks (Some level) x) d,
)

-- ---- what is printed

-- what follows an item or a pair may follow a tree
more-follow : (lines : Option ℕ) (vs : Trees) (x : List ℕ) → Follows x →
    Follows (notations_on lines (comma_text lines) vs ++ x)
more-follow lines trees.no_trees x f = f
more-follow None (trees.tree v vs) x f = comma_ends
more-follow (Some level) (trees.tree v vs) x f = comma_ends

more-pairs-follow : (lines : Option ℕ) (ps : TreePairs) (x : List ℕ) → Follows x →
    Follows (pair_notations_on lines (comma_text lines) ps ++ x)
more-pairs-follow lines trees.no_tree_pairs x f = f
more-pairs-follow None (trees.tree_pair k v ps) x f = comma_ends
more-pairs-follow (Some level) (trees.tree_pair k v ps) x f = comma_ends

last-follows : (lines : Option ℕ) (n b : ℕ) (x : List ℕ) → Ends b → Follows (last_break lines n ++ (b ∷ x))
last-follows lines zero b x f = f
last-follows None (suc n) b x f = subst (λ (l : List ℕ). Follows (l ++ (b ∷ x))) (sym (last-is None n)) f
last-follows (Some level) (suc n) b x f =
    subst (λ (l : List ℕ). Follows (l ++ (b ∷ x))) (sym (last-is (Some level) n)) line_ends

mutual
  printed : (l : ℕ) (lines : Option ℕ) (v : Tree) (r : List ℕ) → depth v ≤ l → IsProperTree v → Follows r →
      BeginsTree l (notation_on lines v ++ r) v r
  printed l lines (trees.integer z) r _ h f = alone l _ _ r
      (at (signed_decimal z ++ r) r (leaf (trees.integer z)) (number-not-blank z r h) (number-token z r h f))
  printed l lines (trees.bytes b) r _ h f = simp append_assoc
      (alone l _ _ r (at (104 ∷ 39 ∷ (encode_lower b ++ (39 ∷ r))) r (leaf (trees.bytes b)) refl
      (ap (token_of trees.bytes) (hex-run b r h.0))))
  printed l lines (trees.text b) r _ h f = simp append_assoc
      (alone l _ _ r (at (34 ∷ (flat_map escaped b ++ (34 ∷ r))) r (leaf (trees.text b)) refl
      (ap text_token (text-run b r) ∙ utf8_token b r h.0)))
  printed l lines (trees.boolean true) r _ h f =
      alone l _ _ r (at (codes "true" ++ r) r (leaf (trees.boolean true)) refl refl)
  printed l lines (trees.boolean false) r _ h f =
      alone l _ _ r (at (codes "false" ++ r) r (leaf (trees.boolean false)) refl refl)
  printed l lines trees.null r _ h f = alone l _ _ r (at (codes "null" ++ r) r (leaf trees.null) refl refl)
  printed zero lines (trees.tag n v) r m h f = absurd (omega (arith, m))
  printed (suc l) lines (trees.tag n v) r m h f = simp append_assoc
      (tagged l n v _ _ (41 ∷ r) r (at (decimal n ++ (40 ∷ (notation_on lines v ++ (41 ∷ r))))
      (notation_on lines v ++ (41 ∷ r)) (begin_tag n) (decimal-not-blank n _ (omega (arith, h.0)))
      (tag-token n (notation_on lines v ++ (41 ∷ r)) h.0)) (printed l lines v (41 ∷ r) (omega (arith, m)) h.1 tag_ends)
      (at (41 ∷ r) r end_tag refl refl))
  printed zero lines (trees.array vs) r n h f = absurd (omega (arith, n))
  printed (suc l) lines (trees.array vs) r n h f =
      let last = last_break lines (trees_count vs) in
      let rows = notations_on (one_level_more lines) [] vs in
      simp append_assoc
      (listed l vs _ (rows ++ (last ++ (93 ∷ r))) r (at (91 ∷ (rows ++ (last ++ (93 ∷ r)))) _ begin_array refl refl)
      (printed-items l (one_level_more lines) false vs (last ++ (93 ∷ r)) r (omega (arith, n)) h.1
      (last-follows lines (trees_count vs) 93 r array_ends) (past-token (last ++ (93 ∷ r)) (93 ∷ r) r end_array
      (last-breaks lines (trees_count vs) (93 ∷ r)) (at (93 ∷ r) r end_array refl refl))))
  printed zero lines (trees.map ps) r n h f = absurd (omega (arith, n))
  printed (suc l) lines (trees.map ps) r n h f =
      let last = last_break lines (tree_pairs_count ps) in
      let rows = pair_notations_on (one_level_more lines) [] ps in
      simp append_assoc
      (mapped l ps _ (rows ++ (last ++ (125 ∷ r))) r (at (123 ∷ (rows ++ (last ++ (125 ∷ r)))) _ begin_map refl refl)
      (printed-pairs l (one_level_more lines) false ps (last ++ (125 ∷ r)) r (omega (arith, n)) h.1
      (last-follows lines (tree_pairs_count ps) 125 r map_ends) (past-token (last ++ (125 ∷ r)) (125 ∷ r) r end_map
      (last-breaks lines (tree_pairs_count ps) (125 ∷ r)) (at (125 ∷ r) r end_map refl refl))))

  printed-items : (l : ℕ) (lines : Option ℕ) (due : Bool) (vs : Trees) (x r : List ℕ) → depth_of_items vs ≤ l →
      AreProperTrees vs → Follows x → IsToken x end_array r →
      BeginsItems l due (notations_on lines (between due lines) vs ++ x) vs r
  printed-items l lines due trees.no_trees x r n h f end = no_item l due x r end
  printed-items l lines due (trees.tree v vs) x r n h f end =
      let more = notations_on lines (comma_text lines) vs in
      let (s, apart, first) = separated l due lines (notation_on lines v ++ (more ++ x)) (more ++ x) v
      (printed l lines v (more ++ x) (omega (arith, n)) h.0 (more-follow lines vs x f)) in
      simp append_assoc
      (item l due v vs _ s (more ++ x) r apart first (printed-items l lines true vs x r (omega (arith, n)) h.1 f end))

  printed-pairs : (l : ℕ) (lines : Option ℕ) (due : Bool) (ps : TreePairs) (x r : List ℕ) → depth_of_pairs ps ≤ l →
      AreProperTreePairs ps → Follows x → IsToken x end_map r →
      BeginsPairs l due (pair_notations_on lines (between due lines) ps ++ x) ps r
  printed-pairs l lines due trees.no_tree_pairs x r n h f end = no_pair l due x r end
  printed-pairs l lines due (trees.tree_pair k v ps) x r n h f end =
      let more = pair_notations_on lines (comma_text lines) ps in
      let rest = notation_on lines v ++ (more ++ x) in
      let (s, apart, first) = separated l due lines (notation_on lines k ++ (58 ∷ 32 ∷ rest)) (58 ∷ 32 ∷ rest) k
      (printed l lines k (58 ∷ 32 ∷ rest) (omega (arith, n)) h.0 colon_ends) in
      simp append_assoc
      (pair l due k v ps _ s (58 ∷ 32 ∷ rest) (32 ∷ rest) (more ++ x) r apart first
      (at (58 ∷ 32 ∷ rest) (32 ∷ rest) colon refl refl)
      (past l (32 ∷ rest) rest (more ++ x) v refl
      (printed l lines v (more ++ x) (omega (arith, n)) h.1 (more-pairs-follow lines ps x f)))
      (printed-pairs l lines true ps x r (omega (arith, n)) h.2 f end))

-- what is printed on one line or over lines
on-lines : (lines : Option ℕ) (v : Tree) → IsProperTree v → DenotesWithin (depth v) (notation_on lines v) v
on-lines lines v h = (
  [],
  subst (λ (t : List ℕ). BeginsTree (depth v) t v []) (append-nil (notation_on lines v))
      (printed (depth v) lines v [] (omega arith) h tt),
  refl,
)

pub printed_is_denoted : PrintedIsDenoted
printed_is_denoted true v h = on-lines (Some 0) v h
printed_is_denoted false v h = on-lines None v h

pub printed_alike_is_equal : PrintedAlikeIsEqual
printed_alike_is_equal b v w h k e = one_tree_is_denoted (styled_notation b w) v w
    (depth v, subst (λ t. DenotesWithin (depth v) t v) e (printed_is_denoted b v h)) (depth w, printed_is_denoted b w k)
