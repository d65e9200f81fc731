-- Texts and numbers of notation, as they are read.
use Rattle.std.proofs.Common.{◌≡◌, ◌≤◌, ◌<◌, ◌+◌, ◌*◌, ◌^◌, ℕ, Bool, true, false, List, [], ◌∷◌, ◌++◌, Option, Some}
use Rattle.std.proofs.Common.{None, rules, encode_utf8, if◌then◌else◌, option_map, refl, sym, ap, ◌∙◌, subst, arith}
use Rattle.std.proofs.Common.{append_assoc, IsUtf8, le_trans, nat_lt, drop, get_or, length, length-drop, take, take_all}
use Rattle.std.proofs.{Common.{◌-◌, append-nil, inl, inr}, lemmas.List.take-append-drop, Math.Nat.mul-le-mul_left}
use Rattle.std.proofs.{lemmas.Str.{IsUtf8-from_is_utf8, is_utf8-from_IsUtf8}, lemmas.List.Elements.{All-head, All-tail}}
use Rattle.std.specs.{Char.{InScalarRange, OutOfScalarRange}, Str.is_utf8}
use Rattle.ciborium_value.specs.{Notation.{IsPlain, needs_escape}, Tokens.{digit_of, digits_at, digits_behind, is_high}}
use Rattle.ciborium_value.specs.Tokens.{is_low, leaf, low_at, low_unit_at, paired, prepended, text_at, text_token}
use Rattle.ciborium_value.specs.Tokens.{Token, mark_of, token_at, unit_at, unit_in, unit_of}
use Rattle.ciborium_value.specs.{inner.ReadTokens.IsNoNumber}
use Rattle.ciborium_value.specs.Tree as trees

-- ---- units

-- what follows a unit
abbrev pub after_unit : ℕ → List ℕ → Option (List ℕ × List ℕ)
after_unit n t = if is_high n then low_at n t else if is_low n then None else prepended (encode_utf8 n) (text_at t)

abbrev pub after_low : ℕ → ℕ → List ℕ → Option (List ℕ × List ℕ)
after_low high n t = if is_low n then prepended (encode_utf8 (paired high n)) (text_at t) else None

none-of : (u : Option ℕ) (t : List ℕ) → option_map {U = ℕ × List ℕ} (λ n. (n, t)) u ≡ None → u ≡ None
none-of None t e = refl
none-of (Some n) t e = absurd (cc e)

some-of : (u : Option ℕ) (t r : List ℕ) (n : ℕ) →
    option_map {U = ℕ × List ℕ} (λ m. (m, t)) u ≡ Some (n, r) → (u ≡ Some n) × (t ≡ r)
some-of None t r n e = absurd (cc e)
some-of (Some m) t r n e = let p : (m, t) ≡ (n, r) = cc e in
    (ap (λ (q : ℕ × List ℕ). Some q.0) p, ap (λ (q : ℕ × List ℕ). q.1) p)

pub unit_none : (t : List ℕ) → unit_in t ≡ None → unit_at t ≡ None
unit_none (a ∷ b ∷ c ∷ d ∷ t) e =
    ap (λ (u : Option ℕ). elim u [ None ↦ None | Some n ↦ after_unit n t ]) (none-of (unit_of a b c d) t e)
unit_none (a ∷ b ∷ c ∷ []) e = refl
unit_none _ e = refl

pub unit_some : (t r : List ℕ) (n : ℕ) → unit_in t ≡ Some (n, r) → unit_at t ≡ after_unit n r
unit_some (a ∷ b ∷ c ∷ d ∷ t) r n e = let s = some-of (unit_of a b c d) t r n e in
    ap (λ (u : Option ℕ). elim u [ None ↦ None | Some m ↦ after_unit m t ]) s.0 ∙ ap (after_unit n) s.1
unit_some _ r n e = absurd (cc e)

pub low_none : (high : ℕ) (t : List ℕ) → unit_in t ≡ None → low_unit_at high t ≡ None
low_none high (a ∷ b ∷ c ∷ d ∷ t) e =
    ap (λ (u : Option ℕ). elim u [ None ↦ None | Some n ↦ after_low high n t ]) (none-of (unit_of a b c d) t e)
low_none high (a ∷ b ∷ c ∷ []) e = refl
low_none high _ e = refl

pub low_some : (high : ℕ) (t r : List ℕ) (n : ℕ) → unit_in t ≡ Some (n, r) → low_unit_at high t ≡ after_low high n r
low_some high (a ∷ b ∷ c ∷ d ∷ t) r n e = let s = some-of (unit_of a b c d) t r n e in
    ap (λ (u : Option ℕ). elim u [ None ↦ None | Some m ↦ after_low high m t ]) s.0 ∙ ap (after_low high n) s.1
low_some high _ r n e = absurd (cc e)

-- ---- the characters of units

not-low : (n : ℕ) → InScalarRange n → is_low n ≡ false
not-low n h = of (is_low n) refl
  where
    of : (b : Bool) → b ≡ is_low n → is_low n ≡ false
    of false e = sym e
    of true e = let both : (56320 ≤ n) × (n < 57344) = search (rules, e) in
        absurd (elim h [ inl a ↦ omega (arith, a, both) | inr r ↦ omega (arith, r, both) ])

pub unit_high : (t r : List ℕ) (n : ℕ) → unit_in t ≡ Some (n, r) → is_high n ≡ true → unit_at t ≡ low_at n r
unit_high t r n e high = unit_some t r n e ∙ rw high

pub unit_character : (t r : List ℕ) (n c : ℕ) → unit_in t ≡ Some (n, r) → is_high n ≡ false → InScalarRange n → c ≡ n →
    unit_at t ≡ prepended (encode_utf8 c) (text_at r)
unit_character t r n c e high range same = unit_some t r n e ∙ rw (high, not-low n range, same)

pub unit_alone : (t r : List ℕ) (n : ℕ) → unit_in t ≡ Some (n, r) → is_high n ≡ false → OutOfScalarRange n →
    n < 65536 → unit_at t ≡ None
unit_alone t r n e high out small = unit_some t r n e ∙ rw (high, low)
  where
    of : (b : Bool) → b ≡ nat_lt n 56320 → 55296 ≤ n → n < 57344 → is_low n ≡ true
    of true e range below = let yes : is_high n ≡ true = search (rules, e, range) in absurd (cc (yes, high))
    of false e range below = let above : 56320 ≤ n = search (rules, e) in search (rules, above, below)

    low : is_low n ≡ true
    low = of (nat_lt n 56320) refl (elim out [ inl a ↦ omega (arith, a) | inr b ↦ omega (arith, b, small) ])
        (elim out [ inl a ↦ omega (arith, a) | inr b ↦ omega (arith, b, small) ])

pub low_not : (high : ℕ) (t r : List ℕ) (n : ℕ) → unit_in t ≡ Some (n, r) → is_low n ≡ false → low_unit_at high t ≡ None
low_not high t r n e low = low_some high t r n e ∙ rw low

pub low_character : (high : ℕ) (t r : List ℕ) (n c : ℕ) → unit_in t ≡ Some (n, r) → is_low n ≡ true →
    c ≡ paired high n → low_unit_at high t ≡ prepended (encode_utf8 c) (text_at r)
low_character high t r n c e low same = low_some high t r n e ∙ rw (low, same)

-- ---- runs of plain bytes

pub prepended_twice : (p q : List ℕ) (found : Option (List ℕ × List ℕ)) →
    prepended p (prepended q found) ≡ prepended (p ++ q) found
prepended_twice p q None = refl
prepended_twice p q (Some r) = ap (λ (x : List ℕ). Some (x, r.1)) (sym (append_assoc p q r.0))

pub none_before : (p : List ℕ) (found : Option (List ℕ × List ℕ)) → p ≡ [] → found ≡ prepended p found
none_before p None none = refl
none_before p (Some r) none = ap (λ b. Some (b ++ r.0, r.1)) (sym none)

-- a byte that stands as it is
pub plain_byte : (b : ℕ) (t : List ℕ) → needs_escape b ≡ false → text_at (b ∷ t) ≡ prepended (b ∷ []) (text_at t)
plain_byte b t e = search (rules, e)

pub text_plain : (p t : List ℕ) → IsPlain p → text_at (p ++ t) ≡ prepended p (text_at t)
text_plain [] t plain = none_before [] (text_at t) refl
text_plain (b ∷ p) t plain = plain_byte b (p ++ t) (All-head (λ x. needs_escape x ≡ false) b p plain) ∙
    ap (prepended (b ∷ [])) (text_plain p t (All-tail (λ x. needs_escape x ≡ false) b p plain)) ∙
    prepended_twice (b ∷ []) p (text_at t)

-- ---- UTF-8

pub utf8_token : (b t : List ℕ) → IsUtf8 b → text_token (Some (b, t)) ≡ Some (leaf (trees.text b), t)
utf8_token b t h = ap (λ c. if c then Some (leaf (trees.text b), t) else None) (is_utf8-from_IsUtf8 b h)

pub no_utf8_token : (b t : List ℕ) → (IsUtf8 b → ⊥) → text_token (Some (b, t)) ≡ None
no_utf8_token b t h = of (is_utf8 b) refl
  where
    of : (c : Bool) → c ≡ is_utf8 b → text_token (Some (b, t)) ≡ None
    of true e = absurd (h (IsUtf8-from_is_utf8 b (sym e)))
    of false e = ap (λ x. if x then Some (leaf (trees.text b), t) else None) (sym e)

-- ---- numbers

pub digits_grow : (base n : ℕ) (t : List ℕ) → 1 ≤ base → n ≤ (digits_behind base n t).0
digits_grow base n [] h = omega arith
digits_grow base n (b ∷ t) h = of (digit_of base b) (λ m. digits_grow base m t h)
  where
    picked : Option ℕ → ℕ × List ℕ
    picked d = elim d [ None ↦ (n, b ∷ t) | Some d ↦ digits_behind base (n * base + d) t ]

    of : (d : Option ℕ) → ((m : ℕ) → m ≤ (digits_behind base m t).0) → n ≤ (picked d).0
    of None more = omega arith
    of (Some d) more = let further = more (n * base + d) in
        let once : n * 1 ≤ n * base = mul-le-mul_left {m = 1} {n = base} n h in omega (arith, further, once)

-- digits that reach too far make no number
pub too_large : (base number d b : ℕ) (text t : List ℕ) → 1 ≤ base →
    digits_behind base 0 text ≡ digits_behind base number (b ∷ t) → digit_of base b ≡ Some d →
    2 ^ 128 ≤ number * base + d → IsNoNumber (digits_at base text)
too_large base number d b [] t h e digit large = tt
too_large base number d b (a ∷ text) t h e digit large = of (digit_of base a)
  where
    behind-digit : (o : Option ℕ) → o ≡ Some d →
        (elim o [ None ↦ (number, b ∷ t) | Some d ↦ digits_behind base (number * base + d) t ])
        ≡ digits_behind base (number * base + d) t
    behind-digit None f = absurd (cc f)
    behind-digit (Some c) f = let same : c ≡ d = cc f in ap (λ x. digits_behind base (number * base + x) t) same

    past : 2 ^ 128 ≤ (digits_behind base 0 (a ∷ text)).0
    past = subst (λ (p : ℕ × List ℕ). 2 ^ 128 ≤ p.0) (sym (e ∙ behind-digit (digit_of base b) digit))
        (le_trans large (digits_grow base (number * base + d) t h))

    of : (o : Option ℕ) → IsNoNumber (elim o [ None ↦ None | Some d ↦ Some (digits_behind base 0 (a ∷ text)) ])
    of None = tt
    of (Some c) = past

-- ---- escapes

pub low_behind : (high : ℕ) (t r : List ℕ) → 2 ≤ length t → get_or t 0 0 ≡ 92 → get_or t 1 0 ≡ 117 → r ≡ drop 2 t →
    low_at high t ≡ low_unit_at high r
low_behind high [] r few first second same = absurd (omega (arith, few))
low_behind high (x ∷ []) r few first second same = absurd (omega (arith, few))
low_behind high (x ∷ y ∷ t) r few first second same = rw first (rw second (ap (low_unit_at high) (sym same)))

-- ---- parts of a text, one behind the other

pub further : (whole t rest p b c : List ℕ) → text_at whole ≡ prepended b (text_at t) →
    text_at t ≡ prepended p (text_at rest) → c ≡ b ++ p → text_at whole ≡ prepended c (text_at rest)
further whole t rest p b c e f g = e ∙ ap (prepended b) f ∙ prepended_twice b p (text_at rest) ∙
    ap (λ x. prepended x (text_at rest)) (sym g)

pub whole_rest : (n : ℕ) (t : List ℕ) → take (length t - n) (drop n t) ≡ drop n t
whole_rest n t = take_all (length t - n) (drop n t) (let h = length-drop n t in omega (arith, h))

pub plain_all : (t : List ℕ) → IsPlain t → text_at t ≡ prepended t (text_at [])
plain_all t plain = sym (ap text_at (append-nil t)) ∙ text_plain t [] plain

pub plain_part : (n : ℕ) (t : List ℕ) → IsPlain (take n t) →
    text_at t ≡ prepended (take n t) (text_at (take (length t - n) (drop n t)))
plain_part n t plain = ap text_at (sym (take-append-drop n t)) ∙ text_plain (take n t) (drop n t) plain ∙
    ap (λ r. prepended (take n t) (text_at r)) (sym (whole_rest n t))

pub front_of : (t : List ℕ) → 1 ≤ length t → t ≡ get_or t 0 0 ∷ drop 1 t
front_of [] some = absurd (omega (arith, some))
front_of (b ∷ t) some = refl

-- a text by its first byte and what follows that
pub begins : (b : ℕ) (t : List ℕ) → 1 ≤ length t → get_or t 0 0 ≡ b → t ≡ b ∷ take (length t - 1) (drop 1 t)
begins b t some e = front_of t some ∙ ap (λ x. x ∷ drop 1 t) e ∙ ap (λ r. b ∷ r) (sym (whole_rest 1 t))

-- ---- marks

pub mark_token : (b : ℕ) (t : List ℕ) (k : Token) → mark_of b ≡ Some k → token_at (b ∷ t) ≡ Some (k, t)
mark_token b t k e = search (rules, e)
