-- What the bytes of a head say where they were read: one byte, then as many as it asks for.
use Rattle.std.proofs.Common.{◌≡◌, ℕ, zero, suc, ◌+◌, ◌/◌, ◌%◌, ◌<◌, ◌≤◌, cond, ltb, Bool, true, false, ◌&&◌, ◌||◌}
use Rattle.std.proofs.Common.{List, [], ◌∷◌, length, take, Some, None, Ok, Err, IsTrue, refl, sym, ap, ◌∙◌, subst}
use Rattle.std.proofs.{Common.{arith, inl, inr, ◌⊎◌, lt-ltb, le-ltb, ne_eqb, append-nil}, lemmas.Bool.Decides.nat_tests}
use Rattle.std.proofs.lemmas.Nat.{div-mul-add, mod-mul-add}
use Rattle.ciborium_ll.proofs.{ReadHeads.payload_length-is, UsableHeads.{pass, low, unreserved, not_low, and_false}}
use Rattle.ciborium_ll.proofs.UsableHeads.{information-below, argument-information, argument_length-information}
use Rattle.ciborium_ll.{proofs.UsableHeads.{HeadFits, usable-fits}, specs.{Bytes.greatest_offset, Head.Width}}
use Rattle.ciborium_ll.specs.{Head.{capacity, information, argument_bytes, initial_byte, IsHead}, Header.SpellsHeader}
use Rattle.ciborium_ll.specs.{Header.{announced_length, is_ill_formed}, ReaderSteps.{IsFillTaken, IsHeadTaken}}
use Rattle.ciborium_ll.specs.{ReaderSteps.NoneIsSpare, Refusal.{Refusal, io, syntax, too_long, argument_length}}
use Rattle.ciborium_ll.specs.Refusal.{is_reserved, is_low_simple, payload_length, initial_refusal, head_refusal}
use Rattle.ciborium_ll.specs.{Refusal.{HeadRefuses, IsUsable}, declared.header.Error.{Error, TheVariants.{Io, Syntax}}}
use Rattle.ciborium_ll.specs.declared.header.{Error.TheVariants.TooLong, Header.{Header, TheVariants.Positive}}
use Rattle.ciborium_ll.specs.declared.header.Header.TheVariants.{Negative, Bytes, Text, Array, Map, Tag, Simple, Float}
use Rattle.ciborium_ll.specs.declared.header.Header.TheVariants.{Break}

hold : {A : Type 0} (t : Bool) (x y : A) → t ≡ true → cond t x y ≡ x
hold t x y e = ap (λ u. cond u x y) e

-- behind a first byte that may be read, and no low simple value
behind-first : (x : ℕ) (b : List ℕ) (p : ℕ) → p < greatest_offset → low x b p ≡ false →
    head_refusal (x ∷ b) p ≡ initial_refusal (x / 32) (x % 32) b p
behind-first x b p h e =
    ap (λ t. cond t (cond (low x b p) (Some (syntax p)) (initial_refusal (x / 32) (x % 32) b p)) (Some too_long))
    (lt-ltb p greatest_offset h) ∙ pass _ _ _ e

-- additional information that bytes follow is not reserved
unreserved-long : (m a : ℕ) → 0 < argument_length a → is_reserved m a ≡ false
unreserved-long m a h = grind (arith, nat_tests)

-- f8 asks for one byte
long-other : (x : ℕ) → 1 < argument_length (x % 32) → x ≡ 248 → ⊥
long-other x h e = let one : argument_length (x % 32) ≡ 1 = ap (λ y. argument_length (y % 32)) e in omega arith

pub short-low : (x : ℕ) (b : List ℕ) → length b < argument_length (x % 32) → is_low_simple x b ≡ false
short-low x [] h = refl
short-low x (y ∷ b) h = ap (λ t. t && ltb y 32) (ne_eqb x 248 (long-other x (omega arith)))

empty-io : (p : ℕ) → p < greatest_offset → HeadRefuses [] p io
empty-io p h = hold _ _ _ (lt-ltb p greatest_offset h)

-- less than the initial byte asks for
short-io : (x : ℕ) (b : List ℕ) (p : ℕ) → length b < argument_length (x % 32) →
    p + 1 + argument_length (x % 32) ≤ greatest_offset → HeadRefuses (x ∷ b) p io
short-io x b p h room = behind-first x b p (omega arith) (and_false _ _ (short-low x b h)) ∙
    pass _ _ _ (unreserved-long (x / 32) (x % 32) (omega arith)) ∙
    pass _ _ _ (le-ltb greatest_offset (p + 1 + argument_length (x % 32)) room) ∙
    hold _ _ _ (lt-ltb (length b) (argument_length (x % 32)) h)

length-take-below : (k : ℕ) (b : List ℕ) → length (take k b) ≤ k
length-take-below (suc k) (x ∷ b) = let h = length-take-below k b in omega arith
length-take-below u v = omega arith

-- no byte of a head is spare up to what the initial byte asks for
none-spare : (x : ℕ) (b : List ℕ) (p : ℕ) → p < greatest_offset → length b ≤ argument_length (x % 32) →
    (0 < length b → p + 1 + argument_length (x % 32) ≤ greatest_offset) → NoneIsSpare (x ∷ b) p
none-spare x b p h le room zero lt = empty-io p h
none-spare x b p h le room (suc k) lt =
    short-io x (take k b) p (let t = length-take-below k b in omega arith) (room (omega arith))

no-spare : (p : ℕ) → NoneIsSpare [] p
no-spare p k lt = absurd (omega arith)

-- ---- the first byte

pub first-refused : {E : Type 0} (b : List ℕ) (p : ℕ) (buffer : List ℕ) (e : Error E) → length buffer ≡ 1 →
    IsFillTaken b p buffer (Err e) → IsHeadTaken b p (Err e)
first-refused [] p buffer (Io e) one h = record { answers = empty-io p (omega arith); needed = no-spare p }
first-refused (x ∷ b) p buffer (Io e) one h = absurd (omega (arith, h.0, one))
first-refused b p buffer TooLong one h =
    let over : greatest_offset ≤ p = omega (arith, h.1, one) in
    let none : HeadRefuses [] p too_long = pass _ _ _ (le-ltb p greatest_offset over) in
    record {
      answers = subst (λ c. HeadRefuses c p too_long) (sym h.0) none;
      needed = subst (λ c. NoneIsSpare c p) (sym h.0) (no-spare p);
    }
first-refused b p buffer u one h = absurd h

-- ---- the argument

pub argument-refused : {E : Type 0} (x : ℕ) (b : List ℕ) (p : ℕ) (buffer : List ℕ) (e : Error E) →
    p + 1 ≤ greatest_offset → length buffer ≡ argument_length (x % 32) →
    IsFillTaken b (p + 1) buffer (Err e) → IsHeadTaken (x ∷ b) p (Err e)
argument-refused x b p buffer (Io e) first len h =
    let room : p + 1 + argument_length (x % 32) ≤ greatest_offset = omega (arith, h.1, len) in
    record {
      answers = short-io x b p (omega (arith, h.0, len)) room;
      needed = none-spare x b p (omega arith) (omega (arith, h.0, len)) (λ z. room);
    }
argument-refused x b p buffer TooLong first len h =
    let over : greatest_offset < p + 1 + argument_length (x % 32) = omega (arith, h.1, len) in
    let alone : HeadRefuses (x ∷ []) p too_long =
    behind-first x [] p (omega arith) (and_false _ _ refl) ∙
    pass _ _ _ (unreserved-long (x / 32) (x % 32) (omega arith)) ∙
    hold _ _ _ (lt-ltb greatest_offset (p + 1 + argument_length (x % 32)) over) in
    let spare : NoneIsSpare (x ∷ []) p = none-spare x [] p (omega arith) (omega arith) (λ z. absurd (omega arith)) in
    record {
      answers = subst (λ c. HeadRefuses (x ∷ c) p too_long) (sym h.0) alone;
      needed = subst (λ c. NoneIsSpare (x ∷ c) p) (sym h.0) spare;
    }
argument-refused x b p buffer u first len h = absurd h

-- ---- a whole head

module _ (x : ℕ) (b : List ℕ) (p : ℕ) (len : length b ≡ argument_length (x % 32))
    (room : p + 1 + argument_length (x % 32) ≤ greatest_offset) where
  whole-spare : NoneIsSpare (x ∷ b) p
  whole-spare = none-spare x b p (omega arith) (omega arith) (λ z. room)

  -- a head that is ill-formed
  pub ill-formed : {E : Type 0} → IsTrue (is_ill_formed (x ∷ b)) → IsHeadTaken {E = E} (x ∷ b) p (Err (Syntax p))
  ill-formed h = record { answers = by (is_low_simple x b) refl; needed = whole-spare }
    where
      some_follows : is_low_simple x b ≡ true → 0 < argument_length (x % 32)
      some_follows e = subst (λ n. 0 < n) len (some b e)
        where
          some : (c : List ℕ) → is_low_simple x c ≡ true → 0 < length c
          some [] e = absurd cc
          some (y ∷ c) e = omega arith

      by : (t : Bool) → is_low_simple x b ≡ t → HeadRefuses (x ∷ b) p (syntax p)
      by true e =
          let some = some_follows e in
          hold _ _ _ (lt-ltb p greatest_offset (omega arith)) ∙
          hold _ _ _ (ap (λ t. t && is_low_simple x b) (lt-ltb (p + 1) greatest_offset (omega arith)) ∙ e)
      by false e =
          behind-first x b p (omega arith) (and_false _ _ e) ∙
          hold _ _ _ (left (is_reserved (x / 32) (x % 32)) (is_low_simple x b) h e)
        where
          left : (t u : Bool) → (t || u) ≡ true → u ≡ false → t ≡ true
          left true u i j = refl
          left false u i j = absurd (let k = sym i ∙ j in cc)

-- ---- a head that is spelled

-- an initial byte of major type m with information a, and what it announces
pub record Facts (m a : ℕ) (b : List ℕ) (announced : ℕ) : Type 0 where
  pub below : a < 32
  pub fair : is_reserved m a ≡ false
  pub high : is_low_simple (initial_byte m a) b ≡ false
  pub payload : payload_length m a b ≡ announced
  pub size : length b ≡ argument_length a

-- the bytes of a head begin so
abbrev pub BeginsHead : List ℕ → ℕ → Type 0
BeginsHead b announced = (m : ℕ) × (a : ℕ) × (c : List ℕ) × (b ≡ initial_byte m a ∷ c) × Facts m a c announced

argument-whole : (w : Width) (n : ℕ) → n < capacity w →
    Rattle.ciborium_ll.specs.Refusal.argument (information w n) (argument_bytes w n) ≡ n
argument-whole w n h = ap (Rattle.ciborium_ll.specs.Refusal.argument (information w n))
    (sym (append-nil (argument_bytes w n))) ∙ argument-information w n [] h

plain-begins : (b : List ℕ) (m n : ℕ) → m < 7 → ((a : ℕ) (c : List ℕ) → payload_length m a c ≡ 0) → IsHead b m n →
    BeginsHead b 0
plain-begins b m n lt none (w, h, e) =
    let i = information-below w n h in (
      m,
      information w n,
      argument_bytes w n,
      e,
      record {
        below = omega arith;
        fair = unreserved m (information w n) i;
        high = not_low (initial_byte m (information w n)) (argument_bytes w n) (omega arith);
        payload = none (information w n) (argument_bytes w n);
        size = sym (argument_length-information w n h);
      },
    )

string-begins : (b : List ℕ) (m n : ℕ) → (m ≡ 2) ⊎ (m ≡ 3) → IsHead b m n → BeginsHead b n
string-begins b m n kind (w, h, e) =
    let i = information-below w n h in
    let lt : m < 7 = less kind in (
      m,
      information w n,
      argument_bytes w n,
      e,
      record {
        below = omega arith;
        fair = unreserved m (information w n) i;
        high = not_low (initial_byte m (information w n)) (argument_bytes w n) (omega arith);
        payload = payload_length-is m (information w n) n (argument_bytes w n) i (argument-whole w n h) kind;
        size = sym (argument_length-information w n h);
      },
    )
  where
    less : (m ≡ 2) ⊎ (m ≡ 3) → m < 7
    less (inl e) = omega arith
    less (inr e) = omega arith

open-begins : (b : List ℕ) (m : ℕ) → m < 7 → is_reserved m 31 ≡ false → payload_length m 31 [] ≡ 0 →
    b ≡ initial_byte m 31 ∷ [] → BeginsHead b 0
open-begins b m lt fair none e = (
  m,
  31,
  [],
  e,
  record
      { below = omega arith; fair = fair; high = refl; payload = none; size = refl },
)

not_low-float : (x : ℕ) (b : List ℕ) → 248 < x → is_low_simple x b ≡ false
not_low-float x [] h = refl
not_low-float x (y ∷ b) h = ap (λ t. t && ltb y 32) (ne_eqb x 248 (λ e. omega arith))

pub header-begins : (b : List ℕ) (h : Header) → SpellsHeader b h → BeginsHead b (announced_length h)
header-begins b (Positive n) s = plain-begins b 0 n (omega arith) (λ a c. refl) s
header-begins b (Negative n) s = plain-begins b 1 n (omega arith) (λ a c. refl) s
header-begins b (Bytes (Some n)) s = string-begins b 2 n (inl refl) s
header-begins b (Bytes None) s = open-begins b 2 (omega arith) refl refl s
header-begins b (Text (Some n)) s = string-begins b 3 n (inr refl) s
header-begins b (Text None) s = open-begins b 3 (omega arith) refl refl s
header-begins b (Array (Some n)) s = plain-begins b 4 n (omega arith) (λ a c. refl) s
header-begins b (Array None) s = open-begins b 4 (omega arith) refl refl s
header-begins b (Map (Some n)) s = plain-begins b 5 n (omega arith) (λ a c. refl) s
header-begins b (Map None) s = open-begins b 5 (omega arith) refl refl s
header-begins b (Tag n) s = plain-begins b 6 n (omega arith) (λ a c. refl) s
header-begins b (Simple n) (inl s) = (
  7,
  n,
  [],
  s.1,
  record {
    below = omega (arith, s.0);
    fair = grind (arith, nat_tests);
    high = refl;
    payload = refl;
    size = grind (arith, nat_tests);
  },
)
header-begins b (Simple n) (inr s) = (
  7,
  24,
  n ∷ [],
  s.2,
  record {
    below = omega arith;
    fair = refl;
    high = le-ltb n 32 s.0;
    payload = refl;
    size = refl;
  },
)
header-begins b (Float size) (raw, (inl s), l) = (
  7,
  25,
  raw,
  s.1,
  record { below = omega arith; fair = refl; high = not_low-float 249 raw (omega arith); payload = refl; size = s.0 },
)
header-begins b (Float size) (raw, (inr (inl s)), l) = (
  7,
  26,
  raw,
  s.1,
  record {
    below = omega arith;
    fair = refl;
    high = not_low-float 250 raw (omega arith);
    payload = refl;
    size = s.0;
  },
)
header-begins b (Float size) (raw, (inr (inr s)), l) = (
  7,
  27,
  raw,
  s.1,
  record {
    below = omega arith;
    fair = refl;
    high = not_low-float 251 raw (omega arith);
    payload = refl;
    size = s.0;
  },
)
header-begins b Break s = (
  7,
  31,
  [],
  s,
  record {
    below = omega arith;
    fair = refl;
    high = refl;
    payload = refl;
    size = refl;
  },
)

pub head-some : (b : List ℕ) (h : Header) → SpellsHeader b h → 0 < length b
head-some b h s = let (m, a, c, e, f) = header-begins b h s in omega (arith, ap length e)

-- such a head is usable unless its payload would pass the greatest offset
facts-answer : (m a n p : ℕ) (c : List ℕ) → Facts m a c n → length c ≡ argument_length a →
    p + 1 + argument_length a ≤ greatest_offset →
    head_refusal (initial_byte m a ∷ c) p ≡ cond (ltb greatest_offset (p + 1 + argument_length a + n)) (Some too_long)
    None
facts-answer m a n p c f len room =
    let x : ℕ = initial_byte m a in
    behind-first x c p (omega arith) (and_false _ _ f.high) ∙
    ap (λ k. initial_refusal k (x % 32) c p) (div-mul-add m 32 a f.below) ∙
    ap (λ k. initial_refusal m k c p) (mod-mul-add m 32 a f.below) ∙ pass _ _ _ f.fair ∙
    pass _ _ _ (le-ltb greatest_offset (p + 1 + argument_length a) room) ∙
    pass _ _ _ (le-ltb (length c) (argument_length a) (omega arith)) ∙
    ap (λ k. cond (ltb greatest_offset (p + 1 + argument_length a + k)) (Some too_long) None) f.payload

begins-answer : (x : ℕ) (b : List ℕ) (n p : ℕ) → BeginsHead (x ∷ b) n → length b ≡ argument_length (x % 32) →
    p + 1 + argument_length (x % 32) ≤ greatest_offset →
    head_refusal (x ∷ b) p ≡ cond (ltb greatest_offset (p + 1 + length b + n)) (Some too_long) None
begins-answer x b n p (m, a, c, e, f) len room =
    let first : x ≡ initial_byte m a = cc e in
    let rest : b ≡ c = cc e in
    let low_bits : x % 32 ≡ a = ap (λ y. y % 32) first ∙ mod-mul-add m 32 a f.below in
    let size : argument_length (x % 32) ≡ argument_length a = ap argument_length low_bits in
    let here : length c ≡ argument_length a = sym (ap length rest) ∙ len ∙ size in
    ap (λ (d : List ℕ). head_refusal d p) e ∙ facts-answer m a n p c f here (omega arith) ∙
    ap (λ k. cond (ltb greatest_offset (p + 1 + k + n)) (Some too_long) None) (sym (len ∙ size))

module _ (x : ℕ) (b : List ℕ) (p : ℕ) (h : Header) (spelled : SpellsHeader (x ∷ b) h)
    (len : length b ≡ argument_length (x % 32)) (room : p + 1 + argument_length (x % 32) ≤ greatest_offset) where
  pub usable-head : {E : Type 0} → p + 1 + length b + announced_length h ≤ greatest_offset →
      IsHeadTaken {E = E} (x ∷ b) p (Ok h)
  usable-head fits = record {
    answers = (
      spelled,
      begins-answer x b (announced_length h) p (header-begins (x ∷ b) h spelled) len room ∙
          pass _ _ _ (le-ltb greatest_offset (p + 1 + length b + announced_length h) fits),
    );
    needed = whole-spare x b p len room;
  }

  pub long-head : {E : Type 0} → greatest_offset < p + 1 + length b + announced_length h →
      IsHeadTaken {E = E} (x ∷ b) p (Err TooLong)
  long-head over = record {
    answers = begins-answer x b (announced_length h) p (header-begins (x ∷ b) h spelled) len room ∙
        hold _ _ _ (lt-ltb greatest_offset (p + 1 + length b + announced_length h) over);
    needed = whole-spare x b p len room;
  }

-- the payload that a usable head announces fits behind it
pub header-fits : {E : Type 0} (b : List ℕ) (p : ℕ) (h : Header) → IsHeadTaken {E = E} b p (Ok h) →
    p + length b + announced_length h ≤ greatest_offset
header-fits b p h taken = by (header-begins b h taken.answers.0) taken.answers.1
  where
    by : BeginsHead b (announced_length h) → IsUsable b p → p + length b + announced_length h ≤ greatest_offset
    by (m, a, c, e, f) usable =
        let x : ℕ = initial_byte m a in
        let u = usable-fits x c p (subst (λ l. IsUsable l p) e usable) in
        let v : HeadFits m a c p = subst (λ k. HeadFits m k c p) (mod-mul-add m 32 a f.below)
        (subst (λ k. HeadFits k (x % 32) c p) (div-mul-add m 32 a f.below) u.2) in
        let len : length b ≡ suc (length c) = ap length e in
        omega (arith, v.3, f.payload, f.size, len)
