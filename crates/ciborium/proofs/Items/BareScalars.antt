-- Numbers, booleans and null behind skipped tags.
use Rattle.std.proofs.Common.{◌≡◌, ℕ, Bool, true, false, List, None, Result, Ok, Err, refl, sym, ap, ◌∙◌, subst, ◌==◌}
use Rattle.std.proofs.{Common.arith, lemmas.Bool.Decides.nat_tests}
use Rattle.ciborium_ll.specs.{Item.{Item, tag, simple}, declared.{header.Header.Header, kind.Kind.Kind}}
use Rattle.ciborium_value.{proofs.Sources.Sequences.fault_map, specs.Given.{gives, refuses, outcome, settled, untagged}}
use Rattle.ciborium_value.specs.Given.{number_of, bignum_of, bare_boolean, bare_unit, boolean_of, is_null_simple}
use Rattle.ciborium_value.specs.Given.{given_bignum, given_boolean, given_integer, given_unit, with_sign}
use Rattle.ciborium_value.specs.{Meaning.is_bignum_tag, Nesting.Limit, Sources.{Fault, IsFaultOf}}
use Rattle.ciborium.proofs.Items.{ItemHeads.{header_of, tag-front, by-shape, no-bare-tag}, SkippedTags.ReadsBehind}
use Rattle.ciborium.{proofs.Items.SkippedTags.{number-under, untagged-under}, specs.inner.FrontItems.{Reads, Denies}}
use Rattle.ciborium.specs.inner.Skips.{under, AreSkipped, IsBare, TakesBare}
use Rattle.ciborium_ll.specs.declared.header.Header.TheVariants as header
use Rattle.ciborium_ll.specs.declared.kind.Kind.TheVariants as kinds

-- ---- integers

of_settled : {A : Type 0} (r : Result A Kind) (v : A) → settled r ≡ gives v → r ≡ Ok v
of_settled (Ok w) v e = let same : w ≡ v = cc in ap Ok same
of_settled (Err k) v e = absurd cc

pub integer-gives : (l : Limit) (i : Item) (v : Bool × ℕ) → number_of i ≡ Ok v → (ts : List ℕ) → AreSkipped true ts →
    outcome l (given_integer (under ts i)) ≡ gives v
integer-gives l i v e ts all = ap settled (number-under ts i all ∙ e)

signed : (t n : ℕ) (i : Item) → is_bignum_tag t ≡ true → settled (bignum_of i) ≡ gives n →
    number_of (tag t i) ≡ Ok (t == 3, n)
signed t n i e f = rw (e, of_settled (bignum_of i) n f) refl

sign-fault : (end : ℕ) (s : Bool) (r : Result ℕ Kind) (fault : Fault) → IsFaultOf end fault (settled r) →
    IsFaultOf end fault (settled (with_sign s r))
sign-fault end s (Ok n) fault b = fault_map end fault (λ m. (s, m)) (gives n) b
sign-fault end s (Err k) fault b = fault_map end fault (λ m. (s, m)) (refuses k) b

signed-fault : (end t : ℕ) (i : Item) (fault : Fault) → is_bignum_tag t ≡ true →
    IsFaultOf end fault (settled (bignum_of i)) → IsFaultOf end fault (settled (number_of (tag t i)))
signed-fault end t i fault e b = rw e (sign-fault end (t == 3) (bignum_of i) fault b)

module _ {S : Type 0} (IsUnread : S → List ℕ → Type 0) (t : ℕ) (l : Limit) (is : is_bignum_tag t ≡ true) where
  pub bignum-behind : (mid new : S) (n : ℕ) → Reads IsUnread mid new None given_bignum n → (y : List ℕ) →
      IsUnread mid y → ReadsBehind IsUnread new true (header.Tag t) l given_integer (t == 3, n) y
  bignum-behind mid new n r y un =
      let (i, s, z, sp, e, give, un') = r y un in (
        tag t i,
        s,
        z,
        λ x hd. (x, s, hd, sp, refl),
        e,
        integer-gives l (tag t i) (t == 3, n) (signed t n i is give),
        un',
      )

  -- a bignum that is refused behind its tag
  pub bignum-denied : (End : S → ℕ) (old mid : S) (fault : Fault) →
      ((b : List ℕ) → IsUnread old b → End mid ≡ End old) → TakesBare IsUnread old mid true (header.Tag t) →
      Denies IsUnread End mid None given_bignum fault → Denies IsUnread End old l given_integer fault
  bignum-denied End old mid fault same bare d b s z j end u sp e fits =
      let (ts, w, x, y, tagged, all, hd, f, un) = bare b u in
      let (i, r, io, sq, g) = tagged.inward j s z sp e in
      let (k, c, ik, sr, q) = tag-front r z x y i t sq hd (sym g ∙ f) in
      let blamed : IsFaultOf end fault (settled (number_of (tag t k))) = signed-fault end t k fault is
      (d y c z k end un sr q (let all = same b u in omega (arith, all, fits))) in
      subst (λ o. IsFaultOf end fault o) (sym (ap settled (ap number_of (io ∙ ap (under ts) ik) ∙
      number-under ts (tag t k) all))) blamed

pub integer-other : (l : Limit) (h : Header) → ((n : ℕ) → h ≡ header.Positive n → ⊥) →
    ((n : ℕ) → h ≡ header.Negative n → ⊥) → ((n : ℕ) → h ≡ header.Tag n → ⊥) → (ts : List ℕ) (i : Item) →
    AreSkipped true ts → header_of i ≡ h → outcome l (given_integer (under ts i)) ≡ refuses kinds.Integer
integer-other l h p q r ts i all e = ap settled (number-under ts i all ∙
    by-shape (λ j. number_of j ≡ Err kinds.Integer) h (λ n k. absurd (p n k)) (λ n k. absurd (q n k))
    (λ o b k. refl) (λ o b k. refl) (λ o is k. refl) (λ o ps k. refl) (λ n k. refl) (λ raw k. refl)
    (λ t j k. absurd (r t k)) i e)

-- ---- booleans

pub boolean-gives : (l : Limit) (n : ℕ) (v : Bool) → boolean_of n ≡ Ok v → (ts : List ℕ) → AreSkipped false ts →
    outcome l (given_boolean (under ts (simple n))) ≡ gives v
boolean-gives l n v e ts all = ap settled (ap bare_boolean (untagged-under ts (simple n)) ∙ e)

pub boolean-other : (l : Limit) (h : Header) →
    IsBare false h → ((n : ℕ) → h ≡ header.Simple n → boolean_of n ≡ Err kinds.Bool) → (ts : List ℕ) (i : Item) →
    AreSkipped false ts → header_of i ≡ h → outcome l (given_boolean (under ts i)) ≡ refuses kinds.Bool
boolean-other l h bare nope ts i all e = ap settled (ap bare_boolean (untagged-under ts i) ∙
    by-shape (λ j. bare_boolean (untagged j) ≡ Err kinds.Bool) h (λ n k. refl) (λ n k. refl) (λ o b k. refl)
    (λ o b k. refl) (λ o is k. refl) (λ o ps k. refl) nope (λ raw k. refl) (λ t j k. no-bare-tag h t bare k) i e)

pub boolean-none : (h : Header) (m : ℕ) → h ≡ header.Simple m → (m ≡ 20 → ⊥) → (m ≡ 21 → ⊥) → (n : ℕ) →
    h ≡ header.Simple n → boolean_of n ≡ Err kinds.Bool
boolean-none h m e p q n f = let s : m ≡ n = cc in subst (λ k. boolean_of k ≡ Err kinds.Bool) s (by m p q)
  where
    by : (m : ℕ) → (m ≡ 20 → ⊥) → (m ≡ 21 → ⊥) → boolean_of m ≡ Err kinds.Bool
    by m p q = grind (arith, nat_tests)

-- ---- null

pub unit-gives : (l : Limit) (n : ℕ) → is_null_simple n ≡ true → (ts : List ℕ) → AreSkipped false ts →
    outcome l (given_unit (under ts (simple n))) ≡ gives tt
unit-gives l n e ts all = ap (λ j. settled (bare_unit j)) (untagged-under ts (simple n)) ∙ rw e refl

pub unit-other : (l : Limit) (h : Header) →
    IsBare false h → ((n : ℕ) → h ≡ header.Simple n → is_null_simple n ≡ false) → (ts : List ℕ) (i : Item) →
    AreSkipped false ts → header_of i ≡ h → outcome l (given_unit (under ts i)) ≡ refuses kinds.Unit
unit-other l h bare nope ts i all e = ap settled (ap bare_unit (untagged-under ts i) ∙
    by-shape (λ j. bare_unit (untagged j) ≡ Err kinds.Unit) h (λ n k. refl) (λ n k. refl) (λ o b k. refl)
    (λ o b k. refl) (λ o is k. refl) (λ o ps k. refl) (λ n k. let no = nope n k in rw no refl) (λ raw k. refl)
    (λ t j k. no-bare-tag h t bare k) i e)

pub unit-none : (h : Header) (m : ℕ) → h ≡ header.Simple m → is_null_simple m ≡ false → (n : ℕ) → h ≡ header.Simple n →
    is_null_simple n ≡ false
unit-none h m e p n f = let s : m ≡ n = cc in subst (λ k. is_null_simple k ≡ false) s p
