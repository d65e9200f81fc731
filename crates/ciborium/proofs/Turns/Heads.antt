-- The head that was pulled, in each spelling: it is accepted, or has a fault.
use Rattle.std.proofs.Common.{◌≡◌, ℕ, ◌+◌, ◌<◌, ◌≤◌, cond, eqb, Bool, true, false, List, [], ◌∷◌, ◌++◌, length, Option}
use Rattle.std.proofs.Common.{Some, None, MatchOption, Ok, refl, sym, ap, ◌∙◌, subst, arith, eqb-true, lt-ltb, inl, inr}
use Rattle.std.proofs.lemmas.Bool.{eqb-false}
use Rattle.ciborium_ll.{proofs.ShortestHead.none_is_shorter, specs.Decoding.{IsAhead, IsMeasured, Takes}}
use Rattle.ciborium_ll.specs.{Decoding.{TakesBeforeAny, offset_of, with_left}, Head.{IsHead, IsSimple, shortest_head}}
use Rattle.ciborium_ll.specs.{Header.{SpellsHeader, IsCounted}, Refusal.HeadRefuses, declared.decoder.Decoder.Decoder}
use Rattle.ciborium_ll.specs.declared.{header.Header.Header, kind.Kind.Kind}
use Rattle.ciborium_value.proofs.GoodItems.Faults.{short-fault, fault-head, fault-open, fault-break, fault-float}
use Rattle.ciborium_value.{proofs.GoodItems.Faults.{fault-simple, fault-undefined}, specs.Refuses.HasGoodHead}
use Rattle.ciborium_value.specs.{Refuses.Refuses, Spelling.{Spelling, any, deterministic, spelling_fault}, Tree.Tree}
use Rattle.ciborium_value.specs.{declared.key_order.KeyOrder.KeyOrder, inner.ReadItems.ReadsItem}
use Rattle.ciborium.proofs.{Readers.WhateverFollows.so-both, Turns.Fronts.{Front, front-of, IsNoBreak, no-break}}
use Rattle.ciborium.proofs.Turns.{Fronts.{head-no-break, ahead-at, offset-at, PullsSo}, Pulled.refused-map}
use Rattle.ciborium.specs.{ValueAnswers.IsRefusedBy, declared.de.error.Error.{Error, TheVariants.Semantic}}
use Rattle.ciborium.specs.inner.{Parts.{IsHeadAccepted, IsHeadMeasured, RefusesPart}, Rules.{long_fault, counted_fault}}
use Rattle.ciborium.specs.inner.{Rules.{header_fault, head_fault}, ValuesInBytes.{IsAt, IsPulled, StandsAt}}
use Rattle.std.proofs.Common.{Result}
use Rattle.ciborium.specs.inner.Parts.{IsHeadRead}
use Rattle.ciborium_ll.specs.declared.header.Header.TheVariants as header
use Rattle.ciborium_ll.specs.declared.kind.Kind.TheVariants as kinds

-- ---- where the decoder stands

pub ahead-of : {S W : Type 0} (spelling : Spelling) (remaining : S → Option (List ℕ)) (d : Decoder S W) (xs : List ℕ)
    (p : ℕ) → StandsAt spelling remaining d xs p → IsAhead remaining d xs p
ahead-of any remaining d xs p s = s
ahead-of (deterministic order) remaining d xs p s = s.0

pub stands-offset : {S W : Type 0} (spelling : Spelling) (remaining : S → Option (List ℕ)) (d : Decoder S W) (p : ℕ)
    (xs : List ℕ) → StandsAt spelling remaining d xs p → offset_of d ≡ p
stands-offset spelling remaining d p xs s = offset-at remaining d p xs (ahead-of spelling remaining d xs p s)

-- no head is pushed, so none has to be measured
pub unpushed : {S W : Type 0} (d : Decoder S W) → d.pushed ≡ None → IsMeasured d
unpushed d e = subst (λ o. MatchOption o (Unit {0}) (λ head. d.counter.count ≡ head.1 + d.head_len)) (sym e) tt

pub stands-at : {S W : Type 0} (spelling : Spelling) (remaining : S → Option (List ℕ)) (d : Decoder S W) (p : ℕ)
    (xs : List ℕ) → d.pushed ≡ None → IsAt remaining d xs p → StandsAt spelling remaining d xs p
stands-at any remaining d p xs none at = ahead-at remaining d p xs none at
stands-at (deterministic order) remaining d p xs none at = (ahead-at remaining d p xs none at, unpushed d none)

-- a value that means t stands at xs, and the decoder stands behind it
abbrev pub Got : {S W : Type 0} → Spelling → (S → Option (List ℕ)) → Decoder S W → ℕ → List ℕ → ℕ → Tree → Type 0
Got spelling remaining d l xs p t = (zs : List ℕ) × (r : ℕ) × ReadsItem spelling (Some l) xs p t zs r ×
    StandsAt spelling remaining d zs r

pub got : {S W : Type 0} {spelling : Spelling} (remaining : S → Option (List ℕ)) (d : Decoder S W) {l : ℕ} {xs : List ℕ}
    {p : ℕ} {t u : Tree} {zs : List ℕ} {r : ℕ} → d.pushed ≡ None → u ≡ t → ReadsItem spelling (Some l) xs p t zs r →
    IsAt remaining d zs r → Got spelling remaining d l xs p u
got {spelling = spelling} remaining d {l} {xs} {p} {zs = zs} {r = r} pushed same item at = (
  zs,
  r,
  subst (λ v. ReadsItem spelling (Some l) xs p v zs r) (sym same) item,
  stands-at spelling remaining d r zs pushed at,
)

-- ---- what a deterministic spelling finds

-- the fault of a head is that of its bytes
abbrev IsFaultAt : KeyOrder → List ℕ → Option Kind → Type 0
IsFaultAt order b fault = spelling_fault (deterministic order) b ≡ fault

module _ (order : KeyOrder) (b r : List ℕ) (size : ℕ) (len : length b ≡ size) where
  long-found : (m n : ℕ) → m < 7 → IsHead b m n → IsFaultAt order (b ++ r) (long_fault m n size)
  long-found m n lt is = by (eqb size (length (shortest_head m n))) (eqb-true size (length (shortest_head m n)))
      (eqb-false size (length (shortest_head m n)))
    where
      by : (t : Bool) → (t ≡ true → size ≡ length (shortest_head m n)) →
          (t ≡ false → size ≡ length (shortest_head m n) → ⊥) → IsFaultAt order (b ++ r)
          (cond t None (Some kinds.NotShortest))
      by true f g = let same = f refl in
          short-fault (deterministic order) (b ++ r) m n size r lt (b, is, len, refl) (omega (arith, same))
      by false f g =
          let differ = g refl in
          let least = none_is_shorter b m n is in
          fault-head order (b ++ r) m n size r lt (b, is, len, refl) ∙ ap (λ t. cond t (Some kinds.NotShortest) None)
          (lt-ltb (length (shortest_head m n)) size (omega (arith, differ, least, len)))

  counted-found : (m : ℕ) (count : Option ℕ) → 2 ≤ m → m ≤ 5 → IsCounted b m count →
      IsFaultAt order (b ++ r) (counted_fault m count size)
  counted-found m (Some n) low high is = long-found m n (omega (arith, high)) is
  counted-found m None low high is =
      ap (λ (c : List ℕ). spelling_fault (deterministic order) (c ++ r)) is ∙ fault-open order m r low high

  simple-found : (n : ℕ) → IsSimple b n → IsFaultAt order (b ++ r) (cond (eqb n 23) (Some kinds.NotShortest) None)
  simple-found n is = by (eqb n 23) (eqb-true n 23) (eqb-false n 23)
    where
      undefined : n ≡ 23 → IsSimple b n → b ≡ 247 ∷ []
      undefined e (inl s) = s.1 ∙ ap (λ k. (224 + k) ∷ []) e
      undefined e (inr s) = let low = s.0 in absurd (omega (arith, low, e))

      by : (t : Bool) → (t ≡ true → n ≡ 23) → (t ≡ false → n ≡ 23 → ⊥) → IsFaultAt order (b ++ r)
          (cond t (Some kinds.NotShortest) None)
      by true f g = ap (λ (c : List ℕ). spelling_fault (deterministic order) (c ++ r)) (undefined (f refl) is) ∙
          fault-undefined order r
      by false f g = fault-simple (deterministic order) b n r is (g refl)

  float-found : (j : ℕ) (raw : List ℕ) → j < 3 → b ≡ (249 + j) ∷ raw → spelling_fault (deterministic order) (b ++ r) ≡
      None
  float-found j raw h e = ap (λ (c : List ℕ). spelling_fault (deterministic order) (c ++ r)) e ∙
      fault-float (deterministic order) j (raw ++ r) h

  head-found : (h : Header) → SpellsHeader b h → IsFaultAt order (b ++ r) (header_fault h size)
  head-found (header.Positive n) is = long-found 0 n (omega arith) is
  head-found (header.Negative n) is = long-found 1 n (omega arith) is
  head-found (header.Bytes n) is = counted-found 2 n (omega arith) (omega arith) is
  head-found (header.Text n) is = counted-found 3 n (omega arith) (omega arith) is
  head-found (header.Array n) is = counted-found 4 n (omega arith) (omega arith) is
  head-found (header.Map n) is = counted-found 5 n (omega arith) (omega arith) is
  head-found (header.Tag n) is = long-found 6 n (omega arith) is
  head-found (header.Simple n) is = simple-found n is
  head-found (header.Float n) (raw, (inl s), k) = float-found 0 raw (omega arith) s.1
  head-found (header.Float n) (raw, (inr (inl s)), k) = float-found 1 raw (omega arith) s.1
  head-found (header.Float n) (raw, (inr (inr s)), k) = float-found 2 raw (omega arith) s.1
  head-found header.Break is = ap (λ (c : List ℕ). spelling_fault (deterministic order) (c ++ r)) is ∙
      fault-break (deterministic order) r

-- ---- the head that was pulled

module _ {S W : Type 0} (remaining : S → Option (List ℕ)) (d : Decoder S W) (h : Header) (xs : List ℕ) (p : ℕ)
    (a : IsPulled remaining d h xs p) where
  found-at : (order : KeyOrder) → d.counter.count ≡ p + d.head_len → IsFaultAt order xs
      (header_fault h d.head_len)
  found-at order size =
      let count = a.6.0 in
      subst (λ z. IsFaultAt order z (header_fault h d.head_len)) (sym a.4)
      (head-found order a.0 a.1 d.head_len (omega (arith, size, count)) h a.2)

  pub good-at : (spelling : Spelling) → head_fault spelling h d.head_len ≡ None → IsHeadMeasured spelling d p →
      spelling_fault spelling xs ≡ None
  good-at any right size = refl
  good-at (deterministic order) right size = subst (IsFaultAt order xs) right (found-at order size)

  pub bad-at : (spelling : Spelling) (E : Type 0) (l offset : ℕ) (kind : Kind) (left : Option (List ℕ)) →
      head_fault spelling h d.head_len ≡ Some kind → IsHeadMeasured spelling d p → offset ≡ p →
      IsRefusedBy {E = E} left (Semantic (Some offset) kind) (RefusesPart spelling xs p l)
  bad-at any E l offset kind left wrong size here = absurd cc
  bad-at (deterministic order) E l offset kind left wrong size here =
      let f = subst (IsFaultAt order xs) wrong (found-at order size) in
      subst (λ n. IsRefusedBy {E = E} left (Semantic (Some n) kind) (RefusesPart (deterministic order) xs p l))
      (sym here) (Refuses.bad_head kind a.3 f, other)
    where
      other : ¬ Rattle.ciborium.specs.inner.ValuesInBytes.IsBreakAt xs p
      other = no-break (faulty h wrong) (front-of remaining d h h xs p refl a)
        where
          faulty : (k : Header) → header_fault k d.head_len ≡ Some kind → IsNoBreak k
          faulty header.Break e = absurd cc
          faulty k e = tt

module _ {S W : Type 0} {spelling : Spelling} {remaining : S → Option (List ℕ)} {d : Decoder S W} {h : Header}
    {xs : List ℕ} {p : ℕ} where
  pub good-head : IsHeadAccepted spelling remaining d h xs p → HasGoodHead spelling xs p
  good-head a = (a.pulled.3, good-at remaining d h xs p a.pulled spelling a.right a.sized)

  pub accepted-front : {k : Header} → h ≡ k → (a : IsHeadAccepted spelling remaining d h xs p) →
      Front xs p k a.pulled.0 a.pulled.1
  accepted-front {k} is a = front-of remaining d h k xs p is a.pulled

module _ {S W : Type 0} (spelling : Spelling) (remaining : S → Option (List ℕ)) (d e : Decoder S W) (u v xs : List ℕ)
    (p : ℕ) (stands : StandsAt spelling Some (with_left d u) xs p)
    (size : IsMeasured d → e.counter.count ≡ offset_of d + e.head_len) where
  sized : (s : Spelling) → StandsAt s Some (with_left d u) xs p → IsHeadMeasured s (with_left e v) p
  sized any at = tt
  sized (deterministic order) at = size at.1 ∙ ap (λ n. n + e.head_len) (offset-at Some (with_left d u) p xs at.0)

  -- it is accepted
  pub accepted-head : (h : Header) → head_fault spelling h e.head_len ≡ None → IsPulled Some (with_left e v) h xs p →
      IsHeadAccepted spelling Some (with_left e v) h xs p
  accepted-head h right pulled = record { pulled = pulled; right = right; sized = sized spelling stands }

  -- it is not
  pub faulty-head : (E : Type 0) (h : Header) (l offset : ℕ) (kind : Kind) →
      head_fault spelling h e.head_len ≡ Some kind → offset ≡ e.last → IsPulled Some (with_left e v) h xs p →
      IsRefusedBy {E = E} (Some v) (Semantic (Some offset) kind) (RefusesPart spelling xs p l)
  faulty-head E h l offset kind wrong here pulled = bad-at Some (with_left e v) h xs p pulled spelling E l offset kind
      (Some v) wrong (sized spelling stands) (here ∙ pulled.5)

-- what is answered by what pulling a head answered
pub part-of-pull : {S W : Type 0} (spelling : Spelling) (remaining : S → Option (List ℕ)) (d e : Decoder S W)
    (x : Result Header (Error (Unit {0}))) (P : List ℕ → List ℕ → ℕ → Type 0) →
    TakesBeforeAny remaining d e (λ d e. PullsSo Some d e x) →
    ((u z xs : List ℕ) (p : ℕ) → StandsAt spelling Some (with_left d u) xs p →
    IsHeadRead Some (with_left e z) xs p x → P z xs p) →
    Takes remaining d e (λ b. (z xs : List ℕ) (p : ℕ) → StandsAt spelling Some (with_left d (b ++ z)) xs p → P z xs p)
part-of-pull spelling remaining d e x P t f = (
  t.0,
  t.1,
  t.2,
  λ z xs p s. f (t.0 ++ z) z xs p s (t.3 z xs p (ahead-of spelling Some (with_left d (t.0 ++ z)) xs p s)),
  t.4,
)

-- a head was pulled, and the spelling accepts it
pub record PullsAccepted {S W : Type 0} (spelling : Spelling) (remaining : S → Option (List ℕ)) (d e : Decoder S W)
    (h : Header) : Type 0 where
  pub size : IsMeasured d → e.counter.count ≡ offset_of d + e.head_len
  pub right : head_fault spelling h e.head_len ≡ None
  pub pull : TakesBeforeAny remaining d e (λ d e. PullsSo {E = Unit {0}} Some d e (Ok h))

-- what is answered then
module _ {S W : Type 0} {spelling : Spelling} {remaining : S → Option (List ℕ)} {d e : Decoder S W} {h : Header}
    (a : PullsAccepted spelling remaining d e h) where
  -- by the head alone
  pub part-of-head : (P : List ℕ → List ℕ → ℕ → Type 0) →
      ((z xs : List ℕ) (p : ℕ) → IsHeadAccepted spelling Some (with_left e z) h xs p → P z xs p) →
      Takes remaining d e (λ b. (z xs : List ℕ) (p : ℕ) → StandsAt spelling Some (with_left d (b ++ z)) xs p → P z xs p)
  part-of-head P f = part-of-pull spelling remaining d e (Ok h) P a.pull
      (λ u z xs p s pulled. f z xs p (accepted-head spelling remaining d e u z xs p s a.size h a.right pulled))

  -- by what was read behind it
  pub part-behind-head : (f : Decoder S W) (P : List ℕ → List ℕ → ℕ → Type 0)
      (Q : Decoder (List ℕ) W → Decoder (List ℕ) W → Type 0) → TakesBeforeAny remaining e f Q →
      ((m z xs : List ℕ) (p : ℕ) → IsHeadAccepted spelling Some (with_left e m) h xs p →
      Q (with_left e m) (with_left f z) → P z xs p) →
      Takes remaining d f (λ b. (z xs : List ℕ) (p : ℕ) → StandsAt spelling Some (with_left d (b ++ z)) xs p → P z xs p)
  part-behind-head f P Q read g =
      let t = so-both remaining d e f (λ d e. PullsSo {E = Unit {0}} Some d e (Ok h)) Q a.pull read in (
        t.0,
        t.1,
        t.2,
        λ z xs p s. let m = t.3 z in
            g m.0 z xs p (accepted-head spelling remaining d e (t.0 ++ z) m.0 xs p s a.size h a.right
            (m.1 xs p (ahead-of spelling Some (with_left d (t.0 ++ z)) xs p s))) m.2,
        t.4,
      )

pub head-refused : {E : Type 0} (spelling : Spelling) (left : Option (List ℕ)) (e : Error E) (xs : List ℕ) (p l : ℕ) →
    IsRefusedBy left e (HeadRefuses xs p) → IsRefusedBy left e (RefusesPart spelling xs p l)
head-refused spelling left e xs p l h = refused-map left e (HeadRefuses xs p) (RefusesPart spelling xs p l)
    (λ r f. (Refuses.no_head f, head-no-break xs p r f)) h
