-- What is known of a reader whose bytes are known, from what holds of every reader.
use Rattle.std.proofs.Common.{◌≡◌, ℕ, ◌+◌, ◌≤◌, List, [], ◌∷◌, ◌++◌, length, Option, Some, Result, Ok, Err, IfOk, IfErr}
use Rattle.std.proofs.Common.{refl, sym, ap, ◌∙◌, subst, arith, length-append, append-nil, inl, inr, ◌⊎◌}
use Rattle.ciborium_ll.{proofs.Unread.rest-of, specs.{Bytes.{AreBytes, greatest_offset}, Refusal.Refusal}}
use Rattle.ciborium_value.proofs.GoodItems.{Accepted.anyway, Bounded.bounded, Outcome.{never_both, one_reading}}
use Rattle.ciborium_value.proofs.GoodItems.{Outcome.read_bytes, ProperMeanings.proper_meaning}
use Rattle.ciborium_value.specs.{Counts.{node_count, payload_size}, ProperTrees.IsProperTree, Refuses.Refuses}
use Rattle.ciborium_value.specs.{Spelling.{Spelling, IsReadAs}, Tree.Tree}
use Rattle.ciborium.{proofs.Readers.Outcomes.only-fails, specs.ValueAnswers.{GivesTree, IsFailed, IsTakenFrom}}
use Rattle.ciborium.specs.{ValueAnswers.{IsRefusedBy, TakesBytes}, ValueClauses.{ReadsWhole, TakesValue}}
use Rattle.ciborium.specs.declared.de.error.Error.{Error}
use Rattle.ciborium_ll.specs.Refusal as refusal
use Rattle.ciborium.specs.declared.de.error.Error.TheVariants as errors

-- ---- what holds of the bytes that are read in a spelling

module _ (l : ℕ) where
  -- they are refused in no way
  never-refused : (spelling : Spelling) (s x z : List ℕ) (v : Tree) (r : Refusal) →
      IsReadAs spelling s 0 (Some l) v → z ≡ s ++ x → AreBytes z → Refuses spelling z 0 (Some l) r → ⊥
  never-refused spelling s x z v r good split bytes = never_both spelling z 0 (Some l) r bytes (s, v, x, good, split)

  -- they are read in one way
  one-way : (spelling : Spelling) (s t x y : List ℕ) (v w : Tree) → IsReadAs spelling s 0 (Some l) v →
      IsReadAs spelling t 0 (Some l) w → s ++ x ≡ t ++ y → (v ≡ w) × (x ≡ y)
  one-way spelling s t x y v w good fine e =
      let one = one_reading spelling s t x y 0 (Some l) v w good fine e in
      (one.0, one.2)

  -- they mean a tree that memory can hold
  read-proper : (spelling : Spelling) (s : List ℕ) (v : Tree) → IsReadAs spelling s 0 (Some l) v → AreBytes s →
      length s ≤ greatest_offset → IsProperTree v
  read-proper spelling s v good bytes fits =
      let a = anyway spelling s 0 (Some l) v good in proper_meaning a.0 s v a.1 bytes fits a.2

  -- which is no larger than they are many
  read-bounded : (spelling : Spelling) (s : List ℕ) (v : Tree) → IsReadAs spelling s 0 (Some l) v →
      node_count v + payload_size v ≤ length s
  read-bounded spelling s v good = let a = anyway spelling s 0 (Some l) v good in bounded a.0 s v a.1 a.2

-- ---- beginnings

pub inside : (u v : List ℕ) → Some u ≡ Some v → u ≡ v
inside u v e = cc

-- of two beginnings of one list, one is a beginning of the other
pub either-begins : (t s x y : List ℕ) → t ++ x ≡ s ++ y → ((r : List ℕ) × (s ≡ t ++ r)) ⊎ ((r : List ℕ) × (t ≡ s ++ r))
either-begins [] s x y e = inl (s, refl)
either-begins (a ∷ t) [] x y e = inr (a ∷ t, refl)
either-begins (a ∷ t) (b ∷ s) x y e = longer (either-begins t s x y (tails e))
  where
    tails : a ∷ (t ++ x) ≡ b ∷ (s ++ y) → t ++ x ≡ s ++ y
    tails h = cc

    heads : a ∷ (t ++ x) ≡ b ∷ (s ++ y) → a ≡ b
    heads h = cc

    longer : ((r : List ℕ) × (s ≡ t ++ r)) ⊎ ((r : List ℕ) × (t ≡ s ++ r)) →
        ((r : List ℕ) × (b ∷ s ≡ (a ∷ t) ++ r)) ⊎ ((r : List ℕ) × (a ∷ t ≡ (b ∷ s) ++ r))
    longer (inl (r, h)) = inl (r, let same = heads e in cc)
    longer (inr (r, h)) = inr (r, let same = heads e in cc)

-- ---- the clauses

module _ {E : Type 0} (spelling : Spelling) (l : ℕ) where
  -- `Io` is a refusal of bytes that nothing follows
  pub followed : (s : List ℕ) (e : Error E) → IsTakenFrom {E = E} spelling 0 s l (Err e) → (c : List ℕ) →
      IsRefusedBy (Some c) e (Refuses spelling (s ++ c) 0 (Some l))
  followed s (errors.Io x) h c = λ end. subst (λ z. Refuses spelling z 0 (Some l) refusal.io)
      (sym (append-nil s) ∙ ap (λ (z : List ℕ). s ++ z) (sym (inside c [] end))) h
  followed s u h c = h c

  -- an error of bytes t that cannot be refused, neither with c behind them nor where the reader ends behind them, is a
  -- failure
  fails : (after : Option (List ℕ)) (t c : List ℕ) (e : Error E) →
      ((z : List ℕ) → IsRefusedBy (Some z) e (Refuses spelling (t ++ z) 0 (Some l))) →
      ((r : Refusal) → Refuses spelling (t ++ c) 0 (Some l) r → ⊥) →
      (after ≡ Some [] → Refuses spelling (t ++ []) 0 (Some l) refusal.io → ⊥) → IsFailed after e
  fails after t c (errors.Io x) h never ended = λ end. ended end (h [] refl)
  fails after t c (errors.Syntax p) h never ended = only-fails {E = E} (Some c) (errors.Syntax p)
      (Refuses spelling (t ++ c) 0 (Some l)) never (h c)
  fails after t c (errors.Semantic p k) h never ended =
      only-fails {E = E} (Some c) (errors.Semantic p k) (Refuses spelling (t ++ c) 0 (Some l)) never (h c)
  fails after t c errors.RecursionLimitExceeded h never ended =
      only-fails {E = E} (Some c) errors.RecursionLimitExceeded (Refuses spelling (t ++ c) 0 (Some l)) never (h c)
  fails after t c errors.Memory h never ended = tt
  fails after t c errors.TooLong h never ended = only-fails {E = E} (Some c) errors.TooLong
      (Refuses spelling (t ++ c) 0 (Some l)) never (h c)

  proper-of : (old new : Option (List ℕ)) (x : Result Tree (Error E)) → TakesBytes {E = E} spelling 0 old l new x →
      IfOk x (λ v. IsProperTree v)
  proper-of old new (Ok v) (s, taken, fits, read, bytes) = read-proper l spelling s v read bytes (omega (arith, fits))
  proper-of old new (Err e) t = tt

  module _ (old new : Option (List ℕ)) (b : List ℕ) (known : old ≡ Some b) where
    ok-of : (x : Result Tree (Error E)) → TakesBytes {E = E} spelling 0 old l new x →
        IfOk x (λ v. TakesValue spelling b l v new)
    ok-of (Ok v) (s, taken, fits, read, bytes) = let k = rest-of old new b s known taken in (s, k.0, read, k.2, k.1)
    ok-of (Err e) t = tt

    refused-of : (x : Result Tree (Error E)) → TakesBytes {E = E} spelling 0 old l new x →
        IfErr x (λ e. IsRefusedBy new e (Refuses spelling b 0 (Some l)))
    refused-of (Ok v) t = tt
    refused-of (Err e) (s, taken, fits, h, bytes) =
        let k = rest-of old new b s known taken in
        subst (λ o. IsRefusedBy o e (Refuses spelling b 0 (Some l))) (sym k.1)
        (subst (λ z. IsRefusedBy (Some k.0) e (Refuses spelling z 0 (Some l))) (sym k.2) (followed s e h k.0))

    within-of : (left : List ℕ) (x : Result Tree (Error E)) → new ≡ Some left →
        TakesBytes {E = E} spelling 0 old l new x → length b ≤ length left + greatest_offset
    within-of left x e (s, taken, fits, h, bytes) =
        let k = rest-of old new b s known taken in
        let same : k.0 ≡ left = inside k.0 left (sym k.1 ∙ e) in
        omega (arith, fits, ap length k.2, length-append s k.0, ap length same)

    exact-of : (x : Result Tree (Error E)) (s left : List ℕ) (v : Tree) → IsReadAs spelling s 0 (Some l) v →
        b ≡ s ++ left → TakesBytes {E = E} spelling 0 old l new x → GivesTree v left new x
    exact-of (Ok w) s left v good split (t, taken, fits, fine, bytes) =
        let k = rest-of old new b t known taken in
        let same = one-way l spelling s t left k.0 v w good fine (sym split ∙ k.2) in
        (same.0, k.1 ∙ ap (λ z. Some z) (sym same.1))
    exact-of (Err e) s left v good split (t, taken, fits, h, bytes) = by (either-begins t s k.0 left (sym k.2 ∙ split))
      where
        k : (r : List ℕ) × (new ≡ Some r) × (b ≡ t ++ r)
        k = rest-of old new b t known taken

        -- where the reader came to its end, all of b was taken
        ended : new ≡ Some [] → Refuses spelling (t ++ []) 0 (Some l) refusal.io → ⊥
        ended end = never-refused l spelling s left (t ++ []) v refusal.io good
            (ap (λ (z : List ℕ). t ++ z) (sym (inside k.0 [] (sym k.1 ∙ end))) ∙ sym k.2 ∙ split)
            (subst AreBytes (sym (append-nil t)) bytes)

        by : ((r : List ℕ) × (s ≡ t ++ r)) ⊎ ((r : List ℕ) × (t ≡ s ++ r)) → IsFailed new e
        by (inl (r, is)) = fails new t r e (followed t e h) (λ f. never-refused l spelling s [] (t ++ r) v f good
            (sym is ∙ sym (append-nil s)) (subst AreBytes is (read_bytes spelling s 0 (Some l) v good))) ended
        by (inr (r, is)) = fails new t [] e (followed t e h) (λ f. never-refused l spelling s r (t ++ []) v f good
            (append-nil t ∙ is) (subst AreBytes (sym (append-nil t)) bytes)) ended

    bounded-of : (left : List ℕ) (x : Result Tree (Error E)) → new ≡ Some left →
        TakesBytes {E = E} spelling 0 old l new x → IfOk x (λ v. node_count v + payload_size v + length left ≤ length b)
    bounded-of left (Err x) e t = tt
    bounded-of left (Ok v) e (s, taken, fits, read, bytes) =
        let k = rest-of old new b s known taken in
        let same : k.0 ≡ left = inside k.0 left (sym k.1 ∙ e) in
        omega (arith, read-bounded l spelling s v read, ap length k.2, length-append s k.0, ap length same)

-- all that is said of a call follows from what it takes
pub whole-of : {E : Type 0} (spelling : Spelling) (l : ℕ) (old new : Option (List ℕ)) (x : Result Tree (Error E)) →
    TakesBytes {E = E} spelling 0 old l new x → ReadsWhole spelling old l new x
whole-of {E} spelling l old new x t = record {
  taken = t;
  ok = λ b e. ok-of spelling l old new b e x t;
  exact = λ b s left v e good split. exact-of spelling l old new b e x s left v good split t;
  refused = λ b e. refused-of spelling l old new b e x t;
  bounded = λ b left e known. bounded-of spelling l old new b e left x known t;
  proper = proper-of spelling l old new x t;
  within = λ b left e known. within-of spelling l old new b e left x known t;
}
