-- From the item at the front of a slice to all of its bytes.
use Rattle.std.proofs.Common.{◌≡◌, ◌≢◌, ℕ, ◌+◌, ◌-◌, ◌≤◌, inl, inr, false, List, [], ◌++◌, length, Option, Some, None}
use Rattle.std.proofs.Common.{Ok, Err, IfSome, refl, sym, ap, ◌∙◌, subst, arith, append-nil, length-append}
use Rattle.std.proofs.lemmas.List.{nil_from_length}
use Rattle.ciborium_ll.{proofs.UniqueSpelling.{one_at_front, one_item}, specs.{Bytes.greatest_offset, Refusal.Refusal}}
use Rattle.ciborium_ll.specs.{Spells.Spells, declared.kind.Kind.TheVariants.TrailingData}
use Rattle.ciborium_value.specs.{Given.outcome, Readings.Reading, Sources.{IsFaultOf, IsOutsideFault}, Spelling.any}
use Rattle.ciborium_value.specs.{Spelling.IsReadAs, lemmas.GivenOutcomes.one_given}
use Rattle.ciborium.{proofs.{ReadBack.RoundTrips.not-blamed, Readers.KnownReaders.inside}, specs.Errors.HasEndedBy}
use Rattle.ciborium.specs.{Errors.fault_of, SliceAnswers.ReadsAll, TypedAnswers.{IsFaultAhead, ReadsAsTypeFrom}}
use Rattle.ciborium.specs.{TypedAnswers.TakesGiving, ValueAnswers.{IsRefusedBy, IsFailed}, ValueClauses.ReadsWhole}
use Rattle.ciborium.specs.declared.de.error.Error.{Error}
use Rattle.ciborium.specs.declared.de.error.Error.TheVariants as errors

both : {A : Type 0} {P Q R : A → Type 0} (o : Option A) → IfSome o P → IfSome o Q → ((v : A) → P v → Q v → R v) →
    IfSome o R
both None p q f = tt
both (Some v) p q f = f v p q

each : {A : Type 0} {P R : A → Type 0} (o : Option A) → IfSome o P → ((v : A) → P v → R v) → IfSome o R
each None p f = tt
each (Some v) p f = f v p

whole-of : (b s left : List ℕ) → b ≡ s ++ left → left ≡ [] → s ≡ b
whole-of b s left split none = sym (split ∙ ap (λ (z : List ℕ). s ++ z) none ∙ append-nil s)

-- what a slice that fits in memory is refused for, where an item that gives a value stands at its front
only-memory : {E : Type 0} (end : ℕ) (e : Error E) → end ≤ greatest_offset →
    IsOutsideFault end (fault_of (Some []) e) → e ≡ errors.Memory
only-memory end errors.Memory fits h = refl
only-memory end errors.TooLong fits h = absurd (omega (arith, fits, h))
only-memory end u fits h = absurd h

-- at `Io` nothing is left
refused-at-end : {E : Type 0} (rest : List ℕ) (e : Error E) (P : Refusal → Type 0) → IsRefusedBy (Some rest) e P →
    HasEndedBy false (Some rest) e → IsRefusedBy (Some []) e P
refused-at-end rest (errors.Io x) P h ended = λ _. h (ended refl)
refused-at-end rest u v h ended = h

failed-for-memory : {E : Type 0} (rest : List ℕ) (e : Error E) → IsFailed (Some rest) e →
    HasEndedBy false (Some rest) e → e ≡ errors.Memory
failed-for-memory rest (errors.Io x) h ended = absurd (h (ended refl))
failed-for-memory rest errors.Memory h ended = refl
failed-for-memory rest u h ended = absurd h

module _ {T A : Type 0} (E : Type 0) (l : ℕ) (reading : Reading T A) (b rest : List ℕ) where
  -- what reading the item at the front says
  abbrev pub Reads : Rattle.std.specs.Prelude.Result T (Error E) → Type 0
  Reads r = ReadsAsTypeFrom {E = E} false 0 (Some l) reading (Some b) (Some rest)
      (ReadsWhole any (Some b) l (Some rest)) r

  ahead : (e : Error E) → Reads (Err e) → IsFaultAhead 0 (Some l) reading.taken b (fault_of (Some []) e)
  ahead e reads = reads.refused b refl

  -- it was refused
  pub all-refused : length b ≤ greatest_offset → (e : Error E) → Reads (Err e) →
      IfSome reading.whole (λ _. HasEndedBy false (Some rest) e) → ReadsAll {E = E} l reading b (Err e)
  all-refused fits e reads ended = record {
    ok = tt;
    exact = λ i v sp give. inr (ap Err (only-memory (0 + length b) e (omega (arith, fits)) (not-blamed (0 + length b)
        (fault_of (Some []) e) (outcome (Some l) (reading.taken i)) v give
        (ahead e reads i b [] sp (sym (append-nil b))))));
    refused = λ i s left sp split. inl (let same : 0 + length s ≡ length s = omega arith in
        subst (λ n. IsFaultOf n (fault_of (Some []) e) (outcome (Some l) (reading.taken i))) same
        (ahead e reads i s left sp split));
    memory = reads.memory;
    value = both reading.whole reads.value ended
        (λ tree h k. inl (refused-at-end rest e (Rattle.ciborium_value.specs.Refuses.Refuses any b 0 (Some l))
        (h.refused b refl) k));
    whole = both reading.whole reads.value ended (λ tree h k v good. inr (ap Err
        (failed-for-memory rest e (h.exact b b [] v refl good (sym (append-nil b))) k)));
  }

  module _ (v : T) (reads : Reads (Ok v)) where
    front : TakesGiving (Some l) reading.taken b (reading.content v) (Some rest)
    front = reads.ok b refl

    -- it is all
    pub all-given : length rest ≡ 0 → ReadsAll {E = E} l reading b (Ok v)
    all-given zero =
        let none = nil_from_length rest zero in
        let (i, s, left, sp, split, give, after) = front in
        let empty : left ≡ [] = sym (inside rest left after) ∙ none in
        let spells : Spells b i = subst (λ z. Spells z i) (whole-of b s left split empty) sp in record {
          ok = (i, spells, give);
          exact = λ j w sq taken. inl (ap Ok (one_given (reading.content v) w (sym give ∙
              ap (λ j. outcome (Some l) (reading.taken j)) (one_item b i j spells sq) ∙ taken)));
          refused = tt;
          memory = tt;
          value = each reading.whole reads.value (λ tree h.
              let (t, u, good, parts, rests) = h.ok b refl in
              subst (λ z. IsReadAs any z 0 (Some l) (tree (reading.content v)))
              (whole-of b t u parts (sym (inside rest u rests) ∙ none)) good);
          whole = each reading.whole reads.value (λ tree h w good.
              inl (ap Ok (sym (h.exact b b [] w refl good (sym (append-nil b))).0)));
        }

    -- bytes follow it
    pub all-trailing : (n : ℕ) → rest ≢ [] → n ≡ length b - length rest →
        ReadsAll {E = E} l reading b (Err (errors.Semantic (Some n) TrailingData))
    all-trailing n some at =
        let (i, s, left, sp, split, give, after) = front in
        let same : rest ≡ left = inside rest left after in
        let size : n ≡ length s = trailing s left split same in record {
          ok = tt;
          exact = λ j w sq taken. absurd (some (same ∙ sym (one_at_front b s [] left j i sq sp
              (append-nil b ∙ split)).1));
          refused = λ j t u sq parts. inr (let one = one_at_front t s u left j i sq sp (sym parts ∙ split) in (
            λ none. some (same ∙ sym one.1 ∙ none),
            (reading.content v, ap (λ j. outcome (Some l) (reading.taken j)) one.2 ∙ give),
            ap (λ k. errors.Semantic (Some k) TrailingData) (size ∙ ap length (sym one.0)),
          ));
          memory = tt;
          value = each reading.whole reads.value (λ tree h.
              let (t, u, good, parts, rests) = h.ok b refl in
              let kept = inside rest u rests in
              inr (
                tree (reading.content v),
                t,
                u,
                good,
                parts,
                λ none. some (kept ∙ none),
                ap (λ k. errors.Semantic (Some k) TrailingData) (trailing t u parts kept),
              ));
          whole = each reading.whole reads.value (λ tree h w good.
              absurd (some (inside rest [] (h.exact b b [] w refl good (sym (append-nil b))).1)));
        }
      where
        trailing : (s left : List ℕ) → b ≡ s ++ left → rest ≡ left → n ≡ length s
        trailing s left split same =
            let sum : length b ≡ length s + length left = ap length split ∙ length-append s left in
            omega (arith, at, sum, ap length same)
