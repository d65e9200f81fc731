-- What is written as a sequence is read back.
use Rattle.std.proofs.Common.{◌≡◌, ℕ, suc, ◌<◌, ◌≤◌, List, [], ◌∷◌, ◌++◌, length, map, All, Option, Some, None, Result}
use Rattle.std.proofs.{Common.{Ok, Err, ◌+◌, refl, sym, ap, ◌∙◌, subst, arith}, Math.Nat.{le-max_left, le-max_right}}
use Rattle.std.specs.declared.io.Error.{Error as IoError}
use Rattle.ciborium_ll.{proofs.UniqueSpelling.one_at_front, specs.{Bytes.greatest_offset, Item.Item, Spells.Spells}}
use Rattle.ciborium_value.proofs.Writing.{Progress.and_then_is, ReadBack.written_spells_item}
use Rattle.ciborium_value.specs.{Encoding.{items_bytes, written_bytes}, Given.{Given, gives, outcome}, Nesting.Limit}
use Rattle.ciborium_value.specs.{Nesting.IsWithin, Places.items_from, Readings.Reading, Sinks.{Named, all_named}}
use Rattle.ciborium_value.specs.Sources.{Fault, of_kind, of_nesting, of_syntax, of_memory, of_device, of_end, of_length}
use Rattle.ciborium_value.specs.{Sources.IsOutsideFault, WrittenItems.AreWritten}
use Rattle.ciborium.proofs.{Encodings.Sequences.never-empty, ReadBack.RoundTrips.{not-blamed, one-content}}
use Rattle.ciborium.specs.{Errors.fault_of, SequenceReads.{GivesInTurn, GivesThen, TakesSequence}}
use Rattle.ciborium.specs.{SequenceWrites.{AllNamed, AreNamedWritten, WritesInTurn}, TypedAnswers.IsFaultAhead}
use Rattle.ciborium.specs.declared.{de.error.Error.{Error, TheVariants.Io}, ser.error.Error.Error as WriteError}
use Rattle.ciborium.specs.laws.SequenceRoundTrips.{AnswersSequence, AreContentsReadBack, AreGivenBack}
use Rattle.ciborium.specs.laws.SequenceRoundTrips.{SequenceReadsBack, longest}

-- ---- faults that no item decides

-- what passes the greatest offset does so further on too
outside-further : (n m : ℕ) (f : Fault) → n ≤ m → IsOutsideFault n f → IsOutsideFault m f
outside-further n m (of_kind k) le h = h
outside-further n m of_nesting le h = h
outside-further n m of_syntax le h = h
outside-further n m of_memory le h = tt
outside-further n m of_device le h = tt
outside-further n m of_end le h = h
outside-further n m of_length le h = let past : greatest_offset < n = h in omega arith

-- where a device may fail besides
outside-none : {E : Type 0} (left : Option (List ℕ)) (e : Error E) (n : ℕ) → IsOutsideFault n (fault_of left e) →
    IsOutsideFault n (fault_of None e)
outside-none left (Io x) n h = tt
outside-none left u n h = h

-- ---- items that give contents, one by one, in their shortest spelling

-- each of the items can be written, and gives the content
abbrev pub AreGiven : {C : Type 0} → Limit → Given C → List Item → List C → Type 0
AreGiven l taken [] [] = Unit {0}
AreGiven l taken [] (c ∷ cs) = ⊥
AreGiven l taken (i ∷ is) [] = ⊥
AreGiven l taken (i ∷ is) (c ∷ cs) = (outcome l (taken i) ≡ gives c) × AreGiven l taken is cs

module _ {C : Type 0} (l : Limit) (taken : Given C) where
  -- the same item stands at the front of its bytes and others, and gives its content alone
  same-front : (i j : Item) (is : List Item) (s left : List ℕ) (c d : C) → AreWritten (items_from (i ∷ is)) →
      outcome l (taken i) ≡ gives c → Spells s j → items_bytes (items_from (i ∷ is)) ≡ s ++ left → outcome l (taken j) ≡
      gives d → (items_bytes (items_from is) ≡ left) × (d ≡ c)
  same-front i j is s left c d (first, more) given spelled split gave =
      let one = one_at_front (written_bytes i) s (items_bytes (items_from is)) left i j (written_spells_item i first)
      spelled split in
      (one.1, one-content (outcome l (taken i)) c d given (ap (λ j. outcome l (taken j)) one.2 ∙ gave))

  given-back : (is : List Item) (cs ds : List C) → AreWritten (items_from is) → AreGiven l taken is cs →
      GivesInTurn l taken (items_bytes (items_from is)) ds → ds ≡ cs
  given-back [] [] [] fits given gave = refl
  given-back [] [] (d ∷ ds) fits given (j, s, left, spelled, split, gave, more) =
      absurd (never-empty [] s left j spelled refl split)
  given-back (i ∷ is) (c ∷ cs) [] (first, rest) given gave =
      absurd (never-empty (items_bytes (items_from (i ∷ is))) (written_bytes i) (items_bytes (items_from is)) i
      (written_spells_item i first) gave refl)
  given-back (i ∷ is) (c ∷ cs) (d ∷ ds) fits (one, given) (j, s, left, spelled, split, gave, more) =
      let (behind, same) = same-front i j is s left c d fits one spelled split gave in
      ap (λ x. x ∷ ds) same ∙ ap (λ xs. c ∷ xs) (given-back is cs ds fits.1 given
      (subst (λ b. GivesInTurn l taken b ds) (sym behind) more))
  given-back u v ds fits given gave = absurd given

  -- behind some of the items the fault is one that no item decides, where it is so in front of an item and at the end
  outside-behind : (front fault : Fault) →
      ((n : ℕ) → IsOutsideFault n front → IsOutsideFault n fault) → (is : List Item) (cs ds : List C) (u : List ℕ) →
      AreWritten (items_from is) → AreGiven l taken is cs → GivesThen l taken (items_bytes (items_from is)) ds u →
      IsFaultAhead 0 l taken u front → (u ≡ [] → IsOutsideFault 0 fault) → IsOutsideFault (longest is) fault
  outside-behind front fault so [] [] [] u fits given gave ahead end = end (sym gave)
  outside-behind front fault so [] [] (d ∷ ds) u fits given (j, s, left, spelled, split, gave, more) ahead end =
      absurd (never-empty [] s left j spelled refl split)
  outside-behind front fault so (i ∷ is) (c ∷ cs) [] u (first, rest) given gave ahead end =
      let less = le-max_left (length (written_bytes i)) (longest is) in
      outside-further (0 + length (written_bytes i)) (longest (i ∷ is)) fault (omega (arith, less))
      (so (0 + length (written_bytes i)) (not-blamed (0 + length (written_bytes i)) front (outcome l (taken i)) c
      given.0
      (ahead i (written_bytes i) (items_bytes (items_from is)) (written_spells_item i first) (sym gave))))
  outside-behind front fault so (i ∷ is) (c ∷ cs) (d ∷ ds) u fits (one, given) (j, s, left, spelled, split, gave, more)
      ahead end
      =
      let (behind, same) = same-front i j is s left c d fits one spelled split gave in
      outside-further (longest is) (longest (i ∷ is)) fault (le-max_right (length (written_bytes i)) (longest is))
      (outside-behind front fault so is cs ds u fits.1 given (subst (λ b. GivesThen l taken b ds u) (sym behind) more)
      ahead end)
  outside-behind front fault so v w ds u fits given gave ahead end = absurd given

-- ---- values whose items are read as their contents

module _ {T C : Type 0} (IsValid : T → Type 0) (written : T → Named) (reading : Reading T C) (levels : T → ℕ)
    (law : (v : T) → IsValid v → (i : Item) → written v ≡ Ok i → (l : Limit) → IsWithin l (levels v) →
    outcome l (reading.taken i) ≡ gives (reading.content v)) where
  are-given : (l : Limit) (vs : List T) (is : List Item) → All IsValid vs → all_named (map written vs) ≡ Ok is →
      All (λ v. IsWithin l (levels v)) vs → AreGiven l reading.taken is (map reading.content vs)
  are-given l [] is valid named within = let none : [] ≡ is = cc in subst (λ js. AreGiven l reading.taken js []) none tt
  are-given l (v ∷ vs) is valid named within =
      let a = and_then_is (written v) (all_named (map written vs)) is named in
      let step : AreGiven l reading.taken (a.0 ∷ a.1) (map reading.content (v ∷ vs)) = (
        law v (valid 0 v (omega arith)) a.0 a.2 l (within 0 v (omega arith)),
        are-given l vs a.1 (λ k d lt. valid (suc k) d (omega (arith, lt))) a.3
            (λ k d lt. within (suc k) d (omega (arith, lt))),
      ) in
      subst (λ js. AreGiven l reading.taken js (map reading.content (v ∷ vs))) (sym a.4) step

  pub sequence_read_back : SequenceReadsBack IsValid written reading levels
  sequence_read_back vs is l after r valid named fits within answers = by r answers
    where
      given : AreGiven (Some l) reading.taken is (map reading.content vs)
      given = are-given (Some l) vs is valid named within

      by : (r : Result (List C) (Error IoError)) → AnswersSequence reading.taken l (items_bytes (items_from is)) after r
          → AreGivenBack (map reading.content vs) (longest is) after r
      by (Ok cs) (taken, refused) = let (gave, left) = taken (items_bytes (items_from is)) refl in
          (given-back (Some l) reading.taken is (map reading.content vs) cs fits given gave, left)
      by (Err e) (taken, refused) =
          let (cs, u, gave, ahead, end) = refused (items_bytes (items_from is)) refl in
          outside-behind (Some l) reading.taken (fault_of after e) (fault_of None e) (outside-none after e) is
          (map reading.content vs) cs u fits given gave ahead end

  pub contents_read_back : (vs again : List T) (bytes rest : List ℕ) →
      AreContentsReadBack IsValid written reading levels vs again bytes rest
  contents_read_back vs again bytes rest old new valid within out fits taken none same =
      by (all_named (map written vs)) refl out fits
    where
      by : (r : AllNamed) → all_named (map written vs) ≡ r → WritesInTurn {E = WriteError IoError} (Some old)
          (Some new) (Ok tt) r → AreNamedWritten r → map reading.content again ≡ map reading.content vs
      by (Ok is) named out fits =
          let whole : bytes ≡ items_bytes (items_from is) = same ∙ out ∙
          ap (λ (b : List ℕ). b ++ items_bytes (items_from is)) none in
          (sequence_read_back vs is 256 (Some rest) (Ok (map reading.content again)) valid named fits within (
            subst (λ b. TakesSequence {E = IoError} (Some 256) reading.taken (Some b) (Some rest)
                (Ok (map reading.content again))) whole taken,
            λ b known. tt,
          )).0
      by (Err k) named out fits = absurd fits
