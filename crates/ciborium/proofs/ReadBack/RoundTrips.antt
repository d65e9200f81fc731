-- What is written is read back, from bytes and from a tree.
use Rattle.std.proofs.Common.{◌≡◌, ℕ, List, [], ◌++◌, length, Option, Some, None, Result, Ok, Err, refl, sym, ap, ◌∙◌}
use Rattle.std.{proofs.Common.{◌+◌, subst, append-nil, arith}, specs.declared.io.Error.Error as IoError}
use Rattle.ciborium_ll.{proofs.UniqueSpelling.one_at_front, specs.Item.Item}
use Rattle.ciborium_value.specs.{Encoding.{item_of, written_bytes}, Given.{Outcome, gives, outcome}, Nesting.IsWithin}
use Rattle.ciborium_value.specs.{Readings.Reading, ReadsBack.{IsPlainlyReadBack, by_bytes, by_tree}, Sinks.Named}
use Rattle.ciborium_value.specs.Sources.{Fault, of_syntax, of_memory, of_device, of_end, of_length, IsFaultOf}
use Rattle.ciborium_value.specs.{Sources.IsOutsideFault, TreeAnswers.{IsTreeOf, value_item}, WrittenItems.IsWritten}
use Rattle.ciborium_value.specs.{WrittenTrees.written_tree, declared.tree.Value.Value}
use Rattle.ciborium_value.proofs.Writing.ReadBack.{written_spells_item}
use Rattle.ciborium.specs.{Errors.fault_of, TypedAnswers.{AnswersBytes, TakesGiving}, Writes.IsNamedWritten}
use Rattle.ciborium.specs.{Writes.WritesNamed, declared.{de.error.Error.Error, ser.error.Error.Error as WriteError}}
use Rattle.ciborium.specs.laws.RoundTrips.{BytesReadBack, IsContentReadBack, IsGivenBack, TreeGivesContent}
use Rattle.ciborium.specs.laws.RoundTrips.{TreeReadBack}
use Rattle.ciborium_value.specs.declared.error.Error.TheVariants as of_tree

-- where a value is given no item is to blame
pub not-blamed : {C : Type 0} (end : ℕ) (f : Fault) (o : Outcome C) (c : C) → o ≡ gives c → IsFaultOf end f o →
    IsOutsideFault end f
not-blamed end of_syntax o c e h = h
not-blamed end of_memory o c e h = tt
not-blamed end of_device o c e h = tt
not-blamed end of_end o c e h = h
not-blamed end of_length o c e h = h
not-blamed end u o c e h = cc

pub one-content : {C : Type 0} (o : Outcome C) (c d : C) → o ≡ gives c → o ≡ gives d → d ≡ c
one-content o c d h k = cc

pub bytes_read_back : {T C : Type 0} (IsValid : T → Type 0) (written : T → Named) (reading : Reading T C)
    (levels : T → ℕ) → IsPlainlyReadBack IsValid written reading.taken reading.content levels →
    BytesReadBack IsValid written reading levels
bytes_read_back {T} {C} IsValid written reading levels law v i l rest after r valid names fits within answers =
    by r answers
  where
    given : outcome (Some l) (reading.taken i) ≡ gives (reading.content v)
    given = (law by_bytes tt v valid).back i names i refl (Some l) within

    by : (r : Result C (Error IoError)) → AnswersBytes reading.taken l (written_bytes i ++ rest) after r →
        IsGivenBack (reading.content v) rest (length (written_bytes i)) after r
    by (Ok c) (taken, refused) =
        let (j, s, left, sp, e, give, is) = taken (written_bytes i ++ rest) refl in
        let one = one_at_front (written_bytes i) s rest left i j (written_spells_item i fits) sp e in (
          one-content (outcome (Some l) (reading.taken i)) (reading.content v) c given
              (ap (λ j. outcome (Some l) (reading.taken j)) one.2 ∙ give),
          is ∙ ap Some (sym one.1),
        )
    by (Err e) (taken, refused) =
        let n : ℕ = length (written_bytes i) in
        let none : 0 + n ≡ n = omega arith in
        subst (λ m. IsOutsideFault m (fault_of after e)) none
        (not-blamed (0 + n) (fault_of after e) (outcome (Some l) (reading.taken i)) (reading.content v) given
        (refused (written_bytes i ++ rest) refl i (written_bytes i) rest (written_spells_item i fits) refl))

module _ {T C : Type 0} (IsValid : T → Type 0) (written : T → Named) (reading : Reading T C) (levels : T → ℕ)
    (law : IsPlainlyReadBack IsValid written reading.taken reading.content levels) where
  -- an item that is named was written whole: what is read at its front is the content
  taken-content : (v : T) (l : ℕ) (bytes : List ℕ) (after : Option (List ℕ)) (c : C) → IsValid v →
      IsWithin (Some l) (levels v) → (i : Item) → written v ≡ Ok i → IsWritten i → bytes ≡ written_bytes i →
      TakesGiving (Some l) reading.taken bytes c after → c ≡ reading.content v
  taken-content v l bytes after c valid within i names fits same (j, s, left, sp, e, give, is) =
      let one = one_at_front (written_bytes i) s [] left i j (written_spells_item i fits) sp
      (append-nil (written_bytes i) ∙ sym same ∙ e) in
      one-content (outcome (Some l) (reading.taken i)) (reading.content v) c
      ((law by_bytes tt v valid).back i names i refl (Some l) within)
      (ap (λ j. outcome (Some l) (reading.taken j)) one.2 ∙ give)

  -- the same, by cases on what is named
  by-name : (v : T) (l : ℕ) (old new bytes : List ℕ) (after : Option (List ℕ)) (c : C) → IsValid v →
      IsWithin (Some l) (levels v) → (n : Named) → written v ≡ n →
      WritesNamed {E = WriteError IoError} (Some old) (Some new) (Ok tt) n → IsNamedWritten n →
      TakesGiving (Some l) reading.taken bytes c after → old ≡ [] → bytes ≡ new → c ≡ reading.content v
  by-name v l old new bytes after c valid within (Ok i) names appends fits takes none same =
      let all : new ≡ written_bytes i = appends ∙ ap (λ (w : List ℕ). w ++ written_bytes i) none in
      taken-content v l bytes after c valid within i names fits (same ∙ all) takes
  by-name v l old new bytes after c valid within (Err k) names appends fits takes none same = absurd fits

  pub content_read_back : (l : ℕ) (v again : T) (bytes rest : List ℕ) →
      IsContentReadBack IsValid written reading levels l v again bytes rest
  content_read_back l v again bytes rest old new valid within appends fits takes none same =
      by-name v l old new bytes (Some rest) (reading.content again) valid within (written v) refl appends fits
      (takes bytes refl) none same

  made-content : (v : T) (made : Value) → IsValid v → (n : Named) → written v ≡ n → IsTreeOf n made →
      outcome None (reading.taken (value_item made)) ≡ gives (reading.content v)
  made-content v made valid (Ok i) names is = ap (λ t. outcome None (reading.taken (item_of t))) is ∙
      (law by_tree tt v valid).back i names (item_of (written_tree i)) refl None tt
  made-content v made valid (Err k) names is = absurd is

  pub tree_gives_content : TreeGivesContent IsValid written reading
  tree_gives_content v made c valid is give = one-content (outcome None (reading.taken (value_item made)))
      (reading.content v) c (made-content v made valid (written v) refl is) give

  pub tree_read_back : TreeReadBack IsValid written reading
  tree_read_back v made (Ok d) valid is answers = tree_gives_content v made d valid is answers
  tree_read_back v made (Err (of_tree.Custom k)) valid is answers = let given =
      made-content v made valid (written v) refl is in cc
  tree_read_back v made (Err of_tree.Memory) valid is answers = refl
