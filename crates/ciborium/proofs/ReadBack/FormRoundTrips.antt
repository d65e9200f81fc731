-- What was written in its deterministic form is read back.
use Rattle.std.proofs.Common.{◌≡◌, ℕ, List, [], ◌++◌, Option, Some, None, Ok, Err, refl, sym, ap, ◌∙◌, subst}
use Rattle.std.proofs.Common.{append-nil, arith}
use Rattle.ciborium_ll.proofs.UniqueSpelling.{one_at_front}
use Rattle.ciborium_value.specs.{DeterministicForms.deterministic_form, Encoding.{encoding, item_of}, Given.Outcome}
use Rattle.ciborium_value.specs.{Given.{Given, gives, outcome, outcome_map}, Nesting.{Limit, IsWithin}}
use Rattle.ciborium_value.specs.{Readings.Reading, ReadsBack.{IsPlainlyReadBack, IsReadFromForm, by_tree}, Sinks.Named}
use Rattle.ciborium_value.specs.{Spelling.deterministic, Tree.Tree, View.tree_of, WrittenItems.IsWritten}
use Rattle.ciborium_value.specs.{WrittenTrees.written_tree, declared.key_order.KeyOrder.KeyOrder}
use Rattle.ciborium_value.specs.{declared.tree.Value.Value, lemmas.ItemsOfTrees.tree_is_written_as_itself}
use Rattle.ciborium_value.proofs.Forms.OwnForms.{accepted_where_own_form, form_is_its_own}
use Rattle.ciborium_value.proofs.{Forms.ProperForms.form_is_proper, Writing.ReadBack.written_spells_item}
use Rattle.ciborium_value.proofs.{GoodItems.Accepted.written-item, Sources.Limits.same-within}
use Rattle.ciborium.specs.{ValueClauses.TakesValue, DeterministicWrites.named_form, laws.FormRoundTrips.FormIsReadBack}
use Rattle.ciborium.specs.laws.FormRoundTrips.{IsFormContentGiven, IsFormContentReadBack, IsFormReadAlike}
use Rattle.ciborium.specs.{laws.FormRoundTrips.{IsFormReadBack, IsOwnForm}, TypedAnswers.TakesGiving}
use Rattle.ciborium.proofs.{ReadBack.RoundTrips.one-content, ReadBack.SourcesAgree.without-gives}

-- the encoding of the form stands at the front, and is the one that is accepted
pub form_is_read_back : FormIsReadBack
form_is_read_back o v t l rest after r proper form within fits answers = answers (encoding t ++ rest)
    (encoding t) rest t refl ((accepted_where_own_form o t 0 l (form_is_proper o v t proper form)).1
    (form_is_its_own o v t form, within, omega (arith, fits))) refl

-- the bytes that were written into nothing are just the encoding of the form
form-bytes : (t : Tree) (old new bytes : List ℕ) → new ≡ old ++ encoding t → old ≡ [] → bytes ≡ new → bytes ≡ encoding t
form-bytes t old new bytes out none same = same ∙ out ∙ ap (λ (b : List ℕ). b ++ encoding t) none

-- two outcomes that give a form give the same one
pub one-form : (form : Outcome Tree) (t u : Tree) → form ≡ gives t → form ≡ gives u → t ≡ u
one-form form t u g h = cc

-- what a deterministic reader read at the front of an encoding is the tree that it encodes
read-tree : (o : KeyOrder) (t w : Tree) (bytes : List ℕ) (l : ℕ) (after : Option (List ℕ)) → IsWritten (item_of t) →
    bytes ≡ encoding t → TakesValue (deterministic o) bytes l w after → t ≡ w
read-tree o t w bytes l after fits same (s, left, accepted, e, is) =
    let one = one_at_front (encoding t) s [] left (item_of t) (item_of w) (written_spells_item (item_of t) fits)
    (written-item o s 0 (Some l) w accepted) (append-nil (encoding t) ∙ sym same ∙ e) in
    sym (tree_is_written_as_itself t) ∙ ap written_tree one.2 ∙ tree_is_written_as_itself w

pub form_read_back : (o : KeyOrder) (named : Named) (l : ℕ) (w : Value) (bytes rest : List ℕ) →
    IsFormReadBack o named l w bytes rest
form_read_back o named l w bytes rest old new (t, form, out) (u, own, fits) reads none same =
    let one : u ≡ t = one-form (named_form o named) u t own form in
    let t-fits : IsWritten (item_of t) = subst (λ v. IsWritten (item_of v)) one fits in
    form ∙ ap gives (read-tree o t (tree_of w) bytes l (Some rest) t-fits (form-bytes t old new bytes out none same)
    (reads.ok bytes refl))

-- ---- as any type

own-alike : {C : Type 0} (taken : Given C) (o : KeyOrder) (named : Named) → IsOwnForm o named →
    IsFormReadAlike taken o named
own-alike taken o (Ok i) own = λ t form. ap (λ v. outcome None (taken (item_of v)))
    (one-form (deterministic_form o (written_tree i)) t (written_tree i) form own)
own-alike taken o (Err k) own = own

module _ {T C : Type 0} (written : T → Named) (reading : Reading T C) where
  -- what is read at the front of its encoding is the content
  pub read-content : (t : Tree) (l : ℕ) (bytes : List ℕ) (after : Option (List ℕ)) (c d : C) → IsWritten (item_of t) →
      bytes ≡ encoding t → outcome None (reading.taken (item_of t)) ≡ gives d →
      TakesGiving (Some l) reading.taken bytes c after → c ≡ d
  read-content t l bytes after c d fits same given (j, s, left, sp, e, give, is) =
      let one = one_at_front (encoding t) s [] left (item_of t) j (written_spells_item (item_of t) fits) sp
      (append-nil (encoding t) ∙ sym same ∙ e) in
      let here : outcome (Some l) (reading.taken (item_of t)) ≡ gives c =
      ap (λ j. outcome (Some l) (reading.taken j)) one.2 ∙ give in
      one-content (outcome None (reading.taken (item_of t))) d c given
      (without-gives (outcome (Some l) (reading.taken (item_of t))) (outcome None (reading.taken (item_of t))) c
      (same-within (reading.taken (item_of t)) l) here)

  -- where reading takes the content from the form, the bytes that were written give it
  content-read_back : (o : KeyOrder) (l : ℕ) (v again : T) (bytes rest : List ℕ) →
      ((t : Tree) → named_form o (written v) ≡ gives t → outcome None (reading.taken (item_of t)) ≡
      gives (reading.content v)) → IsFormContentGiven (λ w. Unit {0}) written reading o l v again bytes rest
  content-read_back o l v again bytes rest given old new valid (t, form, out) (u, own, fits) takes none same =
      let one : u ≡ t = one-form (named_form o (written v)) u t own form in
      let t-fits : IsWritten (item_of t) = subst (λ w. IsWritten (item_of w)) one fits in
      read-content t l bytes (Some rest) (reading.content again) (reading.content v) t-fits
      (form-bytes t old new bytes out none same) (given t form) (takes bytes refl)

-- of a type to which the order of pairs and folding make no difference
module _ {T C : Type 0} (IsValid : T → Type 0) (written : T → Named) (reading : Reading T C) (levels : T → ℕ)
    (law : IsReadFromForm IsValid written reading.taken reading.content levels) where
  pub from-form : (o : KeyOrder) (v : T) → IsValid v → (n : Named) → written v ≡ n → (t : Tree) →
      named_form o n ≡ gives t → (m : Limit) → IsWithin m (levels v) →
      outcome m (reading.taken (item_of t)) ≡ gives (reading.content v)
  from-form o v valid (Ok i) names t form = (law o v valid).back i names (item_of t) (ap (outcome_map item_of) form)
  from-form o v valid (Err k) names t form = absurd cc

  pub form_gives_content : (o : KeyOrder) (l : ℕ) (v again : T) (bytes rest : List ℕ) →
      IsFormContentGiven IsValid written reading o l v again bytes rest
  form_gives_content o l v again bytes rest old new valid out fits takes none same =
      content-read_back written reading o l v again bytes rest
      (λ t form. from-form o v valid (written v) refl t form None tt) old new tt out fits takes none same

module _ {T C : Type 0} (IsValid : T → Type 0) (written : T → Named) (reading : Reading T C) (levels : T → ℕ)
    (law : IsPlainlyReadBack IsValid written reading.taken reading.content levels) where
  -- reading takes the content from the form of what is named
  form-content : (o : KeyOrder) (v : T) → IsValid v → (n : Named) → written v ≡ n → IsFormReadAlike reading.taken o n →
      (t : Tree) → named_form o n ≡ gives t → outcome None (reading.taken (item_of t)) ≡ gives (reading.content v)
  form-content o v valid (Ok i) names alike t form = alike t form ∙
      (law by_tree tt v valid).back i names (item_of (written_tree i)) refl None tt
  form-content o v valid (Err k) names alike t form = absurd alike

  pub alike_read_back : (o : KeyOrder) (l : ℕ) (v again : T) (bytes rest : List ℕ) →
      IsFormContentReadBack (IsFormReadAlike reading.taken o) IsValid written reading o l v again bytes rest
  alike_read_back o l v again bytes rest old new valid alike out fits takes none same =
      content-read_back written reading o l v again bytes rest
      (form-content o v valid (written v) refl alike) old new tt out fits takes none same

  pub own_read_back : (o : KeyOrder) (l : ℕ) (v again : T) (bytes rest : List ℕ) →
      IsFormContentReadBack (IsOwnForm o) IsValid written reading o l v again bytes rest
  own_read_back o l v again bytes rest old new valid own =
      alike_read_back o l v again bytes rest old new valid (own-alike reading.taken o (written v) own)
