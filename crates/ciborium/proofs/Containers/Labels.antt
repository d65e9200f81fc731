-- Keys of a map, which are read by the head with which they begin.
use Rattle.std.proofs.Common.{◌≡◌, ◌≤◌, ◌+◌, ◌++◌, ◌∙◌, List, None, Option, Some, append_assoc, ap, false, length, refl}
use Rattle.std.proofs.Common.{IfErr, IfOk, sym, subst, ℕ, Bool, Result, Ok, Err, arith}
use Rattle.ciborium_ll.specs.{Header.SpellsHeader, Item.{Item, text, unsigned}, Spells.Spells}
use Rattle.ciborium_ll.specs.declared.{header.Header.Header, strings.StringType.StringType}
use Rattle.ciborium_value.{proofs.Sources.Sequences.fault_map, specs.Given.{Given, gives, mapped, outcome}}
use Rattle.ciborium_value.specs.{Labels.{Label, label_type, label_place, name_place, placed}, Nesting.Limit}
use Rattle.ciborium_value.specs.{Places.is_open, Sources.{Fault, IsFaultOf, TakesOnly}}
use Rattle.ciborium.proofs.{Containers.NextParts.aside-unread, Items.ItemHeads.{header_of, same-head}}
use Rattle.ciborium.proofs.Items.{SkippedTags.{bare-head, denies-item, denies-of-item, skips-none}, TakenOnly.same-end}
use Rattle.ciborium.{proofs.Payloads.StringPayloads.denies-string, specs.declared.de.byte_source.ByteSource.ByteSource}
use Rattle.ciborium.specs.inner.ByteSources.{CountsHead, HasTaken, IsUnread, end_at, head_label_type, IsUnreadBy}
use Rattle.ciborium.specs.inner.{FrontItems.{Denies, DeniesHead, TakesHead}, StringContents.DeniesContent}
use Rattle.ciborium.specs.inner.StringContents.{TakesPlace}
use Rattle.ciborium.proofs.Items.TakenOnly.{is-kept, keeps-none, keeps-then}
use Rattle.ciborium.proofs.Items.Weights.{kept-fewer}
use Rattle.ciborium.proofs.Containers.ByteItems.{TakesOne, takes-given, takes-denied}
use Rattle.ciborium.specs.inner.ByteSources.{AnswersItem, KeepsSource, PassesItem, bytes_weight}
use Rattle.ciborium.specs.inner.ByteSources.{fault_at, head_weight, weight_left}
use Rattle.ciborium.specs.declared.de.error.Error.{Error}
use Rattle.ciborium_value.specs.declared.labels.LabelType.{LabelType}
use Rattle.ciborium_ll.specs.declared.header.Header.TheVariants as header

-- the head tells how the key is read
label-head : (h : Header) (i : Item) → header_of i ≡ h → head_label_type h ≡ label_type i
label-head h i e = subst (λ k. head_label_type k ≡ label_type i) e (by i)
  where
    by : (i : Item) → head_label_type (header_of i) ≡ label_type i
    by (unsigned n) = refl
    by i = refl

-- what is made of what is taken is refused as that is
pub denies-mapped : {S A B : Type 0} (IsUnread : S → List ℕ → Type 0) (End : S → ℕ) (old : S) (l : Limit)
    (taken : Given A) (f : A → B) (fault : Fault) → Denies IsUnread End old l taken fault →
    Denies IsUnread End old l (λ i. mapped f (taken i)) fault
denies-mapped IsUnread End old l taken f fault denied b s z i end u sp e fits =
    fault_map end fault f (outcome l (taken i)) (denied b s z i end u sp e fits)

-- ---- the key whose head was taken

-- none was
pub no-key : {S W P : Type 0} (can_fail : Bool) (remaining : S → Option (List ℕ)) {old new : ByteSource S W}
    {content : P → P} (place : Label → P) (e : Error (Unit {0})) →
    TakesOnly (HasTaken remaining) old.decoder new.decoder → weight_left new ≤ weight_left old →
    DeniesHead (IsUnread remaining) (end_at remaining) old (fault_at can_fail remaining new e) →
    TakesOne can_fail remaining old new (label_place place) content (Err e)
no-key can_fail remaining {old} {new} place e only no_more denied =
    let fault = fault_at can_fail remaining new e in
    takes-denied can_fail remaining only no_more (denies-of-item (IsUnread remaining) (end_at remaining)
    (Some old.levels) (label_place place) old fault (denies-item (IsUnread remaining) (end_at remaining) old old false
    fault (λ b u. refl) (skips-none (IsUnread remaining) old false) denied))

-- it was, at offset p
pub record HasHead {S W : Type 0} (remaining : S → Option (List ℕ)) (old mid : ByteSource S W) (h : Header) (p : ℕ) :
    Type 0 where
  pub kept : KeepsSource remaining old mid
  pub fewer : bytes_weight mid + head_weight h ≤ weight_left old
  pub head : TakesHead (IsUnread remaining) old mid h
  pub counted : CountsHead (IsUnread remaining) old mid (h, p)

module _ {S W P : Type 0} (can_fail : Bool) {remaining : S → Option (List ℕ)} {old mid : ByteSource S W} {h : Header}
    {p : ℕ} (k : HasHead remaining old mid h p) (place : Label → P) where
  -- what is answered behind it, with what was taken since
  abbrev Answered : ByteSource S W → Result P (Error (Unit {0})) → Type 0
  Answered new = TakesOne can_fail remaining old new (label_place place) (λ v. v)

  -- the head is the whole of the key
  pub whole-key : (i : Item) {v : P} → ((x : List ℕ) → SpellsHeader x h → Spells x i) →
      outcome (Some old.levels) (label_place place i) ≡ gives v → Answered mid (Ok v)
  whole-key i make give = takes-given can_fail remaining (is-kept k.kept) k.kept.levels
      k.kept.pending (kept-fewer old mid mid h k.fewer k.kept.pending (keeps-none remaining mid k.kept.pending))
      (λ b u. let (x, y, hd, e, un) = k.head b u in (i, x, y, make x hd, e, give, un))

  module _ (len : Option ℕ) (is : h ≡ header.Text len) where
    -- it is a text, whose payload was taken
    pub text-key : {new : ByteSource S W} {v : P} → KeepsSource remaining mid new →
        TakesPlace (IsUnread remaining mid) (IsUnread remaining new) StringType.Text len (name_place place) v →
        Answered new (Ok v)
    text-key {new} {v} kept (payload, content, same) = takes-given can_fail remaining
        (is-kept (keeps-then k.kept kept)) (kept.levels ∙ k.kept.levels) kept.pending
        (kept-fewer old mid new h k.fewer k.kept.pending kept)
        (λ b u.
        let (x, y, hd, e, un) = k.head b u in
        let (c, z, make, f, un') = content y un in (
          text (is_open len) payload,
          x ++ c,
          z,
          make x (subst (SpellsHeader x) is hd),
          e ∙ ap (λ (r : List ℕ). x ++ r) f ∙ sym (append_assoc x c z),
          ap gives (sym same),
          un',
        ))

    -- or refused
    pub no-text-key : {new : ByteSource S W} {e : Error (Unit {0})} → KeepsSource remaining mid new →
        DeniesContent (IsUnread remaining mid) (end_at remaining mid) StringType.Text len
        (fault_at can_fail remaining new e) → Answered new (Err e)
    no-text-key {new} {e} kept denied = takes-denied can_fail remaining (keeps-then k.kept kept).only
        (keeps-then k.kept kept).no_more
        (denies-string (IsUnread remaining) (end_at remaining) (Some old.levels) (label_place place) old mid
        StringType.Text len (fault_at can_fail remaining new e) (same-end remaining old mid k.kept.only)
        (bare-head (IsUnread remaining) old mid false (header.Text len)
        (subst (TakesHead (IsUnread remaining) old mid) is k.head)) denied)

    -- either
    pub text-key-answered : {new : ByteSource S W} (r : Result P (Error (Unit {0}))) → KeepsSource remaining mid new →
        IfOk r (TakesPlace (IsUnread remaining mid) (IsUnread remaining new) StringType.Text len (name_place place)) →
        IfErr r (λ e. DeniesContent (IsUnread remaining mid) (end_at remaining mid) StringType.Text len
        (fault_at can_fail remaining new e)) → Answered new r
    text-key-answered (Ok v) kept took denied = text-key kept took
    text-key-answered (Err e) kept took denied = no-text-key kept denied

  -- the head is put aside, and the key is read as it tells
  abbrev aside : mid.decoder.pushed ≡ None → ByteSource S W
  aside none = record mid { pending = Some (h, p); unpushed = none }

  told : (b : List ℕ) → IsUnread remaining old b → IsUnreadBy remaining mid.decoder (Some (h, p)) b ×
      ((i : Item) (s z : List ℕ) → Spells s i → b ≡ s ++ z → head_label_type h ≡ label_type i)
  told b u =
      let (x, y, hd, e, un) = k.head b u in (
        aside-unread remaining mid.decoder mid.pending h p b x y k.kept.pending hd e (k.counted b x y u hd e) un,
        λ i s z sp f. label-head h i (same-head s z x y i h sp hd (sym f ∙ e)).0,
      )

  pub told-key : {none : mid.decoder.pushed ≡ None} {new : ByteSource S W} (r : Result P (Error (Unit {0}))) →
      PassesItem remaining (aside none) new r → (type : LabelType) → type ≡ head_label_type h →
      AnswersItem can_fail remaining (aside none) new (Some mid.levels) (placed place type) (λ v. v) r → Answered new r
  told-key (Ok v) keeps type is read = takes-given can_fail remaining
      (keeps.kept.same_reader ∙ k.kept.same_reader, λ first t. keeps.kept.only first (k.kept.only first t))
      (keeps.kept.levels ∙ k.kept.levels) keeps.kept.pending (omega (arith, k.fewer, keeps.fewer)) (λ b u.
      let (un, tells) = told b u in
      let (i, s, z, sp, f, give, un') = read b un in (
        i,
        s,
        z,
        sp,
        f,
        subst (λ n. outcome (Some n) (label_place place i) ≡ gives v) k.kept.levels
            (subst (λ t. outcome (Some mid.levels) (placed place t i) ≡ gives v) (is ∙ tells i s z sp f) give),
        un',
      ))
  told-key {new = new} (Err e) keeps type is denied = takes-denied can_fail remaining
      (λ first t. keeps.kept.only first (k.kept.only first t)) (omega (arith, k.fewer, keeps.kept.no_more)) (λ b s z i
      end u sp f
      fits.
      let (un, tells) = told b u in
      let within = subst (λ n. n ≤ end + length z) (sym (same-end remaining old mid k.kept.only b u)) fits in
      let fault = fault_at can_fail remaining new e in
      subst (λ n. IsFaultOf end fault (outcome (Some n) (label_place place i))) k.kept.levels
      (subst (λ t. IsFaultOf end fault (outcome (Some mid.levels) (placed place t i))) (is ∙ tells i s z sp f)
      (denied b s z i end un sp f within)))
