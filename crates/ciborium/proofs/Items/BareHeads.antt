-- What an exit says behind the next head that is not a tag.
use Rattle.std.proofs.Common.{Bool, Err, IfErr, IfOk, Ok, ◌≡◌, ℕ, List, Option, Result, Some, false, ap, subst}
use Rattle.ciborium_ll.specs.{Item.Item, declared.{header.Header.Header, kind.Kind.Kind, strings.StringType.StringType}}
use Rattle.ciborium_value.specs.{Sources.{Fault, TakesOnly, of_kind}, Given.{Given, gives, nests, outcome, refuses}}
use Rattle.ciborium.specs.{declared.de.byte_source.ByteSource.ByteSource, declared.de.error.Error.Error}
use Rattle.ciborium.specs.{declared.de.error.Error.TheVariants.RecursionLimitExceeded, inner.ByteSources.HasTaken}
use Rattle.ciborium.specs.{inner.ByteSources.{AnswersItem, IsUnread, end_at, fault_at}}
use Rattle.ciborium.specs.{inner.FrontItems.{Denies, DeniesItem, Reads}}
use Rattle.ciborium.specs.{inner.Skips.{AreSkipped, TakesBare, under}, inner.StringContents.DeniesContent}
use Rattle.ciborium.specs.inner.StringContents.{TakesContent, head_of, string_item}
use Rattle.ciborium.proofs.{Items.ItemHeads.header_of, Items.SkippedTags.{denies-bare, denies-nested, denies-of-item}}
use Rattle.ciborium.proofs.{Items.TakenOnly.same-end, Payloads.StringPayloads.{denies-string, reads-string}}

module _ {S W A : Type 0} (remaining : S → Option (List ℕ)) (old : ByteSource S W) (taken : Given A) where
  abbrev pub IsDenied : Fault → Type 0
  IsDenied = Denies (IsUnread remaining) (end_at remaining) old (Some old.levels) taken

  -- no head was read
  pub head-denied : (fault : Fault) → DeniesItem (IsUnread remaining) (end_at remaining) old fault → IsDenied fault
  head-denied = denies-of-item (IsUnread remaining) (end_at remaining) (Some old.levels) taken old

  -- the head was taken, and is this
  module _ (mid : ByteSource S W) (h : Header) (head : TakesBare (IsUnread remaining) old mid false h) where
    -- no item of the type begins with it
    pub other-denied : (k : Kind) → ((ts : List ℕ) (i : Item) → AreSkipped false ts → header_of i ≡ h →
        outcome (Some old.levels) (taken (under ts i)) ≡ refuses k) → IsDenied (of_kind k)
    other-denied k blames = denies-bare (IsUnread remaining) false h (Some old.levels) taken (end_at remaining) old mid
        (of_kind k) head (λ end. blames)

    -- no level is left for what it begins
    pub nested-denied : (can_fail : Bool) (new : ByteSource S W) (k : Header) → h ≡ k → (e : Error Unit) →
        e ≡ RecursionLimitExceeded → ((ts : List ℕ) (i : Item) → AreSkipped false ts → header_of i ≡ k →
        outcome (Some old.levels) (taken (under ts i)) ≡ nests) → IsDenied (fault_at can_fail remaining new e)
    nested-denied can_fail new k is e err nested = denies-nested (IsUnread remaining) false k (Some old.levels) taken
        (end_at remaining) old mid (fault_at can_fail remaining new e) (ap (fault_at can_fail remaining new) err)
        (subst (TakesBare (IsUnread remaining) old mid false) is head) nested

    module _ (type : StringType) (len : Option ℕ) (is : h ≡ head_of type len) where
      -- the payload of the string that it begins was refused
      pub string-denied : TakesOnly (HasTaken remaining) old.decoder mid.decoder → (fault : Fault) →
          DeniesContent (IsUnread remaining mid) (end_at remaining mid) type len fault → IsDenied fault
      string-denied only fault content =
          denies-string (IsUnread remaining) (end_at remaining) (Some old.levels) taken old mid type len fault
          (same-end remaining old mid only) (subst (TakesBare (IsUnread remaining) old mid false) is head) content

      -- it was taken, and the string gives v
      pub string-read : (new : ByteSource S W) (payload : List ℕ) (v : A) → TakesContent (IsUnread remaining mid)
          (IsUnread remaining new) type len payload → ((ts : List ℕ) → AreSkipped false ts →
          outcome (Some old.levels) (taken (under ts (string_item type len payload))) ≡ gives v) →
          Reads (IsUnread remaining) old new (Some old.levels) taken v
      string-read new payload v content give = reads-string (IsUnread remaining) old mid new type len (Some old.levels)
          taken payload v (subst (TakesBare (IsUnread remaining) old mid false) is head) content give

      -- either
      pub string-answered : {T : Type 0} {P : T → Type 0} (can_fail : Bool) (new : ByteSource S W) (content : T → A)
          (r : Result T (Error Unit)) → TakesOnly (HasTaken remaining) old.decoder mid.decoder → IfOk r P →
          ((v : T) → P v → (payload : List ℕ) ×
          TakesContent (IsUnread remaining mid) (IsUnread remaining new) type len payload ×
          ((ts : List ℕ) → AreSkipped false ts →
          outcome (Some old.levels) (taken (under ts (string_item type len payload))) ≡ gives (content v))) →
          IfErr r (λ e. DeniesContent (IsUnread remaining mid) (end_at remaining mid) type len
          (fault_at can_fail remaining new e)) →
          AnswersItem can_fail remaining old new (Some old.levels) taken content r
      string-answered can_fail new content (Ok v) only took give denied =
          let (payload, read, made) = give v took in string-read new payload (content v) read made
      string-answered can_fail new content (Err e) only took give denied =
          string-denied only (fault_at can_fail remaining new e) denied
