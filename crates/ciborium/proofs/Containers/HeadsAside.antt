-- An item whose head was taken and put aside is read as if it had not been looked at.
use Rattle.std.proofs.Common.{◌≡◌, ◌≤◌, ◌+◌, Bool, List, None, Option, Some, Result, Ok, Err, length, sym, subst, ℕ}
use Rattle.ciborium_ll.specs.declared.header.Header.{Header}
use Rattle.ciborium_value.specs.{Sources.{IsFaultOf, TakesOnly}, Given.{Given, gives, outcome}}
use Rattle.ciborium.specs.{declared.de.byte_source.ByteSource.ByteSource, declared.de.error.Error.Error}
use Rattle.ciborium.specs.inner.ByteSources.{AnswersItem, CountsHead, HasTaken, IsUnread, fault_at}
use Rattle.ciborium.specs.inner.FrontItems.{TakesHead}
use Rattle.ciborium.proofs.{Containers.NextParts.aside-unread, Items.TakenOnly.same-end}

module _ {S W : Type 0} (remaining : S → Option (List ℕ)) (old mid : ByteSource S W) (h : Header)
    (head : TakesHead (IsUnread remaining) old mid h) (p : ℕ) (none : mid.pending ≡ None)
    (counted : CountsHead (IsUnread remaining) old mid (h, p)) (levels : mid.levels ≡ old.levels)
    (only : TakesOnly (HasTaken remaining) old.decoder mid.decoder) where
  abbrev aside : ByteSource S W
  aside = record mid { pending = Some (h, p) }

  unread : (b : List ℕ) → IsUnread remaining old b → IsUnread remaining aside b
  unread b u =
      let (x, y, hd, e, un) = head b u in
      aside-unread remaining mid.decoder mid.pending h p b x y none hd e (counted b x y u hd e) un

  pub answers-aside : (can_fail : Bool) {A T : Type 0} (taken : Given A) (content : T → A) (new : ByteSource S W)
      (r : Result T (Error (Unit {0}))) → AnswersItem can_fail remaining aside new (Some mid.levels) taken content r →
      AnswersItem can_fail remaining old new (Some old.levels) taken content r
  answers-aside can_fail taken content new (Ok v) read = λ b u.
      let (i, s, z, sp, f, give, un) = read b (unread b u) in
      (i, s, z, sp, f, subst (λ n. outcome (Some n) (taken i) ≡ gives (content v)) levels give, un)
  answers-aside can_fail taken content new (Err e) denied = λ b s z i end u sp f fits.
      let within = subst (λ n. n ≤ end + length z) (sym (same-end remaining old mid only b u)) fits in
      subst (λ n. IsFaultOf end (fault_at can_fail remaining new e) (outcome (Some n) (taken i))) levels (denied b s z
      i end (unread b u) sp f within)
