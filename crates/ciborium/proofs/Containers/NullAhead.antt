-- A head that is looked at and not taken.
use Rattle.std.proofs.Common.{◌≡◌, ℕ, List, ◌++◌, Option, Some, refl, sym, ap, ◌∙◌, subst, append_assoc, arith, length}
use Rattle.std.proofs.Common.{length-append}
use Rattle.ciborium_ll.specs.{declared.header.Header.Header, Header.SpellsHeader, Item.{Item, simple}}
use Rattle.ciborium_value.specs.{Ahead.end_of, Sources.{Fault, RefusesToTell, TakesNothing, Tells}, Given.is_null}
use Rattle.ciborium.specs.{declared.de.byte_source.ByteSource.ByteSource, inner.ByteSources.{IsUnread, StandsBefore}}
use Rattle.ciborium.specs.{inner.ByteSources.{end_at, reader_of, tells_null}, inner.FrontItems.{TakesHead, DeniesHead}}
use Rattle.ciborium.specs.inner.Unread.{IsRest}
use Rattle.ciborium.proofs.{Items.ItemHeads.{header_of, first-head, first-payload, same-head}, Items.TakenOnly.IsKept}
use Rattle.ciborium.proofs.Items.TakenOnly.{kept-reader, rest-end}

pub null-head : (h : Header) (i : Item) → header_of i ≡ h → tells_null h ≡ is_null i
null-head h i e = subst (λ k. tells_null k ≡ is_null i) e (by i)
  where
    by : (i : Item) → tells_null (header_of i) ≡ is_null i
    by (simple n) = refl
    by _ = refl

module _ {S W : Type 0} (remaining : S → Option (List ℕ)) (old mid new : ByteSource S W) (h : Header)
    (took : TakesHead (IsUnread remaining) old mid h)
    (back : (b x y : List ℕ) → IsUnread remaining old b → SpellsHeader x h → b ≡ x ++ y → IsUnread remaining mid y →
    IsUnread remaining new b) where
  pub tells : {A : Type 0} (tell : Item → A) (answer : A) → IsKept remaining old new → new.levels ≡ old.levels →
      ((i : Item) → header_of i ≡ h → answer ≡ tell i) → Tells (StandsBefore remaining) tell old new answer
  tells tell answer kept levels said l i f (b, u, (s, r, sp, rest, e), is, ahead) =
      let (x, y, hd, g, un) = took b u in (
        said i (same-head s r x y i h sp hd (sym e ∙ g)).0,
        (
          b,
          back b x y u hd g un,
          (
            s,
            r,
            sp,
            subst (λ n. IsRest n r f) (sym (kept-reader remaining old new kept b u))
                rest,
            e,
          ),
          is ∙ ap Some (sym levels),
          tt,
        ),
      )

  pub takes-nothing : TakesNothing (IsUnread remaining) old new
  takes-nothing b u = let (x, y, hd, g, un) = took b u in (b, back b x y u hd g un, refl)

pub refuses-to-tell : {S W : Type 0} (remaining : S → Option (List ℕ)) (old : ByteSource S W) (fault : Fault) →
    DeniesHead (IsUnread remaining) (end_at remaining) old fault → RefusesToTell (StandsBefore remaining) old fault
refuses-to-tell remaining old fault denied l i f (b, u, (s, r, sp, rest, e), is, ahead) =
    let (x, y, hd, g) = first-head s i sp in
    let there = first-payload s i sp in
    let more = length-append y r in
    denied b x (y ++ r) (header_of i) (length r) (end_of f) u hd
    (e ∙ ap (λ (k : List ℕ). k ++ r) g ∙ append_assoc x y r) (omega (arith, there, more))
    (rest-end (reader_of remaining old.decoder) r f rest)
