-- Tags that are entered, and the levels of tags and variants.
use Rattle.std.proofs.Common.{Bool, ◌≡◌, ◌≢◌, ◌+◌, ◌-◌, ℕ, List, ◌++◌, Option, Some, None, refl, sym, ap, ◌∙◌, subst}
use Rattle.std.proofs.Common.{append_assoc, arith}
use Rattle.ciborium_ll.specs.{declared.header.Header.Header, Header.SpellsHeader, Item.{Item, tag}}
use Rattle.ciborium_value.specs.{Sources.{Completes, Holds, IsFaultOf, RefusesAhead, TakesTo}, Given.{Given, gives}}
use Rattle.ciborium_value.specs.Given.{deeper, outcome, within_level, outer_tag, given_outer_tag}
use Rattle.ciborium.specs.{declared.de.byte_source.ByteSource.ByteSource, declared.de.byte_source.ByteLevel.ByteLevel}
use Rattle.ciborium.specs.{declared.de.error.Error.Error, declared.de.error.Error.TheVariants.RecursionLimitExceeded}
use Rattle.ciborium.specs.inner.ByteSources.{IsUnread, StandsBefore, LevelStands, TakesLevel, fault_at}
use Rattle.ciborium.specs.{inner.FrontItems.TakesHead, inner.Skips.EntersLevelUnread, inner.Unread.IsRest}
use Rattle.ciborium.proofs.{Containers.EnteredContainers.{within-is, deeper-is}, Containers.ByteItems.refuses-denied}
use Rattle.ciborium.proofs.{Items.ItemHeads.{header_of, tag-front, same-head, by-shape}, Items.TakenOnly.IsKept}
use Rattle.ciborium.proofs.Items.TakenOnly.{kept-reader}
use Rattle.ciborium_ll.specs.declared.header.Header.TheVariants as header

-- ---- the level that was taken behind a head

pub level-some : {old mid : ℕ} (taken : ℕ) → mid ≡ old → mid ≡ taken + 1 → old ≢ 0
level-some taken same less none = absurd (omega (arith, same, less, none))

pub level-inner : {old mid : ℕ} (taken : ℕ) → mid ≡ old → mid ≡ taken + 1 → taken ≡ old - 1
level-inner taken same less = omega (arith, same, less)

pub level-behind : {old mid new : ℕ} (taken : ℕ) → mid ≡ old → mid ≡ taken + 1 → new ≡ taken → old ≡ new + 1
level-behind taken same less kept = omega (arith, same, less, kept)

-- ---- where the source then stands

module _ {S W : Type 0} (remaining : S → Option (List ℕ)) (old new : ByteSource S W) where
  pub completes-begun : {A : Type 0} (l : _) (taken : Given (A × Item)) (v : A) →
      EntersLevelUnread (IsUnread remaining) old new l taken v → TakesTo (IsUnread remaining) old new Completes
  completes-begun l taken v h b u =
      let (w, un, leads) = h b u in
      (w, un, λ z (i, s, sp, e). let (j, t, sq, f) = leads.outward i s z sp e in (j, t, sq, f))

  pub holds-begun : {A : Type 0} (taken : Given (A × Item)) (v : A) (level : ByteLevel) → IsKept remaining old new →
      TakesLevel old new level → EntersLevelUnread (IsUnread remaining) old new (Some old.levels) taken v →
      Holds (StandsBefore remaining) LevelStands old new taken v level
  holds-begun taken v level kept (back, less) h l i f (b, u, (s, r, sp, rest, e), is, ahead) =
      let (w, un, leads) = h b u in
      let (j, t, give, sq, split) = leads.inward i s r sp e in (
        j,
        ap (λ k. outcome k (taken i)) is ∙ give,
        (
          w,
          un,
          (t, r, sq, subst (λ n. IsRest n r f) (sym (kept-reader remaining old new kept b u)) rest, split),
          ap deeper is ∙ deeper-is old.levels (λ z. absurd (omega (arith, z, less))) ∙ ap Some (omega (arith, less)),
          tt,
        ),
        is ∙ ap Some (sym back),
      )

-- ---- tags

module _ {S : Type 0} (IsUnread : S → List ℕ → Type 0) (old mid new : S) (m : ℕ) (some : m ≢ 0) where
  -- the head of a tag was taken
  pub tag-begun : (t : ℕ) → TakesHead IsUnread old mid (header.Tag t) →
      ((y : List ℕ) → IsUnread mid y → IsUnread new y) →
      EntersLevelUnread IsUnread old new (Some m) given_outer_tag (Some t)
  tag-begun t took keeps b u =
      let (x, y, hd, e, un) = took b u in (
        y,
        keeps y un,
        record {
          outward = λ i s z sp f. (
            tag t i,
            x ++ s,
            (x, s, hd, sp, refl),
            e ∙ ap (λ (w : List ℕ). x ++ w) f ∙
                sym (append_assoc x s z),
          );
          inward = λ j c z sp g.
              let (i, d, is, sr, w) = tag-front c z x y j t sp hd (sym g ∙ e) in
              (i, d, within-is m _ some ∙ ap (λ k. gives (outer_tag k)) is, sr, w);
        },
      )

  untagged-alone : (h : Header) → ((t : ℕ) → h ≡ header.Tag t → ⊥) → (i : Item) → header_of i ≡ h →
      outer_tag i ≡ (None, i)
  untagged-alone h p i e = by-shape (λ j. outer_tag j ≡ (None, j)) h (λ n k. refl) (λ n k. refl) (λ o b k. refl)
      (λ o b k. refl) (λ o is k. refl) (λ o ps k. refl) (λ n k. refl) (λ raw k. refl) (λ t j k. absurd (p t k)) i e

  -- another head was looked at
  pub none-begun : (h : Header) → ((t : ℕ) → h ≡ header.Tag t → ⊥) → TakesHead IsUnread old mid h →
      ((b x y : List ℕ) → IsUnread old b → SpellsHeader x h → b ≡ x ++ y → IsUnread mid y → IsUnread new b) →
      EntersLevelUnread IsUnread old new (Some m) given_outer_tag None
  none-begun h p took aside b u =
      let (x, y, hd, e, un) = took b u in (
        b,
        aside b x y u hd e un,
        record {
          outward = λ i s z sp f. (i, s, sp, f);
          inward = λ j t z sp g. (
            j,
            t,
            within-is m _ some ∙
                ap gives (untagged-alone h p j (same-head t z x y j h sp hd (sym g ∙ e)).0),
            sp,
            g,
          );
        },
      )

-- no level is left for it
pub tag-refused : {S W : Type 0} (can_fail : Bool) (remaining : S → Option (List ℕ)) (old mid new : ByteSource S W)
    (e : Error (Unit {0})) → mid.levels ≡ old.levels → mid.levels ≡ 0 → e ≡ RecursionLimitExceeded →
    RefusesAhead (StandsBefore remaining) old given_outer_tag (fault_at can_fail remaining new e)
tag-refused can_fail remaining old mid new e same none err = refuses-denied remaining old given_outer_tag
    (fault_at can_fail remaining new e) (λ b s z i end u sp g fits.
    subst (λ fault. IsFaultOf end fault (outcome (Some old.levels) (given_outer_tag i)))
    (sym (ap (fault_at can_fail remaining new) err))
    (ap (λ n. within_level (Some n) (gives (outer_tag i))) (sym same ∙ none)))
