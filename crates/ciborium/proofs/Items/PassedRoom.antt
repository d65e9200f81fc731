-- Where no level is left, no head stands that takes one, but that of a tag that folds.
use Rattle.std.proofs.Common.{◌≡◌, ℕ, suc, ◌≤◌, List, [], ◌∷◌, ◌++◌, length, Option, Some, None, true, false, refl, sym}
use Rattle.std.proofs.Common.{ap, ◌∙◌, subst, append_assoc, arith, ◌-◌}
use Rattle.ciborium_ll.proofs.LevelFronts.{AreUnfinished, FirstOf, of_item, of_part, of_break, first-of}
use Rattle.ciborium_ll.{proofs.OneHeader.one_header_at_front, specs.{Header.SpellsHeader, Item.{Item, array, tag}}}
use Rattle.ciborium_ll.specs.{Spells.Spells, declared.{header.Header.Header, levels.Level.Level}}
use Rattle.ciborium_ll.specs.declared.strings.StringType.{StringType}
use Rattle.ciborium_value.specs.{Meaning.{folding_bytes, is_bignum_tag}, Nesting.{Limit, IsWithin, nesting}}
use Rattle.ciborium_value.specs.Nesting.{items_nesting, pairs_nesting, tag_nesting}
use Rattle.ciborium.specs.inner.PassedOver.{left_inside, takes_one, ItemTo, LevelsTo}
use Rattle.ciborium.proofs.{Items.ItemHeads.{header_of, same-head, tag-front}, Items.PassedItems.{folds-over, within}}
use Rattle.ciborium_ll.specs.declared.header.Header.TheVariants as heads
use Rattle.ciborium_ll.specs.Item as items

module _ (l : Limit) where
  none-left : (o : Limit) (m n k : ℕ) → o ≡ Some m → m ≤ n → IsWithin (left_inside o n) (suc k) → ⊥
  none-left None m n k e le w = absurd cc
  none-left (Some j) m n k e le w = let same : j ≡ m = cc e in let lt : suc k ≤ j - n = w in omega arith

  -- a head that takes a level begins an item
  item-ahead : (header : Header) (h y z : List ℕ) (level : Level) (levels : List Level) → takes_one header ≡ true →
      SpellsHeader h header → AreUnfinished (level ∷ levels) → LevelsTo l (level ∷ levels) (h ++ y) z →
      (c : List ℕ) × ItemTo l (length levels) (h ++ y) c
  item-ahead header h y z level levels takes spelled some ends =
      by (first-of (within l) level levels (h ++ y) z some ends)
    where
      other : (g : Header) (x r : List ℕ) → SpellsHeader x g → takes_one g ≡ false → h ++ y ≡ x ++ r → ⊥
      other g x r sp takes_none e =
          let one = one_header_at_front h x y r header g spelled sp e in
          let same : takes_one header ≡ takes_one g = ap takes_one one.2 in
          let wrong : true ≡ false = sym takes ∙ same ∙ takes_none in
          absurd cc

      by : FirstOf (within l) level levels (h ++ y) z → (c : List ℕ) × ItemTo l (length levels) (h ++ y) c
      by (of_item c more one behind rest) = (c, one)
      by (of_part StringType.Bytes x p c head allowed whole is rest) =
          absurd (other (heads.Bytes (Some (length p))) x (p ++ c) head refl whole)
      by (of_part StringType.Text x p c head allowed whole is rest) =
          absurd (other (heads.Text (Some (length p))) x (p ++ c) head refl whole)
      by (of_break c whole behind rest) = absurd (other heads.Break (255 ∷ []) c refl refl whole)

  -- it is no array and no map
  pub no-room : (m : ℕ) (header : Header) (h y z : List ℕ) (level : Level) (levels : List Level) →
      takes_one header ≡ true → ((t : ℕ) → ¬ (header ≡ heads.Tag t)) → SpellsHeader h header →
      AreUnfinished (level ∷ levels) → l ≡ Some m → m ≤ length levels → LevelsTo l (level ∷ levels) (h ++ y) z → ⊥
  no-room m header h y z level levels takes no_tag spelled some limit full ends =
      let (c, (i, s, sp, whole, w)) = item-ahead header h y z level levels takes spelled some ends in
      by i (same-head s c h y i header sp spelled (sym whole)).0 w
    where
      by : (i : Item) → header_of i ≡ header → IsWithin (left_inside l (length levels)) (nesting i) → ⊥
      by (array o is) e w = none-left l m (length levels) (items_nesting is) limit full w
      by (items.map o ps) e w = none-left l m (length levels) (pairs_nesting ps) limit full w
      by (tag t i) e w = absurd (no_tag t (sym e))
      by i e w = let wrong = ap takes_one e ∙ takes in absurd cc

  -- and a tag only where it folds
  pub no-room-tag : (m t : ℕ) (h y z : List ℕ) (level : Level) (levels : List Level) → SpellsHeader h (heads.Tag t) →
      AreUnfinished (level ∷ levels) → l ≡ Some m → m ≤ length levels → LevelsTo l (level ∷ levels) (h ++ y) z →
      (is_bignum_tag t ≡ true) × ((k : ℕ) × (x : List ℕ) × (r : List ℕ) × SpellsHeader x (heads.Bytes (Some k)) ×
      (k ≤ 16) × (y ≡ x ++ r))
  no-room-tag m t h y z level levels spelled some limit full ends =
      let (c, (i, s, sp, whole, w)) = item-ahead (heads.Tag t) h y z level levels refl spelled some ends in
      let (j, d, is, sq, behind) = tag-front s c h y i t sp spelled (sym whole) in
      by j d c sq behind (folding_bytes t j) refl
      (subst (λ k. IsWithin (left_inside l (length levels)) (nesting k)) is w)
    where
      by : (j : Item) (d c : List ℕ) → Spells d j → y ≡ d ++ c → (o : Option (List ℕ)) → folding_bytes t j ≡ o →
          IsWithin (left_inside l (length levels)) (tag_nesting o (nesting j)) → (is_bignum_tag t ≡ true) ×
          ((k : ℕ) × (x : List ℕ) × (r : List ℕ) × SpellsHeader x (heads.Bytes (Some k)) × (k ≤ 16) × (y ≡ x ++ r))
      by j d c sq behind None e w = absurd (none-left l m (length levels) (nesting j) limit full w)
      by j d c sq behind (Some b) e w =
          let (big, is, le) = folds-over t j b e in
          let (x, head, allowed, f) = subst (Spells d) is sq in (
            big,
            (length b, x, b ++ c, head, le, behind ∙ ap (λ (v : List ℕ). v ++ c) f ∙ append_assoc x b c),
          )
