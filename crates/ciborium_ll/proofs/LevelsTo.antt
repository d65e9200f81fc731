-- Bytes at whose front stands what ends levels, of items that may stand there.
use Rattle.std.proofs.Common.{◌≡◌, ℕ, zero, suc, ◌+◌, ◌≤◌, Bool, List, [], ◌∷◌, ◌++◌, length, Some, refl, sym, ap, ◌∙◌}
use Rattle.std.proofs.Common.{subst, arith, append_assoc, length-append, ◌↔◌}
use Rattle.ciborium_ll.specs.Item.{Item, array, map, tag, no_items, item, no_pairs, pair, items_count, pairs_count}
use Rattle.ciborium_ll.specs.{Levels.{behind_item, incomplete}, Spells.{AreChunks, Spells, SpellsItems, SpellsPairs}}
use Rattle.ciborium_ll.specs.{StringRefusal.{IsAllowed, string_major}, declared.levels.Level.{Level, TheVariants.Items}}
use Rattle.ciborium_ll.specs.declared.levels.Level.TheVariants.{OpenItems, OpenKeys, OpenValues, ByteChunks, TextChunks}
use Rattle.ciborium_ll.specs.declared.strings.StringType.{StringType}
use Rattle.ciborium_ll.specs.Item as items

-- no array, no map and no tag
abbrev pub IsFlat : Item → Type 0
IsFlat (array o is) = ⊥
IsFlat (map o ps) = ⊥
IsFlat (tag t i) = ⊥
IsFlat _ = Unit {0}

-- which items may stand where so many levels are around them, and where there is room for one more
pub record Standing : Type 1 where
  pub May : ℕ → Item → Type 0
  pub MayAll : ℕ → items.Items → Type 0
  pub MayPairs : ℕ → items.Pairs → Type 0
  pub Room : ℕ → Type 0
  pub flat : (n : ℕ) (i : Item) → IsFlat i → May n i
  pub none : (n : ℕ) → MayAll n no_items
  pub more : (n : ℕ) (i : Item) (is : items.Items) → (May n i × MayAll n is) ↔ MayAll n (item i is)
  pub no_pair : (n : ℕ) → MayPairs n no_pairs
  pub pairs_more : (n : ℕ) (i j : Item) (ps : items.Pairs) →
      (May n i × May n j × MayPairs n ps) ↔ MayPairs n (pair i j ps)
  pub arrays : (n : ℕ) (o : Bool) (is : items.Items) →
      (Room n → MayAll (suc n) is → May n (array o is)) × (May n (array o is) → MayAll (suc n) is)
  pub maps : (n : ℕ) (o : Bool) (ps : items.Pairs) →
      (Room n → MayPairs (suc n) ps → May n (map o ps)) × (May n (map o ps) → MayPairs (suc n) ps)
  pub tags : (n t : ℕ) (i : Item) → (Room n → May (suc n) i → May n (tag t i)) × (May n (tag t i) → May (suc n) i)

-- parts of a string and the break begin b, and z follows them
abbrev pub ChunksTo : StringType → List ℕ → List ℕ → Type 0
ChunksTo type b z = (payloads : List (List ℕ)) × (r : List ℕ) ×
    AreChunks (string_major type) (IsAllowed type) r payloads × (b ≡ r ++ (255 ∷ z))

-- the levels around the innermost
abbrev pub around : List Level → ℕ
around [] = 0
around (level ∷ levels) = length levels

pub behind-around : (levels more : List Level) → behind_item levels ≡ Some more → length more ≡ suc (around levels)
behind-around (Items (suc n) ∷ levels) more e = let same : more ≡ Items n ∷ levels = cc e in ap length same
behind-around (OpenItems ∷ levels) more e = let same : more ≡ OpenItems ∷ levels = cc e in ap length same
behind-around (OpenKeys ∷ levels) more e = let same : more ≡ OpenValues ∷ levels = cc e in ap length same
behind-around (OpenValues ∷ levels) more e = let same : more ≡ OpenKeys ∷ levels = cc e in ap length same
behind-around levels more e = absurd cc

module _ (S : Standing) where
  -- where n levels are around it, an item that may stand there begins b, and z follows
  abbrev pub ItemTo : ℕ → List ℕ → List ℕ → Type 0
  ItemTo n b z = (i : Item) × (s : List ℕ) × Spells s i × (b ≡ s ++ z) × S.May n i

  -- so many items
  abbrev pub ItemsTo : ℕ → ℕ → List ℕ → List ℕ → Type 0
  ItemsTo n zero b z = b ≡ z
  ItemsTo n (suc k) b z = (c : List ℕ) × ItemTo n b c × ItemsTo n k c z

  -- what ends a level, around which n are unfinished
  abbrev pub LevelTo : ℕ → Level → List ℕ → List ℕ → Type 0
  LevelTo n (Items k) b z = ItemsTo n k b z
  LevelTo n OpenItems b z = (k : ℕ) × ItemsTo n k b (255 ∷ z)
  LevelTo n OpenKeys b z = (k : ℕ) × ItemsTo n (k + k) b (255 ∷ z)
  LevelTo n OpenValues b z = (k : ℕ) × ItemsTo n (suc (k + k)) b (255 ∷ z)
  LevelTo n ByteChunks b z = ChunksTo StringType.Bytes b z
  LevelTo n TextChunks b z = ChunksTo StringType.Text b z

  -- what ends these levels, the innermost first
  abbrev pub LevelsTo : List Level → List ℕ → List ℕ → Type 0
  LevelsTo [] b z = b ≡ z
  LevelsTo (level ∷ levels) b z = (c : List ℕ) × LevelTo (length levels) level b c × LevelsTo levels c z

  -- ---- items in a row

  pub items-to : (n : ℕ) (is : items.Items) (s z : List ℕ) → SpellsItems s is → S.MayAll n is →
      ItemsTo n (items_count is) (s ++ z) z
  items-to n no_items s z e w = ap (λ (c : List ℕ). c ++ z) e
  items-to n (item i is) s z (t, r, one, others, e) w = (
    r ++ z,
    (i, t, one, ap (λ (c : List ℕ). c ++ z) e ∙ append_assoc t r z, ((S.more n i is).1 w).0),
    items-to n is r z others ((S.more n i is).1 w).1,
  )

  pub pairs-to : (n : ℕ) (ps : items.Pairs) (s z : List ℕ) → SpellsPairs s ps → S.MayPairs n ps →
      ItemsTo n (pairs_count ps + pairs_count ps) (s ++ z) z
  pairs-to n no_pairs s z e w = ap (λ (c : List ℕ). c ++ z) e
  pairs-to n (pair i j ps) s z (t, u, r, key, value, others, e) w =
      let v = (S.pairs_more n i j ps).1 w in
      let twice : suc (suc (pairs_count ps + pairs_count ps)) ≡ suc (pairs_count ps) + suc (pairs_count ps) =
      omega arith in
      subst (λ m. ItemsTo n m (s ++ z) z) twice (
        u ++ (r ++ z),
        (i, t, key, ap (λ (c : List ℕ). c ++ z) e ∙ simp append_assoc, v.0),
        (r ++ z, (j, u, value, refl, v.1), pairs-to n ps r z others v.2),
      )

  pub to-items : (n k : ℕ) (b z : List ℕ) → ItemsTo n k b z → (is : items.Items) × (s : List ℕ) ×
      (items_count is ≡ k) × SpellsItems s is × (b ≡ s ++ z) × S.MayAll n is
  to-items n zero b z e = (no_items, [], refl, refl, e, S.none n)
  to-items n (suc k) b z (c, (i, s, one, e, w), others) =
      let (is, r, count, spelled, f, v) = to-items n k c z others in (
        item i is,
        s ++ r,
        ap suc count,
        (s, r, one, spelled, refl),
        e ∙ ap (λ (x : List ℕ). s ++ x) f ∙ sym (append_assoc s r z),
        (S.more n i is).0 (w, v),
      )

  pub to-pairs : (n k : ℕ) (b z : List ℕ) → ItemsTo n (k + k) b z → (ps : items.Pairs) × (s : List ℕ) ×
      (pairs_count ps ≡ k) × SpellsPairs s ps × (b ≡ s ++ z) × S.MayPairs n ps
  to-pairs n zero b z e = (no_pairs, [], refl, refl, e, S.no_pair n)
  to-pairs n (suc k) b z h =
      let twice : suc k + suc k ≡ suc (suc (k + k)) = omega arith in
      let (c, (i, s, key, e, v), (d, (j, t, value, f, w), others)) = subst (λ m. ItemsTo n m b z) twice h in
      let (ps, r, count, spelled, g, u) = to-pairs n k d z others in (
        pair i j ps,
        s ++ (t ++ r),
        ap suc count,
        (s, t, r, key, value, spelled, refl),
        e ∙ ap (λ (x : List ℕ). s ++ x) (f ∙ ap (λ (x : List ℕ). t ++ x) g) ∙ simp append_assoc,
        (S.pairs_more n i j ps).0 (v, w, u),
      )

  -- ---- an item where it may stand

  pub item-to : (levels more : List Level) (b c z : List ℕ) → behind_item levels ≡ Some more →
      ItemTo (around levels) b c → LevelsTo more c z → LevelsTo levels b z
  item-to (Items (suc n) ∷ levels) more b c z behind one ends =
      let same : more ≡ Items n ∷ levels = cc behind in
      let (d, others, rest) = subst (λ m. LevelsTo m c z) same ends in (d, (c, one, others), rest)
  item-to (OpenItems ∷ levels) more b c z behind one ends =
      let same : more ≡ OpenItems ∷ levels = cc behind in
      let (d, (k, others), rest) = subst (λ m. LevelsTo m c z) same ends in (d, (suc k, (c, one, others)), rest)
  item-to (OpenKeys ∷ levels) more b c z behind one ends =
      let same : more ≡ OpenValues ∷ levels = cc behind in
      let (d, (k, others), rest) = subst (λ m. LevelsTo m c z) same ends in
      let twice : suc (suc (k + k)) ≡ suc k + suc k = omega arith in
      (d, (suc k, subst (λ m. ItemsTo (length levels) m b (255 ∷ d)) twice (c, one, others)), rest)
  item-to (OpenValues ∷ levels) more b c z behind one ends =
      let same : more ≡ OpenKeys ∷ levels = cc behind in
      let (d, (k, others), rest) = subst (λ m. LevelsTo m c z) same ends in (d, (k, (c, one, others)), rest)
  item-to levels more b c z behind one ends = absurd cc

  -- ---- levels that are complete, and what is not longer

  pub done : (levels : List Level) (b z : List ℕ) → LevelsTo (Items 0 ∷ levels) b z → LevelsTo levels b z
  done levels b z (c, e, ends) = subst (λ (x : List ℕ). LevelsTo levels x z) (sym e) ends

  pub not-done : (levels : List Level) (b z : List ℕ) → LevelsTo levels b z → LevelsTo (Items 0 ∷ levels) b z
  not-done levels b z ends = (b, refl, ends)

  pub to-incomplete : (levels : List Level) (b z : List ℕ) → LevelsTo levels b z → LevelsTo (incomplete levels) b z
  to-incomplete (Items zero ∷ levels) b z ends = to-incomplete levels b z (done levels b z ends)
  to-incomplete levels b z ends = ends

  pub from-incomplete : (levels : List Level) (b z : List ℕ) → LevelsTo (incomplete levels) b z → LevelsTo levels b z
  from-incomplete (Items zero ∷ levels) b z ends = not-done levels b z (from-incomplete levels b z ends)
  from-incomplete levels b z ends = ends

  pub start : (b z : List ℕ) → ItemTo 0 b z → LevelsTo (Items 1 ∷ []) b z
  start b z one = (z, (z, one, refl), refl)

  pub started : (b z : List ℕ) → LevelsTo (Items 1 ∷ []) b z → ItemTo 0 b z
  started b z (c, (d, one, e), f) = subst (λ (x : List ℕ). ItemTo 0 b x) (e ∙ f) one

  items-longer : (n k : ℕ) (b z : List ℕ) → ItemsTo n k b z → length z ≤ length b
  items-longer n zero b z e = let same : length b ≡ length z = ap length e in omega arith
  items-longer n (suc k) b z (c, (i, s, one, e, w), others) =
      let le = items-longer n k c z others in
      let long : length b ≡ length s + length c = ap length e ∙ length-append s c in
      omega arith

  break-longer : (b z : List ℕ) → length (255 ∷ z) ≤ length b → length z ≤ length b
  break-longer b z le = omega arith

  chunks-longer : (type : StringType) (b z : List ℕ) → ChunksTo type b z → length z ≤ length b
  chunks-longer type b z (ps, r, parts, e) =
      let long : length b ≡ length r + suc (length z) = ap length e ∙ length-append r (255 ∷ z) in
      omega arith

  level-longer : (n : ℕ) (level : Level) (b z : List ℕ) → LevelTo n level b z → length z ≤ length b
  level-longer n (Items k) b z h = items-longer n k b z h
  level-longer n OpenItems b z (k, h) = break-longer b z (items-longer n k b (255 ∷ z) h)
  level-longer n OpenKeys b z (k, h) = break-longer b z (items-longer n (k + k) b (255 ∷ z) h)
  level-longer n OpenValues b z (k, h) = break-longer b z (items-longer n (suc (k + k)) b (255 ∷ z) h)
  level-longer n ByteChunks b z h = chunks-longer StringType.Bytes b z h
  level-longer n TextChunks b z h = chunks-longer StringType.Text b z h

  pub longer : (levels : List Level) (b z : List ℕ) → LevelsTo levels b z → length z ≤ length b
  longer [] b z e = let same : length b ≡ length z = ap length e in omega arith
  longer (level ∷ levels) b z (c, here, ends) =
      let le = longer levels c z ends in
      let inner = level-longer (length levels) level b c here in
      omega arith
