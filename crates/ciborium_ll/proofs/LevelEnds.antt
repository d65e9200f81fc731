-- What completes some levels: bytes that do so can always be found, and complete levels need none.
use Rattle.std.proofs.Common.{◌≡◌, ℕ, zero, suc, ◌+◌, List, [], ◌∷◌, ◌++◌, length, refl, sym, ap, ◌∙◌, subst, arith}
use Rattle.std.proofs.Common.{append-nil, append_assoc}
use Rattle.ciborium_ll.specs.{declared.levels.Level.Level, declared.levels.Level.TheVariants.{Items, OpenItems}}
use Rattle.ciborium_ll.specs.declared.levels.Level.TheVariants.{OpenKeys, OpenValues, ByteChunks, TextChunks}
use Rattle.ciborium_ll.specs.{Head.within, Item.{unsigned, no_items, item, no_pairs, items_count, pairs_count}}
use Rattle.ciborium_ll.specs.{Levels.{Ends, EndAll, EndsPairs, AreItem, AreLeftBehind, incomplete}, Spells.Spells}
use Rattle.ciborium_ll.proofs.LevelsTo.{Standing, ItemsTo, LevelTo, LevelsTo, items-to, pairs-to, to-items, to-pairs}
use Rattle.ciborium_ll.proofs.LevelsTo.{to-incomplete, from-incomplete, start, started}

-- ---- what ends levels begins bytes that nothing follows

-- any item may stand anywhere
abbrev pub anywhere : Standing
anywhere = record {
  May = λ n i. Unit {0};
  MayAll = λ n is. Unit {0};
  MayPairs = λ n ps. Unit {0};
  Room = λ n. Unit {0};
  flat = λ n i flat. tt;
  none = λ n. tt;
  more = λ n i is. (λ w. tt, λ w. (tt, tt));
  no_pair = λ n. tt;
  pairs_more = λ n i j ps. (λ w. tt, λ w. (tt, tt, tt));
  arrays = λ n o is. (λ room w. tt, λ w. tt);
  maps = λ n o ps. (λ room w. tt, λ w. tt);
  tags = λ n t i. (λ room w. tt, λ w. tt);
}

before-break : (s r z : List ℕ) → s ≡ r ++ (255 ∷ []) → r ++ (255 ∷ z) ≡ s ++ z
before-break s r z e = sym (append_assoc r (255 ∷ []) z) ∙ ap (λ (c : List ℕ). c ++ z) (sym e)

keys-to : (n : ℕ) (s z : List ℕ) → EndsPairs s → LevelTo anywhere n OpenKeys (s ++ z) z
keys-to n s z (ps, r, spelled, e) = (
  pairs_count ps,
  subst (λ (x : List ℕ). ItemsTo anywhere n (pairs_count ps + pairs_count ps) x (255 ∷ z)) (before-break s r z e)
      (pairs-to anywhere n ps r (255 ∷ z) spelled tt),
)

level-to : (level : Level) (n : ℕ) (s z : List ℕ) → Ends level s → LevelTo anywhere n level (s ++ z) z
level-to (Items k) n s z (is, count, spelled) =
    subst (λ m. ItemsTo anywhere n m (s ++ z) z) count (items-to anywhere n is s z spelled tt)
level-to OpenItems n s z (is, r, spelled, e) = (
  items_count is,
  subst (λ (x : List ℕ). ItemsTo anywhere n (items_count is) x (255 ∷ z)) (before-break s r z e)
      (items-to anywhere n is r (255 ∷ z) spelled tt),
)
level-to OpenKeys n s z pairs = keys-to n s z pairs
level-to OpenValues n s z (v, t, u, one, pairs, e) =
    let (k, others) = keys-to n u z pairs in
    (k, (u ++ z, (v, t, one, ap (λ (c : List ℕ). c ++ z) e ∙ append_assoc t u z, tt), others))
level-to ByteChunks n s z (ps, r, parts, e) = (ps, r, parts, sym (before-break s r z e))
level-to TextChunks n s z (ps, r, parts, e) = (ps, r, parts, sym (before-break s r z e))

to-keys : (n : ℕ) (b z : List ℕ) → LevelTo anywhere n OpenKeys b z → (s : List ℕ) × EndsPairs s × (b ≡ s ++ z)
to-keys n b z (k, h) = let (ps, r, count, spelled, e, w) = to-pairs anywhere n k b (255 ∷ z) h in
    (r ++ (255 ∷ []), (ps, r, spelled, refl), e ∙ before-break (r ++ (255 ∷ [])) r z refl)

to-level : (level : Level) (n : ℕ) (b z : List ℕ) → LevelTo anywhere n level b z →
    (s : List ℕ) × Ends level s × (b ≡ s ++ z)
to-level (Items k) n b z h = let (is, s, count, spelled, e, w) = to-items anywhere n k b z h in
    (s, (is, count, spelled), e)
to-level OpenItems n b z (k, h) = let (is, r, count, spelled, e, w) = to-items anywhere n k b (255 ∷ z) h in
    (r ++ (255 ∷ []), (is, r, spelled, refl), e ∙ before-break (r ++ (255 ∷ [])) r z refl)
to-level OpenKeys n b z h = to-keys n b z h
to-level OpenValues n b z (k, (c, (v, t, one, e, w), others)) =
    let (u, pairs, f) = to-keys n c z (k, others) in
    (t ++ u, (v, t, u, one, pairs, refl), e ∙ ap (λ (x : List ℕ). t ++ x) f ∙ sym (append_assoc t u z))
to-level ByteChunks n b z (ps, r, parts, e) =
    (r ++ (255 ∷ []), (ps, r, parts, refl), e ∙ before-break (r ++ (255 ∷ [])) r z refl)
to-level TextChunks n b z (ps, r, parts, e) =
    (r ++ (255 ∷ []), (ps, r, parts, refl), e ∙ before-break (r ++ (255 ∷ [])) r z refl)

pub end-to : (levels : List Level) (b : List ℕ) → EndAll levels b → LevelsTo anywhere levels b []
end-to [] b e = e
end-to (level ∷ levels) b (s, r, here, others, e) = (
  r,
  subst (λ (x : List ℕ). LevelTo anywhere (length levels) level x r) (sym e) (level-to level (length levels) s r here),
  end-to levels r others,
)

pub to-end : (levels : List Level) (b : List ℕ) → LevelsTo anywhere levels b [] → EndAll levels b
to-end [] b e = e
to-end (level ∷ levels) b (c, here, others) =
    let (s, inner, e) = to-level level (length levels) b c here in (s, c, inner, to-end levels c others, e)

-- ---- complete levels

pub incomplete-again : (levels : List Level) → incomplete (incomplete levels) ≡ incomplete levels
incomplete-again (Items zero ∷ levels) = incomplete-again levels
incomplete-again u = refl

-- complete levels may be dropped
pub unfinished-incomplete : (c : List ℕ) (levels : List Level) → AreLeftBehind c levels → AreLeftBehind c
    (incomplete levels)
unfinished-incomplete c levels o = record {
  complete = λ b e. o.complete b
      (to-end levels b (from-incomplete anywhere levels b [] (end-to (incomplete levels) b e)));
  only = λ b h. to-end (incomplete levels) b (to-incomplete anywhere levels b [] (end-to levels b (o.only b h)));
}

-- ---- before the first byte of an item, and behind its last

pub unfinished-start : AreLeftBehind [] (Items 1 ∷ [])
unfinished-start = record {
  complete = λ b e.
      let (i, s, spelled, whole, w) = started anywhere b [] (end-to (Items 1 ∷ []) b e) in
      (i, subst (λ (c : List ℕ). Spells c i) (sym (whole ∙ append-nil s)) spelled);
  only = λ b h. to-end (Items 1 ∷ []) b (start anywhere b [] (h.0, b, h.1, sym (append-nil b), tt));
}

pub unfinished-end : (c : List ℕ) → AreLeftBehind c [] → AreItem c
unfinished-end c o = subst AreItem (append-nil c) (o.complete [] refl)

-- ---- levels can be completed

zero-spelled : Spells (0 ∷ []) (unsigned 0)
zero-spelled = (within, omega arith, refl)

-- so many zeros
zeros : (n : ℕ) → (b : List ℕ) × Ends (Items n) b
zeros zero = ([], (no_items, refl, refl))
zeros (suc n) =
    let (b, (is, count, spelled)) = zeros n in (
      0 ∷ b,
      (item (unsigned 0) is, ap suc count, (0 ∷ [], b, zero-spelled, spelled, refl)),
    )

can-end-level : (level : Level) → (b : List ℕ) × Ends level b
can-end-level (Items n) = zeros n
can-end-level OpenItems = (255 ∷ [], (no_items, [], refl, refl))
can-end-level OpenKeys = (255 ∷ [], (no_pairs, [], refl, refl))
can-end-level OpenValues =
    (0 ∷ 255 ∷ [], (unsigned 0, 0 ∷ [], 255 ∷ [], zero-spelled, (no_pairs, [], refl, refl), refl))
can-end-level u = (255 ∷ [], ([], [], refl, refl))

pub can-end : (levels : List Level) → (b : List ℕ) × EndAll levels b
can-end [] = ([], refl)
can-end (level ∷ levels) =
    let s = can-end-level level in
    let r = can-end levels in
    (s.0 ++ r.0, (s.0, r.0, s.1, r.1, refl))
