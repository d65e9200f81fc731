-- What ends the levels behind a head, with the head and its payload before it, ends the levels where it stands.
use Rattle.std.proofs.Common.{◌≡◌, ℕ, suc, ◌+◌, List, [], ◌∷◌, ◌++◌, length, Option, Some, None, true, false, refl, sym}
use Rattle.std.proofs.Common.{ap, ◌∙◌, subst, append_assoc, option_map}
use Rattle.ciborium_ll.proofs.LevelsTo.{Standing, IsFlat, ItemTo, ItemsTo, LevelTo, LevelsTo, ChunksTo, around}
use Rattle.ciborium_ll.{proofs.LevelsTo.{behind-around, item-to, to-items, to-pairs}, specs.Head.{IsHead, open_byte}}
use Rattle.ciborium_ll.specs.{Header.SpellsHeader, Item.{Item, unsigned, negative, bytes, text, array, map, tag}}
use Rattle.ciborium_ll.specs.{Item.{simple, float}, Levels.{IsPayloadOf, entered, behind_item, behind_bytes}}
use Rattle.ciborium_ll.specs.{Levels.{behind_text, behind_break, behind_head}, Spells.{Spells, joined}}
use Rattle.ciborium_ll.specs.{StringRefusal.{IsAllowed, string_major}, declared.header.Header.Header}
use Rattle.ciborium_ll.specs.declared.levels.Level.{Level, TheVariants.{Items, OpenItems, OpenKeys, ByteChunks}}
use Rattle.ciborium_ll.specs.declared.{levels.Level.TheVariants.TextChunks, strings.StringType.StringType}
use Rattle.ciborium_ll.specs.declared.header.Header.TheVariants as heads

-- a head that takes a level: that of an array, of a map or of a tag
abbrev pub TakesLevel : Header → Type 0
TakesLevel (heads.Array n) = Unit {0}
TakesLevel (heads.Map n) = Unit {0}
TakesLevel (heads.Tag t) = Unit {0}
TakesLevel _ = ⊥

-- a head that enters a level, and those around it
pub entered-inner : (level : Level) (levels more : List Level) → entered level levels ≡ Some more →
    (rest : List Level) × (behind_item levels ≡ Some rest) × (more ≡ level ∷ rest)
entered-inner level levels more e = by (behind_item levels) e
  where
    by : (o : Option (List Level)) → option_map (λ rest. level ∷ rest) o ≡ Some more →
        (rest : List Level) × (o ≡ Some rest) × (more ≡ level ∷ rest)
    by None e = absurd cc
    by (Some rest) e = (rest, refl, cc)

-- the bytes of an open item, and what follows
open-whole : (m : ℕ) (h s y c : List ℕ) → h ≡ open_byte m ∷ [] → y ≡ s ++ (255 ∷ c) →
    h ++ y ≡ (open_byte m ∷ (s ++ (255 ∷ []))) ++ c
open-whole m h s y c e f = ap (λ (x : List ℕ). x ++ y) e ∙
    ap (λ (x : List ℕ). open_byte m ∷ x) (f ∙ sym (append_assoc s (255 ∷ []) c))

-- one part more in front of the others
chunk-more : (type : StringType) (h p y c : List ℕ) → IsHead h (string_major type) (length p) →
    IsAllowed type p → ChunksTo type y c → ChunksTo type (h ++ (p ++ y)) c
chunk-more type h p y c head allowed (ps, r, parts, e) = (
  p ∷ ps,
  (h ++ p) ++ r,
  (h ++ p, r, (h, head, allowed, refl), parts, refl),
  ap (λ (x : List ℕ). h ++ (p ++ x)) e ∙ simp append_assoc,
)

module _ (S : Standing) where
  array-closed : (n k : ℕ) (h y c : List ℕ) → IsHead h 4 k → S.Room n → ItemsTo S (suc n) k y c → ItemTo S n (h ++ y) c
  array-closed n k h y c head room here = let (is, s, count, spelled, e, w) = to-items S (suc n) k y c here in (
    array false is,
    h ++ s,
    (s, spelled, (h, subst (IsHead h 4) (sym count) head, refl)),
    ap (λ (x : List ℕ). h ++ x) e ∙ sym (append_assoc h s c),
    (S.arrays n false is).0 room w,
  )

  open-array-closed : (n : ℕ) (h y c : List ℕ) → h ≡ open_byte 4 ∷ [] → S.Room n →
      LevelTo S (suc n) OpenItems y c → ItemTo S n (h ++ y) c
  open-array-closed n h y c head room (k, here) =
      let (is, s, count, spelled, e, w) = to-items S (suc n) k y (255 ∷ c) here in (
        array true is,
        open_byte 4 ∷ (s ++ (255 ∷ [])),
        (s, spelled, refl),
        open-whole 4 h s y c head e,
        (S.arrays n true is).0 room w,
      )

  map-closed : (n k : ℕ) (h y c : List ℕ) → IsHead h 5 k → S.Room n → ItemsTo S (suc n) (k + k) y c →
      ItemTo S n (h ++ y) c
  map-closed n k h y c head room here = let (ps, s, count, spelled, e, w) = to-pairs S (suc n) k y c here in (
    map false ps,
    h ++ s,
    (s, spelled, (h, subst (IsHead h 5) (sym count) head, refl)),
    ap (λ (x : List ℕ). h ++ x) e ∙ sym (append_assoc h s c),
    (S.maps n false ps).0 room w,
  )

  open-map-closed : (n : ℕ) (h y c : List ℕ) → h ≡ open_byte 5 ∷ [] → S.Room n →
      LevelTo S (suc n) OpenKeys y c → ItemTo S n (h ++ y) c
  open-map-closed n h y c head room (k, here) =
      let (ps, s, count, spelled, e, w) = to-pairs S (suc n) k y (255 ∷ c) here in (
        map true ps,
        open_byte 5 ∷ (s ++ (255 ∷ [])),
        (s, spelled, refl),
        open-whole 5 h s y c head e,
        (S.maps n true ps).0 room w,
      )

  tag-closed : (n t : ℕ) (h y c : List ℕ) → IsHead h 6 t → S.Room n → ItemsTo S (suc n) 1 y c → ItemTo S n (h ++ y) c
  tag-closed n t h y c head room (d, (i, s, one, e, w), f) = (
    tag t i,
    h ++ s,
    (h, s, head, one, refl),
    ap (λ (x : List ℕ). h ++ x) (e ∙ ap (λ (x : List ℕ). s ++ x) f) ∙ sym (append_assoc h s c),
    (S.tags n t i).0 room w,
  )

  break-to : (y z : List ℕ) (levels more : List Level) → behind_break levels ≡ Some more → LevelsTo S more y z →
      LevelsTo S levels (255 ∷ y) z
  break-to y z (OpenItems ∷ levels) more behind ends =
      let same : more ≡ levels = cc behind in (y, (0, refl), subst (λ m. LevelsTo S m y z) same ends)
  break-to y z (OpenKeys ∷ levels) more behind ends =
      let same : more ≡ levels = cc behind in (y, (0, refl), subst (λ m. LevelsTo S m y z) same ends)
  break-to y z (ByteChunks ∷ levels) more behind ends =
      let same : more ≡ levels = cc behind in (y, ([], [], refl, refl), subst (λ m. LevelsTo S m y z) same ends)
  break-to y z (TextChunks ∷ levels) more behind ends =
      let same : more ≡ levels = cc behind in (y, ([], [], refl, refl), subst (λ m. LevelsTo S m y z) same ends)
  break-to y z levels more behind ends = absurd cc

module _ (S : Standing) (h p y z : List ℕ) (levels more : List Level) (ends : LevelsTo S more y z) where
  -- a head that enters a level
  enters-to : (level : Level) → p ≡ [] →
      ((c : List ℕ) → LevelTo S (suc (around levels)) level y c → ItemTo S (around levels) (h ++ y) c) →
      entered level levels ≡ Some more → LevelsTo S levels (h ++ (p ++ y)) z
  enters-to level none closes behind =
      let (rest, inner, same) = entered-inner level levels more behind in
      let (c, here, others) = subst (λ m. LevelsTo S m y z) same ends in
      let one = closes c (subst (λ n. LevelTo S n level y c) (behind-around levels rest inner) here) in
      subst (λ (x : List ℕ). LevelsTo S levels (h ++ (x ++ y)) z) (sym none)
      (item-to S levels rest (h ++ y) c z inner one others)

  -- an item that is its head and its payload
  whole-to : (i : Item) → IsFlat i → Spells (h ++ p) i → behind_item levels ≡ Some more →
      LevelsTo S levels (h ++ (p ++ y)) z
  whole-to i flat spelled behind = item-to S levels more (h ++ (p ++ y)) y z behind
      (i, h ++ p, spelled, sym (append_assoc h p y), S.flat (around levels) i flat) ends

  -- an item that is its head alone
  bare-to : (i : Item) → IsFlat i → p ≡ [] → Spells h i → behind_item levels ≡ Some more →
      LevelsTo S levels (h ++ (p ++ y)) z
  bare-to i flat none spelled behind = item-to S levels more (h ++ (p ++ y)) y z behind
      (i, h, spelled, ap (λ (x : List ℕ). h ++ (x ++ y)) none, S.flat (around levels) i flat) ends

module _ (S : Standing) where
  bytes-to : (h p y z : List ℕ) (levels more : List Level) → IsHead h 2 (length p) → IsAllowed StringType.Bytes p →
      behind_bytes levels ≡ Some more → LevelsTo S more y z → LevelsTo S levels (h ++ (p ++ y)) z
  bytes-to h p y z (ByteChunks ∷ levels) more head allowed behind ends =
      let same : more ≡ ByteChunks ∷ levels = cc behind in
      let (c, parts, rest) = subst (λ m. LevelsTo S m y z) same ends in
      (c, chunk-more StringType.Bytes h p y c head allowed parts, rest)
  bytes-to h p y z levels more head allowed behind ends =
      whole-to S h p y z levels more ends (bytes false p) tt (h, head, allowed, refl) behind

  text-to : (h p y z : List ℕ) (levels more : List Level) → IsHead h 3 (length p) → IsAllowed StringType.Text p →
      behind_text levels ≡ Some more → LevelsTo S more y z → LevelsTo S levels (h ++ (p ++ y)) z
  text-to h p y z (TextChunks ∷ levels) more head allowed behind ends =
      let same : more ≡ TextChunks ∷ levels = cc behind in
      let (c, parts, rest) = subst (λ m. LevelsTo S m y z) same ends in
      (c, chunk-more StringType.Text h p y c head allowed parts, rest)
  text-to h p y z levels more head allowed behind ends =
      whole-to S h p y z levels more ends (text false p) tt (h, head, allowed, refl) behind

  pub to-behind : (header : Header) (h p y z : List ℕ) (levels more : List Level) → SpellsHeader h header →
      IsPayloadOf header p → behind_head header levels ≡ Some more → (TakesLevel header → S.Room (around levels)) →
      LevelsTo S more y z → LevelsTo S levels (h ++ (p ++ y)) z
  to-behind header h p y z levels more hd content behind room ends = by header hd content behind room
    where
      by : (header : Header) → SpellsHeader h header → IsPayloadOf header p → behind_head header levels ≡ Some more →
          (TakesLevel header → S.Room (around levels)) → LevelsTo S levels (h ++ (p ++ y)) z
      by (heads.Positive n) hd none behind room = bare-to S h p y z levels more ends (unsigned n) tt none hd behind
      by (heads.Negative n) hd none behind room = bare-to S h p y z levels more ends (negative n) tt none hd behind
      by (heads.Bytes (Some n)) hd content behind room =
          bytes-to h p y z levels more (subst (IsHead h 2) (sym content.0) hd) content.1 behind ends
      by (heads.Bytes None) hd none behind room = enters-to S h p y z levels more ends ByteChunks none (λ c here. (
        bytes true (joined here.0),
        open_byte 2 ∷ (here.1 ++ (255 ∷ [])),
        (here.0, here.1, here.2, refl, refl),
        open-whole 2 h here.1 y c hd here.3,
        S.flat (around levels) (bytes true (joined here.0)) tt,
      )) behind
      by (heads.Text (Some n)) hd content behind room =
          text-to h p y z levels more (subst (IsHead h 3) (sym content.0) hd) content.1 behind ends
      by (heads.Text None) hd none behind room = enters-to S h p y z levels more ends TextChunks none (λ c here. (
        text true (joined here.0),
        open_byte 3 ∷ (here.1 ++ (255 ∷ [])),
        (here.0, here.1, here.2, refl, refl),
        open-whole 3 h here.1 y c hd here.3,
        S.flat (around levels) (text true (joined here.0)) tt,
      )) behind
      by (heads.Array (Some n)) hd none behind room = enters-to S h p y z levels more ends (Items n) none
          (λ c here. array-closed S (around levels) n h y c hd (room tt) here) behind
      by (heads.Array None) hd none behind room = enters-to S h p y z levels more ends OpenItems none
          (λ c here. open-array-closed S (around levels) h y c hd (room tt) here) behind
      by (heads.Map (Some n)) hd none behind room = enters-to S h p y z levels more ends (Items (n + n)) none
          (λ c here. map-closed S (around levels) n h y c hd (room tt) here) behind
      by (heads.Map None) hd none behind room = enters-to S h p y z levels more ends OpenKeys none
          (λ c here. open-map-closed S (around levels) h y c hd (room tt) here) behind
      by (heads.Tag t) hd none behind room = enters-to S h p y z levels more ends (Items 1) none
          (λ c here. tag-closed S (around levels) t h y c hd (room tt) here) behind
      by (heads.Simple n) hd none behind room = bare-to S h p y z levels more ends (simple n) tt none hd behind
      by (heads.Float size) hd none behind room = bare-to S h p y z levels more ends (float hd.0) tt none hd.1 behind
      by heads.Break hd none behind room = subst (λ (x : List ℕ). LevelsTo S levels (h ++ (x ++ y)) z) (sym none)
          (subst (λ (x : List ℕ). LevelsTo S levels (x ++ y) z) (sym hd) (break-to S y z levels more behind ends))
