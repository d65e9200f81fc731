-- An item that is passed over head by head: what is said of each, and then of the item.
use Rattle.std.proofs.Common.{◌≡◌, ℕ, suc, ◌+◌, ◌≤◌, ◌<◌, Bool, true, false, List, [], ◌∷◌, ◌++◌, length, length-append}
use Rattle.std.proofs.Common.{Option, Some, None, refl, sym, ap, ◌∙◌, subst, arith, ltb, ltb-true, ltb-false}
use Rattle.ciborium_ll.proofs.LevelFronts.{AreUnfinished, are-unfinished, behind-to, front, misplaced}
use Rattle.ciborium_ll.proofs.LevelHeads.{entered-inner}
use Rattle.ciborium_ll.proofs.LevelsTo.{around, behind-around, done, from-incomplete, longer, not-done, start, started}
use Rattle.ciborium_ll.{proofs.{LevelsTo.to-incomplete, OneHeader.one_header_at_front}, specs.Header.SpellsHeader}
use Rattle.ciborium_ll.specs.{Item.Item, Levels.{IsPayloadOf, behind_head, behind_item, incomplete, levels_by, entered}}
use Rattle.ciborium_ll.specs.{Spells.Spells, declared.{header.Header.Header, levels.Level.{Level, TheVariants.Items}}}
use Rattle.ciborium_ll.specs.declared.levels.Step.{Step}
use Rattle.ciborium_value.{proofs.Sources.SkippedItems.{skip-gives, skip-nests}, specs.Given.{gives, nests, outcome}}
use Rattle.ciborium_value.specs.{Given.given_skip, Nesting.nesting, Sources.{Fault, IsFaultOf, IsOutsideFault, of_kind}}
use Rattle.ciborium_value.specs.Sources.{of_nesting}
use Rattle.ciborium.proofs.Items.{PassedItems.{announced, folded, to-folded, to-within, within}, PassedRoom.no-room}
use Rattle.ciborium.{proofs.Items.PassedRoom.no-room-tag, specs.inner.{FrontItems.DeniesHead, PassedOver.LevelsTo}}
use Rattle.ciborium.specs.inner.PassedOver.{HasRoom, PassesHeads, IsLevelFault, DeniesLevels, limit_if, takes_one}
use Rattle.ciborium.specs.inner.PassedOver.{IsBignumBehind, TakesBignum, DeniesBignum, TakesPayload, DeniesPayload}
use Rattle.ciborium_ll.specs.declared.header.Header.TheVariants as heads
use Rattle.ciborium_ll.specs.declared.levels.Step.TheVariants as step

pub open-levels : (level : Level) (around : List Level) → incomplete (level ∷ around) ≡ level ∷ around →
    AreUnfinished (level ∷ around)
open-levels level around e = are-unfinished (level ∷ around) e (λ n. absurd cc)

-- ---- faults

outside-level : (end : ℕ) (fault : Fault) (W : Type 0) → IsOutsideFault end fault → IsLevelFault end fault W
outside-level end of_nesting W h = absurd h
outside-level end fault W h = h

level-fault : (end : ℕ) (fault : Fault) (V W : Type 0) → (W → V) → IsLevelFault end fault V → IsLevelFault end fault W
level-fault end of_nesting V W f h = λ w. h (f w)
level-fault end fault V W f h = h

-- ---- a head at the front

-- P holds of what was unread, and Q of what is: this head was taken
abbrev pub TakesFront : (List ℕ → Type 0) → (List ℕ → Type 0) → Header → Type 0
TakesFront P Q h = (y : List ℕ) → P y → (x : List ℕ) × (w : List ℕ) × SpellsHeader x h × (y ≡ x ++ w) × Q w

-- its payload, and what ends the levels behind it
record Behind (levels : List Level) (header : Header) (y z : List ℕ) : Type 0 where
  payload : List ℕ
  rest : List ℕ
  more : List Level
  content : IsPayloadOf header payload
  whole : y ≡ payload ++ rest
  ends : LevelsTo None more rest z

behind-front : (levels : List Level) (header : Header) (x y z : List ℕ) → SpellsHeader x header → AreUnfinished levels →
    LevelsTo None levels (x ++ y) z → Behind levels header y z
behind-front levels header x y z spelled some to =
    let f = front (within None) levels (x ++ y) z some to in
    let one = one_header_at_front x f.head y (f.payload ++ f.rest) header f.header spelled f.spelled f.whole in record {
      payload = f.payload;
      rest = f.rest;
      more = f.more;
      content = subst (λ k. IsPayloadOf k f.payload) (sym one.2) f.content;
      whole = one.1;
      ends = f.ends;
    }

-- where something ends the levels, the next head is refused for what no item decides
pub head-outside : {S : Type 0} (IsUnread : S → List ℕ → Type 0) (End : S → ℕ) (old : S) (fault : Fault)
    (levels : List Level) → AreUnfinished levels → DeniesHead IsUnread End old fault → (y z : List ℕ) (end : ℕ) →
    IsUnread old y → LevelsTo None levels y z → End old ≤ end + length z → IsOutsideFault end fault
head-outside IsUnread End old fault levels some denied y z end u to fits =
    let f = front (within None) levels y z some to in
    let long = longer (within None) f.more f.rest z f.ends in
    let size = announced f.header f.payload f.content in
    let sum = length-append f.payload f.rest in
    denied y f.head (f.payload ++ f.rest) f.header (length z) end u f.spelled f.whole (omega (arith, long, size, sum))
    fits

module _ (P Q : List ℕ → Type 0) (all ahead : ℕ) (header : Header) (takes : TakesFront P Q header)
    (same : (y : List ℕ) → P y → ahead ≡ all) (fault : Fault) (denied : DeniesPayload Q ahead header fault) where
  -- and so is the payload of this head
  pub payload-outside : (levels : List Level) → AreUnfinished levels → (y z : List ℕ) (end : ℕ) → P y →
      LevelsTo None levels y z → all ≤ end + length z → IsOutsideFault end fault
  payload-outside levels some y z end u to fits =
      let (x, w, spelled, split, v) = takes y u in
      let b = behind-front levels header x w z spelled some (subst (λ c. LevelsTo None levels c z) split to) in
      let at = same y u in
      denied w b.payload b.rest (length z) end v b.content b.whole (longer (within None) b.more b.rest z b.ends)
      (omega (arith, at, fits))

-- ---- heads that were refused

module _ (P : List ℕ → Type 0) (all m : ℕ) (levels : List Level) (fault : Fault) (some : AreUnfinished levels) where
  pub head-denied : {S : Type 0} (IsUnread : S → List ℕ → Type 0) (End : S → ℕ) (old : S) →
      ((y : List ℕ) → P y → IsUnread old y) → End old ≡ all → DeniesHead IsUnread End old fault →
      DeniesLevels P all m levels fault
  head-denied IsUnread End old unread same denied y z end u to fits = outside-level end fault _
      (head-outside IsUnread End old fault levels some denied y z end (unread y u) to (omega (arith, same, fits)))

  -- the head may not stand there
  pub misplaced-denied : (Q : List ℕ → Type 0) (header : Header) → TakesFront P Q header →
      behind_head header levels ≡ None → DeniesLevels P all m levels fault
  misplaced-denied Q header takes none y z end u to fits =
      let (x, w, spelled, split, v) = takes y u in
      absurd (misplaced (within None) header x w z levels spelled none some
      (subst (λ c. LevelsTo None levels c z) split to))

  pub payload-denied : (Q : List ℕ → Type 0) (ahead : ℕ) (header : Header) → TakesFront P Q header →
      ((y : List ℕ) → P y → ahead ≡ all) → DeniesPayload Q ahead header fault → DeniesLevels P all m levels fault
  payload-denied Q ahead header takes same denied y z end u to fits = outside-level end fault _
      (payload-outside P Q all ahead header takes same fault denied levels some y z end u to fits)

-- what stands behind the head of a tag was refused
pub content-denied : {S : Type 0} (IsUnread : S → List ℕ → Type 0) (End : S → ℕ) (old : S) (header : Header) (t : ℕ)
    (fault : Fault) → header ≡ heads.Tag t → DeniesHead IsUnread End old fault →
    DeniesBignum (IsUnread old) (End old) header fault
content-denied IsUnread End old header t fault is denied y z end levels u to fits = outside-level end fault _
    (head-outside IsUnread End old fault (Items 1 ∷ levels) tt denied y z end u (to t is) fits)

pub string-denied : (P Q : List ℕ → Type 0) (all ahead : ℕ) (header content : Header) (t : ℕ) (fault : Fault) →
    header ≡ heads.Tag t → TakesFront P Q content → ((y : List ℕ) → P y → ahead ≡ all) →
    DeniesPayload Q ahead content fault → DeniesBignum P all header fault
string-denied P Q all ahead header content t fault is takes same denied y z end levels u to fits =
    outside-level end fault _ (payload-outside P Q all ahead content takes same fault denied (Items 1 ∷ levels) tt y z
    end u (to t is) fits)

-- ---- a head that was passed over

entered-longer : (level : Level) (levels more : List Level) → entered level levels ≡ Some more →
    length more ≡ suc (suc (around levels))
entered-longer level levels more e =
    let (rest, behind, same) = entered-inner level levels more e in
    ap length same ∙ ap suc (behind-around levels rest behind)

-- a head that takes a level makes one more
longer-by-one : (header : Header) (levels more : List Level) → takes_one header ≡ true →
    behind_head header levels ≡ Some more → length more ≡ suc (suc (around levels))
longer-by-one (heads.Array (Some n)) levels more one e = entered-longer (Items n) levels more e
longer-by-one (heads.Array None) levels more one e = entered-longer _ levels more e
longer-by-one (heads.Map (Some n)) levels more one e = entered-longer (Items (n + n)) levels more e
longer-by-one (heads.Map None) levels more one e = entered-longer _ levels more e
longer-by-one (heads.Tag n) levels more one e = entered-longer (Items 1) levels more e
longer-by-one header levels more one e = absurd cc

-- it has no payload
one-plain : (header : Header) (p : List ℕ) → takes_one header ≡ true → IsPayloadOf header p → p ≡ []
one-plain (heads.Array n) p one content = content
one-plain (heads.Map n) p one content = content
one-plain (heads.Tag n) p one content = content
one-plain header p one content = absurd cc

-- a step that is none of the others ends the innermost level
pub is-end : (one : Step) (o : Option (List Level)) (levels : List Level) → ((l : Level) → ¬ (one ≡ step.Within l)) →
    ((l k : Level) → ¬ (one ≡ step.Enters l k)) → ¬ (one ≡ step.Misplaced) → o ≡ levels_by one levels → o ≡ Some levels
is-end (step.Within l) o levels a b d e = absurd (a l refl)
is-end (step.Enters l k) o levels a b d e = absurd (b l k refl)
is-end step.Ends o levels a b d e = e
is-end step.Misplaced o levels a b d e = absurd (d refl)

-- a head behind which no more levels are unfinished than before it takes none
pub stays : (m : ℕ) (limited : Bool) (header : Header) (level : Level) (levels more : List Level) →
    behind_head header (level ∷ levels) ≡ Some more → length more ≤ suc (length levels) →
    HasRoom (limit_if limited m) header (level ∷ levels)
stays m limited header level levels more behind few one k is =
    let long = longer-by-one header (level ∷ levels) more one behind in absurd (omega (arith, long, few))

-- a level is left
pub fits : (m : ℕ) (limited : Bool) (header : Header) (level : Level) (levels : List Level) →
    (takes_one header ≡ true → length levels < m) → HasRoom (limit_if limited m) header (level ∷ levels)
fits m false header level levels room one k is = absurd cc
fits m true header level levels room one k is = let same : m ≡ k = cc is in let less = room one in omega (
  arith,
  less,
  same,
)

module _ (P Q R : List ℕ → Type 0) (m : ℕ) where
  -- a head and its payload
  pub head-passed : (levels more : List Level) (header : Header) → TakesFront P Q header → TakesPayload Q R header →
      behind_head header levels ≡ Some more → ((limited : Bool) → HasRoom (limit_if limited m) header levels) →
      PassesHeads P R m levels more
  head-passed levels more header takes took behind room y u =
      let (x, w, spelled, split, v) = takes y u in
      let (p, r, content, rest, t) = took w v in
      let whole : y ≡ x ++ (p ++ r) = split ∙ ap (λ (c : List ℕ). x ++ c) rest in (
        r,
        t,
        λ limited z. (
          λ to. behind-to (within (limit_if limited m)) header x p r z levels more spelled content behind
              (subst (λ c. LevelsTo (limit_if limited m) levels c z) whole to),
          λ to. subst (λ c. LevelsTo (limit_if limited m) levels c z) (sym whole)
              (to-within (limit_if limited m) header x p r z levels more spelled content behind (room limited) to),
        ),
      )

  -- what stands behind the head of a tag that takes no level
  pub bignum-passed : (T : List ℕ → Type 0) (levels next : List Level) (inner : Level) (header : Header) →
      TakesFront P Q header → TakesPayload Q R header → TakesBignum R T header →
      behind_head header levels ≡ Some (inner ∷ next) → PassesHeads P T m levels next
  bignum-passed T levels next inner header takes took bignum behind y u =
      let (x, w, spelled, split, v) = takes y u in
      let (p, r, content, rest, t) = took w v in
      let (n, k, g, q, s, is, is_bignum, string, small, string_content, split_string, there) = bignum r t in
      let none = one-plain header p (ap takes_one is) content in
      let (others, item_behind, same) = entered-inner (Items 1) levels (inner ∷ next)
      (subst (λ h. behind_head h levels ≡ Some (inner ∷ next)) is behind) in
      let next_is : others ≡ next = cc same in
      let behind_next : behind_item levels ≡ Some next = item_behind ∙ ap Some next_is in
      let tag_spelled = subst (SpellsHeader x) is spelled in
      let whole : y ≡ x ++ (g ++ (q ++ s)) = split ∙ ap (λ (c : List ℕ). x ++ c) (rest ∙ ap (λ (c : List ℕ). c ++ r)
      none ∙
      split_string) in (
        s,
        there,
        λ limited z. (
          λ to. folded (limit_if limited m) n k x g q s z levels next tag_spelled string string_content behind_next
              (subst (λ c. LevelsTo (limit_if limited m) levels c z) whole to),
          λ to. subst (λ c. LevelsTo (limit_if limited m) levels c z) (sym whole)
              (to-folded (limit_if limited m) n k x g q s z levels next tag_spelled is_bignum string small
              string_content behind_next to),
        ),
      )

  -- none stands there, or it was refused
  pub bignum-denied : (all ahead : ℕ) (level : Level) (levels next : List Level) (inner : Level) (header : Header)
      (fault : Fault) → AreUnfinished (level ∷ levels) → TakesFront P Q header → TakesPayload Q R header →
      behind_head header (level ∷ levels) ≡ Some (inner ∷ next) → takes_one header ≡ true → m ≤ length levels →
      ((y : List ℕ) → P y → ahead ≡ all) → DeniesBignum R ahead header fault →
      DeniesLevels P all m (level ∷ levels) fault
  bignum-denied all ahead level levels next inner header fault some takes took behind one full same denied y z end u to
      fits =
      let (x, w, spelled, split, v) = takes y u in
      let (p, r, content, rest, t) = took w v in
      let none = one-plain header p one content in
      let at = same y u in
      let whole : y ≡ x ++ r = split ∙ ap (λ (c : List ℕ). x ++ c) (rest ∙ ap (λ (c : List ℕ). c ++ r) none) in
      let inside : (n : ℕ) → header ≡ heads.Tag n → LevelsTo None (Items 1 ∷ next) r z = λ n is.
      let (others, item_behind, level_is) = entered-inner (Items 1) (level ∷ levels) (inner ∷ next)
      (subst (λ h. behind_head h (level ∷ levels) ≡ Some (inner ∷ next)) is behind) in
      let inner_is : inner ∷ next ≡ Items 1 ∷ next = ap (λ i. i ∷ next) (cc level_is) in
      subst (λ ls. LevelsTo None ls r z) inner_is
      (behind-to (within None) header x p r z (level ∷ levels) (inner ∷ next) spelled content behind
      (subst (λ c. LevelsTo None (level ∷ levels) c z) (split ∙ ap (λ (c : List ℕ). x ++ c) rest) to)) in
      level-fault end fault (IsBignumBehind header r) (LevelsTo (Some m) (level ∷ levels) y z)
      (λ within. stands header x r z spelled one (subst (λ c. LevelsTo (Some m) (level ∷ levels) c z) whole within))
      (denied r z end next t inside (omega (arith, at, fits)))
    where
      tag_at : (h : Header) (x r z : List ℕ) (n : ℕ) → h ≡ heads.Tag n → SpellsHeader x h →
          LevelsTo (Some m) (level ∷ levels) (x ++ r) z → IsBignumBehind h r
      tag_at h x r z n is spelled within =
          let (is_bignum, (k, g, s, string, small, split)) = no-room-tag (Some m) m n x r z level levels
          (subst (SpellsHeader x) is spelled) some refl full within in
          (n, k, g, s, is, is_bignum, string, small, split)

      stands : (h : Header) (x r z : List ℕ) → SpellsHeader x h → takes_one h ≡ true →
          LevelsTo (Some m) (level ∷ levels) (x ++ r) z → IsBignumBehind h r
      stands (heads.Tag n) x r z spelled one within = tag_at (heads.Tag n) x r z n refl spelled within
      stands (heads.Array n) x r z spelled one within = absurd (no-room (Some m) m (heads.Array n) x r z level levels
          one (λ t e. absurd cc) spelled some refl full within)
      stands (heads.Map n) x r z spelled one within = absurd (no-room (Some m) m (heads.Map n) x r z level levels one
          (λ t e. absurd cc) spelled some refl full within)
      stands header x r z spelled one within = absurd cc

-- ---- heads in a row

pub passed-then : (P Q R : List ℕ → Type 0) (m : ℕ) (a b c : List Level) → PassesHeads P Q m a b →
    PassesHeads Q R m b c → PassesHeads P R m a c
passed-then P Q R m a b c f g y u =
    let (w, v, first) = f y u in
    let (x, t, second) = g w v in (
      x,
      t,
      λ limited z. (
        λ to. (second limited z).0 ((first limited z).0 to),
        λ to. (first limited z).1 ((second limited z).1 to),
      ),
    )

pub passed-incomplete : (P Q : List ℕ → Type 0) (m : ℕ) (a b : List Level) → PassesHeads P Q m a b →
    PassesHeads P Q m a (incomplete b)
passed-incomplete P Q m a b f y u =
    let (w, v, first) = f y u in (
      w,
      v,
      λ limited z. (
        λ to. to-incomplete (within (limit_if limited m)) b w z ((first limited z).0 to),
        λ to. (first limited z).1 (from-incomplete (within (limit_if limited m)) b w z to),
      ),
    )

-- a level that has ended is complete
pub passed-ended : (P Q : List ℕ → Type 0) (m : ℕ) (a b : List Level) → PassesHeads P Q m a b →
    PassesHeads P Q m a (Items 0 ∷ b)
passed-ended P Q m a b f y u =
    let (w, v, first) = f y u in (
      w,
      v,
      λ limited z. (
        λ to. not-done (within (limit_if limited m)) b w z ((first limited z).0 to),
        λ to. (first limited z).1 (done (within (limit_if limited m)) b w z to),
      ),
    )

pub denied-before : (P Q : List ℕ → Type 0) (m all ahead : ℕ) (a b : List Level) (fault : Fault) →
    PassesHeads P Q m a b → ((y : List ℕ) → P y → ahead ≡ all) → DeniesLevels Q ahead m b fault →
    DeniesLevels P all m a fault
denied-before P Q m all ahead a b fault f same denied y z end u to fits =
    let (w, v, first) = f y u in
    let at = same y u in
    level-fault end fault (LevelsTo (Some m) b w z) (LevelsTo (Some m) a y z) (λ within. (first true z).0 within)
    (denied w z end v ((first false z).0 to) (omega (arith, at, fits)))

-- ---- the item

pub item-passed : (P Q : List ℕ → Type 0) (m : ℕ) → PassesHeads P Q m (Items 1 ∷ []) [] → (b : List ℕ) → P b →
    (i : Item) × (s : List ℕ) × (z : List ℕ) × Spells s i × (b ≡ s ++ z) ×
    (outcome (Some m) (given_skip i) ≡ gives (tt {0})) × Q z
item-passed P Q m f b u =
    let (w, v, first) = f b u in
    let (i, s, spelled, split, within) = started (within (Some m)) b w ((first true w).1 refl) in
    (i, s, w, spelled, split, skip-gives (Some m) i (omega (arith, within)), v)

pub item-denied : (P : List ℕ → Type 0) (all m : ℕ) (fault : Fault) → DeniesLevels P all m (Items 1 ∷ []) fault →
    (b s z : List ℕ) (i : Item) (end : ℕ) → P b → Spells s i → b ≡ s ++ z → all ≤ end + length z →
    IsFaultOf end fault (outcome (Some m) (given_skip i))
item-denied P all m fault denied b s z i end u spelled split fits =
    by fault (denied b z end u (start (within None) b z (i, s, spelled, split, tt)) fits)
  where
    deep : ¬ (LevelsTo (Some m) (Items 1 ∷ []) b z) → (t : Bool) → ltb m (nesting i) ≡ t →
        outcome (Some m) (given_skip i) ≡ nests
    deep not true e = skip-nests m i (ltb-true m (nesting i) e)
    deep not false e = absurd (not (start (within (Some m)) b z (
      i,
      s,
      spelled,
      split,
      (let low = ltb-false m (nesting i) e in omega (arith, low)),
    )))

    by : (fault : Fault) → IsLevelFault end fault (LevelsTo (Some m) (Items 1 ∷ []) b z) →
        IsFaultOf end fault (outcome (Some m) (given_skip i))
    by (of_kind k) h = absurd h
    by of_nesting h = deep h (ltb m (nesting i)) refl
    by u h = h

-- ---- an item of one head

-- its payload was taken
pub lone-passed : (P Q R : List ℕ → Type 0) (m : ℕ) (header : Header) → TakesFront P Q header →
    behind_head header (Items 1 ∷ []) ≡ Some (Items 0 ∷ []) → TakesPayload Q R header →
    PassesHeads P R m (Items 1 ∷ []) []
lone-passed P Q R m header takes lone took = passed-incomplete P R m (Items 1 ∷ []) (Items 0 ∷ [])
    (head-passed P Q R m (Items 1 ∷ []) (Items 0 ∷ []) header takes took lone
    (λ limited. stays m limited header (Items 1) [] (Items 0 ∷ []) lone (omega arith)))
