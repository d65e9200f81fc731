-- What a reader of an item's heads has read, and what its answers say of all the bytes.
use Rattle.std.proofs.Common.{◌≡◌, ℕ, ◌+◌, ◌-◌, ◌<◌, ◌≤◌, List, [], ◌∷◌, ◌++◌, length, take, drop, Some, None, Err}
use Rattle.std.proofs.Common.{Bool, true, false, IsTrue, refl, sym, ap, subst, eqb, ◌∙◌, ◌%◌, inl, inr, arith}
use Rattle.std.proofs.{Common.{append_assoc, drop-drop, take-append-drop, length-take-le}, Math.Seq.take-add}
use Rattle.std.proofs.lemmas.{Bool.eqb-false, List.{length-drop, take_rest}}
use Rattle.ciborium_ll.proofs.{CutHeads.{cut-head, cut-string, long-no-break}, LevelEnds.incomplete-again}
use Rattle.ciborium_ll.proofs.LevelEnds.{unfinished-end, unfinished-incomplete, unfinished-start}
use Rattle.ciborium_ll.proofs.{LevelFronts.left-behind, LevelMisfits.no-item, UniqueSpelling.none_begins_another}
use Rattle.ciborium_ll.specs.{Bytes.AreBytes, Head.break_byte, Header.SpellsHeader, ItemHeads.{HasRead, levels_of}}
use Rattle.ciborium_ll.specs.{ItemHeads.{unread, was_read}, ItemLengths.{BeginNoItem, BeginText, EndInside, IsNoItem}}
use Rattle.ciborium_ll.specs.{ItemLengths.{Misfits, EntersTooMany, StandsInside}, Levels.{AreItem, EndAll}}
use Rattle.ciborium_ll.specs.{Levels.{AreLeftBehind, IsPayloadOf, behind_head, incomplete}, Refusal.argument_length}
use Rattle.ciborium_ll.specs.{Spells.Spells, declared.header.Header.{Header, TheVariants.{Bytes, Text}}}
use Rattle.ciborium_ll.specs.declared.item_heads.{ItemHeads.ItemHeads, NoItem.{NoItem, TheVariants.Incomplete}}
use Rattle.ciborium_ll.specs.declared.{item_heads.NoItem.TheVariants.{Malformed, TooDeep}, levels.Level.Level}
use Rattle.ciborium_ll.specs.declared.levels.{Level.TheVariants.Items, Levels.Levels, Misfit.Misfit}
use Rattle.ciborium_ll.specs.inner.{Fronts.{IsCut, IsCutPayload, IsNoChunk, MayBeChunk}, KeptLevels.IsPassed}
use Rattle.ciborium_ll.specs.inner.KeptLevels.{levels_in}
use Rattle.ciborium_ll.specs.declared.levels.Misfit.TheVariants as misfit

-- ---- the beginning, and the end

pub begun : (heads : ItemHeads) → heads.offset ≡ 0 → levels_of heads ≡ Items 1 ∷ [] → HasRead heads
begun heads z e =
    let nothing : was_read heads ≡ [] = ap (λ n. take n heads.bytes.now) z in
    record {
      within = omega (arith, z);
      levels = subst (λ levels. AreLeftBehind (was_read heads) levels) (sym e)
          (subst (λ c. AreLeftBehind c (Items 1 ∷ [])) (sym nothing) unfinished-start);
      incomplete = ap incomplete e ∙ sym e;
    }

pub whole-read : (heads : ItemHeads) → HasRead heads → levels_of heads ≡ [] → AreItem (was_read heads)
whole-read heads h e = unfinished-end (was_read heads) (subst (AreLeftBehind (was_read heads)) e h.levels)

-- ---- no item

both : (heads : ItemHeads) → was_read heads ++ unread heads ≡ heads.bytes.now
both heads = take-append-drop heads.offset heads.bytes.now

stands : (heads : ItemHeads) → HasRead heads → StandsInside heads.bytes.now heads.offset (levels_of heads)
    (unread heads)
stands heads h = record {
  before = was_read heads;
  whole = sym (both heads);
  at = length-take-le heads.offset heads.bytes.now h.within;
  inside = h.levels;
}

pub malformed : (heads : ItemHeads) → HasRead heads → ¬ (levels_of heads ≡ []) → Misfits (levels_of heads)
    (unread heads) →
    IsNoItem heads.bytes.now (Malformed heads.offset)
malformed heads h some m = (
  subst BeginNoItem (both heads) (no-item (was_read heads) (unread heads) (levels_of heads) h.incomplete some h.levels
      m),
  (levels_of heads, unread heads, stands heads h, m),
)

pub too-deep : (heads : ItemHeads) → HasRead heads → EntersTooMany (levels_of heads) (unread heads) →
    IsNoItem heads.bytes.now (TooDeep heads.offset)
too-deep heads h many = (levels_of heads, unread heads, stands heads h, many)

-- what can be completed behind what was read is the beginning of an item
cut : (heads : ItemHeads) → HasRead heads → (t : List ℕ) → 0 < length t → EndAll (levels_of heads) (unread heads ++ t) →
    IsNoItem heads.bytes.now Incomplete
cut heads h t some e = (
  t,
  some,
  subst AreItem (sym (append_assoc (was_read heads) (unread heads) t) ∙ ap (λ (b : List ℕ). b ++ t) (both heads))
      (h.levels.complete (unread heads ++ t) e),
)

pub cut-inside-head : (heads : ItemHeads) → HasRead heads → ¬ (levels_of heads ≡ []) → AreBytes (unread heads) →
    IsCut (unread heads) → MayBeChunk (levels_of heads) (unread heads) → IsNoItem heads.bytes.now Incomplete
cut-inside-head heads h some bytes ends chunk =
    let more = cut-head (levels_of heads) (unread heads) some h.incomplete ends bytes chunk in
    cut heads h more.0 more.1 more.2

pub cut-inside-payload : (heads : ItemHeads) (header : Header) (size : ℕ) (more : List Level) → HasRead heads →
    SpellsHeader (take size (unread heads)) header → behind_head header (levels_of heads) ≡ Some more →
    IsCutPayload header (drop size (unread heads)) → IsNoItem heads.bytes.now Incomplete
cut-inside-payload heads header size more h spelled placed part =
    let rest = unread heads in
    let t = cut-string header (take size rest) (drop size rest) (levels_of heads) more spelled placed part in
    cut heads h t.0 t.1 (subst (λ (b : List ℕ). EndAll (levels_of heads) (b ++ t.0)) (take-append-drop size rest) t.2)

-- ---- a head

-- it may not stand there
pub misplaced : (heads : ItemHeads) (header : Header) (size : ℕ) → SpellsHeader (take size (unread heads)) header →
    behind_head header (levels_of heads) ≡ None → Misfits (levels_of heads) (unread heads)
misplaced heads header size spelled none = Misfits.misplaced header (take size (unread heads))
    (drop size (unread heads)) spelled (sym (take-append-drop size (unread heads))) none

-- it enters too many levels
pub enters-too-many : (heads : ItemHeads) (header : Header) (size : ℕ) → SpellsHeader (take size (unread heads)) header
    →
    (more : List Level) × (behind_head header (levels_of heads) ≡ Some more) × (length (levels_of heads) ≡ 257) ×
    (length more ≡ 258) → EntersTooMany (levels_of heads) (unread heads)
enters-too-many heads header size spelled (more, placed, kept, one) = (
  header,
  take size (unread heads),
  drop size (unread heads),
  more,
  spelled,
  sym (take-append-drop size (unread heads)),
  placed,
  kept,
  one,
)

-- it is that of a text of which the payload is none
pub no-text : (heads : ItemHeads) (header : Header) (size : ℕ) → SpellsHeader (take size (unread heads)) header →
    (n : ℕ) × (header ≡ Text (Some n)) × ¬ BeginText n (take n (drop size (unread heads))) →
    Misfits (levels_of heads) (unread heads)
no-text heads header size spelled (n, is, none) =
    Misfits.no_text n (take size (unread heads)) (drop size (unread heads))
    (subst (SpellsHeader (take size (unread heads))) is spelled) (sym (take-append-drop size (unread heads))) none

-- the reader behind it
abbrev pub behind : ItemHeads → ℕ → Levels → ItemHeads
behind heads n levels = record {
  bytes = heads.bytes;
  offset = heads.offset + n;
  levels = levels;
}

pub head-read : (heads : ItemHeads) (header : Header) (size n : ℕ) (levels : Levels) → HasRead heads →
    SpellsHeader (take size (unread heads)) header → size ≤ length (unread heads) →
    (n ≤ length (drop size (unread heads))) × IsPayloadOf header (take n (drop size (unread heads))) →
    (more : List Level) × (behind_head header (levels_of heads) ≡ Some more) × (levels_in levels ≡ incomplete more) →
    HasRead (behind heads (size + n) levels)
head-read heads header size n levels h spelled room (there, payload) (more, placed, after) =
    let rest = unread heads in
    let read : take (heads.offset + (size + n)) heads.bytes.now
    ≡ was_read heads ++ (take size rest ++ take n (drop size rest)) =
    take-add heads.offset (size + n) heads.bytes.now ∙
    ap (λ (b : List ℕ). was_read heads ++ b) (take-add size n rest) in
    let state = unfinished-incomplete _ more (left-behind (was_read heads) header (take size rest)
    (take n (drop size rest))
    (levels_of heads) more spelled payload placed h.levels) in
    record {
      within = omega (arith, room, there, length-drop size rest, length-drop heads.offset heads.bytes.now, h.within);
      levels = subst (λ (b : List ℕ). AreLeftBehind b (levels_in levels)) (sym read)
          (subst (λ (ls : List Level). AreLeftBehind (was_read heads ++ (take size rest ++ take n (drop size rest))) ls)
          (sym after) state);
      incomplete = ap incomplete after ∙ incomplete-again more ∙ sym after;
    }

pub front-read : (heads : ItemHeads) (size n : ℕ) →
    unread heads ≡ take size (unread heads) ++ (take n (drop size (unread heads)) ++
    drop (heads.offset + (size + n)) heads.bytes.now)
front-read heads size n =
    let rest = unread heads in
    sym (ap (λ (b : List ℕ). take size rest ++ b)
    (ap (λ (b : List ℕ). take n (drop size rest) ++ b)
    (sym (drop-drop (size + n) heads.offset heads.bytes.now) ∙ sym (drop-drop n size rest)) ∙
    take-append-drop n (drop size rest)) ∙ take-append-drop size rest)

-- ---- bytes that end inside a head

-- a head that begins no part of an open string
pub no-chunk : (levels : List Level) (b : List ℕ) → IsCut b → IsNoChunk levels b → Misfits levels b
no-chunk levels b ends (x, major, r, is, chunks, other) = Misfits.no_chunk x major r is chunks other (no-break ends)
  where
    no-break : IsCut b → ¬ (x ≡ break_byte)
    no-break (inl none) e = let never : [] ≡ x ∷ r = sym none ∙ is in absurd cc
    no-break (inr (y, s, same, fair, short)) e =
        let first : y ∷ s ≡ x ∷ r = sym same ∙ is in
        let here : y ≡ x = cc in
        long-no-break x (omega (arith, subst (λ z. length s < argument_length (z % 32)) here short)) e

-- ---- where the bytes end

pub ends-in-head : (b : List ℕ) → IsCut b → EndInside b
ends-in-head b (inl none) = EndInside.nothing none
ends-in-head b (inr (x, r, is, fair, short)) = EndInside.cut_head x r is fair short

pub ends-in-payload : (b : List ℕ) (header : Header) (size : ℕ) → SpellsHeader (take size b) header →
    IsCutPayload header (drop size b) → EndInside b
ends-in-payload b (Bytes (Some n)) size spelled part = EndInside.cut_payload (Bytes (Some n)) (take size b)
    (drop size b) spelled (sym (take-append-drop size b)) part.0
ends-in-payload b (Text (Some n)) size spelled part = EndInside.cut_payload (Text (Some n)) (take size b)
    (drop size b) spelled (sym (take-append-drop size b)) part.0
ends-in-payload b header size spelled part = absurd part

-- ---- what calls answer

-- what stands behind so many of the bytes
pub behind-bytes : (r u : List ℕ) (n : ℕ) → r ≡ u → take (length r - n) (drop n r) ≡ drop n u
behind-bytes r u n e = take_rest r n ∙ ap (drop n) e

pub front-behind : (heads : ItemHeads) (r : List ℕ) (size n : ℕ) (levels : Levels) → r ≡ unread heads →
    unread heads ≡ take size r ++ (take n (take (length r - size) (drop size r)) ++
    unread (behind heads (size + n) levels))
front-behind heads r size n levels e =
    let u = unread heads in
    let d = drop (heads.offset + (size + n)) heads.bytes.now in
    front-read heads size n ∙
    ap (λ (b : List ℕ). take size b ++ (take n (drop size u) ++ d)) (sym e) ∙
    ap (λ (b : List ℕ). take size r ++ (take n b ++ d)) (sym (behind-bytes r u size e))

-- some level is unfinished
pub some-unfinished : (levels : List Level) (b : Bool) → (IsTrue b → levels ≡ []) × (levels ≡ [] → IsTrue b) → b ≡ false
    →
    ¬ (levels ≡ [])
some-unfinished levels b is f e = let never : false ≡ true = sym f ∙ is.1 e in absurd cc

pub was-misplaced : (header : Header) (old new : List Level) (m : Misfit) → m ≡ misfit.Misplaced →
    IsPassed header old new (Err m) → behind_head header old ≡ None
was-misplaced header old new m e p = subst (λ k. IsPassed header old new (Err k)) e p

pub was-too-deep : (header : Header) (old new : List Level) (m : Misfit) → m ≡ misfit.TooDeep →
    IsPassed header old new (Err m) → (more : List Level) × (behind_head header old ≡ Some more) ×
    (length old ≡ 257) × (length more ≡ 258)
was-too-deep header old new m e p = subst (λ k. IsPassed header old new (Err k)) e p

-- ---- whether all bytes are an item

-- an item of another length stands not at the front of one
pub other-length : (b : List ℕ) (n : ℕ) → (n ≤ length b) × AreItem (take n b) → AreItem b → ¬ (eqb n (length b) ≡ false)
other-length b n (fits, i) j f =
    let none : drop n b ≡ [] = none_begins_another (take n b) (drop n b) i.0 j.0 i.1
    (subst (λ c. Spells c j.0) (sym (take-append-drop n b)) j.1) in
    let whole : n ≡ length b = omega (arith, fits, length-drop n b, ap length none) in
    eqb-false n (length b) f whole

-- of an item that more bytes would complete there is none
pub no-other-item : (b : List ℕ) (e : NoItem) → IsNoItem b e → AreItem b → (p : ℕ) × IsNoItem b (TooDeep p)
no-other-item b Incomplete (t, some, i) j =
    let none = none_begins_another b t j.0 i.0 j.1 i.1 in
    let never : ⊥ = omega (arith, some, ap length none) in absurd never
no-other-item b (Malformed p) (never, rest) j = absurd (never [] b [] refl j)
no-other-item b (TooDeep p) deep j = (p, deep)
