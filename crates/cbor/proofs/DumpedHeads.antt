-- The heads of an item are read and dumped one by one.
use Rattle.std.proofs.Common.{◌≡◌, ℕ, zero, suc, ◌+◌, ◌<◌, ◌≤◌, List, [], ◌∷◌, ◌++◌, length, drop, Option, Some, None}
use Rattle.std.proofs.Common.{Result, Ok, Err, OnOk, inl, if◌then◌else◌, is_ok, inr, refl, sym, ap, ◌∙◌, subst, arith}
use Rattle.std.proofs.Common.{append-nil, append_assoc, length-append, take-append-drop, add-one}
use Rattle.std.{proofs.lemmas.List.{flat_map_more, length-drop}, specs.List.{flat_map, repeat}}
use Rattle.hex.specs.Hex.{encode_lower, encode_with}
use Rattle.ciborium_ll.specs.{Header.{IsCounted, SpellsHeader}, ItemHeads.{HasRead, IsHeadRead, levels_of, unread}}
use Rattle.ciborium_ll.specs.{ItemHeads.was_read, ItemLengths.IsNoItem, Levels.AreItem, declared.header.Header.Header}
use Rattle.ciborium_ll.specs.declared.item_heads.{ItemHead.ItemHead, ItemHeads.ItemHeads, NoItem.NoItem}
use Rattle.ciborium_ll.specs.declared.item_heads.NoItem.TheVariants.{Incomplete, Malformed, TooDeep}
use Rattle.ciborium_ll.specs.declared.levels.Level.{Level, TheVariants.Items}
use Rattle.ciborium_value.proofs.Trees.Notations.{encode_lower-append}
use Rattle.cbor.specs.Dumped.{AreHeads, AreHeadsAt, AreLinesOf, Entry, IsBrokenDump, IsEntryAt, ShowsAt, entry_bytes}
use Rattle.cbor.specs.{Dumped.{entry_of, hex_column, line_of, reason_text}, Laws.{DumpKeepsBytes, DumpKeepsHex}}
use Rattle.cbor.specs.Line.{trailing_text}
use Rattle.ciborium_ll.specs.ItemHeads as found
use Rattle.ciborium_ll.specs.declared.header.Header.TheVariants as header

-- ---- one more head

pub one-more-at : (es : List Entry) (levels : List Level) (p : ℕ) (b : List ℕ) (open_ : List Level) (rest : List ℕ)
    (q : ℕ) (e : Entry) (more : List Level) (left : List ℕ) → AreHeadsAt levels p b es open_ rest →
    q ≡ p + length (flat_map entry_bytes es) → IsEntryAt open_ q e more → rest ≡ entry_bytes e ++ left →
    AreHeadsAt levels p b (es ++ (e ∷ [])) more left
one-more-at [] levels p b open_ rest q e more left (same, whole) at is front = (
  more,
  left,
  subst (λ (n : ℕ). IsEntryAt levels n e more) (omega (arith, at))
      (subst (λ (ls : List Level). IsEntryAt ls q e more) same is),
  whole ∙ front,
  (refl, refl),
)
one-more-at (f ∷ es) levels p b open_ rest q e more left (next, behind, first, whole, others) at is front = (
  next,
  behind,
  first,
  whole,
  one-more-at es next (p + length (entry_bytes f)) behind open_ rest q e more left others
      (omega (arith, at, length-append (entry_bytes f) (flat_map entry_bytes es))) is front,
)

-- ---- a head has a byte at least

some-of : (b : List ℕ) (x : ℕ) (xs : List ℕ) → b ≡ x ∷ xs → 1 ≤ length b
some-of b x xs e = let size : length b ≡ suc (length xs) = ap (λ (c : List ℕ). length c) e in omega (arith, size)

some-counted : (b : List ℕ) (major : ℕ) (n : Option ℕ) → IsCounted b major n → 1 ≤ length b
some-counted b major (Some n) (w, fits, e) = some-of b _ _ e
some-counted b major None e = some-of b _ _ e

pub some-head : (b : List ℕ) (h : Header) → SpellsHeader b h → 1 ≤ length b
some-head b (header.Positive n) (w, fits, e) = some-of b _ _ e
some-head b (header.Negative n) (w, fits, e) = some-of b _ _ e
some-head b (header.Bytes n) h = some-counted b 2 n h
some-head b (header.Text n) h = some-counted b 3 n h
some-head b (header.Array n) h = some-counted b 4 n h
some-head b (header.Map n) h = some-counted b 5 n h
some-head b (header.Tag n) (w, fits, e) = some-of b _ _ e
some-head b (header.Simple n) (inl (fits, e)) = some-of b _ _ e
some-head b (header.Simple n) (inr (from, fits, e)) = some-of b _ _ e
some-head b (header.Float size) (raw, inl (long, e), same) = some-of b _ _ e
some-head b (header.Float size) (raw, inr (inl (long, e)), same) = some-of b _ _ e
some-head b (header.Float size) (raw, inr (inr (long, e)), same) = some-of b _ _ e
some-head b header.Break e = some-of b _ _ e

-- ---- heads that were read

-- the heads of b that were read, and their lines
pub record IsDumpedSoFar (b : List ℕ) (heads : ItemHeads) (text : List ℕ) : Type 0 where
  pub entries : List Entry
  pub same : heads.bytes.now ≡ b
  pub read : HasRead heads
  pub before : AreHeads b entries (levels_of heads) (unread heads)
  pub offset : heads.offset ≡ length (flat_map entry_bytes entries)
  pub lines : text ≡ flat_map line_of entries

-- none was read
pub none-dumped : (b : List ℕ) (heads : ItemHeads) (text : List ℕ) → heads.bytes.now ≡ b → HasRead heads →
    heads.offset ≡ 0 → levels_of heads ≡ Items 1 ∷ [] → text ≡ [] → IsDumpedSoFar b heads text
none-dumped b heads text same read at levels none = record {
  entries = [];
  same = same;
  read = read;
  before = (levels, sym (ap (λ (n : ℕ). drop n heads.bytes.now) at ∙ same));
  offset = at;
  lines = none;
}

further : (b : List ℕ) (old new : ItemHeads) (head : ItemHead) (es : List Entry) → HasRead old → HasRead new →
    IsHeadRead old new head → old.offset ≡ length (flat_map entry_bytes es) →
    new.offset ≡ length (flat_map entry_bytes (es ++ (entry_of head ∷ [])))
further b old new head es before after is e =
    let all = ap (λ (c : List ℕ). length c) is.same in
    let front = ap (λ (c : List ℕ). length c) is.front ∙
    (length-append head.bytes.now (head.payload.now ++ unread new) ∙
    ap (λ (n : ℕ). length head.bytes.now + n) (length-append head.payload.now (unread new))) in
    let own = length-append head.bytes.now head.payload.now in
    let more = ap (λ (c : List ℕ). length c) (flat_map_more entry_bytes [] es (entry_of head)) in
    let split = length-append (flat_map entry_bytes es) (entry_bytes (entry_of head)) in
    omega (
      arith,
      all,
      front,
      own,
      more,
      split,
      e,
      before.within,
      after.within,
      length-drop old.offset old.bytes.now,
      length-drop new.offset new.bytes.now,
    )

-- one more was read
pub one-more-dumped : (b : List ℕ) (old new : ItemHeads) (head : ItemHead) (text longer : List ℕ) →
    IsDumpedSoFar b old text → HasRead new × IsHeadRead old new head →
    longer ≡ text ++ line_of (entry_of head) → IsDumpedSoFar b new longer
one-more-dumped b old new head text longer so (read, is) e =
    let rest : unread old ≡ entry_bytes (entry_of head) ++ unread new = is.front ∙
    sym (append_assoc head.bytes.now head.payload.now (unread new)) in
    record {
      entries = so.entries ++ (entry_of head ∷ []);
      same = is.same ∙ so.same;
      read = read;
      before = one-more-at so.entries (Items 1 ∷ []) 0 b (levels_of old) (unread old) old.offset (entry_of head)
          (levels_of new) (unread new) so.before (omega (arith, so.offset))
          (record {
            offset = is.offset;
            depth = is.depth;
            spelled = is.spelled;
            payload = is.payload;
            placed = is.levels;
          }) rest;
      offset = further b old new head so.entries so.read read is so.offset;
      lines = e ∙ (ap (λ (t : List ℕ). t ++ line_of (entry_of head)) so.lines ∙
          flat_map_more line_of [] so.entries (entry_of head));
    }

-- less is unread behind a head
pub less-unread : (old new : ItemHeads) (head : ItemHead) → IsHeadRead old new head →
    length (unread new) < length (unread old)
less-unread old new head is =
    let some = some-head head.bytes.now head.header is.spelled in
    let size = ap (λ (c : List ℕ). length c) is.front ∙
    length-append head.bytes.now (head.payload.now ++ unread new) in
    let more = length-append head.payload.now (unread new) in
    omega (arith, some, size, more)

-- the item has no more heads
pub all-dumped : (b : List ℕ) (heads : ItemHeads) (text : List ℕ) (n : ℕ) → IsDumpedSoFar b heads text →
    AreItem (was_read heads) → levels_of heads ≡ [] → n ≡ length (unread heads) → AreLinesOf b (Ok n) text
all-dumped b heads text n so item none count = (
  so.entries,
  was_read heads,
  unread heads,
  item,
  sym so.same ∙ sym (take-append-drop heads.offset heads.bytes.now),
  subst (λ (ls : List Level). AreHeads b so.entries ls (unread heads)) none so.before,
  count,
  so.lines,
)

-- the reason shows there
shows : (heads : ItemHeads) (e : NoItem) → found.ShowsAt heads e → ShowsAt heads.offset (unread heads) e
shows heads Incomplete h = h
shows heads (Malformed p) h = h
shows heads (TooDeep p) h = h

-- or there is no item
pub none-at-front : (b : List ℕ) (heads : ItemHeads) (text : List ℕ) (e : NoItem) → IsDumpedSoFar b heads text →
    IsNoItem heads.bytes.now e × found.ShowsAt heads e → AreLinesOf b (Err e) text
none-at-front b heads text e so (is, here) = (
  so.entries,
  levels_of heads,
  unread heads,
  so.before,
  subst (λ (c : List ℕ). IsNoItem c e) so.same is,
  subst (λ (n : ℕ). ShowsAt n (unread heads) e) so.offset (shows heads e here),
  so.lines,
)

-- ---- texts

-- one level more
pub one-more-time : (n : ℕ) (xs : List ℕ) → repeat n xs ++ xs ≡ repeat (n + 1) xs
one-more-time n xs = again n ∙ ap (λ (k : ℕ). repeat k xs) (sym (add-one n))
  where
    again : (n : ℕ) → repeat n xs ++ xs ≡ repeat (suc n) xs
    again zero = sym (append-nil xs)
    again (suc n) = append_assoc xs (repeat n xs) xs ∙ ap (λ (ys : List ℕ). xs ++ ys) (again n)

-- a text grows by the parts of a line
pub line-joined : {E : Type 0} (r : Result (Unit {0}) E) (t u v w x y z new a bc d e f g : List ℕ) (b c : List ℕ) →
    bc ≡ b ++ c → u ≡ t ++ a → v ≡ u ++ b → w ≡ v ++ c → x ≡ w ++ d → y ≡ x ++ e → z ≡ y ++ f →
    new ≡ (if is_ok r then z ++ g else z) → OnOk r (new ≡ t ++ (a ++ (bc ++ (d ++ (e ++ (f ++ g))))))
line-joined (Err never) t u v w x y z new a bc d e f g b c s i j k l m n h = tt
line-joined (Ok done) t u v w x y z new a bc d e f g b c s i j k l m n h =
    h ∙ rw (n, m, l, k, j, i, s) (simp append_assoc refl)

-- bytes follow an item
pub told-trailing : (b text longer : List ℕ) (r : Result ℕ NoItem) (n : ℕ) → r ≡ Ok n → AreLinesOf b r text → 0 < n →
    longer ≡ text ++ trailing_text n → IsBrokenDump b longer
told-trailing b text longer r n same h more e = of (subst (λ (v : Result ℕ NoItem). AreLinesOf b v text) same h)
  where
    of : AreLinesOf b (Ok n) text → IsBrokenDump b longer
    of (es, s, rest, item, whole, heads, count, lines) =
        IsBrokenDump.trailing es s rest item whole heads (omega (arith, more, count))
        (e ∙ (ap (λ (t : List ℕ). t ++ trailing_text n) lines ∙
        ap (λ (k : ℕ). flat_map line_of es ++ trailing_text k) count))

-- no item is at the front
pub told-reason : (b text longer : List ℕ) (r : Result ℕ NoItem) (reason : NoItem) → r ≡ Err reason →
    AreLinesOf b r text → longer ≡ text ++ reason_text reason → IsBrokenDump b longer
told-reason b text longer r reason same h e = of (subst (λ (v : Result ℕ NoItem). AreLinesOf b v text) same h)
  where
    of : AreLinesOf b (Err reason) text → IsBrokenDump b longer
    of (es, levels, rest, heads, is, here, lines) =
        IsBrokenDump.none es levels rest reason heads is here (e ∙ ap (λ (t : List ℕ). t ++ reason_text reason) lines)

-- ---- the hex columns

bytes-kept : (es : List Entry) (levels : List Level) (p : ℕ) (b : List ℕ) (open_ : List Level) (rest : List ℕ) →
    AreHeadsAt levels p b es open_ rest → flat_map entry_bytes es ++ rest ≡ b
bytes-kept [] levels p b open_ rest (same, whole) = sym whole
bytes-kept (e ∷ es) levels p b open_ rest (more, left, is, whole, others) =
    append_assoc (entry_bytes e) (flat_map entry_bytes es) rest ∙
    (ap (λ (c : List ℕ). entry_bytes e ++ c) (bytes-kept es more (p + length (entry_bytes e)) left open_ rest others) ∙
    sym whole)

pub dump_keeps_bytes : DumpKeepsBytes
dump_keeps_bytes b es levels rest h = bytes-kept es (Items 1 ∷ []) 0 b levels rest h

no-hex : [] ≡ encode_lower []
unfolding encode_with
no-hex = refl

columns-joined : (es : List Entry) → flat_map hex_column es ≡ encode_lower (flat_map entry_bytes es)
columns-joined [] = no-hex
columns-joined (e ∷ es) = ap (λ (c : List ℕ). hex_column e ++ c) (columns-joined es) ∙
    sym (encode_lower-append (entry_bytes e) (flat_map entry_bytes es))

pub dump_keeps_hex : DumpKeepsHex
dump_keeps_hex b es h =
    columns-joined es ∙ ap encode_lower (sym (append-nil (flat_map entry_bytes es)) ∙ dump_keeps_bytes b es [] [] h)
