-- The notation that shows the very heads of an item is appended item by item.
use Rattle.std.proofs.Common.{◌≡◌, ℕ, ◌+◌, ◌==◌, Bool, true, false, List, [], ◌∷◌, ◌++◌, length, codes, if◌then◌else◌}
use Rattle.std.proofs.Common.{inl, inr, refl, sym, ap, ◌∙◌, subst, arith, append-nil, append_assoc, drop, add-one}
use Rattle.std.proofs.Common.{Some, None, decimal, OnOk, Result, Ok, Err, is_ok, ◌<◌, ◌≤◌, length-append}
use Rattle.std.proofs.Common.{take-append-drop}
use Rattle.std.proofs.lemmas.{Bool.{eqb-true, Decides.eqb_tells}, List.append_cancel_right}
use Rattle.hex.specs.Hex.{encode_lower}
use Rattle.ciborium_ll.specs.{Head.{IsFloat, IsHead, break_byte, open_byte}, Header.{IsFloatOf, SpellsHeader}}
use Rattle.ciborium_ll.specs.{ItemHeads.{HasRead, IsHeadRead, levels_of, unread, was_read}, Levels.{AreItem, EndAll}}
use Rattle.ciborium_ll.specs.{Levels.IsPayloadOf, StringRefusal.{IsAllowed, string_major}}
use Rattle.ciborium_ll.specs.declared.strings.StringType.{StringType}
use Rattle.ciborium_ll.specs.{Strings.string_header, declared.item_heads.{ItemHead.ItemHead, ItemHeads.ItemHeads}}
use Rattle.cbor.{proofs.DumpedHeads.less-unread, specs.Exact.{AreChunksExactly, AreExactly, AreOpenChunks}}
use Rattle.cbor.specs.Exact.{AreOpenParts, HasPassed, IsExactly, IsItemPushed, IsPushed, IsStringExactly, empty_text}
use Rattle.cbor.specs.Exact.{IsFrontPushed, TellsNoItem, closing, head_bytes, lead, mark, open_text, opening}
use Rattle.cbor.specs.Exact.{part_count, parts_header, parts_major, payload_text, spaced}
use Rattle.cbor.specs.Line.{trailing_text}
use Rattle.ciborium_ll.specs.declared.header.Header.TheVariants as header

-- ---- bytes that were read

pub passed-none : (h : ItemHeads) → HasRead h → HasPassed h h []
passed-none h read = record { read = read; same = refl; front = refl }

pub passed-more : (a b c : ItemHeads) (r s : List ℕ) → HasPassed a b r → HasPassed b c s → HasPassed a c (r ++ s)
passed-more a b c r s p q = record {
  read = q.read;
  same = q.same ∙ p.same;
  front = p.front ∙ (ap (λ (x : List ℕ). r ++ x) q.front ∙ sym (append_assoc r s (unread c)));
}

pub passed-head : (old new : ItemHeads) (head : ItemHead) → HasRead new × IsHeadRead old new head →
    HasPassed old new (head_bytes head)
passed-head old new head (read, is) = record {
  read = read;
  same = is.same;
  front = is.front ∙ sym (append_assoc head.bytes.now head.payload.now (unread new));
}

pub passed-less : (a b : ItemHeads) (r : List ℕ) → HasPassed a b r → length (unread b) ≤ length (unread a)
passed-less a b r passed = omega (arith, ap (λ (x : List ℕ). length x) passed.front ∙ length-append r (unread b))

-- ---- items in a row

pub next-pushed : (a b c : ItemHeads) (head : ItemHead) (t v : List ℕ) → HasRead b × IsHeadRead a b head →
    IsItemPushed head b c t v → IsPushed IsExactly a c t v
next-pushed a b c head t v is (r, u, passed, shows, longer) =
    (head_bytes head ++ r, u, passed-more a b c (head_bytes head) r (passed-head a b head is) passed, shows, longer)

pub none-pushed : (is_map : Bool) (h : ItemHeads) (t : List ℕ) → HasRead h → IsPushed (AreExactly is_map 0) h h t t
none-pushed is_map h t read = ([], [], passed-none h read, AreExactly.none is_map, sym (append-nil t))

pub one-more-pushed : (is_map : Bool) (n : ℕ) (a b c : ItemHeads) (t u v w : List ℕ) →
    IsPushed (AreExactly is_map n) a b t u → v ≡ u ++ lead is_map n → IsPushed IsExactly b c v w →
    IsPushed (AreExactly is_map (n + 1)) a c t w
one-more-pushed is_map n a b c t u v w (r, x, before, are, e) f (s, y, after, is, g) = (
  r ++ s,
  x ++ (lead is_map n ++ y),
  passed-more a b c r s before after,
  subst (λ (k : ℕ). AreExactly is_map k (r ++ s) (x ++ (lead is_map n ++ y))) (sym (add-one n))
      (AreExactly.next is_map n r x s y are is),
  g ∙ rw (f, e) (simp append_assoc refl),
)

pub behind-both : (t u v x y : List ℕ) → u ≡ t ++ x → v ≡ u ++ y → v ≡ t ++ (x ++ y)
behind-both t u v x y e f = f ∙ (ap (λ (s : List ℕ). s ++ y) e ∙ append_assoc t x y)

-- ---- strings

-- so many parts of a string were read, and the text grew by them
abbrev pub AreChunksBegun : StringType → ℕ → ItemHeads → ItemHeads → List ℕ → List ℕ → Type 0
AreChunksBegun type n old new text longer = (b : List ℕ) × (u : List ℕ) × HasPassed old new b ×
    AreChunksExactly type n b u × (longer ≡ text ++ (if n == 0 then [] else codes "(_ " ++ u))

pub no-chunks : (type : StringType) (h : ItemHeads) (t : List ℕ) → HasRead h → AreChunksBegun type 0 h h t t
no-chunks type h t read = ([], [], passed-none h read, AreChunksExactly.none, sym (append-nil t))

definite : (type : StringType) (n : ℕ) (h payload : List ℕ) → SpellsHeader h (string_header type n) →
    IsPayloadOf (string_header type n) payload → IsHead h (string_major type) (length payload) × IsAllowed type payload
definite StringType.Bytes n h payload is (size, allowed) = (rw size is, allowed)
definite StringType.Text n h payload is (size, allowed) = (rw size is, allowed)

-- a string and its mark
pub marked-string : {E : Type 0} (string : StringType) (n : ℕ) (head : ItemHead) (r : Result (Unit {0}) E)
    (t u v m : List ℕ) → SpellsHeader head.bytes.now head.header →
    IsPayloadOf head.header head.payload.now → head.header ≡ string_header string n →
    u ≡ t ++ payload_text string head.payload.now →
    m ≡ mark (length head.bytes.now) (length head.payload.now) → v ≡ (if is_ok r then u ++ m else u) →
    OnOk r ((y : List ℕ) × IsStringExactly string (head_bytes head) y × (v ≡ t ++ y))
marked-string string n head (Err never) t u v m is payload e f g h = tt
marked-string string n head (Ok done) t u v m is payload e f g h =
    let found = definite string n head.bytes.now head.payload.now (rw e at is) (rw e at payload) in (
      payload_text string head.payload.now ++ mark (length head.bytes.now) (length head.payload.now),
      (head.bytes.now, head.payload.now, found.0, found.1, refl, refl),
      h ∙ rw (f, g) (append_assoc t _ _),
    )

-- a break was read
passed-break : (a b c : ItemHeads) (r : List ℕ) (head : ItemHead) → HasPassed a b r → HasRead c × IsHeadRead b c head →
    head.header ≡ header.Break → HasPassed a c (r ++ (break_byte ∷ []))
passed-break a b c r head before is e =
    let is-break = (rw e at is.1.spelled) in
    let bare = (rw e at is.1.payload) in
    subst (λ (s : List ℕ). HasPassed a c (r ++ s)) (rw (is-break, bare) refl)
    (passed-more a b c r (head_bytes head) before (passed-head b c head is))

-- of no parts there is no text
no-text : (type : StringType) (n : ℕ) (b u : List ℕ) → AreChunksExactly type n b u → n ≡ 0 → u ≡ []
no-text type n b u AreChunksExactly.none e = refl
no-text type n b u (AreChunksExactly.next m c t s v are is) e = absurd (omega (arith, e))

pub one-more-chunk : (type : StringType) (n : ℕ) (a b c : ItemHeads) (head : ItemHead) (t u v w : List ℕ) →
    AreChunksBegun type n a b t u → HasRead c × IsHeadRead b c head →
    v ≡ u ++ (if n == 0 then codes "(_ " else codes ", ") →
    (y : List ℕ) × IsStringExactly type (head_bytes head) y × (w ≡ v ++ y) → AreChunksBegun type (n + 1) a c t w
one-more-chunk type n a b c head t u v w (r, x, before, are, e) is f (y, string, g) = (
  r ++ head_bytes head,
  x ++ (lead false n ++ y),
  passed-more a b c r (head_bytes head) before (passed-head b c head is),
  subst (λ (k : ℕ). AreChunksExactly type k (r ++ head_bytes head) (x ++ (lead false n ++ y))) (sym (add-one n))
      (AreChunksExactly.next n r x (head_bytes head) y are string),
  g ∙ rw (f, e) (joined (n == 0) (n + 1 == 0) (λ h. no-text type n r x are (eqb-true n 0 h)) some-more),
)
  where
    some-more : (n + 1 == 0) ≡ false
    some-more = elim (eqb_tells (n + 1) 0) [ inl (e, never) ↦ absurd (omega (arith, never)) | inr (e, more) ↦ e ]

    joined : (none some : Bool) → (none ≡ true → x ≡ []) → some ≡ false →
        ((t ++ (if none then [] else codes "(_ " ++ x)) ++ (if none then codes "(_ " else codes ", ")) ++ y
        ≡ t ++ (if some then [] else codes "(_ " ++ (x ++ ((if none then [] else codes ", ") ++ y)))
    joined true some empty more = rw (empty refl, more) (simp append_assoc refl)
    joined false some empty more = rw more (simp append_assoc refl)

pub all-chunks : (type : StringType) (n : ℕ) (a b c : ItemHeads) (head : ItemHead) (t u v : List ℕ) →
    AreChunksBegun type n a b t u → HasRead c × IsHeadRead b c head → head.header ≡ header.Break →
    v ≡ u ++ (if n == 0 then empty_text type else codes ")") → IsPushed (AreOpenChunks type) a c t v
all-chunks type n a b c head t u v (r, x, before, are, e) is ends f = (
  r ++ (break_byte ∷ []),
  open_text type n x,
  passed-break a b c r head before is ends,
  (n, r, x, refl, are, refl),
  f ∙ rw e (closed (n == 0)),
)
  where
    closed : (none : Bool) →
        (t ++ (if none then [] else codes "(_ " ++ x)) ++ (if none then empty_text type else codes ")")
        ≡ t ++ (if none then empty_text type else codes "(_ " ++ (x ++ codes ")"))
    closed true = simp append_assoc refl
    closed false = simp append_assoc refl

-- ---- items before a break

pub all-parts : (is_map : Bool) (n k : ℕ) (a b c : ItemHeads) (head : ItemHead) (t u : List ℕ) →
    IsPushed (AreExactly is_map n) a b t u → HasRead c × IsHeadRead b c head → head.header ≡ header.Break →
    n ≡ part_count is_map k → IsPushed (AreOpenParts is_map) a c t u
all-parts is_map n k a b c head t u (r, x, before, are, e) is ends count = (
  r ++ (break_byte ∷ []),
  x,
  passed-break a b c r head before is ends,
  (k, r, refl, subst (λ (m : ℕ). AreExactly is_map m r x) count are),
  e,
)

-- ---- one item

with-parts : (head : ItemHead) (a c : ItemHeads) (b u t v : List ℕ) → head.payload.now ≡ [] → HasPassed a c b →
    IsExactly (head.bytes.now ++ b) u → v ≡ t ++ u → IsItemPushed head a c t v
with-parts head a c b u t v bare passed shows e = (b, u, passed, rw (bare, append-nil head.bytes.now) shows, e)

-- an item is a head without a payload
pub alone : (head : ItemHead) (u t v : List ℕ) → head.payload.now ≡ [] → IsExactly head.bytes.now u → v ≡ t ++ u →
    (u : List ℕ) × IsExactly (head_bytes head) u × (v ≡ t ++ u)
alone head u t v bare shows e = (u, rw (bare, append-nil head.bytes.now) shows, e)

-- no part follows it
pub leaf-pushed : (head : ItemHead) (h : ItemHeads) (t v : List ℕ) → HasRead h →
    (u : List ℕ) × IsExactly (head_bytes head) u × (v ≡ t ++ u) → IsItemPushed head h h t v
leaf-pushed head h t v read (u, is, e) = ([], u, passed-none h read, rw (append-nil (head_bytes head)) is, e)

pub as-open-string : (type : StringType) (head : ItemHead) (a c : ItemHeads) (t v : List ℕ) → head.payload.now ≡ [] →
    head.bytes.now ≡ open_byte (string_major type) ∷ [] → IsPushed (AreOpenChunks type) a c t v →
    IsItemPushed head a c t v
as-open-string type head a c t v bare opens (b, u, passed, (n, r, x, ends, are, same), e) =
    with-parts head a c b u t v bare passed (rw (opens, ends, same) (IsExactly.open_string type n r x are)) e

-- between two brackets, for what any text between them shows
pub bracketed : (Shows : List ℕ → List ℕ → Type 0) (head : ItemHead) (a c : ItemHeads)
    (before behind t v w z : List ℕ) → head.payload.now ≡ [] →
    ((b u : List ℕ) → Shows b u → IsExactly (head.bytes.now ++ b) (before ++ (u ++ behind))) → v ≡ t ++ before →
    IsPushed Shows a c v w → z ≡ w ++ behind → IsItemPushed head a c t z
bracketed Shows head a c before behind t v w z bare shows e (b, u, passed, are, f) g =
    with-parts head a c b (before ++ (u ++ behind)) t z bare passed (shows b u are)
    (g ∙ rw (f, e) (simp append_assoc refl))

pub as-parts : (is_map : Bool) (h : List ℕ) (n m : ℕ) → SpellsHeader h (parts_header is_map (Some n)) →
    m ≡ part_count is_map n → (b t : List ℕ) → AreExactly is_map m b t →
    IsExactly (h ++ b) ((opening is_map ++ spaced (mark (length h) n)) ++ (t ++ closing is_map))
as-parts is_map h n m head count b t are =
    subst (λ (u : List ℕ). IsExactly (h ++ b) u) (sym (append_assoc (opening is_map) _ _))
    (IsExactly.parts is_map h n b t (spelled is_map head) (subst (λ (k : ℕ). AreExactly is_map k b t) count are))
  where
    spelled : (is : Bool) → SpellsHeader h (parts_header is (Some n)) → IsHead h (parts_major is) n
    spelled false s = s
    spelled true s = s

pub as-open-parts : (is_map : Bool) (h : List ℕ) → SpellsHeader h (parts_header is_map None) → (b t : List ℕ) →
    AreOpenParts is_map b t → IsExactly (h ++ b) ((opening is_map ++ codes "_ ") ++ (t ++ closing is_map))
as-open-parts is_map h head b t (n, r, ends, are) =
    subst (λ (u : List ℕ). IsExactly (h ++ b) u) (sym (append_assoc (opening is_map) _ _))
    (rw (spelled is_map head, ends) (IsExactly.open_parts is_map n r t are))
  where
    spelled : (is : Bool) → SpellsHeader h (parts_header is None) → h ≡ open_byte (parts_major is) ∷ []
    spelled false s = s
    spelled true s = s

pub as-tag : (h : List ℕ) (n : ℕ) (b t : List ℕ) → IsHead h 6 n → IsExactly b t →
    IsExactly (h ++ b) (((decimal n ++ mark (length h) n) ++ codes "(") ++ (t ++ codes ")"))
as-tag h n b t head is =
    let front : ((decimal n ++ mark (length h) n) ++ codes "(") ++ (t ++ codes ")") ≡
    decimal n ++ (mark (length h) n ++ (codes "(" ++ (t ++ codes ")"))) = simp append_assoc refl in
    subst (λ (u : List ℕ). IsExactly (h ++ b) u) (sym front) (IsExactly.tag h n b t head is)

-- the raw bytes of a float stand behind its initial byte
pub as-float : (h : List ℕ) (size : ℕ) → IsFloatOf h size →
    IsExactly h (codes "float'" ++ (encode_lower (drop 1 h) ++ codes "'"))
as-float h size (raw, is, long) =
    subst (λ (r : List ℕ). IsExactly h (codes "float'" ++ (encode_lower r ++ codes "'"))) (sym (behind is))
    (IsExactly.float h raw is)
  where
    behind : IsFloat h raw → drop 1 h ≡ raw
    behind (inl (two, e)) = rw e refl
    behind (inr (inl (four, e))) = rw e refl
    behind (inr (inr (eight, e))) = rw e refl

-- less is unread behind one more head
pub less-left : (a b c : ItemHeads) (r : List ℕ) (head : ItemHead) → HasPassed a b r → HasRead c × IsHeadRead b c head →
    length (unread c) < length (unread a)
less-left a b c r head before is =
    omega (arith, less-unread b c head is.1, ap (λ (x : List ℕ). length x) before.front ∙ length-append r (unread b))

-- ---- answers

-- where no level is unfinished, what was read is one item
pub front-pushed : (old new : ItemHeads) (b text longer : List ℕ) (n : ℕ) → old.bytes.now ≡ b → old.offset ≡ 0 →
    levels_of new ≡ [] → n ≡ length (unread new) → IsPushed IsExactly old new text longer → IsFrontPushed b n text
    longer
front-pushed old new b text longer n whole at none count (s, t, passed, shows, e) =
    (s, unread new, t, item, front, count, shows, e)
  where
    front : b ≡ s ++ unread new
    front = sym whole ∙ (ap (λ k. drop k old.bytes.now) (sym at) ∙ passed.front)

    same : was_read new ++ [] ≡ s
    same = append-nil (was_read new) ∙ append_cancel_right (was_read new) s (unread new)
        (take-append-drop new.offset new.bytes.now ∙ (passed.same ∙ (whole ∙ front)))

    item : AreItem s
    item = subst AreItem same (passed.read.levels.complete [] (subst (λ ls. EndAll ls []) (sym none) refl))

-- bytes follow an item
pub told-trailing : (b before text longer : List ℕ) (n : ℕ) → IsFrontPushed b n before text → 0 < n →
    longer ≡ trailing_text n → TellsNoItem b longer
told-trailing b before text longer n (s, rest, t, item, all, count, shows, e) more f =
    TellsNoItem.trailing s rest item all (omega (arith, more, count)) (f ∙ ap trailing_text count)
