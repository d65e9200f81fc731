-- The heads of an item are one list, so that an item has one dump.
use Rattle.std.proofs.Common.{◌≡◌, ℕ, ◌+◌, List, [], ◌∷◌, ◌++◌, length, Some, None, refl, sym, ap, ap₂, ◌∙◌, subst}
use Rattle.std.{proofs.Common.{arith, append_assoc}, specs.List.flat_map}
use Rattle.ciborium_ll.{proofs.OneHeader.one_header_at_front, specs.{Header.announced_length, Levels.IsPayloadOf}}
use Rattle.ciborium_ll.specs.{Levels.{behind_head, incomplete}, declared.{header.Header.Header, levels.Level.Level}}
use Rattle.ciborium_ll.specs.declared.levels.Level.TheVariants.{Items}
use Rattle.cbor.specs.{Dumped.{AreHeadsAt, Entry, IsEntryAt, entry_bytes, line_of}, Laws.OneDumpOfItem}
use Rattle.ciborium_ll.specs.declared.header.Header.TheVariants as header

-- behind an item no head may stand
none-behind : (h : Header) → behind_head h [] ≡ None
none-behind (header.Bytes None) = refl
none-behind (header.Text None) = refl
none-behind (header.Array None) = refl
none-behind (header.Map None) = refl
none-behind h = refl

no-entry : (levels : List Level) (p : ℕ) (e : Entry) (more : List Level) → [] ≡ levels → IsEntryAt levels p e more → ⊥
no-entry levels p e more none is =
    let (behind, placed, same) = is.placed in
    let never : None ≡ Some behind = sym (none-behind e.header) ∙
    (ap (λ (ls : List Level). behind_head e.header ls) none ∙ placed) in
    absurd cc

-- a payload has the length that its head announces
payload-length : (h : Header) (payload : List ℕ) → IsPayloadOf h payload → length payload ≡ announced_length h
payload-length (header.Bytes (Some n)) payload e = e.0
payload-length (header.Text (Some n)) payload e = e.0
payload-length h payload e = ap (λ (c : List ℕ). length c) e

-- lists of one length at one front are one
one-front : (xs ys s t : List ℕ) → length xs ≡ length ys → xs ++ s ≡ ys ++ t → (xs ≡ ys) × (s ≡ t)
one-front [] [] s t l e = (refl, e)
one-front [] (y ∷ ys) s t l e = absurd (omega (arith, l))
one-front (x ∷ xs) [] s t l e = absurd (omega (arith, l))
one-front (x ∷ xs) (y ∷ ys) s t l e =
    let first : x ≡ y = cc in
    let others : xs ++ s ≡ ys ++ t = cc in
    let rest = one-front xs ys s t (omega (arith, l)) others in
    (ap₂ (λ (z : ℕ) (zs : List ℕ). z ∷ zs) first rest.0, rest.1)

entry : ℕ → ℕ → Header → List ℕ → List ℕ → Entry
entry p d h b payload = record { offset = p; depth = d; header = h; head = b; payload = payload }

one-entry : (e f : Entry) → e.offset ≡ f.offset → e.depth ≡ f.depth → e.header ≡ f.header → e.head ≡ f.head →
    e.payload ≡ f.payload → e ≡ f
unfolding entry
one-entry e f o d h b q = ap₂ (λ (x : ℕ) (y : ℕ). entry x y e.header e.head e.payload) o d ∙
    (ap₂ (λ (x : Header) (y : List ℕ). entry f.offset f.depth x y e.payload) h b ∙
    ap (λ (x : List ℕ). entry f.offset f.depth f.header f.head x) q)

-- one head stands at the front, with one payload
same-entry : (levels : List Level) (p : ℕ) (b : List ℕ) (e f : Entry) (more other : List Level) (left rest : List ℕ) →
    IsEntryAt levels p e more → IsEntryAt levels p f other → b ≡ entry_bytes e ++ left → b ≡ entry_bytes f ++ rest →
    (e ≡ f) × (more ≡ other) × (left ≡ rest)
same-entry levels p b e f more other left rest is also split apart =
    let heads = one_header_at_front e.head f.head (e.payload ++ left) (f.payload ++ rest) e.header f.header is.spelled
    also.spelled (sym (append_assoc e.head e.payload left) ∙ (sym split ∙ (apart ∙
    append_assoc f.head f.payload rest))) in
    let size : length e.payload ≡ length f.payload = payload-length e.header e.payload is.payload ∙
    (ap announced_length heads.2 ∙ sym (payload-length f.header f.payload also.payload)) in
    let payloads = one-front e.payload f.payload left rest size heads.1 in
    let (behind, placed, same) = is.placed in
    let (after, stood, alike) = also.placed in
    let one : Some behind ≡ Some after = sym placed ∙ (ap (λ (h : Header). behind_head h levels) heads.2 ∙ stood) in
    let found : behind ≡ after = cc in (
      one-entry e f (is.offset ∙ sym also.offset) (is.depth ∙ sym also.depth) heads.2 heads.0 payloads.0,
      same ∙ (ap incomplete found ∙ sym alike),
      payloads.1,
    )

one-list : (es fs : List Entry) (levels : List Level) (p : ℕ) (b : List ℕ) → AreHeadsAt levels p b es [] [] →
    AreHeadsAt levels p b fs [] [] → es ≡ fs
one-list [] [] levels p b h k = refl
one-list [] (f ∷ fs) levels p b (none, whole) (more, left, is, split, others) =
    absurd (no-entry levels p f more none is)
one-list (e ∷ es) [] levels p b (more, left, is, split, others) (none, whole) =
    absurd (no-entry levels p e more none is)
one-list (e ∷ es) (f ∷ fs) levels p b (more, left, is, split, others) (other, rest, also, apart, further) =
    let same = same-entry levels p b e f more other left rest is also split apart in
    let moved = subst (λ (g : Entry). AreHeadsAt other (p + length (entry_bytes g)) rest fs [] []) (sym same.0) further
    in
    let there = subst (λ (ls : List Level). AreHeadsAt ls (p + length (entry_bytes e)) rest fs [] []) (sym same.1)
    moved in
    let here = subst (λ (c : List ℕ). AreHeadsAt more (p + length (entry_bytes e)) c fs [] []) (sym same.2) there in
    ap₂ (λ (g : Entry) (gs : List Entry). g ∷ gs) same.0
    (one-list es fs more (p + length (entry_bytes e)) left others here)

pub one_dump_of_item : OneDumpOfItem
one_dump_of_item b x y (es, item, heads, lines) (fs, other, also, text) =
    lines ∙ (ap (λ (gs : List Entry). flat_map line_of gs) (one-list es fs (Items 1 ∷ []) 0 b heads also) ∙ sym text)
