-- Payloads that were taken behind the heads of strings.
use Rattle.std.proofs.Common.{◌≡◌, ℕ, ◌+◌, ◌-◌, ◌*◌, ◌≤◌, Bool, true, false, List, [], ◌∷◌, ◌++◌, length, Option, Some}
use Rattle.std.proofs.Common.{None, Ok, refl, sym, ap, ◌∙◌, subst, arith, inl, inr, length-append}
use Rattle.ciborium_ll.{proofs.Unread.rest-of, specs.{Bytes.greatest_offset, Decoding.{Takes, left_of}, Head.IsHead}}
use Rattle.ciborium_ll.specs.{Head.{open_byte, break_byte}, Item.{Item, bytes, text}, Spells.{Spells, AreChunks}}
use Rattle.ciborium_ll.specs.{Spells.joined, StringRefusal.{string_major, IsAllowed}, Strings.IsStringTaken}
use Rattle.ciborium_ll.specs.declared.{decoder.Decoder.Decoder, header.Header.Header, strings.StringType.StringType}
use Rattle.ciborium_value.specs.Given.{Given, bare_text, gives, outcome, refuses, settled, given_text, untagged}
use Rattle.ciborium_value.specs.{Nesting.Limit, Sources.Fault}
use Rattle.ciborium.proofs.Items.{ItemHeads.{header_of, same-head, by-shape, no-bare-tag}, SkippedTags.ReadsBehind}
use Rattle.ciborium.proofs.Items.SkippedTags.{untagged-under, denies-of-item, reads-bare}
use Rattle.ciborium.specs.inner.{ByteSources.IsUnreadBy, FrontItems.{DeniesItem, Denies, Reads}, Skips.under}
use Rattle.ciborium.specs.inner.{Skips.{AreSkipped, IsBare, TakesBare}, StringContents.{head_of, string_item}}
use Rattle.ciborium.specs.inner.StringContents.{IsContent, TakesContent, DeniesContent}
use Rattle.ciborium_ll.specs.declared.header.Header.TheVariants as header
use Rattle.ciborium_ll.specs.declared.kind.Kind.TheVariants as kinds

-- the payload that was taken makes a string with its head
content-spelled : (E : Type 0) (type : StringType) (len : Option ℕ) (p q : ℕ) (added c : List ℕ) →
    IsStringTaken {E = E} type len p c q (Ok tt) added → IsContent type len c added
content-spelled E type (Some n) p q added c (inl (over, never, a, b)) x hd = cc
content-spelled E StringType.Bytes (Some n) p q added c (inr (w, (size, ok, same))) x hd = (
  x,
  subst (IsHead x 2) (sym size ∙ ap length (sym same)) hd,
  subst (IsAllowed StringType.Bytes) (sym same) ok,
  ap (λ (z : List ℕ). x ++ z) (sym same),
)
content-spelled E StringType.Text (Some n) p q added c (inr (w, (size, ok, same))) x hd = (
  x,
  subst (IsHead x 3) (sym size ∙ ap length (sym same)) hd,
  subst (IsAllowed StringType.Text) (sym same) ok,
  ap (λ (z : List ℕ). x ++ z) (sym same),
)
content-spelled E StringType.Bytes None p q added c (ps, s, parts, room, split, same) x hd =
    (ps, s, parts, same, ap (λ (z : List ℕ). z ++ c) hd ∙ ap (λ (z : List ℕ). open_byte 2 ∷ z) split)
content-spelled E StringType.Text None p q added c (ps, s, parts, room, split, same) x hd =
    (ps, s, parts, same, ap (λ (z : List ℕ). z ++ c) hd ∙ ap (λ (z : List ℕ). open_byte 3 ∷ z) split)

-- a string that was appended to an empty one
pub content-taken : (E : Type 0) {S W : Type 0} (remaining : S → Option (List ℕ)) (d e : Decoder S W)
    (pending : Option (Header × ℕ)) (type : StringType) (len : Option ℕ) (start out : List ℕ) →
    pending ≡ None → start ≡ [] → Takes remaining d e (λ b. (added : List ℕ) × (out ≡ start ++ added) ×
    IsStringTaken {E = E} type len d.last b d.counter.count (Ok tt) added) →
    TakesContent (IsUnreadBy remaining d pending) (IsUnreadBy remaining e pending) type len out
content-taken E remaining d e pending type len start out none empty (b, takes, count, (added, is, taken), small) y u =
    let known : left_of remaining d ≡ Some y = subst (λ o. IsUnreadBy remaining d o y) none u in
    let (z, left, split) = rest-of (left_of remaining d) (left_of remaining e) y b known takes in
    let all : added ≡ out = sym (is ∙ ap (λ (s : List ℕ). s ++ added) empty) in (
      b,
      z,
      subst (IsContent type len b) all (content-spelled E type len d.last d.counter.count added b taken),
      split,
      subst (λ o. IsUnreadBy remaining e o z) (sym none) left,
    )

-- an item that begins with the head of a string is a string
pub string-only : (type : StringType) (len : Option ℕ) (i : Item) → header_of i ≡ head_of type len →
    (payload : List ℕ) × (i ≡ string_item type len payload)
string-only StringType.Bytes (Some n) (bytes false b) e = (b, refl)
string-only StringType.Bytes None (bytes true b) e = (b, refl)
string-only StringType.Text (Some n) (text false b) e = (b, refl)
string-only StringType.Text None (text true b) e = (b, refl)
string-only _ _ _ e = cc

-- a string whose payload is refused stands in no item
pub denies-content : {S : Type 0} (IsUnread : S → List ℕ → Type 0) (End : S → ℕ) (numbers : Bool) (old mid : S)
    (type : StringType) (len : Option ℕ) (fault : Fault) → ((b : List ℕ) → IsUnread old b → End mid ≡ End old) →
    TakesBare IsUnread old mid numbers (head_of type len) → DeniesContent (IsUnread mid) (End mid) type len fault →
    DeniesItem IsUnread End old fault
denies-content IsUnread End numbers old mid type len fault same bare none b s z j end u sp e fits =
    let (ts, w, x, y, tagged, all, hd, f, un) = bare b u in
    let (i, t, is, sq, g) = tagged.inward j s z sp e in
    let (payload, io) = string-only type len i (same-head t z x y i (head_of type len) sq hd (sym g ∙ f)).0 in
    none y x t z payload end un hd (subst (Spells t) io sq) (sym f ∙ g)
    (subst (λ n. n ≤ end + length z) (sym (same b u)) fits)

-- so the item that the string is in is refused
pub denies-string : {S A : Type 0} (IsUnread : S → List ℕ → Type 0) (End : S → ℕ) (l : Limit) (taken : Given A)
    (old mid : S) (type : StringType) (len : Option ℕ) (fault : Fault) →
    ((b : List ℕ) → IsUnread old b → End mid ≡ End old) → TakesBare IsUnread old mid false (head_of type len) →
    DeniesContent (IsUnread mid) (End mid) type len fault → Denies IsUnread End old l taken fault
denies-string IsUnread End l taken old mid type len fault same bare none =
    denies-of-item IsUnread End l taken old fault (denies-content IsUnread End false old mid type len fault same bare
    none)

-- ---- how long payloads are

parts-long : (major : ℕ) (P : List ℕ → Type 0) (s : List ℕ) (ps : List (List ℕ)) → AreChunks major P s ps →
    length (joined ps) ≤ length s
parts-long major P s [] h = omega arith
parts-long major P s (p ∷ ps) (a, r, (h, hd, ok, e), rest, f) =
    let k = parts-long major P r ps rest in
    let l : length s ≡ length a + length r = ap length f ∙ length-append a r in
    let m : length a ≡ length h + length p = ap length e ∙ length-append h p in
    let n : length (p ++ joined ps) ≡ length p + length (joined ps) = length-append p (joined ps) in
    omega (arith, k, l, m, n)

content-long : (E : Type 0) (type : StringType) (len : Option ℕ) (p q : ℕ) (added c : List ℕ) →
    IsStringTaken {E = E} type len p c q (Ok tt) added → length added ≤ length c
content-long E type (Some n) p q added c (inl (over, never, a, b)) = cc
content-long E type (Some n) p q added c (inr (w, (size, ok, same))) = let k : length added ≡ length c =
    ap length same in omega (arith, k)
content-long E type None p q added c (ps, s, parts, room, split, same) =
    let k = parts-long (string_major type) (IsAllowed type) s ps parts in
    let l : length c ≡ length s + 1 = ap length split ∙ length-append s (break_byte ∷ []) in
    let m : length added ≡ length (joined ps) = ap length same in
    omega (arith, k, l, m)

pub content-fewer : (E : Type 0) {S W : Type 0} (remaining : S → Option (List ℕ)) (d e : Decoder S W)
    (type : StringType) (len : Option ℕ) (start out : List ℕ) →
    start ≡ [] → Takes remaining d e (λ b. (added : List ℕ) × (out ≡ start ++ added) ×
    IsStringTaken {E = E} type len d.last b d.counter.count (Ok tt) added) →
    3 * (greatest_offset - e.counter.count) + length out ≤ 3 * (greatest_offset - d.counter.count)
content-fewer E remaining d e type len start out empty (b, takes, count, (added, is, taken), small) =
    let fits = e.counter.fits in
    let k = content-long E type len d.last d.counter.count added b taken in
    let l : length out ≡ length added = ap length (is ∙ ap (λ (s : List ℕ). s ++ added) empty) in
    omega (arith, fits, count, k, l)

-- ---- strings behind skipped tags

-- the string whose payload was taken
pub string-behind : {S A : Type 0} (IsUnread : S → List ℕ → Type 0) (mid new : S) (type : StringType) (len : Option ℕ)
    (l : Limit) (taken : Given A) (payload : List ℕ) (v : A) →
    TakesContent (IsUnread mid) (IsUnread new) type len payload →
    ((ts : List ℕ) → AreSkipped false ts → outcome l (taken (under ts (string_item type len payload))) ≡ gives v) →
    (y : List ℕ) → IsUnread mid y → ReadsBehind IsUnread new false (head_of type len) l taken v y
string-behind IsUnread mid new type len l taken payload v content give y un =
    let (c, z, make, f, un') = content y un in
    (string_item type len payload, c, z, make, f, give, un')

pub reads-string : {S A : Type 0} (IsUnread : S → List ℕ → Type 0) (old mid new : S) (type : StringType)
    (len : Option ℕ) (l : Limit) (taken : Given A) (payload : List ℕ) (v : A) →
    TakesBare IsUnread old mid false (head_of type len) → TakesContent (IsUnread mid) (IsUnread new) type len payload →
    ((ts : List ℕ) → AreSkipped false ts → outcome l (taken (under ts (string_item type len payload))) ≡ gives v) →
    Reads IsUnread old new l taken v
reads-string IsUnread old mid new type len l taken payload v bare content give =
    reads-bare IsUnread false (head_of type len) l taken old mid new v bare
    (string-behind IsUnread mid new type len l taken payload v content give)

pub text-other : (l : Limit) (h : Header) → IsBare false h → ((n : Option ℕ) → h ≡ header.Text n → ⊥) → (ts : List ℕ)
    (i : Item) → AreSkipped false ts → header_of i ≡ h → outcome l (given_text (under ts i)) ≡ refuses kinds.Text
text-other l h bare p ts i all e = ap (λ j. settled (bare_text j)) (untagged-under ts i) ∙
    by-shape (λ j. settled (bare_text (untagged j)) ≡ refuses kinds.Text) h (λ n k. refl) (λ n k. refl) (λ o b k. refl)
    (λ o b k. absurd (p _ k)) (λ o is k. refl) (λ o ps k. refl) (λ n k. refl) (λ raw k. refl)
    (λ t j k. no-bare-tag h t bare k) i e
