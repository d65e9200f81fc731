-- Texts of one character.
use Rattle.std.proofs.Common.{◌≡◌, ℕ, ◌<◌, true, false, List, [], ◌∷◌, ◌++◌, length, take, chars, IsUtf8, Option, Some}
use Rattle.std.proofs.Common.{None, Ok, Err, refl, sym, ap, ◌∙◌, subst, length-append, arith, Bool, ◌+◌, ◌≤◌}
use Rattle.std.proofs.{Math.{Seq.take-append_seam, Utf8.{encode, encodes}}, lemmas.List.nil_from_length}
use Rattle.std.proofs.lemmas.Str.{cons_from_encodes, encodes-chars, length-encode, len_utf8_bounds, length-le-encodes}
use Rattle.ciborium_ll.{proofs.Unread.rest-of, specs.{Decoding.{Takes, left_of}, Head.IsHead, Item.{Item, text}}}
use Rattle.ciborium_ll.specs.{ReaderSteps.IsFillTaken, Spells.Spells, declared.decoder.Decoder.Decoder}
use Rattle.ciborium_ll.specs.declared.{header.Header.Header, strings.StringType.StringType}
use Rattle.ciborium_value.specs.Given.{bare_character, gives, lone_character, outcome, refuses, settled}
use Rattle.ciborium_value.specs.{Given.{given_character, untagged}, Nesting.Limit, Sources.{Fault, IsFaultOf, of_kind}}
use Rattle.ciborium.proofs.Items.ItemHeads.{header_of, same-head, by-shape, no-bare-tag, size_of}
use Rattle.ciborium.proofs.{Items.SkippedTags.untagged-under, Payloads.SpelledStrings.definite-payload}
use Rattle.ciborium.{proofs.Payloads.StringPayloads.string-only, specs.inner.ByteSources.IsUnreadBy}
use Rattle.ciborium.specs.inner.{FrontItems.Denies, Skips.{under, AreSkipped, IsBare, TakesBare}}
use Rattle.ciborium.specs.inner.StringContents.{TakesContent, TakesJust}
use Rattle.ciborium_ll.specs.declared.header.Header.TheVariants as header
use Rattle.ciborium_ll.specs.declared.kind.Kind.TheVariants as kinds

-- ---- the characters of a text

no-characters : (es : List ℕ) → encodes es ≡ [] → es ≡ []
no-characters es e = nil_from_length es (let k = length-le-encodes es in
    let m : length (encodes es) ≡ 0 = ap length e in omega (arith, k, m))

-- the first character, and those behind it
behind-first : (bs rest : List ℕ) (c : ℕ) → IsUtf8 bs → bs ≡ encode c ++ rest → (es : List ℕ) × (chars bs ≡ c ∷ es) ×
    (encodes es ≡ rest)
behind-first bs rest c u e = cons_from_encodes (chars bs) rest c (encodes-chars bs u ∙ e)

pub one-character : (bs rest : List ℕ) (c : ℕ) → IsUtf8 bs → bs ≡ encode c ++ rest → length rest ≡ 0 →
    lone_character (chars bs) ≡ Ok c
one-character bs rest c u e z =
    let (es, f, g) = behind-first bs rest c u e in
    ap lone_character (f ∙ ap (λ (k : List ℕ). c ∷ k) (no-characters es (g ∙ nil_from_length rest z)))

pub more-characters : (bs rest more : List ℕ) (c d : ℕ) → IsUtf8 bs → bs ≡ encode c ++ rest → rest ≡ encode d ++ more →
    lone_character (chars bs) ≡ Err kinds.Char
more-characters bs rest more c d u e f = let (es, g, h) = behind-first bs rest c u e in ap lone_character g ∙
    by es (h ∙ f)
  where
    by : (es : List ℕ) → encodes es ≡ encode d ++ more → lone_character (c ∷ es) ≡ Err kinds.Char
    by [] h =
        let k : length (encode d ++ more) ≡ 0 = ap length (sym h) in
        let m = length-append (encode d) more in
        let n = length-encode d in
        let w = (len_utf8_bounds d).0 in
        absurd (omega (arith, k, m, n, w))
    by (x ∷ es) h = refl

-- a text that is longer than any character
long-text : (bs : List ℕ) → IsUtf8 bs → 4 < length bs → lone_character (chars bs) ≡ Err kinds.Char
long-text bs u long = by (chars bs) (encodes-chars bs u)
  where
    by : (cs : List ℕ) → encodes cs ≡ bs → lone_character cs ≡ Err kinds.Char
    by [] e = refl
    by (c ∷ []) e =
        let k : length (encode c ++ []) ≡ length bs = ap length e in
        let m = length-append (encode c) [] in
        let n = length-encode c in
        let w = (len_utf8_bounds c).1 in
        absurd (omega (arith, k, m, n, w, long))
    by (c ∷ d ∷ cs) e = refl

-- ---- behind skipped tags

pub character-given : (l : Limit) (payload : List ℕ) (c : ℕ) → lone_character (chars payload) ≡ Ok c →
    (ts : List ℕ) → AreSkipped false ts → outcome l (given_character (under ts (text false payload))) ≡ gives c
character-given l payload c e ts all = ap settled (ap bare_character (untagged-under ts (text false payload)) ∙ e)

-- the payload that was read into a buffer
pub payload-taken : (P Q : List ℕ → Type 0) (n : ℕ) (buffer : List ℕ) → length buffer ≡ n → IsUtf8 buffer →
    TakesJust P Q buffer → TakesContent P Q StringType.Text (Some n) buffer
payload-taken P Q n buffer size utf8 took y u =
    let (z, split, un) = took y u in
    (buffer, z, λ x hd. (x, subst (IsHead x 3) (sym size) hd, utf8, refl), split, un)

module _ {S : Type 0} (IsUnread : S → List ℕ → Type 0) (End : S → ℕ) (l : Limit) (old mid : S) (n : ℕ)
    (bare : TakesBare IsUnread old mid false (header.Text (Some n))) where
  -- whatever text of this length stands there is to blame
  pub text-denied : (fault : Fault) → ((b : List ℕ) → IsUnread old b → End mid ≡ End old) →
      ((y z payload : List ℕ) (end : ℕ) → IsUnread mid y → length payload ≡ n → IsUtf8 payload → y ≡ payload ++ z →
      End mid ≤ end + length z → IsFaultOf end fault (settled (lone_character (chars payload)))) →
      Denies IsUnread End old l given_character fault
  text-denied fault same blames b s z j end u sp e fits =
      let (ts, w, x, y, tagged, all, hd, f, un) = bare b u in
      let (i, t, is, sq, g) = tagged.inward j s z sp e in
      let (payload, io) = string-only StringType.Text (Some n) i
      (same-head t z x y i (header.Text (Some n)) sq hd (sym g ∙ f)).0 in
      let (size, utf8, h) = definite-payload StringType.Text n y x t z payload hd (subst (Spells t) io sq) (sym f ∙ g)
      in
      subst (λ o. IsFaultOf end fault o) (sym (ap settled (ap (λ k. bare_character (untagged k)) is ∙
      ap bare_character (untagged-under ts i) ∙ ap (λ k. bare_character (untagged k)) io)))
      (blames y z payload end un (sym size) utf8 h (subst (λ n. n ≤ end + length z) (sym (same b u)) fits))

  pub long-denied : ((b : List ℕ) → IsUnread old b → End mid ≡ End old) → 4 < n →
      Denies IsUnread End old l given_character (of_kind kinds.Char)
  long-denied same long = text-denied (of_kind kinds.Char) same
      (λ y z payload end un size utf8 e fits. ap settled (long-text payload utf8 (omega (arith, long, size))))

-- the payload that was read is to blame
pub payload-denied : (all : ℕ) (P Q : List ℕ → Type 0) (n : ℕ) (buffer : List ℕ) (fault : Fault) → length buffer ≡ n →
    ((end : ℕ) → IsUtf8 buffer → IsFaultOf end fault (settled (lone_character (chars buffer)))) → TakesJust P Q buffer →
    (y z payload : List ℕ) (end : ℕ) → P y → length payload ≡ n → IsUtf8 payload → y ≡ payload ++ z →
    all ≤ end + length z → IsFaultOf end fault (settled (lone_character (chars payload)))
payload-denied all P Q n buffer fault size blames took y z payload end u len utf8 f fits =
    let (r, split, un) = took y u in
    let whole : buffer ++ r ≡ payload ++ z = sym split ∙ f in
    let same : buffer ≡ payload = sym (take-append_seam buffer r) ∙ ap (λ k. take k (buffer ++ r)) (size ∙ sym len) ∙
    ap (take (length payload)) whole ∙ take-append_seam payload z in
    subst (λ k. IsFaultOf end fault (settled (lone_character (chars k)))) same
    (blames end (subst IsUtf8 (sym same) utf8))

-- the bytes that a decoder read
pub just-taken : (E : Type 0) {S W : Type 0} (remaining : S → Option (List ℕ)) (d e : Decoder S W)
    (pending : Option (Header × ℕ)) (buffer : List ℕ) → pending ≡ None →
    Takes remaining d e (λ b. IsFillTaken {E = E} b d.counter.count buffer (Ok tt)) →
    TakesJust (IsUnreadBy remaining d pending) (IsUnreadBy remaining e pending) buffer
just-taken E remaining d e pending buffer none (b, takes, count, taken, small) y u =
    let known : left_of remaining d ≡ Some y = subst (λ o. IsUnreadBy remaining d o y) none u in
    let (z, left, split) = rest-of (left_of remaining d) (left_of remaining e) y b known takes in
    (z, split ∙ ap (λ (k : List ℕ). k ++ z) taken.0, subst (λ o. IsUnreadBy remaining e o z) (sym none) left)

open-text : (o : Bool) (b : List ℕ) → ◌≡◌ {A = Header} (header.Text None) (header.Text (size_of o (length b))) →
    bare_character (text o b) ≡ Err kinds.Char
open-text true b e = refl
open-text false b e = cc

pub character-open : (l : Limit) (ts : List ℕ) (i : Item) → AreSkipped false ts → header_of i ≡ header.Text None →
    outcome l (given_character (under ts i)) ≡ refuses kinds.Char
character-open l ts i all e = ap settled (ap bare_character (untagged-under ts i) ∙
    by-shape (λ j. bare_character (untagged j) ≡ Err kinds.Char) (header.Text None) (λ n k. cc) (λ n k. cc)
    (λ o b k. cc) open-text (λ o is k. cc) (λ o ps k. cc) (λ n k. cc) (λ raw k. cc) (λ t j k. cc) i e)

pub character-other : (l : Limit) (h : Header) → IsBare false h → ((n : Option ℕ) → h ≡ header.Text n → ⊥) →
    (ts : List ℕ) (i : Item) → AreSkipped false ts → header_of i ≡ h →
    outcome l (given_character (under ts i)) ≡ refuses kinds.Char
character-other l h bare p ts i all e = ap settled (ap bare_character (untagged-under ts i) ∙
    by-shape (λ j. bare_character (untagged j) ≡ Err kinds.Char) h (λ n k. refl) (λ n k. refl) (λ o b k. refl)
    (λ o b k. absurd (p _ k)) (λ o is k. refl) (λ o ps k. refl) (λ n k. refl) (λ raw k. refl)
    (λ t j k. no-bare-tag h t bare k) i e)
