-- Names, and variants that are entered by theirs.
use Rattle.std.proofs.Common.{◌≡◌, ◌≢◌, ℕ, Bool, false, List, [], ◌∷◌, ◌++◌, Option, Some, None, refl, sym, ap, ◌∙◌}
use Rattle.std.proofs.Common.{subst, append_assoc, append-nil, arith, inl, length-append}
use Rattle.std.{proofs.lemmas.Str.is_utf8-from_IsUtf8, specs.Str.{is_utf8, IsUtf8}}
use Rattle.ciborium_ll.{proofs.UniqueSpelling.one_at_front, specs.Header.SpellsHeader}
use Rattle.ciborium_ll.specs.Item.{Item, bytes, text, simple, Pairs, no_pairs}
use Rattle.ciborium_ll.specs.{Item.{pair, pairs_count}, Spells.Spells, declared.decoder.Decoder.Decoder}
use Rattle.ciborium_ll.specs.declared.{header.Header.Header, strings.StringType.StringType}
use Rattle.ciborium_value.{proofs.Sources.{Sequences.fault_map, TreeLevels.utf8_not}, specs.Given.{gives, refuses}}
use Rattle.ciborium_value.specs.Given.{nests, deeper, untagged, outcome_map, given_name, bare_name, given_variant}
use Rattle.ciborium_value.specs.{Given.{bare_variant, outcome, settled}, Nesting.Limit, Places.is_open, Sources.Fault}
use Rattle.ciborium_value.specs.Sources.{IsFaultOf, of_kind}
use Rattle.ciborium.proofs.{Containers.EnteredContainers.within-is, Items.ItemHeads.{header_of, same-head, by-shape}}
use Rattle.ciborium.proofs.Items.{ItemHeads.{behind-head, no-bare-tag, size_of}, SkippedTags.untagged-under}
use Rattle.ciborium.specs.inner.{ByteSources.IsUnreadBy, FrontItems.{Reads, Denies}, Skips.{under, AreSkipped, IsBare}}
use Rattle.ciborium.specs.inner.{Skips.{TakesBare, EntersLevelUnread}, StringContents.TakesContent}
use Rattle.ciborium_ll.specs.declared.header.Header.TheVariants as header
use Rattle.ciborium_ll.specs.Item as items
use Rattle.ciborium_ll.specs.declared.kind.Kind.TheVariants as kinds

-- ---- names

-- a byte string that is UTF-8 is a name
pub bytes-name : (ts : List ℕ) (l : Limit) (open_ : Bool) (b : List ℕ) → IsUtf8 b →
    outcome l (given_name (under ts (bytes open_ b))) ≡ gives b
bytes-name ts l open_ b u = let t = is_utf8-from_IsUtf8 b u in
    ap (λ j. settled (bare_name j)) (untagged-under ts (bytes open_ b)) ∙ (rw t refl)

-- another one is none
pub bytes-no-name : {S : Type 0} (IsUnread : S → List ℕ → Type 0) (End : S → ℕ) (old mid new : S) (len : Option ℕ)
    (l : Limit) (payload : List ℕ) → (IsUtf8 payload → ⊥) → TakesBare IsUnread old mid false (header.Bytes len) →
    TakesContent (IsUnread mid) (IsUnread new) StringType.Bytes len payload →
    Denies IsUnread End old l given_name (of_kind kinds.Name)
bytes-no-name IsUnread End old mid new len l payload not bare content b s z j end u sp e fits =
    let bad = utf8_not payload not (is_utf8 payload) refl in
    let (ts, w, x, y, tagged, all, hd, g, un) = bare b u in
    let (c, r, make, f, un') = content y un in
    let (i, t, io, sq, k) = tagged.inward j s z sp e in
    let one = one_at_front t (x ++ c) z r i (bytes (is_open len) payload) sq (make x hd)
    (sym k ∙ g ∙ ap (λ (q : List ℕ). x ++ q) f ∙ sym (append_assoc x c r)) in
    ap (λ j. settled (bare_name j)) (ap untagged io ∙ untagged-under ts i ∙ ap untagged one.2) ∙ (rw bad refl)

pub name-other : (l : Limit) (h : Header) → IsBare false h → ((n : Option ℕ) → h ≡ header.Text n → ⊥) →
    ((n : Option ℕ) → h ≡ header.Bytes n → ⊥) → (ts : List ℕ) (i : Item) → AreSkipped false ts → header_of i ≡ h →
    outcome l (given_name (under ts i)) ≡ refuses kinds.Name
name-other l h bare p q ts i all e = ap (λ j. settled (bare_name j)) (untagged-under ts i) ∙
    by-shape (λ j. settled (bare_name (untagged j)) ≡ refuses kinds.Name) h (λ n k. refl) (λ n k. refl)
    (λ o b k. absurd (q _ k)) (λ o b k. absurd (p _ k)) (λ o is k. refl) (λ o ps k. refl) (λ n k. refl) (λ raw k. refl)
    (λ t j k. no-bare-tag h t bare k) i e

-- ---- variants

-- the null that is the data of a text
null-head : SpellsHeader (0xf6 ∷ []) (header.Simple 22)
null-head = inl (omega arith, refl)

-- it is pending, with an offset
pub null-unread : {S W : Type 0} (remaining : S → Option (List ℕ)) (d : Decoder S W) (pending : Option (Header × ℕ))
    (p : ℕ) (z : List ℕ) →
    pending ≡ None → IsUnreadBy remaining d pending z → IsUnreadBy remaining d (Some (header.Simple 22, p)) (0xf6 ∷ z)
null-unread remaining d pending p z none u = (
  0xf6 ∷ [],
  z,
  null-head,
  refl,
  subst (λ o. IsUnreadBy remaining d o z) none u,
  λ fixed. cc,
)

module _ {S : Type 0} (IsUnread : S → List ℕ → Type 0) (old mid new : S) (m : ℕ) (some : m ≢ 0) where
  -- a text
  pub text-begun : (len : Option ℕ) (name : List ℕ) → TakesBare IsUnread old mid false (header.Text len) →
      ((y : List ℕ) → IsUnread mid y → (c : List ℕ) × (z : List ℕ) ×
      ((x : List ℕ) → SpellsHeader x (header.Text len) → Spells (x ++ c) (text (is_open len) name)) × (y ≡ c ++ z) ×
      IsUnread new (0xf6 ∷ z)) → EntersLevelUnread IsUnread old new (Some m) given_variant name
  text-begun len name bare content b u =
      let (ts, w, x, y, tagged, all, hd, e, un) = bare b u in
      let (c, z, make, f, un') = content y un in
      let what : Item = text (is_open len) name in
      let spelled : Spells (x ++ c) what = make x hd in
      let split : w ≡ (x ++ c) ++ z = e ∙ ap (λ (r : List ℕ). x ++ r) f ∙ sym (append_assoc x c z) in
      let null : Spells (0xf6 ∷ []) (simple 22) = null-head in
      let gave : outcome (Some m) (bare_variant (untagged what)) ≡ gives (name, simple 22) =
      within-is m (gives (name, simple 22)) some in (
        0xf6 ∷ z,
        un',
        record {
          outward = λ i s r sp g.
              let one = one_at_front (0xf6 ∷ []) s z r (simple 22) i null sp g in
              let (t, sq, k) = tagged.outward what (x ++ c) z spelled split in
              (under ts what, t, sq, k ∙ ap (λ (q : List ℕ). t ++ q) one.1);
          inward = λ j t r sp g.
              let (i, s, io, sq, k) = tagged.inward j t r sp g in
              let one = one_at_front s (x ++ c) r z i what sq spelled (sym k ∙ split) in (
                simple 22,
                0xf6 ∷ [],
                ap (λ j. outcome (Some m) (bare_variant j))
                    (ap untagged io ∙ untagged-under ts i ∙ ap untagged one.2) ∙ gave,
                null,
                ap (λ (q : List ℕ). 0xf6 ∷ q) (sym one.1),
              );
        },
      )

-- behind the head of a definite map of one pair its key stands, and then its value
pair-front : (s r x y : List ℕ) (i : Item) → Spells s i → SpellsHeader x (header.Map (Some 1)) → s ++ r ≡ x ++ y →
    (k : Item) × (v : Item) × (a : List ℕ) × (d : List ℕ) × (i ≡ items.map false (pair k v no_pairs)) × Spells a k ×
    Spells d v × (y ≡ a ++ (d ++ r))
pair-front s r x y i sp hd e = by i sp (same-head s r x y i (header.Map (Some 1)) sp hd e).0
  where
    by : (i : Item) → Spells s i → header_of i ≡ header.Map (Some 1) → (k : Item) × (v : Item) × (a : List ℕ) ×
        (d : List ℕ) × (i ≡ items.map false (pair k v no_pairs)) × Spells a k × Spells d v × (y ≡ a ++ (d ++ r))
    by (items.map false (pair k v no_pairs)) (c, (a, d, q, ska, sdv, none, f), (hh, g, w)) h = (
      k,
      v,
      a,
      d,
      refl,
      ska,
      sdv,
      (behind-head s r x y hh c (header.Map (Some 1)) (header.Map (Some 1)) g hd w e).1 ∙ ap (λ (z : List ℕ). z ++ r)
          (f ∙ ap (λ (z : List ℕ). a ++ (d ++ z)) none ∙ ap (λ (z : List ℕ). a ++ z) (append-nil d)) ∙
          append_assoc a d r,
    )
    by _ sp h = cc

module _ {S : Type 0} (IsUnread : S → List ℕ → Type 0) (old mid inner new : S) (m : ℕ) (some : m ≢ 0)
    (keeps : (y : List ℕ) → IsUnread mid y → IsUnread inner y) where
  -- a map of one pair, whose key was read as a name
  pub pair-begun : (name : List ℕ) → TakesBare IsUnread old mid false (header.Map (Some 1)) →
      Reads IsUnread inner new (deeper (Some m)) given_name name →
      EntersLevelUnread IsUnread old new (Some m) given_variant name
  pair-begun name bare key b u =
      let (ts, w, x, y, tagged, all, hd, e, un) = bare b u in
      let (k, a, z, ska, f, give, un') = key y (keeps y un) in
      let gave : (v : Item) → outcome (Some m) (bare_variant (items.map false (pair k v no_pairs))) ≡ gives (name, v) =
      λ v. within-is m _ some ∙ ap (outcome_map (λ n. (n, v))) give in (
        z,
        un',
        record {
          outward = λ v d r sp g.
              let (t, sq, h) = tagged.outward (items.map false (pair k v no_pairs)) (x ++ (a ++ d)) r
              (a ++ d, (a, d, [], ska, sp, refl, ap (λ (q : List ℕ). a ++ q) (sym (append-nil d))), (x, hd, refl))
              (e ∙ ap (λ (q : List ℕ). x ++ q) (f ∙ ap (λ (q : List ℕ). a ++ q) g ∙ sym (append_assoc a d r)) ∙
              sym (append_assoc x (a ++ d) r)) in
              (under ts (items.map false (pair k v no_pairs)), t, sq, h);
          inward = λ j t r sp g.
              let (i, s, io, sq, h) = tagged.inward j t r sp g in
              let (k', v, a', d, im, ska', sdv, p) = pair-front s r x y i sq hd (sym h ∙ e) in
              let one = one_at_front a' a (d ++ r) z k' k ska' ska (sym p ∙ f) in (
                v,
                d,
                ap (λ j. outcome (Some m) (bare_variant j)) (ap untagged io ∙ untagged-under ts i ∙ ap untagged im ∙
                    ap (λ n. items.map false (pair n v no_pairs)) one.2) ∙ gave v,
                sdv,
                sym one.1,
              );
        },
      )

  -- its key is refused
  pub key-denied : (End : S → ℕ) (fault : Fault) → ((b : List ℕ) → IsUnread old b → End inner ≡ End old) →
      TakesBare IsUnread old mid false (header.Map (Some 1)) →
      Denies IsUnread End inner (deeper (Some m)) given_name fault →
      Denies IsUnread End old (Some m) given_variant fault
  key-denied End fault same bare denied b s z j end u sp e fits =
      let (ts, w, x, y, tagged, all, hd, f, un) = bare b u in
      let (i, t, io, sq, g) = tagged.inward j s z sp e in
      let (k, v, a, c, im, ska, scv, p) = pair-front t z x y i sq hd (sym g ∙ f) in
      let more = length-append c z in
      let all = same b u in
      let blamed = denied y a (c ++ z) k end (keeps y un) ska p (omega (arith, all, more, fits)) in
      subst (IsFaultOf end fault) (sym (ap (λ j. outcome (Some m) (bare_variant j))
      (ap untagged io ∙ untagged-under ts i ∙ ap untagged im) ∙ within-is m _ some))
      (fault_map end fault (λ n. (n, v)) (outcome (deeper (Some m)) (given_name k)) blamed)

-- ---- what is refused

pair-only : (o : Bool) (ps : Pairs) → ◌≡◌ {A = Header} (header.Map (Some 1)) (header.Map (size_of o (pairs_count ps))) →
    outcome (Some 0) (bare_variant (items.map o ps)) ≡ nests
pair-only false (pair k v no_pairs) e = refl
pair-only u v e = cc

other-pairs : (l : Limit) (h : Header) → (h ≡ header.Map (Some 1) → ⊥) → (o : Bool) (ps : Pairs) →
    h ≡ header.Map (size_of o (pairs_count ps)) → outcome l (bare_variant (items.map o ps)) ≡ refuses kinds.Variant
other-pairs l h q false (pair k v no_pairs) e = absurd (q e)
other-pairs l h q u v e = refl

pub text-nests : (len : Option ℕ) (ts : List ℕ) (i : Item) → AreSkipped false ts → header_of i ≡ header.Text len →
    outcome (Some 0) (given_variant (under ts i)) ≡ nests
text-nests len ts i all e = ap (λ j. outcome (Some 0) (bare_variant j)) (untagged-under ts i) ∙
    by-shape (λ j. outcome (Some 0) (bare_variant (untagged j)) ≡ nests) (header.Text len) (λ n k. cc) (λ n k. cc)
    (λ o b k. cc) (λ o b k. refl) (λ o is k. cc) (λ o ps k. cc) (λ n k. cc) (λ raw k. cc) (λ t j k. cc) i e

pub pair-nests : (ts : List ℕ) (i : Item) → AreSkipped false ts → header_of i ≡ header.Map (Some 1) →
    outcome (Some 0) (given_variant (under ts i)) ≡ nests
pair-nests ts i all e = ap (λ j. outcome (Some 0) (bare_variant j)) (untagged-under ts i) ∙
    by-shape (λ j. outcome (Some 0) (bare_variant (untagged j)) ≡ nests) (header.Map (Some 1)) (λ n k. cc) (λ n k. cc)
    (λ o b k. cc) (λ o b k. cc) (λ o is k. cc) pair-only (λ n k. cc) (λ raw k. cc) (λ t j k. cc) i e

pub variant-other : (l : Limit) (h : Header) → IsBare false h → ((n : Option ℕ) → h ≡ header.Text n → ⊥) →
    (h ≡ header.Map (Some 1) → ⊥) → (ts : List ℕ) (i : Item) → AreSkipped false ts → header_of i ≡ h →
    outcome l (given_variant (under ts i)) ≡ refuses kinds.Variant
variant-other l h bare p q ts i all e = ap (λ j. outcome l (bare_variant j)) (untagged-under ts i) ∙
    by-shape (λ j. outcome l (bare_variant (untagged j)) ≡ refuses kinds.Variant) h (λ n k. refl) (λ n k. refl)
    (λ o b k. refl) (λ o b k. absurd (p _ k)) (λ o is k. refl) (other-pairs l h q) (λ n k. refl) (λ raw k. refl)
    (λ t j k. no-bare-tag h t bare k) i e

pub map-no-text : (h : Header) (count : Option ℕ) → h ≡ header.Map count → (n : Option ℕ) → h ≡ header.Text n → ⊥
map-no-text h count e n f = cc

pub map-not-one : (h : Header) (count : Option ℕ) → h ≡ header.Map count → count ≢ Some 1 → h ≡ header.Map (Some 1) → ⊥
map-not-one h count e n f = n (let k : count ≡ Some 1 = cc in k)
