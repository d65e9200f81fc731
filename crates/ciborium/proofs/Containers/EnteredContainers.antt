-- Containers that are entered behind skipped tags.
use Rattle.std.proofs.Common.{◌≡◌, Ok, ◌<◌, ◌+◌, ◌≢◌, ℕ, zero, suc, ◌-◌, Bool, true, false, List, [], ◌∷◌, ◌++◌, map}
use Rattle.std.proofs.Common.{Option, Some, None, refl, sym, ap, ◌∙◌, subst, append_assoc, append-nil, arith, ◌≤◌}
use Rattle.std.specs.Vec.Iter.{into_iter_items}
use Rattle.ciborium_ll.{proofs.UniqueSpelling.one_at_front, specs.{Head.{IsHead, break_byte}, Header.SpellsHeader}}
use Rattle.ciborium_ll.specs.Item.{Item, Items, unsigned, bytes, array}
use Rattle.ciborium_ll.specs.{Spells.Spells, declared.{header.Header.Header, strings.StringType.StringType}}
use Rattle.ciborium_value.specs.Ahead.{Span, Rest, item, inside, of_bytes, takes_level}
use Rattle.ciborium_value.specs.Given.{Outcome, Steps, Given, deeper, give, gives, nests, outcome, refuses, untagged}
use Rattle.ciborium_value.specs.Given.{bare_pairs, bare_seq, given_pairs, given_seq, within_level}
use Rattle.ciborium_value.specs.{Nesting.Limit, Places.{is_open, an_array, a_map}}
use Rattle.ciborium.proofs.Items.ItemHeads.{HasItems, HasPairs, array-front, by-shape, header_of, map-front}
use Rattle.ciborium.proofs.Items.ItemHeads.{no-bare-tag, packed, packed-pairs}
use Rattle.ciborium.proofs.Items.{SkippedTags.untagged-under, TakenOnly.{IsKept, kept-alone, kept-reader}}
use Rattle.ciborium.proofs.Items.TakenOnly.{is-kept, keeps-then}
use Rattle.ciborium.{proofs.Items.Weights.entered-fewer, specs.declared.de.byte_source.ByteSeq.ByteSeq}
use Rattle.ciborium.specs.{declared.de.byte_source.{ByteSource.ByteSource, Left.Left}, inner.ByteSources.IsUnread}
use Rattle.ciborium.specs.inner.ByteSources.{IsUnreadBy, StandsBefore, HoldsItems, HoldsPairs, SeqOwes}
use Rattle.ciborium.specs.inner.ByteSources.{LeftOwes, OwesParts, EntersItemsUnread, HasBytes}
use Rattle.ciborium.specs.inner.ByteSources.{ReadsBareHead, bytes_left, parts_left, weight_left, reader_of, seq_left}
use Rattle.ciborium.specs.inner.Skips.{under, AreSkipped, IsBare, TakesBare, EntersUnread}
use Rattle.ciborium.specs.inner.{StringContents.TakesContent, Unread.{AreSpelled, AreLeft, SpellsPair, IsRest, ending}}
use Rattle.ciborium.specs.inner.Unread.{span_of, HasCount}
use Rattle.ciborium.specs.inner.ByteSources.{KeepsSource, bytes_weight, pending_head_weight}
use Rattle.ciborium_value.specs.Sources.{TakesTo}
use Rattle.ciborium.proofs.Items.Weights.{weight-bounds}
use Rattle.ciborium_ll.specs.declared.header.Header.TheVariants as header
use Rattle.ciborium_ll.specs.Item as items
use Rattle.ciborium_ll.specs.declared.kind.Kind.TheVariants as kinds
use Rattle.ciborium.specs.declared.de.byte_source.Left.TheVariants as left

-- ---- levels

pub within-is : {A : Type 0} (n : ℕ) (o : Outcome A) → n ≢ 0 → within_level (Some n) o ≡ o
within-is zero o h = absurd (h refl)
within-is (suc n) o h = refl

pub deeper-is : (n : ℕ) → n ≢ 0 → deeper (Some n) ≡ Some (n - 1)
deeper-is zero h = absurd (h refl)
deeper-is (suc n) h = ap Some (omega arith)

inside-span : (count : Option ℕ) (l : Limit) → inside (span_of count) l ≡ deeper l
inside-span (Some n) l = refl
inside-span None l = refl

-- ---- a container by its head and its parts

-- behind any head with this count the parts make a container, and where such a head stands a container's parts stand
-- behind it; so many parts are owed and held where so many are left
pub record IsContainer {X : Type 0} (SpellsPart : List ℕ → X → Type 0) (head_with : Option ℕ → Header)
    (HasParts : Item → List X → Type 0) (Owed : ByteSeq → List ℕ → List ℕ → Type 0)
    (Held : ByteSeq → Span → List X → Type 0) : Type 0 where
  make : (count : Option ℕ) (t : List ℕ) (xs : List X) → AreSpelled SpellsPart t xs → HasCount count xs → (x : List ℕ) →
      SpellsHeader x (head_with count) → (i : Item) × Spells (x ++ (t ++ ending (span_of count))) i
  front : (count : Option ℕ) (s r x y : List ℕ) (i : Item) →
      Spells s i → SpellsHeader x (head_with count) → s ++ r ≡ x ++ y → (xs : List X) × (c : List ℕ) ×
      HasParts i xs × AreSpelled SpellsPart c xs × HasCount count xs × (y ≡ c ++ (ending (span_of count) ++ r))
  owes : (q : ByteSeq) (count : Option ℕ) → q.left ≡ parts_left count → (b u : List ℕ) →
      OwesParts SpellsPart count b u → Owed q b u
  holds : (q : ByteSeq) (count : Option ℕ) → q.left ≡ parts_left count → (xs : List X) → HasCount count xs →
      Held q (span_of count) xs

pub array-container : IsContainer Spells header.Array HasItems (λ p. SeqOwes p an_array) (λ p. HoldsItems p.left)
array-container = record { make = build; front = array-front; owes = owed; holds = held }
  where
    build : (count : Option ℕ) (t : List ℕ) (xs : List Item) → AreSpelled Spells t xs → HasCount count xs →
        (x : List ℕ) → SpellsHeader x (header.Array count) → (i : Item) × Spells (x ++ (t ++ ending (span_of count))) i
    build (Some n) t xs sp len x hd = let p = packed t xs sp in (
      array false p.0,
      (t, p.1, (x, subst (IsHead x 4) (sym (p.3 ∙ len)) hd, ap (λ (z : List ℕ). x ++ z) (append-nil t))),
    )
    build None t xs sp len x hd = let p = packed t xs sp in
        (array true p.0, (t, p.1, ap (λ (z : List ℕ). z ++ (t ++ (break_byte ∷ []))) hd))

    owed : (q : ByteSeq) (count : Option ℕ) → q.left ≡ parts_left count → (b u : List ℕ) →
        OwesParts Spells count b u → SeqOwes q an_array b u
    owed q (Some n) e b u h = subst (λ k. LeftOwes k an_array b u) (sym e) h
    owed q None e b u h = subst (λ k. LeftOwes k an_array b u) (sym e) h

    held : (q : ByteSeq) (count : Option ℕ) → q.left ≡ parts_left count → (xs : List Item) → HasCount count xs →
        HoldsItems q.left (span_of count) xs
    held q (Some n) e xs h = subst (λ k. HoldsItems k (span_of (Some n)) xs) (sym e) (refl, h)
    held q None e xs h = subst (λ k. HoldsItems k (span_of None) xs) (sym e) (refl, h)

pub map-container : IsContainer SpellsPair header.Map HasPairs (λ p. SeqOwes p a_map) (λ p. HoldsPairs p.left)
map-container = record { make = build; front = map-front; owes = owed; holds = held }
  where
    build : (count : Option ℕ) (t : List ℕ) (xs : List (Item × Item)) → AreSpelled SpellsPair t xs → HasCount count xs →
        (x : List ℕ) → SpellsHeader x (header.Map count) → (i : Item) × Spells (x ++ (t ++ ending (span_of count))) i
    build (Some n) t xs sp len x hd = let p = packed-pairs t xs sp in (
      items.map false p.0,
      (t, p.1, (x, subst (IsHead x 5) (sym (p.3 ∙ len)) hd, ap (λ (z : List ℕ). x ++ z) (append-nil t))),
    )
    build None t xs sp len x hd = let p = packed-pairs t xs sp in
        (items.map true p.0, (t, p.1, ap (λ (z : List ℕ). z ++ (t ++ (break_byte ∷ []))) hd))

    owed : (q : ByteSeq) (count : Option ℕ) → q.left ≡ parts_left count → (b u : List ℕ) →
        OwesParts SpellsPair count b u → SeqOwes q a_map b u
    owed q (Some n) e b u h = subst (λ k. LeftOwes k a_map b u) (sym e) h
    owed q None e b u h = subst (λ k. LeftOwes k a_map b u) (sym e) h

    held : (q : ByteSeq) (count : Option ℕ) → q.left ≡ parts_left count → (xs : List (Item × Item)) →
        HasCount count xs → HoldsPairs q.left (span_of count) xs
    held q (Some n) e xs h = subst (λ k. HoldsPairs k (span_of (Some n)) xs) (sym e) (refl, h)
    held q None e xs h = subst (λ k. HoldsPairs k (span_of None) xs) (sym e) (refl, h)

-- all parts of a container of counted parts, or up to a break, are in the bytes
left-spelled : {X : Type 0} (SpellsPart : List ℕ → X → Type 0) (count : Option ℕ) (c : List ℕ) (xs : List X) →
    AreSpelled SpellsPart c xs → AreLeft SpellsPart (span_of count) c xs
left-spelled SpellsPart (Some n) c xs sp = sp
left-spelled SpellsPart None c xs sp = sp

-- ---- arrays, byte strings and maps

-- a container was entered, and its level was taken
abbrev pub IsEntered : {S W : Type 0} → ByteSource S W → ByteSource S W → Option ℕ → ByteSeq → Type 0
IsEntered mid new count q = (new.decoder ≡ mid.decoder) × (new.pending ≡ mid.pending) × (mid.levels ≢ 0) ×
    (new.levels ≡ mid.levels - 1) × (q.left ≡ parts_left count)

-- so many parts, or any number, are no bytes
none-left : (count : Option ℕ) → bytes_left (parts_left count) ≡ 0
none-left (Some n) = refl
none-left None = refl

pub same-unread : {S W : Type 0} (remaining : S → Option (List ℕ)) (mid new : ByteSource S W) →
    new.decoder ≡ mid.decoder →
    new.pending ≡ mid.pending → (y : List ℕ) → IsUnread remaining mid y → IsUnread remaining new y
same-unread remaining mid new e f y u = subst (λ d. IsUnreadBy remaining d new.pending y) (sym e)
    (subst (λ o. IsUnreadBy remaining mid.decoder o y) (sym f) u)

-- what was entered behind a head, where f takes its parts
pub record HasEntered {S W X A : Type 0} (remaining : S → Option (List ℕ)) (Owed : ByteSeq → List ℕ → List ℕ → Type 0)
    (SpellsPart : List ℕ → X → Type 0) (Held : ByteSeq → Span → List X → Type 0) (old new : ByteSource S W)
    (taken : Given A) (f : Span → List X → Steps A) (q : ByteSeq) : Type 0 where
  pub kept : IsKept remaining old new
  pub levels : q.levels ≡ old.levels
  pub none : new.pending ≡ None
  pub fewer : weight_left new + seq_left q < weight_left old
  pub opens : EntersUnread (IsUnread remaining) Owed SpellsPart Held old new (Some old.levels) (Some new.levels) taken
      f q

abbrev pub HasEnteredItems : {S W A : Type 0} → (S → Option (List ℕ)) → ByteSource S W → ByteSource S W → Given A →
    (Span → List Item → Steps A) → ByteSeq → Type 0
HasEnteredItems remaining = HasEntered remaining (λ p. SeqOwes p an_array) Spells (λ p. HoldsItems p.left)

module _ {S W X : Type 0} {SpellsPart : List ℕ → X → Type 0} {head_with : Option ℕ → Header}
    {HasParts : Item → List X → Type 0} {Owed : ByteSeq → List ℕ → List ℕ → Type 0}
    {Held : ByteSeq → Span → List X → Type 0} (is_container : IsContainer SpellsPart head_with HasParts Owed Held)
    {can_fail : Bool} {remaining : S → Option (List ℕ)} {old mid : ByteSource S W} {h : Header} {offset : ℕ}
    (new : ByteSource S W) (count : Option ℕ) (q : ByteSeq)
    (reads : ReadsBareHead can_fail remaining old mid false (Ok (h, offset)))
    (head : TakesBare (IsUnread remaining) old mid false h) (is : IsEntered mid new count q)
    (back : q.levels ≡ mid.levels) where
  pub entered : {A : Type 0} (taken : Given A) (f : Span → List X → Steps A) → h ≡ head_with count →
      ((m : ℕ) → m ≢ 0 → (ts : List ℕ) (i : Item) (xs : List X) → HasParts i xs →
      outcome (Some m) (taken (under ts i)) ≡ outcome (deeper (Some m)) (f (span_of count) xs)) →
      HasEntered remaining Owed SpellsPart Held old new taken f q
  entered taken f same give =
      let none = is.1 ∙ reads.kept.pending in
      let fewer = entered-fewer old mid new h is.0 none reads.fewer in
      let nothing : seq_left q ≡ 0 = ap bytes_left is.4 ∙ none-left count in
      record {
        kept = kept-alone remaining old mid new is.0 (is-kept reads.kept);
        levels = back ∙ reads.kept.levels;
        none = none;
        fewer = omega (arith, fewer, nothing);
        opens = subst (λ n. EntersUnread (IsUnread remaining) Owed SpellsPart Held old new (Some old.levels) (Some n)
            taken f q) (sym (is.3 ∙ ap (λ n. n - 1) reads.kept.levels)) opens;
      }
    where
      m : ℕ
      m = old.levels

      some : m ≢ 0
      some z = is.2 (reads.kept.levels ∙ z)

      opens : EntersUnread (IsUnread remaining) Owed SpellsPart Held old new (Some m) (Some (m - 1)) taken f q
      opens b u =
          let (ts, w, x, y, tagged, all, hd, e, un) = subst (TakesBare (IsUnread remaining) old mid false) same head b u
          in
          let owed : OwesParts SpellsPart count b y = λ t z xs sp len g.
          let (i, made) = is_container.make count t xs sp len x hd in
          let split : w ≡ (x ++ (t ++ ending (span_of count))) ++ z = e ∙
          ap (λ (r : List ℕ). x ++ r) (g ∙ sym (append_assoc t (ending (span_of count)) z)) ∙
          sym (append_assoc x (t ++ ending (span_of count)) z) in
          let (s, sq, k) = tagged.outward i (x ++ (t ++ ending (span_of count))) z made split in
          (under ts i, s, sq, k) in (
            y,
            same-unread remaining mid new is.0 is.1 y un,
            is_container.owes q count is.4 b y owed,
            λ j t z sp g.
                let (i, s, io, sq, k) = tagged.inward j t z sp g in
                let (xs, c, has, sps, len, h) = is_container.front count s z x y i sq hd (sym k ∙ e) in (
                  span_of count,
                  xs,
                  c,
                  ap (λ j. outcome (Some m) (taken j)) io ∙ give m some ts i xs has ∙
                      ap (λ l. outcome l (f (span_of count) xs)) (sym (inside-span count (Some m))),
                  inside-span count (Some m) ∙ deeper-is m some,
                  left-spelled SpellsPart count c xs sps,
                  h,
                  is_container.holds q count is.4 xs len,
                ),
          )

-- a container of counted parts, or up to a break, takes a level
level-span : (count : Option ℕ) → true ≡ takes_level (span_of count)
level-span (Some n) = refl
level-span None = refl

pub seq-given : (count : Option ℕ) (m : ℕ) → m ≢ 0 → (ts : List ℕ) (i : Item) (xs : List Item) → HasItems i xs →
    outcome (Some m) (given_seq (under ts i)) ≡ gives (takes_level (span_of count), xs)
seq-given count m some ts i xs (o, js, is, all) =
    ap (λ j. outcome (Some m) (bare_seq j)) (untagged-under ts i ∙ ap untagged is) ∙ within-is m _ some ∙
    ap (λ z. gives (true, z)) all ∙ ap (λ b. gives (b, xs)) (level-span count)

pub pairs-given : (count : Option ℕ) (m : ℕ) → m ≢ 0 → (ts : List ℕ) (i : Item) (xs : List (Item × Item)) →
    HasPairs i xs → outcome (Some m) (given_pairs (under ts i)) ≡ gives (takes_level (span_of count), xs)
pairs-given count m some ts i xs (o, js, is, all) =
    ap (λ j. outcome (Some m) (bare_pairs j)) (untagged-under ts i ∙ ap untagged is) ∙ within-is m _ some ∙
    ap (λ z. gives (true, z)) all ∙ ap (λ b. gives (b, xs)) (level-span count)

bytes-had : (k : Left) (P : List ℕ → Type 0) → HasBytes k P → (v : _) × (k ≡ left.Bytes v) × P (into_iter_items v)
bytes-had (left.Bytes v) P h = (v, refl, h)
bytes-had u v h = absurd h

-- the bytes of a byte string that was read whole
pub bytes-entered : {S W : Type 0} {can_fail : Bool} {remaining : S → Option (List ℕ)} {old mid : ByteSource S W}
    {h : Header} {offset : ℕ} (new : ByteSource S W) (len : Option ℕ) (q : ByteSeq) →
    ReadsBareHead can_fail remaining old mid false (Ok (h, offset)) → TakesBare (IsUnread remaining) old mid false h →
    h ≡ header.Bytes len → KeepsSource remaining mid new → q.levels ≡ mid.levels → bytes_weight new + seq_left q ≤
    bytes_weight mid →
    HasBytes q.left (TakesContent (IsUnread remaining mid) (IsUnread remaining new) StringType.Bytes len) →
    HasEnteredItems remaining old new given_seq (λ span is. give (takes_level span, is)) q
bytes-entered {S} {W} {can_fail} {remaining} {old} {mid} {h} new len q reads head is-head kept back fewer had =
    let (some, two) = weight-bounds h in
    let nothing : pending_head_weight new.pending ≡ 0 = ap pending_head_weight kept.pending in
    record {
      kept = is-kept (keeps-then reads.kept kept);
      levels = back ∙ reads.kept.levels;
      none = kept.pending;
      fewer = omega (arith, fewer, some, nothing, reads.fewer);
      opens = opens;
    }
  where
    opens : EntersItemsUnread remaining old new given_seq (λ span is. give (takes_level span, is)) q
    opens b u =
        let (v, is, content) = bytes-had q.left _ had in
        let payload : List ℕ = into_iter_items v in
        let (ts, w, x, y, tagged, all, hd, e, un) =
        subst (TakesBare (IsUnread remaining) old mid false) is-head head b u in
        let (c, z, make, f, un') = content y un in
        let spelled : Spells (x ++ c) (bytes (is_open len) payload) = make x hd in
        let split : w ≡ (x ++ c) ++ z = e ∙ ap (λ (r : List ℕ). x ++ r) f ∙ sym (append_assoc x c z) in
        let (s, sq, g) = tagged.outward (bytes (is_open len) payload) (x ++ c) z spelled split in
        let owed : LeftOwes (left.Bytes v) an_array b z = (under ts (bytes (is_open len) payload), s, sq, g) in (
          z,
          un',
          subst (λ k. LeftOwes k an_array b z) (sym is) owed,
          λ j t z' sp h.
              let (i, r, io, sr, k) = tagged.inward j t z' sp h in
              let one = one_at_front r (x ++ c) z' z i (bytes (is_open len) payload) sr spelled (sym k ∙ split) in (
                of_bytes,
                map unsigned payload,
                [],
                ap (λ j. outcome (Some old.levels) (bare_seq j))
                    (ap untagged io ∙ untagged-under ts i ∙ ap untagged one.2),
                ap Some (sym (kept.levels ∙ reads.kept.levels)),
                refl,
                sym one.1,
                subst (λ k. HoldsItems k of_bytes (map unsigned payload)) (sym is) (refl, refl),
              ),
        )

-- ---- what is refused

-- what an array is read as, behind tags, where no level is left
pub array-nests : {A : Type 0} (bare : Given A) →
    ((o : Bool) (is : Items) → outcome (Some 0) (bare (array o is)) ≡ nests) → (count : Option ℕ) (ts : List ℕ)
    (i : Item) → AreSkipped false ts → header_of i ≡ header.Array count →
    outcome (Some 0) (bare (untagged (under ts i))) ≡ nests
array-nests bare none count ts i all e = ap (λ j. outcome (Some 0) (bare j)) (untagged-under ts i) ∙
    by-shape (λ j. outcome (Some 0) (bare (untagged j)) ≡ nests) (header.Array count) (λ n k. cc) (λ n k. cc)
    (λ o b k. cc) (λ o b k. cc) (λ o is k. none o is) (λ o ps k. cc) (λ n k. cc) (λ raw k. cc) (λ t j k. cc) i e

pub map-nests : (count : Option ℕ) (ts : List ℕ) (i : Item) → AreSkipped false ts → header_of i ≡ header.Map count →
    outcome (Some 0) (given_pairs (under ts i)) ≡ nests
map-nests count ts i all e = ap (λ j. outcome (Some 0) (bare_pairs j)) (untagged-under ts i) ∙
    by-shape (λ j. outcome (Some 0) (bare_pairs (untagged j)) ≡ nests) (header.Map count) (λ n k. cc) (λ n k. cc)
    (λ o b k. cc) (λ o b k. cc) (λ o is k. cc) (λ o ps k. refl) (λ n k. cc) (λ raw k. cc) (λ t j k. cc) i e

pub seq-other : (l : Limit) (h : Header) → IsBare false h → ((n : Option ℕ) → h ≡ header.Array n → ⊥) →
    ((n : Option ℕ) → h ≡ header.Bytes n → ⊥) → (ts : List ℕ) (i : Item) → AreSkipped false ts → header_of i ≡ h →
    outcome l (given_seq (under ts i)) ≡ refuses kinds.Array
seq-other l h bare p q ts i all e = ap (λ j. outcome l (bare_seq j)) (untagged-under ts i) ∙
    by-shape (λ j. outcome l (bare_seq (untagged j)) ≡ refuses kinds.Array) h (λ n k. refl) (λ n k. refl)
    (λ o b k. absurd (q _ k)) (λ o b k. refl) (λ o is k. absurd (p _ k)) (λ o ps k. refl) (λ n k. refl)
    (λ raw k. refl) (λ t j k. no-bare-tag h t bare k) i e

pub map-other : (l : Limit) (h : Header) → IsBare false h → ((n : Option ℕ) → h ≡ header.Map n → ⊥) → (ts : List ℕ)
    (i : Item) → AreSkipped false ts → header_of i ≡ h → outcome l (given_pairs (under ts i)) ≡ refuses kinds.Map
map-other l h bare p ts i all e = ap (λ j. outcome l (bare_pairs j)) (untagged-under ts i) ∙
    by-shape (λ j. outcome l (bare_pairs (untagged j)) ≡ refuses kinds.Map) h (λ n k. refl) (λ n k. refl)
    (λ o b k. refl) (λ o b k. refl) (λ o is k. refl) (λ o ps k. absurd (p _ k)) (λ n k. refl) (λ raw k. refl)
    (λ t j k. no-bare-tag h t bare k) i e

-- ---- where the source then stands

module _ {S W X A : Type 0} {remaining : S → Option (List ℕ)} {Owed : ByteSeq → List ℕ → List ℕ → Type 0}
    {SpellsPart : List ℕ → X → Type 0} {Held : ByteSeq → Span → List X → Type 0} {old new : ByteSource S W}
    {taken : Given A} {f : Span → List X → Steps A} {q : ByteSeq}
    (h : HasEntered remaining Owed SpellsPart Held old new taken f q) where
  -- before the parts of what was entered
  pub parts-stand : (l : Limit) (i : Item) (r : Rest) → StandsBefore remaining old l (item i r) → (span : Span) ×
      (xs : List X) × (outcome l (taken i) ≡ outcome (inside span l) (f span xs)) × ((w : List ℕ) ×
      IsUnread remaining new w × ((c : List ℕ) × (t : List ℕ) × AreLeft SpellsPart span c xs ×
      IsRest (reader_of remaining new.decoder) t r × (w ≡ c ++ (ending span ++ t))) ×
      (inside span l ≡ Some new.levels) × (new.pending ≡ None)) × ((l ≡ Some q.levels) × Held q span xs)
  parts-stand l i r (b, u, (s, t, sp, rest, e), is, ahead) =
      let (w, un, owes, opens) = h.opens b u in
      let (span, xs, c, give, lv, stand, split, hold) = opens i s t sp e in (
        span,
        xs,
        ap (λ k. outcome k (taken i)) is ∙ give ∙ ap (λ k. outcome (inside span k) (f span xs)) (sym is),
        (
          w,
          un,
          (c, t, stand, subst (λ n. IsRest n t r) (sym (kept-reader remaining old new h.kept b u)) rest, split),
          ap (inside span) is ∙ lv,
          h.none,
        ),
        (is ∙ ap Some (sym h.levels), hold),
      )

  pub parts-owed : TakesTo (IsUnread remaining) old new (Owed q)
  parts-owed b u = let (w, un, owes, leads) = h.opens b u in (w, un, owes)
