-- The value ahead, read whole.
use Rattle.std.proofs.Common.{◌≡◌, ℕ, ◌+◌, Bool, true, false, List, ◌++◌, length, Option, Some, None, Result, Ok, Err}
use Rattle.std.proofs.Common.{refl, sym, ap, ◌∙◌, subst, arith, eqb, eqb-true, ◌||◌, ◌≤◌, ℤ, pos, length-append}
use Rattle.std.specs.Io.KnownBytes.{Consumes}
use Rattle.ciborium_ll.{proofs.{Decoders.{unread-left, unread-count}, Unread.rest-of}, specs.Decoding.IsAhead}
use Rattle.ciborium_ll.specs.Decoding.{IsAheadBy, TakesBeforeAny, next_offset, with_left, left_of, ReadsNothing}
use Rattle.ciborium_ll.specs.{Header.SpellsHeader, Item.{Item, unsigned, simple}, Spells.Spells}
use Rattle.ciborium_ll.specs.declared.{decoder.Decoder.Decoder, header.Header.Header}
use Rattle.ciborium_value.{proofs.Sources.Sequences.fault_outside, specs.Given.{gives, given_value, outcome}}
use Rattle.ciborium_value.specs.{Meaning.simple_meaning, Nesting.{Limit, IsWithin, nesting}, Refuses.Refuses}
use Rattle.ciborium_value.specs.{Sources.IsFaultOf, Spelling.any, Tree.Tree, View.{result_map, tree_of}}
use Rattle.ciborium_value.specs.declared.tree.Value.{Value}
use Rattle.ciborium.proofs.Items.{FrontReads.io-outside, ValueFaults.value-faults, ValuesGiven.value-gives}
use Rattle.ciborium.proofs.{Readers.WhateverFollows.{ahead-same, so-unread}, Turns.Fronts.{Front, ahead-at, front-fits}}
use Rattle.ciborium.specs.{Errors.{fault_of, io_fault}, ValueAnswers.IsRefusedBy}
use Rattle.ciborium.specs.{declared.de.error.Error.Error, inner.ByteSources.{MeansTree, is_portable, IsUnreadBy}}
use Rattle.ciborium.specs.inner.{ByteSources.{known_end, reader_of}, Turns.{IsTreeRead, IsValueRead}}
use Rattle.ciborium_ll.specs.declared.header.Header.TheVariants as header
use Rattle.ciborium_value.specs.Tree as trees
use Rattle.ciborium.specs.declared.de.error.Error.TheVariants as errors

null-22 : simple_meaning 22 ≡ Some trees.null
unfolding simple_meaning
null-22 = refl

null-23 : simple_meaning 23 ≡ Some trees.null
unfolding simple_meaning
null-23 = refl

null-meaning : (n : ℕ) → is_portable (header.Simple n) ≡ true → simple_meaning n ≡ Some trees.null
null-meaning n h = by (eqb n 22) (eqb n 23) h (eqb-true n 22) (eqb-true n 23)
  where
    by : (u v : Bool) → (u || v) ≡ true → (u ≡ true → n ≡ 22) → (v ≡ true → n ≡ 23) → simple_meaning n ≡ Some trees.null
    by true v h f g = ap simple_meaning (f refl) ∙ null-22
    by false v h f g = ap simple_meaning (g h) ∙ null-23

pub portable-null : (h : Header) (n : ℕ) → h ≡ header.Simple n → is_portable (header.Simple n) ≡ true →
    MeansTree h trees.null
portable-null h n is stands s hd = (simple n, subst (SpellsHeader s) is hd, null-meaning n stands, refl)

pub portable-number : (h : Header) (n : ℕ) (z : ℤ) → h ≡ header.Positive n → z ≡ pos n → MeansTree h (trees.integer z)
portable-number h n z is e s hd = (
  unsigned n,
  subst (SpellsHeader s) is hd,
  ap (λ k. Some (trees.integer k)) (sym e),
  refl,
)

-- a pending head stands in the bytes
abbrev pub IsReal : Option (Header × ℕ) → Type 0
IsReal None = Unit {0}
IsReal (Some h) = is_portable h.0 ≡ false

-- the head that was pushed, or none, and what is unread with it
pub ahead-by : {S W : Type 0} (remaining : S → Option (List ℕ)) (d e : Decoder S W) (pending : Option (Header × ℕ))
    (b : List ℕ) → IsReal pending → e.pushed ≡ pending → ReadsNothing d e →
    IsUnreadBy remaining d pending b → IsAhead remaining e b (next_offset d.counter.count pending)
ahead-by remaining d e None b real pushed same u = subst (λ o. IsAheadBy remaining e b d.counter.count o) (sym pushed)
    (unread-count d e same, unread-left remaining d e same ∙ u)
ahead-by remaining d e (Some h) b real pushed same (x, y, hd, f, left, counted) =
    let k = counted real in
    subst (λ o. IsAheadBy remaining e b h.1 o) (sym pushed)
    (refl, x, y, hd, k.0, f, unread-count d e same ∙ k.1, unread-left remaining d e same ∙ left)

-- ---- from a decoder whatever follows what it takes, to one whose bytes are known

module _ {S W : Type 0} (remaining : S → Option (List ℕ)) where
  known-left : (d : Decoder S W) (b : List ℕ) (p : ℕ) (o : Option (Header × ℕ)) → IsAheadBy remaining d b p o →
      (u : List ℕ) × (left_of remaining d ≡ Some u)
  known-left d b p None (count, e) = (b, e)
  known-left d b p (Some h) (at, x, r, sp, usable, split, count, e) = (r, e)

  ahead-from : (d : Decoder S W) (u b : List ℕ) (p : ℕ) (o : Option (Header × ℕ)) → left_of remaining d ≡ Some u →
      IsAheadBy remaining d b p o → IsAheadBy Some (with_left d u) b p o
  ahead-from d u b p None left (count, e) = (count, sym left ∙ e)
  ahead-from d u b p (Some h) left (at, x, r, sp, usable, split, count, e) =
      (at, x, r, sp, usable, split, count, sym left ∙ e)

  ahead-to : (d : Decoder S W) (u b : List ℕ) (p : ℕ) (o : Option (Header × ℕ)) → left_of remaining d ≡ Some u →
      IsAheadBy Some (with_left d u) b p o → IsAheadBy remaining d b p o
  ahead-to d u b p None left (count, e) = (count, left ∙ e)
  ahead-to d u b p (Some h) left (at, x, r, sp, usable, split, count, e) =
      (at, x, r, sp, usable, split, count, left ∙ e)

  read-to : (E : Type 0) (e : Decoder S W) (c : List ℕ) (l : ℕ) (b : List ℕ) (p : ℕ) (x : Result Value (Error E)) →
      left_of remaining e ≡ Some c → IsValueRead {S = List ℕ} {E = E} any Some (with_left e c) l b p x →
      IsValueRead {E = E} any remaining e l b p x
  read-to E e c l b p (Ok v) left (zs, r, item, ahead) = (zs, r, item, ahead-to e c zs r e.pushed left ahead)
  read-to E e c l b p (Err x) left h = subst (λ o. IsRefusedBy o x (Refuses any b p (Some l))) (sym left) h

  pub known-read : (E : Type 0) (d e : Decoder S W) (l : ℕ) (x : Result Value (Error E)) →
      TakesBeforeAny remaining d e (λ f g. (xs : List ℕ) (q : ℕ) → IsAhead Some f xs q →
      IsValueRead {S = List ℕ} {E = E} any Some g l xs q x) →
      (b : List ℕ) (p : ℕ) → IsAhead remaining d b p → IsValueRead {E = E} any remaining e l b p x
  known-read E d e l x (s, taken, count, h, small) b p ahead =
      let (u, known) = known-left d b p d.pushed ahead in
      let (c, left, split) = rest-of (left_of remaining d) (left_of remaining e) u s known taken in
      read-to E e c l b p x left (h c b p (ahead-from d (s ++ c) b p d.pushed (known ∙ ap Some split) ahead))

-- the value that was read is what the item there gives
pub whole-reads : (E : Type 0) {S W : Type 0} (remaining : S → Option (List ℕ)) (d : Decoder S W) (l p : ℕ) (b : List ℕ)
    (v : Value) → d.pushed ≡ None → IsValueRead {E = E} any remaining d l b p (Ok v) →
    (i : Item) × (s : List ℕ) × (z : List ℕ) × Spells s i × (b ≡ s ++ z) ×
    (outcome (Some l) (given_value i) ≡ gives (tree_of v)) × (left_of remaining d ≡ Some z)
whole-reads E remaining d l p b v none (z, r, item, ahead) =
    let at : IsAheadBy remaining d z r None = subst (λ o. IsAheadBy remaining d z r o) none ahead in
    let (i, spelled, means, nests, fits, so) = item.read in
    (i, item.taken, z, spelled, item.split, value-gives i (Some l) (tree_of v) means nests, at.1)

-- where what is unread ends, with the head that is pending
pub whole-end : {S W : Type 0} (remaining : S → Option (List ℕ)) (d : Decoder S W) (pending : Option (Header × ℕ))
    (b : List ℕ) → IsReal pending → IsUnreadBy remaining d pending b →
    (reader_of remaining d).1 ≡ next_offset d.counter.count pending + length b
whole-end remaining d None b real left = ap (λ o. known_end o d.counter.count) left
whole-end remaining d (Some h) b real (x, y, hd, split, left, counted) =
    let at = (counted real).1 in
    let size : length b ≡ length x + length y = ap length split ∙ length-append x y in
    ap (λ o. known_end o d.counter.count) left ∙ (omega (arith, at, size))

-- an error is what the item there is refused for
pub whole-faults : {E : Type 0} (left : Option (List ℕ)) (e : Error E) (l p end : ℕ) (b s z : List ℕ) (i : Item) →
    Spells s i → b ≡ s ++ z → p + length b ≤ end + length z → IsRefusedBy left e (λ r. Refuses any b p (Some l) r) →
    IsFaultOf end (fault_of left e) (outcome (Some l) (given_value i))
whole-faults left (errors.Io x) l p end b s z i sp f fits h = fault_outside end (io_fault left)
    (outcome (Some l) (given_value i)) (io-outside left end (λ none. value-faults (h none) i s z end sp f fits))
whole-faults left (errors.Semantic None k) l p end b s z i sp f fits h = absurd h
whole-faults left errors.Memory l p end b s z i sp f fits h = tt
whole-faults left _ l p end b s z i sp f fits h = value-faults h i s z end sp f fits

no-level : (l : Limit) (n : ℕ) → n ≡ 0 → IsWithin l n
no-level None n flat = tt
no-level (Some l) n flat = omega arith

-- a head that stands for an item is that item
pub portable-reads : {S W : Type 0} (remaining : S → Option (List ℕ)) (d : Decoder S W) (pending : Option (Header × ℕ))
    (h : Header) (p : ℕ) (b : List ℕ) (v : Tree) (l : Limit) →
    pending ≡ Some (h, p) → MeansTree h v → IsUnreadBy remaining d pending b → (i : Item) × (s : List ℕ) ×
    (z : List ℕ) × Spells s i × (b ≡ s ++ z) × (outcome l (given_value i) ≡ gives v) × (left_of remaining d ≡ Some z)
portable-reads remaining d pending h p b v l is for u =
    let (x, y, hd, e, left, counted) = subst (λ o. IsUnreadBy remaining d o b) is u in
    let (i, sp, means, flat) = for x hd in
    (i, x, y, sp, e, value-gives i l v means (no-level l (nesting i) flat), left)

-- ---- the value ahead, whatever follows what is taken

-- what the value ahead was read as, where this head was pending
abbrev pub ReadSo : {W E : Type 0} → ℕ → Option (Header × ℕ) → Decoder (List ℕ) W → Decoder (List ℕ) W →
    Result Tree (Error E) → Type 0
ReadSo {W} {E} l pending d e r = (xs : List ℕ) (p : ℕ) → IsAheadBy Some d xs p pending →
    IsTreeRead {S = List ℕ} {E = E} any Some e l xs p r

-- a head that stands for an item is read without a byte
pub portable-ahead : (E : Type 0) {S W : Type 0} (remaining : S → Option (List ℕ)) (d : Decoder S W)
    (pending : Option (Header × ℕ)) (h : Header) (at l : ℕ) (v : Tree) → d.pushed ≡ None →
    pending ≡ Some (h, at) → MeansTree h v → TakesBeforeAny remaining d d (λ f g. ReadSo {E = E} l pending f g (Ok v))
portable-ahead E remaining d pending h at l v none is stands =
    so-unread remaining d d (λ f g. ReadSo {E = E} l pending f g (Ok v)) (refl, refl) (λ u xs p ahead.
    let (here, x, r, sp, usable, split, count, left) = subst (λ o. IsAheadBy Some (with_left d u) xs p o) is ahead in
    let (i, spelled, means, flat) = stands x sp in
    let front : Front xs p h x r = record { spelled = sp; usable = usable; split = split } in
    let fits = front-fits front in (
      r,
      p + length x,
      record {
        taken = x;
        read = (i, spelled, means, omega (arith, flat), fits, tt);
        split = split;
        at = refl;
      },
      ahead-at Some (with_left d u) (p + length x) r none (count, left),
    ))

-- the head was pushed first
pub pushed-ahead : (E : Type 0) {S W : Type 0} (remaining : S → Option (List ℕ)) (d e f : Decoder S W)
    (pending : Option (Header × ℕ)) (l : ℕ) (x : Result Value (Error E)) → e.pushed ≡ pending → ReadsNothing d e →
    TakesBeforeAny remaining e f (λ a b. (xs : List ℕ) (p : ℕ) → IsAhead Some a xs p →
    IsValueRead {S = List ℕ} {E = E} any Some b l xs p x) →
    TakesBeforeAny remaining d f (λ a b. ReadSo {E = E} l pending a b (result_map tree_of x))
pushed-ahead E remaining d e f pending l x pushed unread (s, taken, sum, h, bytes) = (
  s,
  subst (λ r. Consumes r (left_of remaining f) s) (unread-left remaining d e unread) taken,
  (let count = unread-count d e unread in omega (arith, sum, count)),
  λ c xs p ahead. (h c xs p (subst (λ o. IsAheadBy Some (with_left e (s ++ c)) xs p o) (sym pushed)
      (ahead-same d e (s ++ c) xs p pending (unread-count d e unread) ahead))),
  bytes,
)
