-- What is said of a decoder whatever follows the bytes that it takes.
use Rattle.std.proofs.Common.{◌≡◌, ℕ, ◌+◌, ◌<◌, ◌≤◌, inr, List, [], ◌++◌, Option, Some, None, Result, Ok, Err, OnOk}
use Rattle.std.proofs.Common.{IfSome, IfNone, MatchOption, refl, sym, ap, ◌∙◌, subst, arith, append_assoc, append-nil}
use Rattle.std.proofs.{Common.{length-append, length}, KnownBytes.{Consumes-nil, Consumes-trans}}
use Rattle.std.{proofs.lemmas.List.Elements.All-append, specs.Io.KnownBytes.Consumes}
use Rattle.ciborium_ll.proofs.{Decoders.{unread-left, begun-left, unread-count}, Unread.{pulls-head, reads-string}}
use Rattle.ciborium_ll.{proofs.Unread.rest-of, specs.{Bytes.{AreBytes, greatest_offset}, Decoded.IsVisited}}
use Rattle.ciborium_ll.specs.Decoding.{HasBegun, IsAhead, IsAheadBy, ReadsNothing, Pulls, PullsTo, Takes}
use Rattle.ciborium_ll.specs.{Decoding.{TakesBeforeAny, with_left, left_of}, ReaderSteps.IsHeadTaken}
use Rattle.ciborium_ll.specs.{StringRefusal.IsAllowed, Strings.{ContentRefuses, IsStringTaken}}
use Rattle.ciborium_ll.specs.declared.{decoder.Decoder.Decoder, header.Error.{Error as LlError, TheVariants.Io}}
use Rattle.ciborium_ll.specs.declared.header.{Error.TheVariants.{Syntax, TooLong, Memory}, Header.Header}
use Rattle.ciborium_ll.specs.declared.strings.StringType.{StringType}
use Rattle.ciborium_value.specs.{Refuses.Refuses, Spelling.{Spelling, any, deterministic, IsReadAs}, Tree.Tree}
use Rattle.ciborium_value.specs.{View.tree_of, declared.tree.Value.Value, inner.ReadItems.string_tree}
use Rattle.ciborium.proofs.{Readers.Outcomes.left-at, Turns.{Fronts.ahead-at, Pulled.refused-from}}
use Rattle.ciborium.specs.Errors.{from_ll}
use Rattle.ciborium.specs.ValueAnswers.{IsRefusedBy, IsTakenFrom, TakesBytes}
use Rattle.ciborium.specs.declared.de.{error.Error.Error, front.Part.Part}
use Rattle.ciborium.specs.inner.StringAnswers.{IsStringPart, IsStringRead}
use Rattle.ciborium.specs.inner.Turns.{IsTreeRead}
use Rattle.ciborium.specs.inner.ValuesInBytes.{IsAt, StandsAt}
use Rattle.ciborium_ll.specs.ReaderSteps as reading
use Rattle.ciborium_ll.specs.Refusal as refusal
use Rattle.ciborium.specs.declared.de.error.Error.TheVariants as errors

no-bytes : AreBytes []
no-bytes k d h = absurd (omega (arith, h))

module _ {S W : Type 0} (remaining : S → Option (List ℕ)) where
  pub so-map : (a b : Decoder S W) (P Q : Decoder (List ℕ) W → Decoder (List ℕ) W → Type 0) →
      ((u v : List ℕ) → P (with_left a u) (with_left b v) → Q (with_left a u) (with_left b v)) →
      TakesBeforeAny remaining a b P → TakesBeforeAny remaining a b Q
  so-map a b P Q f (x, taken, count, h, bytes) = (x, taken, count, λ c. f (x ++ c) c (h c), bytes)

  -- one step behind another
  pub so-then : (a b c : Decoder S W) (P Q R : Decoder (List ℕ) W → Decoder (List ℕ) W → Type 0) →
      ((u v w : List ℕ) → P (with_left a u) (with_left b v) → Q (with_left b v) (with_left c w) →
      R (with_left a u) (with_left c w)) →
      TakesBeforeAny remaining a b P → TakesBeforeAny remaining b c Q → TakesBeforeAny remaining a c R
  so-then a b c P Q R join (x, taken, count, h, low) (y, more, sum, k, low_more) = (
    x ++ y,
    Consumes-trans (left_of remaining a) (left_of remaining b) (left_of remaining c) x y taken more,
    omega (arith, count, sum, length-append x y),
    λ z. subst (λ u. R (with_left a u) (with_left c z)) (sym (append_assoc x y z))
        (join (x ++ (y ++ z)) (y ++ z) z (h (y ++ z)) (k z)),
    All-append (λ n. n < 256) x y low low_more,
  )

  -- the same, with what was left between them
  pub so-both : (a b c : Decoder S W) (P Q : Decoder (List ℕ) W → Decoder (List ℕ) W → Type 0) →
      TakesBeforeAny remaining a b P → TakesBeforeAny remaining b c Q →
      TakesBeforeAny remaining a c (λ d f. (v : List ℕ) × P d (with_left b v) × Q (with_left b v) f)
  so-both a b c P Q = so-then a b c P Q (λ d f. (v : List ℕ) × P d (with_left b v) × Q (with_left b v) f)
      (λ u v w h k. (v, h, k))

  -- nothing is read
  pub so-unread : (a b : Decoder S W) (P : Decoder (List ℕ) W → Decoder (List ℕ) W → Type 0) → ReadsNothing a b →
      ((u : List ℕ) → P (with_left a u) (with_left b u)) → TakesBeforeAny remaining a b P
  so-unread a b P unread h = (
    [],
    subst (λ s. Consumes (left_of remaining a) s []) (sym (unread-left remaining a b unread))
        (Consumes-nil (left_of remaining a)),
    (let same = unread-count a b unread in omega (arith, same)),
    λ c. h c,
    no-bytes,
  )

-- a head that was pulled
pub head-pulled : {S W : Type 0} (E : Type 0) (remaining : S → Option (List ℕ)) (a b : Decoder S W)
    (result : Result Header (LlError E)) →
    IfSome a.pushed (λ head. (result ≡ Ok head.0) × (b.last ≡ head.1) × ReadsNothing a b) →
    IfNone a.pushed (Takes remaining a b (λ x. IsHeadTaken {E = E} x a.counter.count result)) →
    IfNone a.pushed (b.last ≡ a.counter.count) →
    TakesBeforeAny remaining a b (λ d e. (xs : List ℕ) (p : ℕ) → IsAhead Some d xs p → Pulls {E = E} Some e xs p result)
head-pulled {S} E remaining a b result pushed taken last = by a.pushed pushed taken last
  where
    by : (o : Option (Header × ℕ)) → IfSome o (λ head. (result ≡ Ok head.0) × (b.last ≡ head.1) × ReadsNothing a b) →
        IfNone o (Takes remaining a b (λ x. IsHeadTaken {E = E} x a.counter.count result)) →
        IfNone o (b.last ≡ a.counter.count) →
        Takes remaining a b (λ x. (c : List ℕ) (xs : List ℕ) (p : ℕ) → IsAheadBy Some (with_left a (x ++ c)) xs p o →
        Pulls {E = E} Some (with_left b c) xs p result)
    by None h (x, consumed, count, t, bytes) here = (
      x,
      consumed,
      count,
      λ c xs p s. pulls-head {E = E} (Some (x ++ c)) (Some c) b.last b.counter.count xs
          a.counter.count p result s here (x, refl, count, t, bytes),
      bytes,
    )
    by (Some head) (same, here, unread) t l = (
      [],
      subst (λ s. Consumes (left_of remaining a) s []) (sym (unread-left remaining a b unread))
          (Consumes-nil (left_of remaining a)),
      (let is = unread-count a b unread in omega (arith, is)),
      λ c xs p s. subst (λ r. PullsTo {E = E} b.last b.counter.count (Some c) xs p r) (sym same)
          (s.1, s.2, s.3, s.4, s.5, here ∙ s.0, unread-count a b unread ∙ s.6, s.7),
      no-bytes,
    )

-- what the lowest layer's `pull` answers
abbrev pub PullsAll : {W E : Type 0} → Decoder (List ℕ) W → Decoder (List ℕ) W → Result Header (LlError E) → Type 0
PullsAll {W} {E} d e x = (xs : List ℕ) (p : ℕ) → IsAhead Some d xs p → Pulls {E = E} Some e xs p x

-- what the calls that read a string answer
abbrev pub StringSo : {W E : Type 0} → StringType → Option ℕ → ℕ → Decoder (List ℕ) W → Decoder (List ℕ) W →
    Result Value (Error E) → Type 0
StringSo {W} {E} type len at d e x = (xs : List ℕ) (p : ℕ) → IsAt Some d xs p →
    IsStringRead {S = List ℕ} {E = E} type Some e len at xs p x

abbrev pub PartSo : {W E : Type 0} → StringType → Option ℕ → ℕ → Decoder (List ℕ) W → Decoder (List ℕ) W →
    Result Part (Error E) → Type 0
PartSo {W} {E} type len at d e x = (xs : List ℕ) (p : ℕ) → IsAt Some d xs p →
    IsStringPart {S = List ℕ} {E = E} type Some e len at xs p x

string-read : (E : Type 0) {S W : Type 0} (type : StringType) (remaining : S → Option (List ℕ)) (d e : Decoder S W)
    (len : Option ℕ) (xs : List ℕ) (p : ℕ) (old new : List ℕ) (v : Value) →
    old ≡ [] → tree_of v ≡ string_tree type new → Takes remaining d e (λ b. (added : List ℕ) × (new ≡ old ++ added) ×
    IsStringTaken {E = E} type len d.last b d.counter.count (Ok tt) added) →
    IsAt remaining d xs p → IsStringRead {S = S} {E = E} type remaining e len d.last xs p (Ok v)
string-read E type remaining d e len xs p old new v none tree (x, taken, count, (added, is, s), bytes) at =
    let k = rest-of (left_of remaining d) (left_of remaining e) xs x at.1 taken in
    let less = e.counter.fits in
    let start : d.counter.count ≡ p = at.0 in (
      x,
      added,
      k.0,
      subst (λ q. IsStringTaken {E = E} type len d.last x q (Ok tt) added) start s,
      tree ∙ ap (string_tree type) (is ∙ ap (λ (z : List ℕ). z ++ added) none),
      k.2,
      (count ∙ ap (λ q. q + length x) start, k.1),
      omega (arith, less, count, start),
    )

-- a string that was appended to an empty one
pub string-taken : (E : Type 0) {S W : Type 0} (remaining : S → Option (List ℕ)) (a b : Decoder S W) (type : StringType)
    (len : Option ℕ) (old new : List ℕ) (v : Value) → old ≡ [] → tree_of v ≡ string_tree type new →
    Takes remaining a b (λ y. (added : List ℕ) × (new ≡ old ++ added) ×
    IsStringTaken {E = E} type len a.last y a.counter.count (Ok tt) added) →
    TakesBeforeAny remaining a b (λ d e. StringSo {E = E} type len a.last d e (Ok v))
string-taken E remaining a b type len old new v none tree t = (
  t.0,
  t.1,
  t.2,
  λ z xs p at. string-read E type Some (with_left a (t.0 ++ z)) (with_left b z) len xs p old new v none tree
      (t.0, refl, t.2, t.3, t.4) at,
  t.4,
)

-- a string that was refused
pub string-refused : (E : Type 0) {S W : Type 0} (remaining : S → Option (List ℕ)) (a b : Decoder S W)
    (type : StringType) (len : Option ℕ) (x : LlError E) (A : List ℕ → List ℕ → Type 0) →
    Takes remaining a b (λ y. (added : List ℕ) × A added y ×
    IsStringTaken {E = E} type len a.last y a.counter.count (Err x) added) →
    TakesBeforeAny remaining a b (λ d e. StringSo {E = E} type len a.last d e (Err (from_ll x)))
string-refused E remaining a b type len x A (y, taken, count, h, bytes) = (
  y,
  taken,
  count,
  λ c xs p s. refused-from (Some c) x (λ f. ContentRefuses type len a.last xs p f)
      (subst (λ q. reading.IsRefusalOf (Some c) x (λ f. ContentRefuses type len a.last xs q f)) s.0
      (reads-string {E = E} type len a.last a.counter.count b.counter.count (Some (y ++ c)) (Some c) x xs A
      (y, refl, count, h, bytes) s.1)),
  bytes,
)

-- a string whose payload could not be looked at where it stands
pub held-refused : (E : Type 0) {S W V : Type 0} (remaining : S → Option (List ℕ)) (a b : Decoder S W)
    (type : StringType) (n : ℕ) (Makes : List ℕ → V → Type 0) (x : LlError E) →
    Takes remaining a b (λ y. IsVisited n Makes y a.counter.count (Some (Err x))) →
    TakesBeforeAny remaining a b (λ d e. StringSo {E = E} type (Some n) a.last d e (Err (from_ll x)))
held-refused E remaining a b type n Makes x (y, taken, count, h, bytes) =
    string-refused E remaining a b type (Some n) x (λ _ _. Unit {0}) (y, taken, count, ([], tt, by x h), bytes)
  where
    by : (x : LlError E) → IsVisited n Makes y a.counter.count (Some (Err x)) →
        IsStringTaken {E = E} type (Some n) a.last y a.counter.count (Err x) []
    by (Io e) (none, some, fits) = inr (fits, (subst (λ (z : List ℕ). length z < n) (sym none) some, refl))
    by (Syntax at) h = absurd h
    by TooLong h = absurd h
    by Memory h = absurd h

-- a text whose payload is none
pub held-no-text : (E : Type 0) {S W : Type 0} (remaining : S → Option (List ℕ)) (a b : Decoder S W) (type : StringType)
    (n : ℕ) → Takes remaining a b (λ y. (length y ≡ n) × (a.counter.count + n ≤ greatest_offset) × ¬ IsAllowed type y) →
    TakesBeforeAny remaining a b (λ d e. StringSo {E = E} type (Some n) a.last d e (Err (from_ll (Syntax a.last))))
held-no-text E remaining a b type n (y, taken, count, (size, fits, unlike), bytes) =
    string-refused E remaining a b type (Some n) (Syntax a.last) (λ _ _. Unit {0})
    (y, taken, count, ([], tt, inr (fits, (refl, size, unlike, refl))), bytes)

-- ---- what was taken of a reader

-- what reading a value answers
abbrev pub TreeSo : {W E : Type 0} → Spelling → ℕ → Decoder (List ℕ) W → Decoder (List ℕ) W → Result Tree (Error E) →
    Type 0
TreeSo {W} {E} spelling l d e x = (xs : List ℕ) (p : ℕ) → StandsAt spelling Some d xs p →
    IsTreeRead {S = List ℕ} {E = E} spelling Some e l xs p x

begun-stands : {W : Type 0} (spelling : Spelling) (d : Decoder (List ℕ) W) (xs : List ℕ) →
    d.pushed ≡ None → IsAt Some d xs 0 → StandsAt spelling Some d xs 0
begun-stands any d xs none at = ahead-at Some d 0 xs none at
begun-stands (deterministic order) d xs none at = (
  ahead-at Some d 0 xs none at,
  subst (λ o. MatchOption o (Unit {0}) (λ head. d.counter.count ≡ head.1 + d.head_len)) (sym none) tt,
)

-- what was taken, where that is said whatever follows it
pub taken-refused : (E : Type 0) (spelling p s l : _) (e : Error E) → ((c : List ℕ) →
    IsRefusedBy (Some c) e (Refuses spelling (s ++ c) p (Some l))) → IsTakenFrom {E = E} spelling p s l (Err e)
taken-refused E spelling p s l (errors.Io e) f =
    subst (λ z. Refuses spelling z p (Some l) refusal.io) (append-nil s) (f [] refl)
taken-refused E spelling p s l u f = f

pub taken-tree : (E : Type 0) {S W : Type 0} (spelling : Spelling) (d : Decoder S W) (l p : ℕ) (s : List ℕ)
    (r : Result Tree (Error E)) → OnOk r (d.pushed ≡ None) →
    ((c : List ℕ) → IsTreeRead {S = List ℕ} {E = E} spelling Some (with_left d c) l (s ++ c) p r) →
    IsTakenFrom {E = E} spelling p s l r
taken-tree E spelling d l p s (Ok v) none f =
    let (zs, q, item, at) = f [] in
    let left : [] ≡ zs = cc (left-at Some (with_left d []) q zs none at) in
    let whole : item.taken ≡ s = sym (append-nil item.taken) ∙ ap (λ (z : List ℕ). item.taken ++ z) left ∙
    sym item.split ∙ append-nil s in
    subst (λ z. IsReadAs spelling z p (Some l) v) whole item.read
taken-tree E spelling d l p s (Err e) none f = taken-refused E spelling p s l e f

-- what was taken of a reader that was lent
pub taken-lent : (E : Type 0) {S W : Type 0} (spelling : Spelling) (remaining : S → Option (List ℕ)) (a b : Decoder S W)
    (lent back : S) (l : ℕ) (x : Result Tree (Error E)) → HasBegun a lent 0 → OnOk x (b.pushed ≡ None) →
    back ≡ b.reader.now → TakesBeforeAny remaining a b (λ d e. TreeSo {E = E} spelling l d e x) →
    TakesBytes {E = E} spelling 0 (remaining lent) l (remaining back) x
taken-lent E {S} {W} spelling remaining a b lent back l x begins rests given (s, taken, count, h, bytes) =
    let zero : a.counter.count ≡ 0 = begins.count in
    let less = b.counter.fits in (
      s,
      subst (λ r. Consumes (remaining lent) r s) (ap remaining (sym given)) (subst (λ r. Consumes r
          (left_of remaining b) s)
          (begun-left remaining a lent 0 begins) taken),
      omega (arith, count, zero, less),
      taken-tree E spelling b l 0 s x rests (λ c. h c (s ++ c) 0
          (begun-stands spelling (with_left a (s ++ c)) (s ++ c) begins.pushed (begins.count, refl))),
      bytes,
    )

-- ---- where nothing was read

pub ahead-same : {S W : Type 0} (d e : Decoder S W) (u xs : List ℕ) (p : ℕ) (o : Option (Header × ℕ)) →
    e.counter.count ≡ d.counter.count → IsAheadBy Some (with_left d u) xs p o → IsAheadBy Some (with_left e u) xs p o
ahead-same d e u xs p None same (count, left) = (same ∙ count, left)
ahead-same d e u xs p (Some h) same (at, x, r, sp, usable, split, count, left) =
    (at, x, r, sp, usable, split, same ∙ count, left)
