-- A call takes a beginning of what is unread, and nothing else.
use Rattle.std.proofs.Common.{◌≡◌, ◌≤◌, ℕ, ◌+◌, List, [], ◌++◌, length, Option, Some, None, refl, ◌∙◌, sym, ap, subst}
use Rattle.std.proofs.{Common.{arith, le_refl, le_trans, length-append}, KnownBytes.Consumes-nil}
use Rattle.std.specs.{Borrow.GName, Io.KnownBytes.Consumes}
use Rattle.ciborium_ll.specs.{declared.decoder.Decoder.Decoder, declared.header.Header.Header, Decoding.HasBegun}
use Rattle.ciborium_ll.specs.Decoding.{HasSameReader, Takes, left_of}
use Rattle.ciborium_ll.proofs.{Advancing.Advances-then, Decoders.begun-left, Unread.rest-of}
use Rattle.ciborium_value.specs.{Ahead.{Span, Rest, bottom, parts, pairs, entry, level_due, end_of}, Sources.TakesOnly}
use Rattle.ciborium.specs.{declared.de.byte_source.ByteSource.ByteSource, inner.ByteSources.{HasTaken, IsUnread}}
use Rattle.ciborium.specs.inner.ByteSources.{IsUnreadBy, KeepsSource, end_at, known_end, pending_head_weight, reader_of}
use Rattle.ciborium.specs.inner.{ByteSources.weight_left, Unread.{IsRest, ending}}
use Rattle.ciborium.specs.{NextItems.TakesTo, TypedAnswers.TakesBeginning}

-- whatever holds of the bytes
pub takes-only : {S W : Type 0} (remaining : S → Option (List ℕ)) (old new : Decoder S W) (P : List ℕ → Type 0) →
    new.reader.ghost_name ≡ old.reader.ghost_name → Takes remaining old new P → TakesOnly (HasTaken remaining) old new
unfolding HasTaken
takes-only remaining old new P name takes first (named, taken) = (
  name ∙ named,
  Advances-then (left_of remaining first) (left_of remaining old) (left_of remaining new) first.counter.count
      old.counter.count new.counter.count (λ _. Unit {0}) P (λ _. Unit {0}) (λ x y p k. tt) taken takes,
)

-- no more than that since itself
pub taken-none : {S W : Type 0} (remaining : S → Option (List ℕ)) (d : Decoder S W) → HasTaken remaining d d
unfolding HasTaken
taken-none remaining d = (
  refl,
  (
    [],
    Consumes-nil (left_of remaining d),
    omega arith,
    tt,
    (λ k n h. absurd (omega (arith, h))),
  ),
)

-- the reader is the same
pub taken-name : {S W : Type 0} (remaining : S → Option (List ℕ)) (first d : Decoder S W) → HasTaken remaining first d →
    d.reader.ghost_name ≡ first.reader.ghost_name
unfolding HasTaken
taken-name remaining first d (named, taken) = named

-- one state behind another
pub taken-then : {S W : Type 0} (remaining : S → Option (List ℕ)) (a b c : Decoder S W) → HasTaken remaining a b →
    HasTaken remaining b c → HasTaken remaining a c
unfolding HasTaken
taken-then remaining a b c (named, taken) (name, more) = (
  name ∙ named,
  Advances-then (left_of remaining a) (left_of remaining b) (left_of remaining c) a.counter.count b.counter.count
      c.counter.count (λ _. Unit {0}) (λ _. Unit {0}) (λ _. Unit {0}) (λ x y p k. tt) taken more,
)

-- where nothing is taken
pub takes-none : {S W : Type 0} (remaining : S → Option (List ℕ)) (old new : Decoder S W) →
    new.reader.ghost_name ≡ old.reader.ghost_name → new.counter.count ≡ old.counter.count →
    left_of remaining new ≡ left_of remaining old → TakesOnly (HasTaken remaining) old new
unfolding HasTaken
takes-none remaining old new name count left first (named, taken) =
    let (b, consumes, counted, p, bytes) = taken in (
      name ∙ named,
      (
        b,
        subst (λ o. Consumes (left_of remaining first) o b) (sym left) consumes,
        count ∙ counted,
        p,
        bytes,
      ),
    )

-- from a decoder that was begun on a lent reader to the reader
pub taken-to : {S W : Type 0} (remaining : S → Option (List ℕ)) (old new : Decoder S W) (lent x : S) (p : ℕ) →
    HasBegun old lent p → (old.reader.ghost_name ≡ new.reader.ghost_name → x ≡ new.reader.now) →
    HasTaken remaining old new → TakesTo p new.counter.count (remaining lent) (remaining x)
unfolding HasTaken
taken-to remaining old new lent x p begins back (name, (b, consumes, counted, none, bytes)) = (
  b,
  subst (λ o. Consumes (remaining lent) o b) (sym (ap remaining (back (sym name))))
      (subst (λ o. Consumes o (left_of remaining new) b) (begun-left remaining old lent p begins) consumes),
  counted ∙ ap (λ n. n + length b) begins.count,
)

pub taken-beginning : {S W : Type 0} (remaining : S → Option (List ℕ)) (old new : Decoder S W) (lent x : S) (p : ℕ) →
    HasBegun old lent p → (old.reader.ghost_name ≡ new.reader.ghost_name → x ≡ new.reader.now) →
    HasTaken remaining old new → TakesBeginning (remaining lent) (remaining x)
taken-beginning remaining old new lent x p begins back taken =
    let (b, consumes, counted) = taken-to remaining old new lent x p begins back taken in (b, consumes)

-- ---- where what is there ends

-- the reader is the one that was held, and of what was unread a beginning was taken
abbrev pub IsKept : {S W : Type 0} → (S → Option (List ℕ)) → ByteSource S W → ByteSource S W → Type 0
IsKept remaining old new = HasSameReader old.decoder new.decoder ×
    TakesOnly (HasTaken remaining) old.decoder new.decoder

-- a step that keeps the source
pub is-kept : {S W : Type 0} {remaining : S → Option (List ℕ)} {old new : ByteSource S W} →
    KeepsSource remaining old new → IsKept remaining old new
is-kept kept = (kept.same_reader, kept.only)

-- nothing was done
pub keeps-none : {S W : Type 0} (remaining : S → Option (List ℕ)) (s : ByteSource S W) → s.pending ≡ None →
    KeepsSource remaining s s
keeps-none remaining s none =
    record { same_reader = refl; only = λ first t. t; levels = refl; pending = none; no_more = le_refl _ }

-- one step after another
pub keeps-then : {S W : Type 0} {remaining : S → Option (List ℕ)} {old mid new : ByteSource S W} →
    KeepsSource remaining old mid → KeepsSource remaining mid new → KeepsSource remaining old new
keeps-then one more = record {
  same_reader = more.same_reader ∙ one.same_reader;
  only = λ first t. more.only first (one.only first t);
  levels = more.levels ∙ one.levels;
  pending = more.pending;
  no_more = le_trans more.no_more one.no_more;
}

-- the same behind what may have left a head pending
pub keeps-from : {S W : Type 0} {remaining : S → Option (List ℕ)} {old mid new : ByteSource S W} →
    IsKept remaining old mid → mid.levels ≡ old.levels → weight_left mid ≤ weight_left old →
    KeepsSource remaining mid new → KeepsSource remaining old new
keeps-from one levels less more = record {
  same_reader = more.same_reader ∙ one.0;
  only = λ first t. more.only first (one.1 first t);
  levels = more.levels ∙ levels;
  pending = more.pending;
  no_more = le_trans more.no_more less;
}

-- what the decoder takes
pub keeps-taken : {S W : Type 0} (remaining : S → Option (List ℕ)) (old new : ByteSource S W) (P : List ℕ → Type 0) →
    HasSameReader old.decoder new.decoder → Takes remaining old.decoder new.decoder P → new.levels ≡ old.levels →
    new.pending ≡ None → KeepsSource remaining old new
keeps-taken remaining old new P same taken levels none =
    let count = taken.2 in
    let weight : pending_head_weight new.pending ≡ 0 = ap pending_head_weight none in record {
      same_reader = same;
      only = takes-only remaining old.decoder new.decoder P same taken;
      levels = levels;
      pending = none;
      no_more = omega (arith, count, weight);
    }

-- the bytes were left alone
pub kept-alone : {S W : Type 0} (remaining : S → Option (List ℕ)) (old mid new : ByteSource S W) →
    new.decoder ≡ mid.decoder → IsKept remaining old mid → IsKept remaining old new
kept-alone {S = S} {W = W} remaining old mid new same kept = (
  ap (λ (d : Decoder S W). d.reader.ghost_name) same ∙ kept.0,
  λ first t. subst (HasTaken remaining first) (sym same) (kept.1 first t),
)

pub known-unread : {S W : Type 0} (remaining : S → Option (List ℕ)) (d : Decoder S W) (pending : Option (Header × ℕ))
    (b : List ℕ) → IsUnreadBy remaining d pending b → (u : List ℕ) × (left_of remaining d ≡ Some u)
known-unread remaining d None b e = (b, e)
known-unread remaining d (Some h) b (x, y, hd, split, left, counted) = (y, left)

-- behind what was taken it ends where it ended
pub takes-end : {S W : Type 0} (remaining : S → Option (List ℕ)) (d e : Decoder S W) (P : List ℕ →
    Type 0) (w : List ℕ) →
    left_of remaining d ≡ Some w → Takes remaining d e P → (reader_of remaining e).1 ≡ d.counter.count + length w
takes-end remaining d e P w left (x, consumes, counted, p, bytes) =
    let (r, after, split) = rest-of (left_of remaining d) (left_of remaining e) w x left consumes in
    let size : length w ≡ length x + length r = ap length split ∙ length-append x r in
    ap (λ o. known_end o e.counter.count) after ∙ (omega (arith, counted, size))

pub same-end : {S W : Type 0} (remaining : S → Option (List ℕ)) (old new : ByteSource S W) →
    TakesOnly (HasTaken remaining) old.decoder new.decoder → (b : List ℕ) → IsUnread remaining old b →
    end_at remaining new ≡ end_at remaining old
unfolding HasTaken
same-end remaining old new only b u =
    let (w, left) = known-unread remaining old.decoder old.pending b u in
    let (name, taken) = only old.decoder (taken-none remaining old.decoder) in
    takes-end remaining old.decoder new.decoder (λ _. Unit {0}) w left taken ∙
    sym (ap (λ o. known_end o old.decoder.counter.count) left)

pub kept-reader : {S W : Type 0} (remaining : S → Option (List ℕ)) (old new : ByteSource S W) →
    IsKept remaining old new →
    (b : List ℕ) → IsUnread remaining old b → reader_of remaining new.decoder ≡ reader_of remaining old.decoder
kept-reader remaining old new (same, only) b u = ap (λ n. (n, end_at remaining new)) same ∙
    ap (λ n. (old.decoder.reader.ghost_name, n)) (same-end remaining old new only b u)

-- what follows in the unfinished containers begins where the outermost item ends, or before that
end-behind : (n m : ℕ) (span : Span) (b s r : List ℕ) → b ≡ s ++ (ending span ++ r) → n ≤ m + length r →
    n ≤ m + length b
end-behind n m span b s r e le =
    let size = ap length e ∙ length-append s (ending span ++ r) in
    let more = length-append (ending span) r in
    omega (arith, size, more, le)

pub rest-end : (reader : GName × ℕ) (b : List ℕ) (f : Rest) → IsRest reader b f → reader.1 ≤ end_of f + length b
rest-end reader b (bottom m r) (e, name, all) = let size = ap length e in omega (arith, size, all)
rest-end reader b (parts span is f) (s, r, left, rest, e) = end-behind _ _ span b s r e (rest-end reader r f rest)
rest-end reader b (pairs span ps f) (s, r, left, rest, e) = end-behind _ _ span b s r e (rest-end reader r f rest)
rest-end reader b (entry v span ps f) (t, c, sp, (s, r, left, rest, g), e) =
    let size = ap length e ∙ length-append t c in
    let behind = end-behind (reader.1) (end_of f) span c s r g (rest-end reader r f rest) in
    omega (arith, size, behind)
rest-end reader b (level_due f) h = rest-end reader b f h
