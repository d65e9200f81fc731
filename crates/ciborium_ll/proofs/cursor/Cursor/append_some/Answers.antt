use Rattle.std.proofs.Common.{◌≡◌, ℕ, ◌+◌, ◌<◌, ◌≤◌, Bool, List, [], ◌++◌, length, take, Option, Some, Ok}
use Rattle.std.proofs.Common.{Err, min, append-nil, ap, sym, ◌∙◌, arith, length-take-le}
use Rattle.std.proofs.{KnownBytes.{Consumes-kept, Consumes-nil, Consumes-trans}, lemmas.List.nil_from_length}
use Rattle.std.{proofs.lemmas.Result.err_from_is_err_and, specs.Io.KnownBytes.Keeps}
use Rattle.ciborium_ll.specs.{Accesses.AppendsHeld, Bytes.greatest_offset, FirstHeads.IsHeadIo, Strings.IsSomeTaken}
use Rattle.ciborium_ll.specs.declared.header.Error.{Error, TheVariants.{Io, TooLong, Memory}}
use Rattle.ciborium_ll.{proofs.Advancing.Filled, specs.ReaderSteps.{Advances, IsFillTaken}}
use Rattle.ciborium_ll.proofs.cursor.Cursor.append_some.Goals as goal

kept-then : (a b c : Option (List ℕ)) (p q : ℕ) (P Q : List ℕ → Type 0) → Keeps a b → ((x : List ℕ) → P x → Q x) →
    Advances b c p q P → Advances a c p q Q
kept-then a b c p q P Q kept f (x, taken, count, h, bytes) =
    (x, Consumes-trans a b c [] x (Consumes-kept a a b [] (Consumes-nil a) kept) taken, count, f x h, bytes)

none-kept : (a b : Option (List ℕ)) (p : ℕ) (P : List ℕ → Type 0) → Keeps a b → P [] → Advances a b p p P
none-kept a b p P kept h =
    ([], Consumes-kept a a b [] (Consumes-nil a) kept, omega arith, h, λ k d lt. absurd (omega (arith, lt)))

-- what is held was refused
held-refused : {E : Type 0} (a b : Option (List ℕ)) (can_fail : Bool) (p n : ℕ) (e : Error E) (old new : List ℕ) →
    0 < n → AppendsHeld {E = E} a b can_fail n (Err e) old new →
    Advances a b p p (λ x. IsSomeTaken {E = E} n x (Err e) old new)
held-refused {E} a b can_fail p n (Io e) old new some (kept, same, end) =
    none-kept a b p (λ x. IsSomeTaken {E = E} n x (Err (Io e)) old new) kept (some, same)
held-refused {E} a b can_fail p n Memory old new some (kept, same) =
    none-kept a b p (λ x. IsSomeTaken {E = E} n x (Err Memory) old new) kept (omega arith, same)
held-refused {E} a b can_fail p n u old new some h = absurd h

-- none was given, at the end
none-given : {E : Type 0} (a b : Option (List ℕ)) (can_fail : Bool) (p n k : ℕ) (e : Error E) (old new : List ℕ) →
    0 < n → k ≡ 0 → IsHeadIo e → AppendsHeld {E = E} a b can_fail n (Ok (Some k)) old new →
    Advances a b p p (λ x. IsSomeTaken {E = E} n x (Err e) old new)
none-given {E} a b can_fail p n k (Io e) old new some none io (fits, (x, taken, len, is, good), end) =
    let nil = nil_from_length x (len ∙ none) in
    (x, taken, omega (arith, len), (omega (arith, len), is ∙ ap (λ l. old ++ l) nil ∙ append-nil old), good)
none-given {E} a b can_fail p n k u old new some none io h = absurd io

-- so many were given
some-given : (E : Type 0) (a b : Option (List ℕ)) (can_fail : Bool) (p n k : ℕ) (old new : List ℕ) → (k ≡ 0 → ⊥) →
    AppendsHeld {E = E} a b can_fail n (Ok (Some k)) old new →
    Advances a b p (p + k) (λ x. IsSomeTaken {E = E} n x (Ok k) old new)
some-given E a b can_fail p n k old new some (fits, (x, taken, len, is, good), end) =
    (x, taken, omega (arith, len), (omega (arith, some), fits, len, is), good)

-- a piece was read
piece-read : (a b c : Option (List ℕ)) (p q n size : ℕ) (scratch piece old mid new : List ℕ) →
    size ≡ min n (length scratch) → 0 < n → 0 < length scratch → length piece ≡ length (take size scratch) →
    Keeps a b × (mid ≡ old) → new ≡ mid ++ piece → Advances b c p q (λ x. Filled x p piece) →
    Advances a c p q (λ x. (0 < size) × (size ≤ n) × (length x ≡ size) × (new ≡ old ++ x))
piece-read a b c p q n size scratch piece old mid new least some room len (kept, same) items =
    kept-then a b c p q (λ x. Filled x p piece) _ kept (λ x (is, fits). (
      omega (arith, least, some, room),
      omega (arith, least),
      ap length is ∙ len ∙ length-take-le size scratch (omega (arith, least)),
      items ∙ ap (λ l. l ++ piece) same ∙ ap (λ l. old ++ l) (sym is),
    ))

-- it was not appended
piece-lost : (a b c : Option (List ℕ)) (p q n size : ℕ) (scratch piece old mid new : List ℕ) →
    size ≡ min n (length scratch) → length piece ≡ length (take size scratch) → Keeps a b × (mid ≡ old) → new ≡ mid →
    Advances b c p q (λ x. Filled x p piece) → Advances a c p q (λ x. (length x ≤ n) × (new ≡ old))
piece-lost a b c p q n size scratch piece old mid new least len (kept, same) items =
    kept-then a b c p q (λ x. Filled x p piece) _ kept (λ x (is, fits).
    (omega (arith, least, ap length is, len, length-take-le size scratch (omega (arith, least))), items ∙ same))

-- it was not read whole
piece-refused : {E : Type 0} (a b c : Option (List ℕ)) (p q n size : ℕ) (scratch piece old new : List ℕ) (e : Error E) →
    size ≡ min n (length scratch) → p + n ≤ greatest_offset → length piece ≡ length (take size scratch) →
    Keeps a b × (new ≡ old) → Advances b c p q (λ x. IsFillTaken {E = E} x p piece (Err e)) →
    Advances a c p q (λ x. IsSomeTaken {E = E} n x (Err e) old new)
piece-refused {E} a b c p q n size scratch piece old new e least below len (kept, same) =
    kept-then a b c p q (λ x. IsFillTaken {E = E} x p piece (Err e)) (λ x. IsSomeTaken {E = E} n x (Err e) old new) kept
    (λ x. refused e x)
  where
    fits : length piece ≤ n
    fits = omega (arith, least, len, length-take-le size scratch (omega (arith, least)))

    refused : (e : Error E) (x : List ℕ) → IsFillTaken {E = E} x p piece (Err e) →
        IsSomeTaken {E = E} n x (Err e) old new
    refused (Io e) x h = (omega (arith, fits, h.0), same)
    refused TooLong x h = absurd (omega (arith, fits, below, h.1))
    refused u x h = absurd h

pub returns-in_err-count-clause-some : goal.returns-in_err-count-clause-some
returns-in_err-count-clause-some g c =
    let exit = err_from_is_err_and c.from_residual.result c.from_residual.ensures.1 in
    rw (exit.1, exit.2) (held-refused _ _ _ _ _ _ _ _ c.requires.some c.in_err-count.ensures)

pub returns-then-count-eq0-clause-some : goal.returns-then-count-eq0-clause-some
returns-then-count-eq0-clause-some g c = none-given _ _ _ _ _ _ _ _ _ c.requires.some c.if-count-eq0.true
    c.end_of_bytes.ensures (rw c.in-Some.is at c.in_ok-count.ensures)

pub returns-in-Some-clause-some : goal.returns-in-Some-clause-some
returns-in-Some-clause-some g c = some-given g.row.K-Kept.Denot _ _ _ _ _ _ _ _ c.if-count-eq0.false
    (rw c.in-Some.is at c.in_ok-count.ensures)

pub returns-in_err-fill-clause-some : goal.returns-in_err-fill-clause-some
returns-in_err-fill-clause-some g c =
    let exit = err_from_is_err_and c.from_residual-in_err-fill.result c.from_residual-in_err-fill.ensures.1 in
    rw (exit.1, exit.2) (piece-refused _ _ _ _ _ _ _ c.args.scratch.now c.fill.new.buffer _ _ _ c.min-size.ensures
    c.requires.below c.fill.auto.buffer (rw c.in_default.is at c.in_ok-count.ensures) c.in_err-fill.ensures.taken)

pub returns-then-is_err-clause-some : goal.returns-then-is_err-clause-some
returns-then-is_err-clause-some g c = piece-lost _ _ _ _ _ _ _ c.args.scratch.now c.fill.new.buffer _ _ _
    c.min-size.ensures c.fill.auto.buffer (rw c.in_default.is at c.in_ok-count.ensures)
    (rw c.if-is_err.ensures.negation at c.extend_from_slice.ensures.items) c.in_ok-fill.ensures.taken

pub returns-clause-some : goal.returns-clause-some
returns-clause-some g c = piece-read _ _ _ _ _ _ _ c.args.scratch.now c.fill.new.buffer _ _ _ c.min-size.ensures
    c.requires.some c.requires.room c.fill.auto.buffer (rw c.in_default.is at c.in_ok-count.ensures)
    (rw c.if-is_err.ensures.negation at c.extend_from_slice.ensures.items) c.in_ok-fill.ensures.taken
