-- What calls put out one after the other, and what one of them put out before it failed.
use Rattle.std.proofs.Common.{ℕ, ◌+◌, List, ◌++◌, length, Option, Result, Ok, Err, OnOk, sym, subst, arith}
use Rattle.std.proofs.{Common.length-append, KnownBytes.Appends-trans, Math.Seq.take-append-add}
use Rattle.std.{proofs.lemmas.List.take-append-le, specs.Io.KnownBytes.Appends}
use Rattle.ciborium_ll.specs.Writing.{Writes}

-- bytes that went out whole, and then what a call put out
pub Writes-after : {E : Type 0} (a b c : Option (List ℕ)) (r : Result (Unit {0}) E) (xs ys : List ℕ) → Appends a b xs →
    Writes b c r ys → Writes a c r (xs ++ ys)
Writes-after a b c (Ok u) xs ys p q = Appends-trans a b c xs ys p q
Writes-after a b c (Err e) xs ys p q = (
  length xs + q.0,
  omega (arith, length-append xs ys, q.1),
  subst (Appends a c) (sym (take-append-add xs ys q.0)) (Appends-trans a b c xs _ p q.2),
)

-- a call that failed before them
pub Writes-before : {E : Type 0} (a b : Option (List ℕ)) (e : E) (xs ys : List ℕ) → Writes a b (Err e) xs →
    Writes a b (Err e) (xs ++ ys)
Writes-before a b e xs ys q = (
  q.0,
  omega (arith, length-append xs ys, q.1),
  subst (Appends a b) (sym (take-append-le q.0 xs ys (omega (arith, q.1)))) q.2,
)

-- a fact that needs no call
pub OnOk-always : {E : Type 0} (r : Result (Unit {0}) E) (P : Type 0) → P → OnOk r P
OnOk-always (Ok u) P p = p
OnOk-always (Err e) P p = tt
