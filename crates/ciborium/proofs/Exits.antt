-- What a `?` passes on, and an answer that is returned as it is.
use Rattle.std.proofs.Common.{◌≡◌, Result, Ok, Err, IfErr, IfOk, IsErrAnd, ap}

pub passed_on : {T E : Type 0} (r : Result T E) (e : E) → IsErrAnd r (λ y. y ≡ e) → r ≡ Err e
passed_on (Ok x) e h = absurd h
passed_on (Err y) e h = ap Err h

pub both : {T E : Type 0} (r : Result T E) (P Q : T → Type 0) → IfOk r P → IfOk r Q → IfOk r (λ v. P v × Q v)
both (Ok x) P Q p q = (p, q)
both (Err e) P Q p q = tt

pub both-err : {T E : Type 0} (r : Result T E) (P Q : E → Type 0) → IfErr r P → IfErr r Q →
    IfErr r (λ e. P e × Q e)
both-err (Ok x) P Q p q = tt
both-err (Err e) P Q p q = (p, q)

-- what holds of each value, and of each error
pub by-cases : {T E : Type 0} (r : Result T E) (P : T → Type 0) (Q : E → Type 0) (G : Result T E → Type 0) → IfOk r P →
    IfErr r Q → ((x : T) → P x → G (Ok x)) → ((e : E) → Q e → G (Err e)) → G r
by-cases (Ok x) P Q G p q f h = f x p
by-cases (Err e) P Q G p q f h = h e q
