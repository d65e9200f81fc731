-- What a function answers at its exits, by what is said of a call before.
use Rattle.std.proofs.Common.{◌≡◌, sym, subst, Result, Ok, Err, IfErr, IfOk, IsErrAnd}

-- at the exit of a `?`
pub exit_by : {T E : Type 0} (Q : E → Type 0) {e : E} (r : Result T E) → IsErrAnd r (λ f. f ≡ e) → Q e → IfErr r Q
exit_by Q (Ok v) h q = tt
exit_by Q (Err f) h q = subst Q (sym h) q

-- where the last call's answer is returned
pub answered_by : {T E : Type 0} {P Q : T → Type 0} (r : Result T E) → IfOk r P → ((v : T) → P v → Q v) → IfOk r Q
answered_by (Ok v) h f = f v h
answered_by (Err e) h f = tt

pub refused_by : {T E : Type 0} {P Q : E → Type 0} (r : Result T E) → IfErr r P → ((e : E) → P e → Q e) → IfErr r Q
refused_by (Ok v) h f = tt
refused_by (Err e) h f = f e h
