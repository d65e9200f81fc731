use Rattle.std.proofs.{Common.arith, lemmas.Grind.common_steps}
use Rattle.std.proofs.{Common.rules, lemmas.Bool.false≢true}
use Rattle.ciborium_ll.proofs.Payloads.{payload-dropped, payload-refused, payload-whole}
use Rattle.ciborium_ll.proofs.cursor.Cursor.append_payload.Goals as goal

pub returns-in-Err-clause-bytes : goal.returns-in-Err-clause-bytes
returns-in-Err-clause-bytes g c = payload-dropped _ _ _ _ _ _ _ _ _ _ _ _ (search rules) c.truncate.ensures.items
    c.in-Err.ensures.bytes

pub returns-then-not-is_allowed-clause-bytes : goal.returns-then-not-is_allowed-clause-bytes
returns-then-not-is_allowed-clause-bytes g c =
    let not = rw (c.if-not-is_allowed.true, c.deref.ensures.value) at c.is_allowed.ensures.1 in
    payload-refused _ _ _ _ _ _ _ _ _ _ _ (search rules) c.truncate-then-not-is_allowed.ensures.items
    (λ h. false≢true (not h)) c.in_default.ensures.bytes

pub returns-clause-bytes : goal.returns-clause-bytes
returns-clause-bytes g c = payload-whole _ _ _ _ _ _ _ _ _ (search rules)
    (rw c.deref.ensures.value at (c.is_allowed.ensures.0 c.if-not-is_allowed.false)) c.in_default.ensures.bytes

pub slice_bounds-is_allowed-start : goal.slice_bounds-is_allowed-start
slice_bounds-is_allowed-start g c = grind (arith, common_steps)

pub slice_bounds-is_allowed-count : goal.slice_bounds-is_allowed-count
slice_bounds-is_allowed-count g c = grind (arith, common_steps)
