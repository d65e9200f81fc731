use Rattle.std.proofs.Common.{◌++◌, List, ℕ, ap, arith, subst, ◌∙◌}
use Rattle.cbor.specs.{Exact.{Explains, TellsNoItem}, Dumped.reason_text, Line.trailing_text}
use Rattle.cbor.proofs.ExactNotation.{told-trailing}
use Rattle.cbor.proofs.exact.write_exact.Goals as goal

pub returns-in_ok-push_trailing-in-Ok : goal.returns-in_ok-push_trailing-in-Ok
returns-in_ok-push_trailing-in-Ok c =
    told-trailing c.args.bytes.now _ c.push_exact.new.text.items _ c.in-Ok.count c.in-Ok.ensures.shown
    (omega (arith, c.in-Ok.count-test)) (c.in_ok-push_trailing-in-Ok.ensures ∙
    ap (λ (t : List ℕ). t ++ trailing_text c.in-Ok.count) c.clear-in-Ok.ensures.items)

pub returns-in_ok-push_reason-in-Err-NoItem : goal.returns-in_ok-push_reason-in-Err-NoItem
returns-in_ok-push_reason-in-Err-NoItem c =
    TellsNoItem.none c.in-Err-NoItem.reason (subst (Explains c.args.bytes.now) c.in-Err-NoItem.field-0-is
    (rw c.in-Err-NoItem.is at c.push_exact.ensures.unshown)) (c.in_ok-push_reason-in-Err-NoItem.ensures ∙
    ap (λ (t : List ℕ). t ++ reason_text c.in-Err-NoItem.reason) c.clear-in-Err-NoItem.ensures.items)
