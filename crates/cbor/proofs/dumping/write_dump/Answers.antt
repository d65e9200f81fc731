use Rattle.std.proofs.Common.{arith}
use Rattle.cbor.proofs.DumpedHeads.{told-reason, told-trailing}
use Rattle.cbor.proofs.dumping.write_dump.Goals as goal

pub returns-in_ok-push_trailing-in-Ok : goal.returns-in_ok-push_trailing-in-Ok
returns-in_ok-push_trailing-in-Ok c =
    told-trailing c.args.bytes.now c.push_heads.new.text.items c.push_trailing.new.text.items
    c.in_ok-push_heads.field-0 c.in-Ok.count c.in-Ok.is c.in_ok-push_heads.ensures (omega (arith, c.in-Ok.count-test))
    c.in_ok-push_trailing-in-Ok.ensures

pub returns-in_ok-push_reason-in-Err : goal.returns-in_ok-push_reason-in-Err
returns-in_ok-push_reason-in-Err c =
    told-reason c.args.bytes.now c.push_heads.new.text.items c.push_reason.new.text.items
    c.in_ok-push_heads.field-0 c.in-Err.reason c.in-Err.is c.in_ok-push_heads.ensures c.in_ok-push_reason-in-Err.ensures
