use Rattle.std.proofs.Common.{[], Some}
use Rattle.cbor.proofs.ReadBytes.{front-of-all, named-anyway, slice-refused, trailing-left}
use Rattle.cbor.proofs.items.read_slice.Goals as goal

pub name_refusal-requires : goal.name_refusal-requires
name_refusal-requires c = named-anyway (Some []) c.in-Err.error _
    (front-of-all c.in-Err.error c.args.bytes.now c.args.limit c.in-None.ensures.other c.in-Err.ensures.value)

pub returns-in-None-clause-refused : goal.returns-in-None-clause-refused
returns-in-None-clause-refused c =
    slice-refused c.name_refusal.result _ c.in-Err.error c.args.bytes.now c.args.limit c.unwrap_or.ensures
    c.name_refusal.ensures.refused
    (front-of-all c.in-Err.error c.args.bytes.now c.args.limit c.in-None.ensures.other c.in-Err.ensures.value)

pub returns-in-Some-clause-refused : goal.returns-in-Some-clause-refused
returns-in-Some-clause-refused c = trailing-left c.in-Err.error c.args.bytes.now c.args.limit c.in-Some.end _
    c.in-Some.ensures.end c.in-Err.ensures.value c.saturating_sub.ensures
