use Rattle.ciborium_value.proofs.Writing.TreeSinkSteps.{can_close, close_ends, whole_ends}
use Rattle.ciborium_value.proofs.serialized.TreeSinkSink.end.Goals as goal

pub unreachable-requires : goal.unreachable-requires
unreachable-requires c =
    let k = c.in-None-close.ensures in
    can_close c.args.self.now c.args.count c.in-None.is c.requires.0 c.requires.1 c.requires.2 k.0

pub returns-in-Some-clause-ok : goal.returns-in-Some-clause-ok
returns-in-Some-clause-ok c = whole_ends c.args.self.now c.args.count c.in-Some.field-0 c.in-Some.is

pub returns-in-Some-close-clause-ok : goal.returns-in-Some-close-clause-ok
returns-in-Some-close-clause-ok c = close_ends c.put.result c.args.self.now c.put.new.self c.args.count _ _ c.in-None.is
    c.in-Some-close.ensures c.put.ensures.ok
