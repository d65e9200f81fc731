-- A list is written item by item.
use Rattle.std.proofs.{Common.{Some, ap, map, length, rules}, lemmas.Result.{on_ok_weaker, on_err_weaker}}
use Rattle.ciborium_value.proofs.Writing.Progress.{exits, length-map, on_err, owes_begin, owes_broken, owes_can_end}
use Rattle.ciborium_value.proofs.Writing.Progress.{owes_broken_begin, owes_broken_end, owes_ends, owes_more}
use Rattle.ciborium_value.proofs.Writing.Progress.{owes_no_part, owes_owed, owes_part, owes_ready}
use Rattle.ciborium_value.specs.{Places.an_array}
use Rattle.ciborium_value.specs.Sinks.{IsOwed, container_of}
use Rattle.ciborium_value.proofs.serialize.containers.VecSerialize.serialize.Goals as goal

pub returns-in_err-begin_array-clause-err : goal.returns-in_err-begin_array-clause-err
returns-in_err-begin_array-clause-err g c =
    let xs = c.args.self.now.items in
    on_err _ (owes_broken_begin g.S.Sink.stands_at g.S.Sink.out an_array (Some (length xs))
    (map g.T.Serialize.written xs) c.args.sink.now _ (ap Some (search rules)) (length-map g.T.Serialize.written xs)
    c.in_err-begin_array.ensures.err)

pub loop-item-init : goal.loop-item-init
loop-item-init g c =
    let f = g.T.Serialize.written in
    let xs = c.args.self.now.items in
    rw c.deref-item-items.ensures.value
    (owes_begin (ap Some (search rules)) (length-map f xs) c.in_ok-begin_array.ensures.ok)

pub serialize-requires : goal.serialize-requires
serialize-requires g c = owes_ready c.requires
    (owes_part g.T.Serialize.written _ _ c.loop-item-test.true c.item-item.is c.loop-item.invariant)

pub returns-in_err-serialize-clause-cause : goal.returns-in_err-serialize-clause-cause
returns-in_err-serialize-clause-cause g c =
    exits _ c.in_err-serialize.field-0.0 (λ e. IsOwed (g.S.Sink.cause e)
    (container_of an_array (map g.T.Serialize.written c.args.self.now.items)))
    c.from_residual-in_err-serialize.ensures.1
    (owes_owed _ (owes_part g.T.Serialize.written _ _ c.loop-item-test.true c.item-item.is c.loop-item.invariant)
    c.in_err-serialize.ensures.cause)

pub returns-in_err-serialize-clause-err : goal.returns-in_err-serialize-clause-err
returns-in_err-serialize-clause-err g c = on_err _ (owes_broken g.S.Sink.out _
    (owes_part g.T.Serialize.written _ _ c.loop-item-test.true c.item-item.is c.loop-item.invariant)
    c.in_err-serialize.ensures.err)

pub loop-item-preserved : goal.loop-item-preserved
loop-item-preserved g c = owes_more
    (owes_part g.T.Serialize.written _ _ c.loop-item-test.true c.item-item.is c.loop-item.invariant)
    c.in_ok-serialize.ensures.ok

pub end-requires : goal.end-requires
end-requires g c = owes_can_end (ap Some (search rules)) c.requires
    (owes_no_part g.T.Serialize.written _ _ c.loop-item-test.false c.loop-item.invariant)

pub returns-clause-ok : goal.returns-clause-ok
returns-clause-ok g c = on_ok_weaker _ (owes_ends _ (ap Some (search rules))
    (owes_no_part g.T.Serialize.written _ _ c.loop-item-test.false c.loop-item.invariant)) c.end.ensures.ok

pub returns-clause-err : goal.returns-clause-err
returns-clause-err g c = on_err_weaker _ (owes_broken_end g.S.Sink.out _ (ap Some (search rules))
    (owes_no_part g.T.Serialize.written _ _ c.loop-item-test.false c.loop-item.invariant)) c.end.ensures.err
