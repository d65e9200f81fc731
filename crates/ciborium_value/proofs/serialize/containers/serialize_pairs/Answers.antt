-- Pairs are written one after the other, each key before its value.
use Rattle.std.proofs.{Common.{Some, ap, length, rules}, lemmas.Result.{on_ok_weaker, on_err_weaker}}
use Rattle.ciborium_value.proofs.Writing.Progress.{exits, length-in_turn, on_err, owes_begin, owes_broken, owes_ready}
use Rattle.ciborium_value.proofs.Writing.Progress.{owes_broken_begin, owes_broken_end, owes_can_end, owes_ends}
use Rattle.ciborium_value.proofs.Writing.Progress.{owes_more, owes_no_pair, owes_owed, owes_pair}
use Rattle.ciborium_value.specs.{Places.a_map, Sinks.{IsOwed, container_of, in_turn}}
use Rattle.ciborium_value.proofs.serialize.containers.serialize_pairs.Goals as goal

pub returns-in_err-begin_map-clause-err : goal.returns-in_err-begin_map-clause-err
returns-in_err-begin_map-clause-err g c =
    let ps = c.args.pairs.now.items in
    on_err _ (owes_broken_begin g.S.Sink.stands_at g.S.Sink.out a_map (Some (length ps))
    (in_turn g.K.Serialize.written g.V.Serialize.written ps) c.args.sink.now _ (ap Some (search rules))
    (length-in_turn g.K.Serialize.written g.V.Serialize.written ps) c.in_err-begin_map.ensures.err)

pub loop-pair-init : goal.loop-pair-init
loop-pair-init g c =
    let ps = c.args.pairs.now.items in
    rw c.deref-pair-items.ensures.value (owes_begin (ap Some (search rules))
    (length-in_turn g.K.Serialize.written g.V.Serialize.written ps) c.in_ok-begin_map.ensures.ok)

pub serialize-requires : goal.serialize-requires
serialize-requires g c = owes_ready c.requires
    (owes_pair g.K.Serialize.written g.V.Serialize.written _ _ c.loop-pair-test.true c.pair-item.is
    c.loop-pair.invariant)

pub returns-in_err-serialize-clause-cause : goal.returns-in_err-serialize-clause-cause
returns-in_err-serialize-clause-cause g c =
    exits _ c.in_err-serialize.field-0.0 (λ e. IsOwed (g.S.Sink.cause e)
    (container_of a_map (in_turn g.K.Serialize.written g.V.Serialize.written c.args.pairs.now.items)))
    c.from_residual-in_err-serialize.ensures.1 (owes_owed _ (owes_pair g.K.Serialize.written g.V.Serialize.written _ _
    c.loop-pair-test.true c.pair-item.is c.loop-pair.invariant) c.in_err-serialize.ensures.cause)

pub returns-in_err-serialize-clause-err : goal.returns-in_err-serialize-clause-err
returns-in_err-serialize-clause-err g c = on_err _ (owes_broken g.S.Sink.out _
    (owes_pair g.K.Serialize.written g.V.Serialize.written _ _ c.loop-pair-test.true c.pair-item.is
    c.loop-pair.invariant) c.in_err-serialize.ensures.err)

pub serialize-requires-in-loop-pair : goal.serialize-requires-in-loop-pair
serialize-requires-in-loop-pair g c = owes_ready c.requires (owes_more
    (owes_pair g.K.Serialize.written g.V.Serialize.written _ _ c.loop-pair-test.true c.pair-item.is
    c.loop-pair.invariant) c.in_ok-serialize.ensures.ok)

pub returns-in_err-serialize-2-clause-cause : goal.returns-in_err-serialize-2-clause-cause
returns-in_err-serialize-2-clause-cause g c =
    exits _ c.in_err-serialize-2.field-0.0 (λ e. IsOwed (g.S.Sink.cause e)
    (container_of a_map (in_turn g.K.Serialize.written g.V.Serialize.written c.args.pairs.now.items)))
    c.from_residual-in_err-serialize-2.ensures.1 (owes_owed _ (owes_more (owes_pair g.K.Serialize.written
    g.V.Serialize.written _ _ c.loop-pair-test.true c.pair-item.is c.loop-pair.invariant) c.in_ok-serialize.ensures.ok)
    c.in_err-serialize-2.ensures.cause)

pub returns-in_err-serialize-2-clause-err : goal.returns-in_err-serialize-2-clause-err
returns-in_err-serialize-2-clause-err g c = on_err _ (owes_broken g.S.Sink.out _ (owes_more
    (owes_pair g.K.Serialize.written g.V.Serialize.written _ _ c.loop-pair-test.true c.pair-item.is
    c.loop-pair.invariant) c.in_ok-serialize.ensures.ok) c.in_err-serialize-2.ensures.err)

pub loop-pair-preserved : goal.loop-pair-preserved
loop-pair-preserved g c = owes_more (owes_more
    (owes_pair g.K.Serialize.written g.V.Serialize.written _ _ c.loop-pair-test.true c.pair-item.is
    c.loop-pair.invariant) c.in_ok-serialize.ensures.ok) c.in_ok-serialize-2.ensures.ok

pub end-requires : goal.end-requires
end-requires g c = owes_can_end (ap Some (search rules)) c.requires
    (owes_no_pair g.K.Serialize.written g.V.Serialize.written _ _ c.loop-pair-test.false c.loop-pair.invariant)

pub returns-clause-ok : goal.returns-clause-ok
returns-clause-ok g c = on_ok_weaker _ (owes_ends _ (ap Some (search rules))
    (owes_no_pair g.K.Serialize.written g.V.Serialize.written _ _ c.loop-pair-test.false c.loop-pair.invariant))
    c.end.ensures.ok

pub returns-clause-err : goal.returns-clause-err
returns-clause-err g c = on_err_weaker _ (owes_broken_end g.S.Sink.out _ (ap Some (search rules))
    (owes_no_pair g.K.Serialize.written g.V.Serialize.written _ _ c.loop-pair-test.false c.loop-pair.invariant))
    c.end.ensures.err
