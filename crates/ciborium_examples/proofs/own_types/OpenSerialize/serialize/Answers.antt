-- The numbers are written one after the other, between the beginning and the end of an open array.
use Rattle.ciborium_examples.proofs.OwnTypes.{named_number, owes_number}
use Rattle.std.proofs.{Common.{None, refl, map, subst, sym}, lemmas.Result.{on_ok_weaker, on_err_weaker}}
use Rattle.ciborium.specs.{Places.an_array, Progress.Owes, Sinks.{IsOwed, open_container_of}}
use Rattle.ciborium_value.proofs.Writing.Progress.{exits, on_err, owes_begin, owes_broken, owes_can_end, owes_ready}
use Rattle.ciborium_value.proofs.Writing.Progress.{owes_broken_begin, owes_broken_end, owes_ends, owes_more}
use Rattle.ciborium_value.proofs.Writing.Progress.{owes_no_part, owes_owed}
use Rattle.ciborium_examples.proofs.own_types.OpenSerialize.serialize.Goals as goal

pub returns-in_err-begin_array-clause-err : goal.returns-in_err-begin_array-clause-err
returns-in_err-begin_array-clause-err g c =
    let xs = c.args.self.now.0.items in
    on_err _ (owes_broken_begin g.S.Sink.stands_at g.S.Sink.out an_array None (map named_number xs) c.args.sink.now _
    refl tt c.in_err-begin_array.ensures.err)

pub loop-number-init : goal.loop-number-init
loop-number-init g c =
    subst (λ l. Owes g.S.Sink.stands_at an_array None (map named_number c.args.self.now.0.items) c.args.sink.now
    c.begin_array.new.self (map named_number l)) (sym c.deref-number-items.ensures.value)
    (owes_begin refl tt c.in_ok-begin_array.ensures.ok)

pub serialize-requires : goal.serialize-requires
serialize-requires g c = owes_ready c.requires (owes_number _ _ c.loop-number-test.true c.loop-number.invariant)

pub returns-in_err-serialize-clause-cause : goal.returns-in_err-serialize-clause-cause
returns-in_err-serialize-clause-cause g c =
    exits _ c.in_err-serialize.field-0.0 (λ e. IsOwed (g.S.Sink.cause e)
    (open_container_of an_array (map named_number c.args.self.now.0.items)))
    c.from_residual-in_err-serialize.ensures.1
    (owes_owed _ (owes_number _ _ c.loop-number-test.true c.loop-number.invariant) c.in_err-serialize.ensures.cause)

pub returns-in_err-serialize-clause-err : goal.returns-in_err-serialize-clause-err
returns-in_err-serialize-clause-err g c = on_err _ (owes_broken g.S.Sink.out _
    (owes_number _ _ c.loop-number-test.true c.loop-number.invariant) c.in_err-serialize.ensures.err)

pub loop-number-preserved : goal.loop-number-preserved
loop-number-preserved g c =
    owes_more (owes_number _ _ c.loop-number-test.true c.loop-number.invariant) c.in_ok-serialize.ensures.ok

pub end-requires : goal.end-requires
end-requires g c = owes_can_end refl c.requires
    (owes_no_part named_number _ _ c.loop-number-test.false c.loop-number.invariant)

pub returns-clause-ok : goal.returns-clause-ok
returns-clause-ok g c = on_ok_weaker _
    (owes_ends _ refl (owes_no_part named_number _ _ c.loop-number-test.false c.loop-number.invariant)) c.end.ensures.ok

pub returns-clause-err : goal.returns-clause-err
returns-clause-err g c = on_err_weaker _ (owes_broken_end g.S.Sink.out _ refl
    (owes_no_part named_number _ _ c.loop-number-test.false c.loop-number.invariant)) c.end.ensures.err
