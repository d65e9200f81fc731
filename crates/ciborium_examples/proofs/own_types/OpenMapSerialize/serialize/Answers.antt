-- A map is written entry by entry, each key before its value.
use Rattle.ciborium_examples.proofs.OwnTypes.{named_number}
use Rattle.std.proofs.{Common.{None, refl, ◌≡◌, length, subst, rules}, lemmas.Map.Iter.{rest_more, rest_all}}
use Rattle.std.{proofs.lemmas.Result.{on_ok_weaker, on_err_weaker}, specs.Map.Iter.deref_pair}
use Rattle.ciborium.specs.{Places.a_map, Progress.Owes, Sinks.{IsOwed, open_container_of, in_turn}}
use Rattle.ciborium_value.proofs.Writing.Progress.{exits, length-in_turn, on_err, owes_begin, owes_broken, owes_ready}
use Rattle.ciborium_value.proofs.Writing.Progress.{owes_broken_begin, owes_broken_end, owes_can_end, owes_ends}
use Rattle.ciborium_value.proofs.Writing.Progress.{owes_entry, owes_more, owes_no_entry, owes_owed}
use Rattle.ciborium_examples.proofs.own_types.OpenMapSerialize.serialize.Goals as goal

pub returns-in_err-begin_map-clause-err : goal.returns-in_err-begin_map-clause-err
returns-in_err-begin_map-clause-err g c =
    let es = c.args.self.now.0.entries in
    on_err _ (owes_broken_begin g.S.Sink.stands_at g.S.Sink.out a_map None (in_turn named_number named_number es)
    c.args.sink.now _ refl (length es, length-in_turn named_number named_number es) c.in_err-begin_map.ensures.err)

pub loop-key-init : goal.loop-key-init
loop-key-init g c =
    let es = c.args.self.now.0.entries in
    let same : es ≡ c.into_iter-key-iterator.result = search rules in
    subst (λ l. Owes g.S.Sink.stands_at a_map None (in_turn named_number named_number es) c.args.sink.now
    c.begin_map.new.self (in_turn named_number named_number l)) same (owes_begin refl
    (length es, length-in_turn named_number named_number es) c.in_ok-begin_map.ensures.ok)

pub serialize-requires : goal.serialize-requires
serialize-requires g c = owes_ready c.requires
    (owes_entry named_number named_number (rest_more deref_pair _ _ _ (c.in-Some.key, c.in-Some.value) c.in-Some.is
    c.next.ensures.steps) c.loop-key.invariant)

pub returns-in_err-serialize-clause-cause : goal.returns-in_err-serialize-clause-cause
returns-in_err-serialize-clause-cause g c =
    exits _ c.in_err-serialize.field-0.0 (λ e. IsOwed (g.S.Sink.cause e)
    (open_container_of a_map (in_turn named_number named_number c.args.self.now.0.entries)))
    c.from_residual-in_err-serialize.ensures.1 (owes_owed _ (owes_entry named_number named_number
    (rest_more deref_pair _ _ _ (c.in-Some.key, c.in-Some.value) c.in-Some.is c.next.ensures.steps)
    c.loop-key.invariant) c.in_err-serialize.ensures.cause)

pub returns-in_err-serialize-clause-err : goal.returns-in_err-serialize-clause-err
returns-in_err-serialize-clause-err g c = on_err _ (owes_broken g.S.Sink.out _
    (owes_entry named_number named_number (rest_more deref_pair _ _ _ (c.in-Some.key, c.in-Some.value) c.in-Some.is
    c.next.ensures.steps) c.loop-key.invariant) c.in_err-serialize.ensures.err)

pub serialize-requires-in-loop-key : goal.serialize-requires-in-loop-key
serialize-requires-in-loop-key g c = owes_ready c.requires (owes_more
    (owes_entry named_number named_number (rest_more deref_pair _ _ _ (c.in-Some.key, c.in-Some.value) c.in-Some.is
    c.next.ensures.steps) c.loop-key.invariant) c.in_ok-serialize.ensures.ok)

pub returns-in_err-serialize-2-clause-cause : goal.returns-in_err-serialize-2-clause-cause
returns-in_err-serialize-2-clause-cause g c =
    exits _ c.in_err-serialize-2.field-0.0 (λ e. IsOwed (g.S.Sink.cause e)
    (open_container_of a_map (in_turn named_number named_number c.args.self.now.0.entries)))
    c.from_residual-in_err-serialize-2.ensures.1 (owes_owed _ (owes_more (owes_entry named_number named_number
    (rest_more deref_pair _ _ _ (c.in-Some.key, c.in-Some.value) c.in-Some.is c.next.ensures.steps)
    c.loop-key.invariant) c.in_ok-serialize.ensures.ok) c.in_err-serialize-2.ensures.cause)

pub returns-in_err-serialize-2-clause-err : goal.returns-in_err-serialize-2-clause-err
returns-in_err-serialize-2-clause-err g c = on_err _ (owes_broken g.S.Sink.out _ (owes_more
    (owes_entry named_number named_number (rest_more deref_pair _ _ _ (c.in-Some.key, c.in-Some.value) c.in-Some.is
    c.next.ensures.steps) c.loop-key.invariant) c.in_ok-serialize.ensures.ok) c.in_err-serialize-2.ensures.err)

pub loop-key-preserved : goal.loop-key-preserved
loop-key-preserved g c = owes_more (owes_more
    (owes_entry named_number named_number (rest_more deref_pair _ _ _ (c.in-Some.key, c.in-Some.value) c.in-Some.is
    c.next.ensures.steps) c.loop-key.invariant) c.in_ok-serialize.ensures.ok) c.in_ok-serialize-2.ensures.ok

pub end-requires : goal.end-requires
end-requires g c = owes_can_end refl c.requires
    (owes_no_entry named_number named_number (rest_all deref_pair _ _ _ c.in-None.is c.next.ensures.steps)
    c.loop-key.invariant)

pub returns-clause-ok : goal.returns-clause-ok
returns-clause-ok g c = on_ok_weaker _ (owes_ends _ refl
    (owes_no_entry named_number named_number (rest_all deref_pair _ _ _ c.in-None.is c.next.ensures.steps)
    c.loop-key.invariant)) c.end.ensures.ok

pub returns-clause-err : goal.returns-clause-err
returns-clause-err g c = on_err_weaker _ (owes_broken_end g.S.Sink.out _ refl
    (owes_no_entry named_number named_number (rest_all deref_pair _ _ _ c.in-None.is c.next.ensures.steps)
    c.loop-key.invariant)) c.end.ensures.err
