-- A name and its value are written before the fields behind them.
use Rattle.std.proofs.{Common.◌∷◌, lemmas.Result.{on_ok_weaker, on_err_weaker}}
use Rattle.ciborium_value.specs.Places.{a_map}
use Rattle.ciborium_value.proofs.Writing.Progress.{on_err, ready_for_one, breaks_at_one, ready_for_value}
use Rattle.ciborium_value.proofs.Writing.Progress.{breaks_at_value, pair_taken, takes_pair_more, breaks_behind_pair}
use Rattle.ciborium_value.proofs.fields.write_field.Goals as goal

pub serialize-requires : goal.serialize-requires
serialize-requires g c =
    ready_for_one g.S.Sink.stands_at g.S.Sink.out a_map c.args.sink.now (g.L.Serialize.written c.args.label.now)
    (g.V.Serialize.written c.args.value.now ∷ g.R.Parts.parts c.args.behind.now) c.requires

pub returns-in_err-serialize-clause-err : goal.returns-in_err-serialize-clause-err
returns-in_err-serialize-clause-err g c =
    on_err _ (breaks_at_one g.S.Sink.stands_at g.S.Sink.out a_map c.args.sink.now
    (g.L.Serialize.written c.args.label.now)
    (g.V.Serialize.written c.args.value.now ∷ g.R.Parts.parts c.args.behind.now) c.serialize.new.sink
    c.in_err-serialize.ensures.err)

pub serialize-requires-2 : goal.serialize-requires-2
serialize-requires-2 g c =
    ready_for_value g.S.Sink.stands_at g.S.Sink.out a_map c.args.sink.now c.serialize.new.sink
    (g.L.Serialize.written c.args.label.now) (g.V.Serialize.written c.args.value.now)
    (g.R.Parts.parts c.args.behind.now) c.in_ok-serialize.ensures.ok c.requires

pub returns-in_err-serialize-2-clause-err : goal.returns-in_err-serialize-2-clause-err
returns-in_err-serialize-2-clause-err g c =
    on_err _ (breaks_at_value g.S.Sink.stands_at g.S.Sink.out a_map c.args.sink.now c.serialize.new.sink
    (g.L.Serialize.written c.args.label.now) (g.V.Serialize.written c.args.value.now)
    (g.R.Parts.parts c.args.behind.now) c.in_ok-serialize.ensures.ok c.serialize-2.new.sink
    c.in_err-serialize-2.ensures.err)

pub write_parts-requires : goal.write_parts-requires
write_parts-requires g c = pair_taken g.S.Sink.stands_at g.S.Sink.out a_map c.args.sink.now c.serialize.new.sink
    (g.L.Serialize.written c.args.label.now) (g.V.Serialize.written c.args.value.now)
    (g.R.Parts.parts c.args.behind.now) c.in_ok-serialize.ensures.ok c.serialize-2.new.sink c.requires
    c.in_ok-serialize-2.ensures.ok

pub returns-clause-ok : goal.returns-clause-ok
returns-clause-ok g c =
    on_ok_weaker _ (takes_pair_more g.S.Sink.stands_at g.S.Sink.out a_map c.args.sink.now c.serialize.new.sink
    (g.L.Serialize.written c.args.label.now) (g.V.Serialize.written c.args.value.now)
    (g.R.Parts.parts c.args.behind.now) c.in_ok-serialize.ensures.ok c.serialize-2.new.sink
    c.write_parts.new.sink c.in_ok-serialize-2.ensures.ok) c.write_parts.ensures.ok

pub returns-clause-err : goal.returns-clause-err
returns-clause-err g c = on_err_weaker _ (breaks_behind_pair g.S.Sink.stands_at g.S.Sink.out a_map c.args.sink.now
    c.serialize.new.sink (g.L.Serialize.written c.args.label.now)
    (g.V.Serialize.written c.args.value.now) (g.R.Parts.parts c.args.behind.now) c.in_ok-serialize.ensures.ok
    c.serialize-2.new.sink c.write_parts.new.sink c.in_ok-serialize-2.ensures.ok) c.write_parts.ensures.err
