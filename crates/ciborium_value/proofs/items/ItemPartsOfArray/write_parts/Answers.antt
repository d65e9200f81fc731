-- An item is written before the items behind it.
use Rattle.std.proofs.lemmas.Result.{on_ok_weaker, on_err_weaker}
use Rattle.ciborium_value.proofs.Writing.Progress.{on_err, ready_for_one, one_taken, breaks_at_one, takes_one_more}
use Rattle.ciborium_value.{proofs.Writing.Progress.breaks_behind_one, specs.Places.an_array}
use Rattle.ciborium_value.proofs.items.ItemPartsOfArray.write_parts.Goals as goal

pub serialize-requires : goal.serialize-requires
serialize-requires g c =
    ready_for_one g.S.Sink.stands_at g.S.Sink.out an_array c.args.sink.now (g.V.Serialize.written c.args.self.now.0)
    (g.R.Parts.parts c.args.self.now.1) c.requires

pub returns-in_err-serialize-clause-err : goal.returns-in_err-serialize-clause-err
returns-in_err-serialize-clause-err g c =
    on_err _ (breaks_at_one g.S.Sink.stands_at g.S.Sink.out an_array c.args.sink.now
    (g.V.Serialize.written c.args.self.now.0) (g.R.Parts.parts c.args.self.now.1) c.serialize.new.sink
    c.in_err-serialize.ensures.err)

pub write_parts-requires : goal.write_parts-requires
write_parts-requires g c =
    one_taken g.S.Sink.stands_at g.S.Sink.out an_array c.args.sink.now (g.V.Serialize.written c.args.self.now.0)
    (g.R.Parts.parts c.args.self.now.1) c.serialize.new.sink c.requires c.in_ok-serialize.ensures.ok

pub returns-clause-ok : goal.returns-clause-ok
returns-clause-ok g c = on_ok_weaker _ (takes_one_more g.S.Sink.stands_at g.S.Sink.out an_array c.args.sink.now
    (g.V.Serialize.written c.args.self.now.0) (g.R.Parts.parts c.args.self.now.1) c.serialize.new.sink
    c.write_parts.new.sink c.in_ok-serialize.ensures.ok) c.write_parts.ensures.ok

pub returns-clause-err : goal.returns-clause-err
returns-clause-err g c = on_err_weaker _ (breaks_behind_one g.S.Sink.stands_at g.S.Sink.out an_array c.args.sink.now
    (g.V.Serialize.written c.args.self.now.0) (g.R.Parts.parts c.args.self.now.1) c.serialize.new.sink
    c.write_parts.new.sink c.in_ok-serialize.ensures.ok) c.write_parts.ensures.err
