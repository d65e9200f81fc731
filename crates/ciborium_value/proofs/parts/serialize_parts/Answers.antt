-- The parts stand in a definite container.
use Rattle.std.proofs.{Common.{sym, ◌∙◌}, lemmas.Result.{on_ok_weaker, on_err_weaker}}
use Rattle.ciborium_value.proofs.Writing.Progress.{on_err, parts_added, parts_ahead, parts_begin_broken, parts_broken}
use Rattle.ciborium_value.proofs.Writing.Progress.{parts_can_end, parts_end_broken}
use Rattle.ciborium_value.proofs.parts.serialize_parts.Goals as goal

pub returns-in_err-begin-in-Some-clause-err : goal.returns-in_err-begin-in-Some-clause-err
returns-in_err-begin-in-Some-clause-err g c =
    on_err _ (parts_begin_broken g.S.Sink.stands_at g.S.Sink.out g.C.Container.container_type
    (g.P.Parts.number c.args.parts.now) c.in-Some.count (g.P.Parts.parts c.args.parts.now) c.args.sink.now
    (sym c.count.ensures.count ∙ c.in-Some.is) c.count.ensures.sized c.begin.new.sink
    c.in_err-begin-in-Some.ensures.err)

pub write_parts-requires : goal.write_parts-requires
write_parts-requires g c = parts_ahead g.S.Sink.stands_at g.S.Sink.out g.C.Container.container_type
    (g.P.Parts.number c.args.parts.now) c.in-Some.count (g.P.Parts.parts c.args.parts.now) c.args.sink.now
    (sym c.count.ensures.count ∙ c.in-Some.is) c.count.ensures.sized c.begin.new.sink c.requires
    c.in_ok-begin-in-Some.ensures.ok

pub returns-in_err-write_parts-in-Some-clause-err : goal.returns-in_err-write_parts-in-Some-clause-err
returns-in_err-write_parts-in-Some-clause-err g c =
    on_err _ (parts_broken g.S.Sink.stands_at g.S.Sink.out g.C.Container.container_type
    (g.P.Parts.number c.args.parts.now) c.in-Some.count (g.P.Parts.parts c.args.parts.now) c.args.sink.now
    (sym c.count.ensures.count ∙ c.in-Some.is) c.count.ensures.sized c.begin.new.sink c.write_parts.new.sink
    c.in_ok-begin-in-Some.ensures.ok c.in_err-write_parts-in-Some.ensures.err)

pub end-requires : goal.end-requires
end-requires g c = parts_can_end g.S.Sink.stands_at g.S.Sink.out g.C.Container.container_type
    (g.P.Parts.number c.args.parts.now) c.in-Some.count (g.P.Parts.parts c.args.parts.now) c.args.sink.now
    (sym c.count.ensures.count ∙ c.in-Some.is) c.count.ensures.sized c.begin.new.sink c.write_parts.new.sink
    c.requires c.in_ok-begin-in-Some.ensures.ok c.in_ok-write_parts-in-Some.ensures.ok

pub returns-in_ok-write_parts-in-Some-clause-ok : goal.returns-in_ok-write_parts-in-Some-clause-ok
returns-in_ok-write_parts-in-Some-clause-ok g c =
    on_ok_weaker _ (parts_added g.S.Sink.stands_at g.S.Sink.out g.C.Container.container_type
    (g.P.Parts.number c.args.parts.now) c.in-Some.count (g.P.Parts.parts c.args.parts.now) c.args.sink.now
    (sym c.count.ensures.count ∙ c.in-Some.is) c.count.ensures.sized c.begin.new.sink c.write_parts.new.sink
    c.end.new.self c.in_ok-begin-in-Some.ensures.ok c.in_ok-write_parts-in-Some.ensures.ok) c.end.ensures.ok

pub returns-in_ok-write_parts-in-Some-clause-err : goal.returns-in_ok-write_parts-in-Some-clause-err
returns-in_ok-write_parts-in-Some-clause-err g c =
    on_err_weaker _ (parts_end_broken g.S.Sink.stands_at g.S.Sink.out g.C.Container.container_type
    (g.P.Parts.number c.args.parts.now) c.in-Some.count (g.P.Parts.parts c.args.parts.now) c.args.sink.now
    (sym c.count.ensures.count ∙ c.in-Some.is) c.count.ensures.sized c.begin.new.sink c.write_parts.new.sink
    c.end.new.self c.in_ok-begin-in-Some.ensures.ok c.in_ok-write_parts-in-Some.ensures.ok) c.end.ensures.err
