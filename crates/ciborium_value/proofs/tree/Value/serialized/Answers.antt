-- At the end the whole tree is there.
use Rattle.std.proofs.Common.{◌≡◌, None, Some, refl, sym, ◌∙◌, subst}
use Rattle.ciborium_value.specs.{TreeAnswers.IsTreeOf, declared.serialized.TreeSink.TreeSink}
use Rattle.ciborium_value.proofs.Writing.TreeSinkSteps.{begins_empty, ends_whole, some_is}
use Rattle.ciborium_value.proofs.tree.Value.serialized.Goals as goal

pub serialize-requires : goal.serialize-requires
serialize-requires g c = begins_empty (record { stack = c.new.result; whole = None; alloc = c.args.alloc }) refl
    c.new.ensures

pub unreachable-requires : goal.unreachable-requires
unreachable-requires g c =
    let sink : TreeSink = record { stack = c.new.result; whole = None; alloc = c.args.alloc } in
    let k = ends_whole sink c.serialize.new.sink (g.T.Serialize.written c.args.value.now) refl c.new.ensures
    c.in_ok-serialize.ensures.ok in
    let e : None ≡ Some k.0 = sym c.in-None.is ∙ k.1 in cc

pub returns-clause-ok : goal.returns-clause-ok
returns-clause-ok g c =
    let sink : TreeSink = record { stack = c.new.result; whole = None; alloc = c.args.alloc } in
    let k = ends_whole sink c.serialize.new.sink (g.T.Serialize.written c.args.value.now) refl c.new.ensures
    c.in_ok-serialize.ensures.ok in
    subst (IsTreeOf (g.T.Serialize.written c.args.value.now))
    (some_is k.0 c.in-Some.value (sym k.1 ∙ c.in-Some.is)) k.2
