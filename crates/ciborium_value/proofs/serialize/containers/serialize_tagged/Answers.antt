-- A tag and its content are written in turn.
use Rattle.std.proofs.lemmas.Result.{on_err_weaker}
use Rattle.ciborium_value.proofs.Writing.Progress.{on_err, tag_broken, tag_broken_head}
use Rattle.ciborium_value.proofs.serialize.containers.serialize_tagged.Goals as goal

pub returns-in_err-tag-clause-err : goal.returns-in_err-tag-clause-err
returns-in_err-tag-clause-err g c =
    on_err _ (tag_broken_head g.S.Sink.stands_at g.S.Sink.out c.args.sink.now c.args.tag _
    (g.T.Serialize.written c.args.content.now) c.in_err-tag.ensures.err)

pub returns-clause-err : goal.returns-clause-err
returns-clause-err g c = on_err_weaker _ (tag_broken g.S.Sink.stands_at g.S.Sink.out c.args.sink.now c.args.tag _ _
    (g.T.Serialize.written c.args.content.now) c.in_ok-tag.ensures.ok) c.serialize.ensures.err
