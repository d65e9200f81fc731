-- What the sink put out is in the writer that it was lent.
use Rattle.std.{proofs.Common.{Ok, Err, ap, sym, ◌∙◌, subst}, specs.declared.io.Error.Error as IoError}
use Rattle.ciborium.proofs.Writing.ByteSinks.{begins_ready, wrote, wrote_part, named_written}
use Rattle.ciborium.specs.{Writes.WritesNamed, declared.ser.error.Error.{Error, TheVariants.{Io, Memory}}}
use Rattle.ciborium.proofs.ser.into_writer.Goals as goal

pub serialize-requires : goal.serialize-requires
serialize-requires g c = begins_ready g.W.Write.contents c.new-sink.result

pub returns-in-Ok-clause-written : goal.returns-in-Ok-clause-written
returns-in-Ok-clause-written g c = named_written g.W.Write.contents c.new-sink.result c.serialize.new.sink
    c.args.writer.now (g.T.Serialize.written c.args.value.now) c.in-Ok.ensures.ok

pub returns-in-Ok-clause-bytes : goal.returns-in-Ok-clause-bytes
returns-in-Ok-clause-bytes g c =
    let held = c.writer-1.given in
    subst (λ w. WritesNamed {E = Error IoError} (g.W.Write.contents w) (g.W.Write.contents held.0) (Ok tt)
    (g.T.Serialize.written c.args.value.now)) c.new-sink.ensures.unchanged
    (wrote g.W.Write.contents c.new-sink.result c.serialize.new.sink held.0 (Error IoError)
    (g.T.Serialize.written c.args.value.now) (λ e. held.1 (sym c.new-sink.ensures.same_writer ∙ e))
    c.in-Ok.ensures.ok)

pub returns-in-Err-Io-clause-bytes : goal.returns-in-Err-Io-clause-bytes
returns-in-Err-Io-clause-bytes g c =
    let held = c.writer-in-Err-Io-1.given in
    subst (λ w. WritesNamed {E = Error IoError} (g.W.Write.contents w) (g.W.Write.contents held.0)
    (Err (Io c.take_failure.result)) (g.T.Serialize.written c.args.value.now)) c.new-sink.ensures.unchanged
    (wrote_part g.W.Write.contents c.new-sink.result c.serialize.new.sink held.0 (Error IoError)
    (Io c.take_failure.result) (g.T.Serialize.written c.args.value.now)
    (λ e. held.1 (sym c.new-sink.ensures.same_writer ∙
    (e ∙ ap (λ w. w.ghost_name) (sym c.take_failure.ensures.writer))) ∙
    ap (λ w. w.now) c.take_failure.ensures.writer) c.in-Err-Io.ensures.err)

pub returns-in-Err-Memory-clause-bytes : goal.returns-in-Err-Memory-clause-bytes
returns-in-Err-Memory-clause-bytes g c =
    let held = c.writer-in-Err-Memory-1.given in
    subst (λ w. WritesNamed {E = Error IoError} (g.W.Write.contents w) (g.W.Write.contents held.0) (Err Memory)
    (g.T.Serialize.written c.args.value.now)) c.new-sink.ensures.unchanged
    (wrote_part g.W.Write.contents c.new-sink.result c.serialize.new.sink held.0 (Error IoError) Memory
    (g.T.Serialize.written c.args.value.now) (λ e. held.1 (sym c.new-sink.ensures.same_writer ∙ e))
    c.in-Err-Memory.ensures.err)
