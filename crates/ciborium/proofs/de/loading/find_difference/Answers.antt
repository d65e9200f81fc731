-- What was written is all of the bytes.
use Rattle.ciborium.{proofs.Readers.Loading.written-all, specs.DeterministicWrites.named_form}
use Rattle.ciborium.proofs.de.loading.find_difference.Goals as goal

pub returns-then-eq-clause-ok : goal.returns-then-eq-clause-ok
returns-then-eq-clause-ok g c =
    let w = c.into_writer_deterministic-outcome.new.writer in
    written-all c.args.bytes.now w.bytes.now w.written c.into_writer_deterministic-outcome.result
    (named_form c.args.order (g.T.Serialize.written c.args.value.now)) c.into_writer_deterministic-outcome.ensures.bytes
    c.if-is_ok.ensures.value c.if-expected-bytes.true c.if-eq.ensures
