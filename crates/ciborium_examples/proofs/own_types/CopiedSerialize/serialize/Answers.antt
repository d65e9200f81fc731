-- Where an allocation fails, nothing was written yet.
use Rattle.ciborium.specs.Sinks.{named_text}
use Rattle.std.proofs.Common.{string_bytes}
use Rattle.ciborium_value.proofs.Writing.Progress.{broken_before}
use Rattle.ciborium_examples.proofs.own_types.CopiedSerialize.serialize.Goals as goal

pub returns-in-Err-clause-err : goal.returns-in-Err-clause-err
returns-in-Err-clause-err g c = broken_before g.S.Sink.stands_at g.S.Sink.out c.args.sink.now
    (named_text (string_bytes c.args.self.now.0)) g.met.S.Sink.shows
