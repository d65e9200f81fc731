-- The bytes begin at offset 0.
use Rattle.std.specs.declared.io.Error.{Error}
use Rattle.ciborium_value.specs.{Spelling.any, View.result_map}
use Rattle.ciborium.proofs.{Readers.HandedReaders.some-map, Readers.KnownReaders.whole-of}
use Rattle.ciborium.proofs.de.read.Goals as goal

pub returns-clause-reads : goal.returns-clause-reads
returns-clause-reads g c = record {
  ok = c.read_at.ensures.reads.ok;
  refused = c.read_at.ensures.reads.refused;
  memory = c.read_at.ensures.reads.memory;
  taken = c.read_at.ensures.reads.taken;
  value = some-map g.T.Deserialize.reading.whole c.read_at.ensures.reads.value
      (λ tree taken. whole-of {E = Error} any c.args.limit (g.A.Access.remaining c.args.reader.now) _
      (result_map (λ v. tree (g.T.Deserialize.reading.content v)) c.read_at.result) taken);
}
