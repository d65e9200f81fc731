-- Only what stands there is taken.
use Rattle.ciborium.proofs.Readers.Loading.{written-more}
use Rattle.ciborium.proofs.de.loading.ExpectedWrite.write.Goals as goal

pub returns-in-Some-clause-bytes : goal.returns-in-Some-clause-bytes
returns-in-Some-clause-bytes c = written-more c.args.self.now.bytes.now c.in-Some.rest.now c.args.buf.now
    c.args.self.now.written c.in-Some.ensures.lookup.0.2 c.if-starts_with.ensures.value
