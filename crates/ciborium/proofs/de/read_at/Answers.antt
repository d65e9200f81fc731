-- What the source took was taken from the reader that was lent, whatever its offset.
use Rattle.std.{proofs.Common.{None, rules, refl, sym, ◌∙◌}, specs.declared.io.Error.Error}
use Rattle.ciborium.proofs.Readers.HandedReaders.{handed-all, handed-ended}
use Rattle.ciborium.proofs.de.read_at.Goals as goal

pub returns-clause-reads : goal.returns-clause-reads
returns-clause-reads g c =
    handed-all Error g.A.Access.can_fail g.A.Access.remaining g.T.Deserialize.reading
    (record {
      decoder = c.begin.result;
      pending = None;
      levels = c.args.limit;
      scratch = c.args.scratch;
      failure = None;
      unpushed = c.begin.ensures.begins.pushed;
    })
    c.read_from.new.source c.args.reader.now _ c.args.offset c.begin.ensures.begins refl
    (λ same. let name = sym c.begin.ensures.same_reader ∙ same in search rules) c.read_from.result c.read_from.ensures

pub returns-clause-ended : goal.returns-clause-ended
returns-clause-ended g c =
    handed-ended Error g.A.Access.can_fail g.A.Access.remaining g.T.Deserialize.reading
    (record {
      decoder = c.begin.result;
      pending = None;
      levels = c.args.limit;
      scratch = c.args.scratch;
      failure = None;
      unpushed = c.begin.ensures.begins.pushed;
    })
    c.read_from.new.source _ (λ same. let name = sym c.begin.ensures.same_reader ∙ same in search rules)
    c.read_from.result c.read_from.ensures
