-- What is left behind the item decides.
use Rattle.std.{proofs.Common.rules, specs.declared.io.Error.Error}
use Rattle.ciborium.proofs.{Exits.passed_on, Readers.WholeSlices.{all-given, all-refused, all-trailing}}
use Rattle.ciborium.proofs.de.slice.from_slice_with_recursion_limit.Goals as goal

pub returns-in_err-value : goal.returns-in_err-value
returns-in_err-value g c =
    rw (passed_on c.from_residual.result _ c.from_residual.ensures.1)
    (all-refused Error c.args.limit g.T.Deserialize.reading c.args.bytes.now
    c.read.new.reader.now (search rules) c.in_err-value.field-0.0 c.in_err-value.ensures.reads
    c.in_err-value.ensures.ended)

pub returns-then-is_empty : goal.returns-then-is_empty
returns-then-is_empty g c = all-given Error c.args.limit g.T.Deserialize.reading c.args.bytes.now
    c.read.new.reader.now c.in_ok-value.value c.in_ok-value.ensures.reads (search rules)

pub returns : goal.returns
returns g c = all-trailing Error c.args.limit g.T.Deserialize.reading c.args.bytes.now c.read.new.reader.now
    c.in_ok-value.value c.in_ok-value.ensures.reads c.saturating_sub-end.result (search rules) (search rules)
