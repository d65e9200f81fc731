-- A byte string as a name.
use Rattle.std.proofs.Common.{◌∙◌, sym, ap}
use Rattle.ciborium_value.specs.{Given.gives, TreeAnswers.value_item}
use Rattle.ciborium_value.proofs.Sources.TreeLevels.{name_of_bytes, no_name_of_bytes}
use Rattle.ciborium_value.proofs.deserialized.parts.find_name.Goals as goal

pub returns-in-Ok-clause-ok : goal.returns-in-Ok-clause-ok
returns-in-Ok-clause-ok c =
    name_of_bytes c.skip_tags.result.now c.in-Bytes.bytes (value_item c.args.value.now) c.deref-in-Bytes.result.now
    c.in-Bytes.is c.skip_tags.ensures.item c.deref-in-Bytes.ensures.value c.in-Ok.ensures.cases.1
    ∙ ap gives (sym c.in-Ok.ensures.cases.0)

pub returns-in-Err-clause-refused : goal.returns-in-Err-clause-refused
returns-in-Err-clause-refused c =
    no_name_of_bytes c.skip_tags.result.now c.in-Bytes.bytes (value_item c.args.value.now) c.deref-in-Bytes.result.now
    c.in-Bytes.is c.skip_tags.ensures.item c.deref-in-Bytes.ensures.value c.in-Err.ensures.cases.0
