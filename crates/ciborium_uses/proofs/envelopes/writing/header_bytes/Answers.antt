use Rattle.ciborium.specs.View.{tree_of}
use Rattle.ciborium_uses.proofs.KeptLabels.{header-again, spelled}
use Rattle.ciborium_uses.proofs.envelopes.writing.header_bytes.Goals as goal

pub returns-clause-again : goal.returns-clause-again
returns-clause-again c h nests = header-again c.in_ok-to_vec.field-0.items (tree_of c.args.header.now) h nests
    (spelled c.in_ok-to_vec.field-0.items _ c.in_ok-to_vec.ensures.bytes)
