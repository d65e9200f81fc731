use Rattle.std.proofs.Common.{rules, ◌∙◌}
use Rattle.ciborium_ll.proofs.Cursors.{are-bytes}
use Rattle.ciborium_value.proofs.Trees.Views.{tree_of-Bytes}
use Rattle.ciborium.proofs.de.held.CopierVisitor.visit.Goals as goal

pub returns-in-Ok-from_slice : goal.returns-in-Ok-from_slice
returns-in-Ok-from_slice c =
    rw c.if-self.false (
      are-bytes c.args.bytes.now c.type_inv.bytes,
      tree_of-Bytes c.in-Ok-from_slice.bytes ∙ search rules,
    )
