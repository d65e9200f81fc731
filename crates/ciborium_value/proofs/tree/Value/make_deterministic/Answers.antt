use Rattle.ciborium_value.{proofs.Forms.RefusedForms.refused_with_reasons, specs.View.tree_of}
use Rattle.ciborium_value.proofs.tree.Value.make_deterministic.Goals as goal

pub returns-clause-kinds : goal.returns-clause-kinds
returns-clause-kinds c = refused_with_reasons c.args.order (tree_of c.args.self.now) c.make.result
    c.make.ensures.refused
