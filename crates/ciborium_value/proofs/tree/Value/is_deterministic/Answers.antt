use Rattle.ciborium_value.{proofs.Forms.OwnForms.own_where_formed, specs.View.tree_of}
use Rattle.ciborium_value.proofs.tree.Value.is_deterministic.Goals as goal

pub returns : goal.returns
returns c =
    let own = own_where_formed c.args.order (tree_of c.args.self.now) in
    (λ yes. own.0 (c.is_formed.ensures.0 yes), λ form. c.is_formed.ensures.1 (own.1 form))
