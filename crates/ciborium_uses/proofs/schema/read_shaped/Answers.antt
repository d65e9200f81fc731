use Rattle.std.proofs.Common.{Err, Ok, ap, refl, subst, sym}
use Rattle.ciborium.specs.View.{tree_of}
use Rattle.ciborium_uses.proofs.{Exits.exit_by, WholeItems.{answered, refused}}
use Rattle.ciborium_uses.specs.{Shapes.HasShape, declared.schema.SchemaError.TheVariants.Read as read}
use Rattle.ciborium_uses.proofs.schema.read_shaped.Goals as goal

pub returns-in_err-value-clause-refused : goal.returns-in_err-value-clause-refused
returns-in_err-value-clause-refused c = exit_by _ c.from_residual.result c.from_residual.ensures.1
    (λ t item fits. ap read (refused c.in_err-value.field-0.0 t (Err _) refl (c.in_err-value.ensures.whole t item)))

pub returns-else-has_shape-clause-refused : goal.returns-else-has_shape-clause-refused
returns-else-has_shape-clause-refused c t item fits =
    let same = answered (tree_of c.in_ok-value.value) t (Ok _) refl (c.in_ok-value.ensures.whole t item) in
    let found = c.has_shape.ensures.exactly.1 (subst (λ x. HasShape c.args.shape.now x) (sym same) fits) in
    absurd cc
