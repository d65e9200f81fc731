use Rattle.std.proofs.Common.{subst, sym}
use Rattle.ciborium_value.specs.Denotes.{Denotes, DenotesWithin}
use Rattle.ciborium_value.proofs.tree.Value.from_notation_with_limit.Goals as goal

pub returns-in-Ok-clause-only : goal.returns-in-Ok-clause-only
returns-in-Ok-clause-only c = λ w d. c.in-Ok.ensures.only w (subst (λ t. Denotes t w) (sym c.as_bytes.ensures.value) d)

pub returns-in-Err-clause-refused : goal.returns-in-Err-clause-refused
returns-in-Err-clause-refused c = λ l v d. c.from_front.ensures c.args.limit l
    (c.in-Err.ensures.refused l v (subst (λ t. DenotesWithin l t v) (sym c.as_bytes.ensures.value) d))
