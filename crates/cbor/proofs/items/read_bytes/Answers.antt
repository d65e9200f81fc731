use Rattle.std.proofs.Common.{◌++◌, List, ℕ, append-nil, ap, arith, refl, subst, sym, ◌∙◌}
use Rattle.ciborium_value.specs.View.{tree_of}
use Rattle.cbor.{proofs.ReadBytes.nothing-left, specs.Spellings.IsItem}
use Rattle.cbor.proofs.items.read_bytes.Goals as goal

pub returns-else-not-is_empty-clause-item : goal.returns-else-not-is_empty-clause-item
returns-else-not-is_empty-clause-item c =
    let (s, item, is) = c.in_ok-value-in-Deterministic.ensures.item in
    let none = nothing-left c.read_front.new.rest.now (sym c.if-not-is_empty.ensures) in
    subst (λ (x : List ℕ). IsItem c.args.spelling x c.args.limit (tree_of c.in_ok-value-in-Deterministic.value))
    (sym (append-nil s) ∙ ap (λ (x : List ℕ). s ++ x) (sym none) ∙ sym is) item

pub returns-then-not-is_empty-clause-refused : goal.returns-then-not-is_empty-clause-refused
returns-then-not-is_empty-clause-refused c = (
  tree_of c.in_ok-value-in-Deterministic.value,
  c.read_front.new.rest.now,
  c.in_ok-value-in-Deterministic.ensures.item,
  grind (arith, c.if-not-is_empty.ensures),
  refl,
)
