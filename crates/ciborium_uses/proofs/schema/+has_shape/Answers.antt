use Rattle.std.proofs.Common.{◌≡◌, Bool, Global, String, Vec, ap, map, rules, subst, sym, ◌∙◌}
use Rattle.std.specs.{List.list_all, Prelude.IsTrue}
use Rattle.ciborium.specs.{Tree.TreePairs, ValueLists.tree_pairs_of, View.tree_of}
use Rattle.ciborium_value.proofs.Trees.Views.{tree_of-Map}
use Rattle.ciborium_uses.specs.{Shapes.{field_test, fits, has_field}, declared.schema.Shape.{Shape, the_lemmas}}
use Rattle.ciborium.specs.Tree as trees
use Rattle.ciborium_uses.specs.declared.schema.Shape as shape
use Rattle.ciborium_uses.proofs.schema.+has_shape.Goals as goal

-- a map fits where it has each field
map-fits : (fields : Vec (String Global × Bool × Shape) Global) (ps : TreePairs) →
    fits (shape.Map fields) (trees.map ps) ≡ list_all (has_field ps) (map field_test fields.items)
map-fits fields ps = search (rules, the_lemmas)

-- each field, through the vectors that the call was lent
pub has_shape-returns-in-Map-Map : goal.has_shape-returns-in-Map-Map
has_shape-returns-in-Map-Map t c =
    let fields = c.in-Map-Map.fields in
    let ps = tree_pairs_of c.in-Map-Map.pairs.items in
    let same : c.has_fields.result ≡ fits c.args.shape.now (tree_of c.args.value.now) =
    c.has_fields.ensures
    ∙ ap (λ l. list_all (has_field (tree_pairs_of l)) (map field_test c.deref-in-Map-Map.result.now))
    c.deref-in-Map-Map-2.ensures.value
    ∙ ap (λ l. list_all (has_field ps) (map field_test l)) c.deref-in-Map-Map.ensures.value
    ∙ sym (ap (λ s. fits s (tree_of c.args.value.now)) c.in-Map-Map.is-0
    ∙ ap (fits (shape.Map fields)) (ap tree_of c.in-Map-Map.is-1 ∙ tree_of-Map c.in-Map-Map.pairs)
    ∙ map-fits fields ps) in
    record { exactly = (λ h. subst IsTrue same h, λ h. subst IsTrue (sym same) h); test = same }
