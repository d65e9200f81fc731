use Rattle.std.{proofs.Common.{◌≡◌, drop, map, not}, specs.List.list_all}
use Rattle.ciborium.specs.ValueLists.{tree_pairs_of, trees_of}
use Rattle.ciborium_uses.specs.Shapes.{all_trees, field_fits, field_test, fits, has_field}
use Rattle.ciborium_uses.proofs.schema.+has_shape.Given as goal

-- the items so far have the shape, so the rest decides
abbrev pub invariant-have_shape-loop-item : goal.invariant-have_shape-loop-item
invariant-have_shape-loop-item l =
    all_trees (fits l.shape) (trees_of l.items) ≡ all_trees (fits l.shape) (trees_of (drop l.item-index l.items))

-- the fields so far are there, so the rest decides
abbrev pub invariant-has_fields-loop-name : goal.invariant-has_fields-loop-name
invariant-has_fields-loop-name l = list_all (has_field (tree_pairs_of l.pairs)) (map field_test l.fields)
    ≡ list_all (has_field (tree_pairs_of l.pairs)) (map field_test (drop l.name-index l.fields))

-- the values so far under the name have the shape, so the rest decides
abbrev pub invariant-has_field-loop-key : goal.invariant-has_field-loop-key
invariant-has_field-loop-key l = field_fits (not l.required) l.name (fits l.shape)
    (tree_pairs_of l.pairs) ≡ field_fits l.is_complete l.name (fits l.shape) (tree_pairs_of (drop l.key-index l.pairs))
