use Rattle.ciborium_value.proofs.Forms.MadeForms.{Made, IsForm, IsPairForm}
use Rattle.ciborium_value.proofs.deterministic.+make.Given as goal

-- the items so far are forms
abbrev pub invariant-make_items-loop-item : goal.invariant-make_items-loop-item
invariant-make_items-loop-item l = record {
  unvisited : goal.unvisited-make_items-loop-item l;
  so_far : Made (IsForm l.order) l.item-index l.fn.items.items l.item-items;
}

-- the pairs so far are of forms
abbrev pub invariant-make_pairs-loop-pair : goal.invariant-make_pairs-loop-pair
invariant-make_pairs-loop-pair l = record {
  unvisited : goal.unvisited-make_pairs-loop-pair l;
  so_far : Made (IsPairForm l.order) l.pair-index l.fn.pairs.items l.pair-items;
}
