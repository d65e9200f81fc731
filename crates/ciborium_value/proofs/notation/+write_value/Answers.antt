use Rattle.std.proofs.{Common.arith, lemmas.Grind.common_steps}
use Rattle.std.proofs.Common.{[], add-one, refl, rules, sym, ap, ◌∙◌}
use Rattle.ciborium_value.proofs.Trees.Elements.{at}
use Rattle.ciborium_value.specs.{Notation.notation_on, View.tree_of}
use Rattle.ciborium_value.proofs.Trees.Notations.{then, as_bytes, lead_behind-more, notation_on-array, notation_on-map}
use Rattle.ciborium_value.proofs.Trees.Notations.{notation_on-tag, notations_on-more, pair_notations_on-more}
use Rattle.ciborium_value.proofs.Trees.Views.{tree_of-Tag, tree_of-Array, tree_of-Map}
use Rattle.ciborium_value.specs.Tree as trees
use Rattle.ciborium_value.proofs.notation.+write_value.Goals as goal

pub write_value-returns-in-Tag : goal.write_value-returns-in-Tag
write_value-returns-in-Tag g t c = λ flush ok. as_bytes (ap (notation_on c.args.lines)
    (ap (λ v. trees.tag c.in-Tag.tag (tree_of v)) c.deref-in-Tag.ensures ∙
    sym (ap tree_of c.in-Tag.is ∙ tree_of-Tag _ _))) (c.write_tagged.ensures flush ok)

pub write_value-returns-in-Array : goal.write_value-returns-in-Array
write_value-returns-in-Array g t c = λ flush ok.
    as_bytes (ap (notation_on c.args.lines) (sym (ap tree_of c.in-Array.is ∙ tree_of-Array _)))
    (c.write_array.ensures flush ok)

pub write_value-returns-in-Map : goal.write_value-returns-in-Map
write_value-returns-in-Map g t c = λ flush ok.
    as_bytes (ap (notation_on c.args.lines) (sym (ap tree_of c.in-Map.is ∙ tree_of-Map _)))
    (c.write_map.ensures flush ok)

pub write_tagged-returns : goal.write_tagged-returns
write_tagged-returns g t c = λ flush ok. as_bytes (notation_on-tag c.args.lines c.args.tag _)
    (then (then (c.in_ok-write_tag.ensures flush refl) (λ f. c.in_ok-write_value.ensures f refl))
    (λ f. c.write_str.ensures.styled f ok))

pub write_array-returns : goal.write_array-returns
write_array-returns g t c = λ flush ok.
    as_bytes (notation_on-array c.args.lines c.args.items.now.items c.in_ok-one_level_more.ensures (search rules))
    (then (then (c.in_ok-write_str.ensures.styled flush refl) (λ f. c.in_ok-write_items.ensures f refl))
    (λ f. c.write_end.ensures f ok))

pub write_map-returns : goal.write_map-returns
write_map-returns g t c = λ flush ok.
    as_bytes (notation_on-map c.args.lines c.args.pairs.now.items c.in_ok-one_level_more.ensures (search rules))
    (then (then (c.in_ok-write_str.ensures.styled flush refl) (λ f. c.in_ok-write_pairs.ensures f refl))
    (λ f. c.write_end.ensures f ok))

pub write_items-loop-item-preserved : goal.write_items-loop-item-preserved
write_items-loop-item-preserved g t c =
    let a = at c.loop-item-test.true c.item-item.is in rw add-one (
      c.comma-lead.utf8,
      c.comma-lead.ensures ∙ sym (lead_behind-more c.args.lines [] a),
      λ flush. as_bytes (notations_on-more c.args.lines a) (then (c.loop-item.invariant.2 flush)
          (λ f. then (as_bytes c.loop-item.invariant.1 (c.in_ok-write_str.ensures.styled f refl))
          (λ f. then (c.in_ok-write_line_break.ensures f refl)
          (λ f. c.in_ok-write_value.ensures f refl)))),
    )

pub write_pairs-loop-pair-preserved : goal.write_pairs-loop-pair-preserved
write_pairs-loop-pair-preserved g t c =
    let a = at c.loop-pair-test.true c.pair-item.is in rw add-one (
      c.comma-lead.utf8,
      c.comma-lead.ensures ∙ sym (lead_behind-more c.args.lines [] a),
      λ flush. as_bytes (pair_notations_on-more c.args.lines a) (then (c.loop-pair.invariant.2 flush)
          (λ f. then (as_bytes c.loop-pair.invariant.1 (c.in_ok-write_str.ensures.styled f refl))
          (λ f. then (c.in_ok-write_line_break.ensures f refl)
          (λ f. then (c.in_ok-write_value.ensures f refl)
          (λ f. then (c.in_ok-write_str-2.ensures.styled f refl)
          (λ f. c.in_ok-write_value-2.ensures f refl)))))),
    )

pub write_pairs-returns : goal.write_pairs-returns
write_pairs-returns g t c = grind (arith, common_steps)

pub write_items-returns : goal.write_items-returns
write_items-returns g t c = grind (arith, common_steps)
