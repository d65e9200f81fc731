use Rattle.std.{proofs.Common.{◌≡◌, [], take}, specs.Fmt.{HasWrittenStyled, IsFlush}}
use Rattle.ciborium_value.{proofs.Trees.Notations.lead_behind, specs.Notation.{notations_on, pair_notations_on}}
use Rattle.ciborium_value.specs.ValueLists.{trees_of, tree_pairs_of}
use denote.{Shadow.shadow, Text.Utf8}
use Rattle.ciborium_value.proofs.notation.+write_value.Given as goal

-- the items so far are written
abbrev pub invariant-write_items-loop-item : goal.invariant-write_items-loop-item
invariant-write_items-loop-item g l = shadow (Utf8 l.lead) ×
    (l.lead ≡ lead_behind l.lines [] (take l.item-index l.item-items))
    × (IsFlush l.fn.f → HasWrittenStyled g.W.Write.write_str_gives l.fn.f
    (notations_on l.lines [] (trees_of (take l.item-index l.item-items))) l.f)

-- the pairs so far are written
abbrev pub invariant-write_pairs-loop-pair : goal.invariant-write_pairs-loop-pair
invariant-write_pairs-loop-pair g l = shadow (Utf8 l.lead) ×
    (l.lead ≡ lead_behind l.lines [] (take l.pair-index l.pair-items))
    × (IsFlush l.fn.f → HasWrittenStyled g.W.Write.write_str_gives l.fn.f
    (pair_notations_on l.lines [] (tree_pairs_of (take l.pair-index l.pair-items))) l.f)
