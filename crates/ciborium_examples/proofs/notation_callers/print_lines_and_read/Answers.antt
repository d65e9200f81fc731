use Rattle.std.proofs.Common.{rules, ◌∙◌, subst, sym, true}
use Rattle.ciborium.specs.{Denotes.{DenotesWithin, depth}, View.tree_of}
use Rattle.ciborium_examples.proofs.ReadNotation.{may_refuse, same_read}
use Rattle.ciborium_examples.proofs.notation_callers.print_lines_and_read.Goals as goal

denoted : (c : goal.After-drop-text) →
    DenotesWithin (depth (tree_of c.args.value.now)) c.as_str.result.now (tree_of c.args.value.now)
denoted c = subst (λ t. DenotesWithin (depth (tree_of c.args.value.now)) t (tree_of c.args.value.now)) (search rules)
    (c.printed_is_denoted.ensures.denoted true (tree_of c.args.value.now) c.encoded_size.ensures.proper)

pub returns-clause-same : goal.returns-clause-same
returns-clause-same c = same_read c.from_notation_with_limit.result c.as_str.result.now (tree_of c.args.value.now)
    (depth (tree_of c.args.value.now), denoted c) c.from_notation_with_limit.ensures.only

pub returns-clause-refused : goal.returns-clause-refused
returns-clause-refused c = may_refuse c.from_notation_with_limit.result c.as_str.result.now _
    (tree_of c.args.value.now) c.args.limit (denoted c) c.from_notation_with_limit.ensures.refused
