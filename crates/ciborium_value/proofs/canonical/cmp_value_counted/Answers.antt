use Rattle.std.proofs.{Common.{◌≡◌, sym, ap, ◌∙◌, nat_cmp, rules}, lemmas.Cmp.{tied_itself, nat_cmp_total}}
use Rattle.std.specs.Cmp.Lexicographic.{slice_cmp}
use Rattle.ciborium_value.specs.{Encoding.{encoding, encoded_size}, View.tree_of}
use Rattle.ciborium_value.proofs.Orders.SideBySide.{decided_alone, equal_where_same}
use Rattle.ciborium_value.proofs.Orders.VisitCounts.{both_walks-most, both_walks-all}
use Rattle.ciborium_value.proofs.canonical.cmp_value_counted.Goals as goal

pub returns-in-Equal-clause-order : goal.returns-in-Equal-clause-order
returns-in-Equal-clause-order c =
    let left = encoding (tree_of c.args.left.now) in
    let right = encoding (tree_of c.args.right.now) in
    let order : c.compare-order.result ≡ slice_cmp nat_cmp left right =
    decided_alone c.compare-order.result left right c.compare-order.ensures.decides in
    search (rules, order)

pub returns-in-Equal-clause-at_most_twice : goal.returns-in-Equal-clause-at_most_twice
returns-in-Equal-clause-at_most_twice c =
    both_walks-most _ _ _ _ _ _ c.compare-order.new.visits.in_range c.measure-left_size.ensures.visits
    c.measure-right_size.ensures.visits c.compare-order.ensures.visits

pub returns-in-Equal-clause-twice_where_equal : goal.returns-in-Equal-clause-twice_where_equal
returns-in-Equal-clause-twice_where_equal c e =
    both_walks-all _ _ _ _ _ _ c.measure-left_size.ensures.visits c.measure-right_size.ensures.visits
    c.compare-order.ensures.visits (equal_where_same _ _ _ c.compare-order.ensures.decides e)

pub returns-in_default-clause-twice_where_equal : goal.returns-in_default-clause-twice_where_equal
returns-in_default-clause-twice_where_equal c e =
    let left = c.measure-left_size.result in
    let same = c.measure-left_size.ensures.size ∙ ap encoded_size e ∙ sym c.measure-right_size.ensures.size in
    absurd (c.in_default.not-Equal (c.cmp.ensures ∙ ap (nat_cmp left) (sym same) ∙ tied_itself nat_cmp_total left))
