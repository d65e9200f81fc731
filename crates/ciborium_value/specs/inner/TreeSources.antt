-- Where a source over a tree stands.
use Rattle.std.specs.{Borrow.Bor, Prelude.{◌≡◌, ℕ, ◌+◌, List, map, length, Option, Some, None}}
use Rattle.ciborium_ll.specs.Item.{Item, simple, unsigned}
use Rattle.ciborium_value.specs.Ahead.{Ahead, Rest, item, after, bottom, parts, pairs, entry, level_due}
use Rattle.ciborium_value.specs.Counts.{node_count, payload_size, trees_node_count, trees_payload_size}
use Rattle.ciborium_value.specs.{Counts.{tree_pairs_node_count, tree_pairs_payload_size}, Nesting.Limit}
use Rattle.ciborium_value.specs.{TreeAnswers.value_item, ValueLists.{trees_of, tree_pairs_of}, View.tree_of}
use Rattle.ciborium_value.specs.declared.deserialized.{Left.Left, Pending.Pending, TreeLevel.TreeLevel, TreeSeq.TreeSeq}
use Rattle.ciborium_value.specs.declared.{deserialized.TreeSource.TreeSource, tree.Value.Value}
use Rattle.ciborium_value.specs.declared.deserialized.Pending.TheVariants as pending
use Rattle.ciborium_value.specs.declared.deserialized.Left.TheVariants as left

abbrev pub pair_items : Value × Value → Item × Item
pair_items p = (value_item p.0, value_item p.1)

-- what is read next is this item
abbrev pub IsPending : Pending → Item → Type 0
IsPending pending.Nothing i = ⊥
IsPending (pending.Whole v) i = value_item v.now ≡ i
IsPending (pending.Byte n) i = unsigned n ≡ i
IsPending pending.Null i = simple 22 ≡ i

abbrev pub IsValue : Option (Bor Value) → Item → Type 0
IsValue None i = ⊥
IsValue (Some v) i = value_item v.now ≡ i

-- a value that is due, once it is read next
abbrev pub pending_due : Option (Bor Value) → Pending
pending_due None = pending.Nothing
pending_due (Some v) = pending.Whole v

-- the value of a map that is due behind what is read next, if one is
abbrev pub IsDueValue : Option (Bor Value) → Rest → Type 0
IsDueValue due (bottom reader b) = Unit {0}
IsDueValue due (parts span is f) = Unit {0}
IsDueValue due (pairs span ps f) = Unit {0}
IsDueValue due (entry v span ps f) = IsValue due v
IsDueValue due (level_due f) = Unit {0}

abbrev pub IsTreeAhead : TreeSource → Ahead → Type 0
IsTreeAhead s (item i f) = IsPending s.ahead i × IsDueValue s.due f
IsTreeAhead s (after f) = Unit {0}

-- a tree is read without a limit
abbrev pub IsTreeAt : TreeSource → Limit → Ahead → Type 0
IsTreeAt s l a = (l ≡ None) × IsTreeAhead s a

abbrev pub AreItems : List Value → Rest → Type 0
AreItems vs (bottom reader b) = ⊥
AreItems vs (parts span is f) = map value_item vs ≡ is
AreItems vs (pairs span ps f) = ⊥
AreItems vs (entry v span ps f) = ⊥
AreItems vs (level_due f) = ⊥

abbrev pub AreBytesOf : List ℕ → Rest → Type 0
AreBytesOf bs (bottom reader b) = ⊥
AreBytesOf bs (parts span is f) = map unsigned bs ≡ is
AreBytesOf bs (pairs span ps f) = ⊥
AreBytesOf bs (entry v span ps f) = ⊥
AreBytesOf bs (level_due f) = ⊥

abbrev pub ArePairs : List (Value × Value) → Rest → Type 0
ArePairs qs (bottom reader b) = ⊥
ArePairs qs (parts span is f) = ⊥
ArePairs qs (pairs span ps f) = map pair_items qs ≡ ps
ArePairs qs (entry v span ps f) = ⊥
ArePairs qs (level_due f) = ⊥

-- what is left of a container
abbrev pub IsLeftOf : Left → Rest → Type 0
IsLeftOf (left.Items vs) f = AreItems vs.now f
IsLeftOf (left.Bytes bs) f = AreBytesOf bs.now f
IsLeftOf (left.Pairs qs) f = ArePairs qs.now f

-- what follows a container
abbrev pub behind_container : Rest → Rest
behind_container (bottom reader b) = bottom reader b
behind_container (parts span is f) = f
behind_container (pairs span ps f) = f
behind_container (entry v span ps f) = f
behind_container (level_due f) = f

abbrev pub IsTreeSeqAt : TreeSeq → Limit → Rest → Type 0
IsTreeSeqAt q l f = (l ≡ None) × IsLeftOf q.left f × IsDueValue q.due (behind_container f)

-- a level of a tag or a variant
abbrev pub IsTreeLevelAt : TreeLevel → Limit → Rest → Type 0
IsTreeLevelAt level l f = (l ≡ None) × IsDueValue level.due f

-- ---- how much can still be read

-- the values and the bytes of strings that a tree holds
abbrev pub value_weight : Value → ℕ
value_weight v = node_count (tree_of v) + payload_size (tree_of v)

abbrev pub pending_tree_weight : Pending → ℕ
pending_tree_weight pending.Nothing = 0
pending_tree_weight (pending.Whole v) = value_weight v.now
pending_tree_weight (pending.Byte n) = 1
pending_tree_weight pending.Null = 1

abbrev pub due_weight : Option (Bor Value) → ℕ
due_weight None = 0
due_weight (Some v) = value_weight v.now

abbrev pub source_weight : TreeSource → ℕ
source_weight s = pending_tree_weight s.ahead + due_weight s.due

abbrev pub left_weight : Left → ℕ
left_weight (left.Items vs) = trees_node_count (trees_of vs.now) + trees_payload_size (trees_of vs.now)
left_weight (left.Bytes bs) = length bs.now
left_weight (left.Pairs qs) = tree_pairs_node_count (tree_pairs_of qs.now) + tree_pairs_payload_size
    (tree_pairs_of qs.now)

abbrev pub seq_weight : TreeSeq → ℕ
seq_weight q = left_weight q.left + due_weight q.due

abbrev pub level_weight : TreeLevel → ℕ
level_weight level = due_weight level.due

-- ---- why it refused
