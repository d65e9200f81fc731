use Rattle.std.proofs.Common.{◌≡◌, ◌+◌, ◌-◌, ◌*◌, ◌∷◌, ◌≤◌, List, None, Some, length}
use Rattle.ciborium_ll.specs.{ItemHeads.{levels_of, unread}, Levels.incomplete, declared.levels.Level.Level}
use Rattle.ciborium_ll.specs.declared.levels.Level.TheVariants.{Items}
use Rattle.cbor.specs.Exact.{AreExactly, IsBegun, IsPushed, open_level, parts_header}
use Rattle.cbor.proofs.exact.+push_item.Given as goal

-- what is unread, and within it which function calls which
abbrev pub decreases-push_next : goal.decreases-push_next
decreases-push_next l = 3 * length (unread l.heads.now)

abbrev pub decreases-push_tag : goal.decreases-push_tag
decreases-push_tag l = 3 * length (unread l.heads.now) + 1

abbrev pub decreases-push_parts : goal.decreases-push_parts
decreases-push_parts l = 3 * length (unread l.heads.now) + 1

abbrev pub decreases-push_open_parts : goal.decreases-push_open_parts
decreases-push_open_parts l = 3 * length (unread l.heads.now) + 1

abbrev pub decreases-push_item : goal.decreases-push_item
decreases-push_item l = 3 * length (unread l.heads.now) + 2

-- the items so far were shown, and the others are due
abbrev pub invariant-push_parts-parts : goal.invariant-push_parts-parts
invariant-push_parts-parts l =
    IsPushed (AreExactly l.is_map l.place) l.initial.heads l.heads l.initial.text.items l.text.items ×
    ((around : List Level) → IsBegun (parts_header l.is_map (Some l.count)) l.initial.heads around →
    levels_of l.heads ≡ incomplete (Items (l.total - l.place) ∷ around))

-- the items so far were shown, each of a byte at least, and the level is unfinished
abbrev pub invariant-push_open_parts-parts : goal.invariant-push_open_parts-parts
invariant-push_open_parts-parts l =
    IsPushed (AreExactly l.is_map l.place) l.initial.heads l.heads l.initial.text.items l.text.items ×
    ((around : List Level) → IsBegun (parts_header l.is_map None) l.initial.heads around →
    levels_of l.heads ≡ open_level l.is_map l.place ∷ around) ×
    (l.place + length (unread l.heads) ≤ length (unread l.initial.heads))

abbrev pub decreases-push_open_parts-parts : goal.decreases-push_open_parts-parts
decreases-push_open_parts-parts l = length (unread l.heads)
