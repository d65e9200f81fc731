use Rattle.std.proofs.Common.{◌-◌, ◌^◌, ◌<◌, ◌≤◌}
use Rattle.ciborium_value.proofs.canonical.cmp_sizes.Given as goal

-- there is some room, and not more than the last
abbrev pub invariant-rooms : goal.invariant-rooms
invariant-rooms l = record {
  some : 0 < l.room;
  most : l.room ≤ 2 ^ 64 - 2;
}

abbrev pub decreases-rooms : goal.decreases-rooms
decreases-rooms l = 2 ^ 64 - l.room
