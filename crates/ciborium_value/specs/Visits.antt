-- How many visits a comparison makes: each is one entry of the walk at one node of one tree.
use Rattle.std.specs.{Prelude.{◌≡◌, ℕ, ◌+◌, ◌-◌, ◌^◌, ◌≤◌, min}, declared.cmp.Ordering.{Ordering, TheVariants.Equal}}
use Rattle.ciborium_value.specs.{Counts.node_count, Tree.Tree}

-- a number, counted up to the greatest `u64`
abbrev pub saturated : ℕ → ℕ
saturated n = min n (2 ^ 64 - 1)

-- the nodes of two trees together
abbrev pub both_node_count : Tree → Tree → ℕ
both_node_count v w = node_count v + node_count w

-- n visits took the count from old to new
abbrev pub AddsVisits : ℕ → ℕ → ℕ → Type 0
AddsVisits n old new = new ≡ saturated (old + n)

-- a walk that gave this answer took the count from old to new: by at most n visits, and by n where
-- it found no difference
pub record AddsAtMost (n : ℕ) (answer : Ordering) (old new : ℕ) : Type 0 where
  pub more : old ≤ new
  pub most : new ≤ saturated (old + n)
  pub all : answer ≡ Equal → AddsVisits n old new
