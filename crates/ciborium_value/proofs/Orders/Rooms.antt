-- Encodings that are taken from a room, part by part.
use Rattle.std.proofs.Common.{◌≡◌, ℕ, ◌+◌, ◌-◌, ◌≤◌, [], length, Option, Some}
use Rattle.std.{proofs.Common.{None, ap, ◌∙◌, arith}, specs.Option.SomeIff}
use Rattle.ciborium_ll.specs.Head.{shortest_head}
use Rattle.ciborium_value.{proofs.Orders.TreeEncodings.encoding-length, specs.{Encoding.encoding, Tree.Tree}}
use Rattle.ciborium_value.specs.inner.{TreeHeads.{tree_major, argument_of, content_bytes}}

-- one part, and then another
SomeIff-then : (result : Option ℕ) (room left one other both : ℕ) → both ≡ one + other → (one ≤ room) ×
    (left ≡ room - one) → SomeIff result (other ≤ left) (left - other) → SomeIff result (both ≤ room) (room - both)
SomeIff-then None room left one other both sum first h = λ all. let fits = first.0 in let over = first.1 in
    h (omega (arith, sum, fits, over, all))
SomeIff-then (Some x) room left one other both sum first h =
    let fits = first.0 in
    let over = first.1 in
    let behind = h.0 in
    let is = h.1 in
    (omega (arith, sum, fits, over, behind), omega (arith, sum, fits, over, behind, is))

-- where the room does not suffice, nothing is left
pub exhausted : (result : Option ℕ) (room size : ℕ) → result ≡ None → (size ≤ room → ⊥) →
    SomeIff result (size ≤ room) (room - size)
exhausted None room size e over = over
exhausted (Some x) room size e over = absurd (let no : Some x ≡ None = e in cc)

module _ (v : Tree) (major argument head room : ℕ) (m : major ≡ tree_major v) (n : argument ≡ argument_of v)
    (h : head ≡ length (shortest_head major argument)) where
  -- the head, and then what stands behind it
  pub spends_content : (content left : ℕ) (result : Option ℕ) → length (content_bytes v) ≡ content →
      (head ≤ room) × (left ≡ room - head) → SomeIff result (content ≤ left) (left - content)
      → SomeIff result (length (encoding v) ≤ room) (room - length (encoding v))
  spends_content content left result behind first rest =
      SomeIff-then result room left head content (length (encoding v))
      (encoding-length v major argument head m n h ∙ ap (λ k. head + k) behind) first rest

  -- a head behind which nothing stands
  pub spends_head : (left : ℕ) → content_bytes v ≡ [] → (head ≤ room) × (left ≡ room - head)
      → SomeIff (Some left) (length (encoding v) ≤ room) (room - length (encoding v))
  spends_head left none first = spends_content 0 left (Some left) (ap length none) first (omega arith, omega arith)

  -- not even the head
  pub spends_nothing : (result : Option ℕ) → result ≡ None → (head ≤ room → ⊥)
      → SomeIff result (length (encoding v) ≤ room) (room - length (encoding v))
  spends_nothing result e over = exhausted result room (length (encoding v)) e
      (λ all. let whole = encoding-length v major argument head m n h in over (omega (arith, whole, all)))
