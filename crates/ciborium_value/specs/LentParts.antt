-- What a tag ends as, after writes through what `as_tag_mut` lends.
use Rattle.std.specs.{Borrow.{LendsBothIf, MutBor, Fml, u64}, Box.with_value, Prelude.ℕ, declared.option.Option.Option}
use Rattle.ciborium_value.specs.{contracts.tree.Value.the_row, declared.tree.Value.{Value, out-Value, TheOpen.Value-F}}
use Rattle.ciborium_value.specs.declared.tree.Value as value

-- a tag with the number t and the content w in its box, and v for any other value
abbrev pub level_with_tag : Value-F Value → Value → ℕ → Value → Value
level_with_tag (Value-F.Tag s b) v t w = value.Tag t (with_value b w)
level_with_tag _ v t w = v

-- v with the number t and the content w, where it is a tag
abbrev pub value_with_tag : Value → ℕ → Value → Value
value_with_tag v t w = level_with_tag (out-Value v) v t w

-- s ends as a tag of the last number behind the first reference of r, over the last value behind
-- the second, in the box that it had
abbrev pub LendsTag : MutBor Value → Option (MutBor ℕ × MutBor Value) → Fml
LendsTag s r = LendsBothIf the_row u64 the_row s r (value_with_tag s.now) s.now
