-- Trees in one of the two orders of their encodings.
use Rattle.std.specs.Prelude.{◌≢◌, ℕ, ◌<◌, ◌≤◌, List, length, slice_index_or}
use Rattle.std.specs.declared.cmp.Ordering.TheVariants.{Greater}
use Rattle.ciborium_value.specs.{Canonical.key_order, Tree.Tree, declared.key_order.KeyOrder.KeyOrder}

-- no tree comes in this order after one that stands behind it
abbrev pub AreSorted : KeyOrder → List Tree → Type 0
AreSorted order ts = (i j : ℕ) (d : Tree) → i ≤ j → j < length ts →
    key_order order (slice_index_or ts i d) (slice_index_or ts j d) ≢ Greater
