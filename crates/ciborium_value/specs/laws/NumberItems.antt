-- The tree of a number is that of the item which typed writing names for it (RFC 8949, section
-- 3.4.3).
use Rattle.std.specs.Prelude.{◌≡◌, ℤ}
use Rattle.ciborium_value.specs.{Encoding.item_of, Number.number_tree, Sinks.number_item}

abbrev pub NumberTreeIsItem : Type 0
NumberTreeIsItem = (z : ℤ) → item_of (number_tree z) ≡ number_item z
