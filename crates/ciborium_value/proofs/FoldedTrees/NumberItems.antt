-- The tree of a number, and the item of a number.
use Rattle.std.proofs.Common.{◌≡◌, ℤ, pos, negsuc, ◌^◌, Bool, true, false, if◌then◌else◌, nat_lt, refl}
use Rattle.ciborium_ll.specs.Item.{Item}
use Rattle.ciborium_value.specs.{Encoding.item_of, Number.number_tree, Sinks.number_item, Tree.Tree}

either : (t : Bool) (v w : Tree) (i j : Item) → item_of v ≡ i → item_of w ≡ j →
    item_of (if t then v else w) ≡ (if t then i else j)
either true v w i j h k = h
either false v w i j h k = k

-- a number of either sign
pub number_tree-item : (z : ℤ) → item_of (number_tree z) ≡ number_item z
number_tree-item (pos n) = either (nat_lt n (2 ^ 64)) _ _ _ _ refl refl
number_tree-item (negsuc n) = either (nat_lt n (2 ^ 64)) _ _ _ _ refl refl
