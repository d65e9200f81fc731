-- Places whose items can be written.
use Rattle.std.proofs.Common.{ℕ, ◌≤◌, List, [], ◌∷◌, ◌++◌, Option, Some, None, sym, ◌∙◌, subst}
use Rattle.ciborium_ll.specs.{Bytes.greatest_offset, Item.{Item, items_count}}
use Rattle.ciborium_value.specs.Places.{ContainerType, an_array, a_map, items_from, pairs_from, container, is_open}
use Rattle.ciborium_value.specs.Places.{Place, top, within, tagged, added, IsFull, Fits, IsWrittenPlace}
use Rattle.ciborium_value.specs.WrittenItems.{IsWritten, AreWritten, PairsAreWritten}
use Rattle.ciborium_value.proofs.Writing.Standing.{items_count-from, pairs-from}
use Rattle.ciborium_ll.specs.Item as item

pub AreWritten-more : (is : List Item) (i : Item) → AreWritten (items_from is) → IsWritten i →
    AreWritten (items_from (is ++ i ∷ []))
AreWritten-more [] i h w = (w, tt)
AreWritten-more (j ∷ is) i h w = (h.0, AreWritten-more is i h.1 w)

pairs-written : (is : List Item) → AreWritten (items_from is) → PairsAreWritten (pairs_from is)
pairs-written (k ∷ v ∷ is) h = (h.0, h.1.0, pairs-written is h.1.1)
pairs-written u h = tt

pub written-added : (p : Place) (i : Item) → IsWrittenPlace p → IsWritten i → IsWrittenPlace (added p i)
written-added (top name before is) i h w = AreWritten-more is i h w
written-added (within s n is around) i h w = (h.0, AreWritten-more is i h.1 w, h.2)
written-added (tagged t p) i h w = written-added p (item.tag t i) h.1 (h.0, w)

pub written-container : (s : ContainerType) (n : Option ℕ) (is : List Item) → Fits n → AreWritten (items_from is) →
    IsFull s n is → IsWritten (container s (is_open n) is)
written-container an_array None is fits h full = (tt, h)
written-container a_map None is fits h full = (tt, pairs-written is h)
written-container an_array (Some n) is fits h full = (
  subst (λ k. k ≤ greatest_offset)
      (sym (items_count-from is ∙ full)) fits,
  h,
)
written-container a_map (Some n) is fits h full =
    (subst (λ k. k ≤ greatest_offset) (sym (pairs-from is n full).1) fits, pairs-written is h)
