use Rattle.std.proofs.{Common.map, lemmas.List.Sorted.IsPermutation-map}
use Rattle.ciborium_value.specs.View.{tree_of}
use Rattle.cbor.proofs.sorting.sort_lines.Goals as goal

pub returns-in_ok-write_values-in-Ok : goal.returns-in_ok-write_values-in-Ok
returns-in_ok-write_values-in-Ok g c b w e f =
    let sorted = c.in_ok-sorted-in-Ok in (
      map tree_of c.in-Ok.values.items,
      map tree_of sorted.sorted.items,
      c.in-Ok.ensures b e,
      IsPermutation-map tree_of c.in-Ok.values.items sorted.sorted.items sorted.ensures.permutation,
      sorted.ensures.sorted,
      rw c.deref.ensures.value at c.in_ok-write_values-in-Ok.ensures w f,
    )
