use Rattle.std.{proofs.Common.{◌≡◌, ◌++◌, ℕ, List, Some, map, take, flat_map}, specs.Io.KnownBytes.append_known}
use Rattle.ciborium_value.specs.View.{tree_of}
use Rattle.cbor.specs.SortedLines.{hex_line}
use Rattle.cbor.proofs.sorting.put_values.Given as goal

-- the lines of the values so far are held
abbrev pub invariant-loop-value : goal.invariant-loop-value
invariant-loop-value g l = (w : List ℕ) → append_known (g.W.Write.contents l.initial.output) l.initial.waiting.items ≡
    Some w → append_known (g.W.Write.contents l.output) l.waiting.items ≡ Some
    (w ++ flat_map hex_line (map tree_of (take l.value-index l.values)))
