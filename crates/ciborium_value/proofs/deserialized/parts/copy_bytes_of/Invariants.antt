-- The bytes of the values so far.
use Rattle.std.proofs.Common.{◌≡◌, map, drop, None}
use Rattle.ciborium_value.specs.{Given.{outcome, given_byte, take_each}, TreeAnswers.value_item}
use Rattle.ciborium_value.proofs.Sources.TreeReading.{behind_these}
use Rattle.ciborium_value.proofs.deserialized.parts.copy_bytes_of.Given as goal

abbrev pub invariant-loop-value : goal.invariant-loop-value
invariant-loop-value l = outcome None (take_each given_byte (map value_item l.fn.values)) ≡ behind_these l.bytes.items
    (outcome None (take_each given_byte (map value_item (drop l.value-index l.values))))
