-- The numbers of an array, behind its tags.
use Rattle.std.proofs.Common.{◌≡◌, None, map, sym}
use Rattle.ciborium_value.{proofs.Sources.TreeReading.numbers_of, specs.Given.{outcome, take_each, given_byte}}
use Rattle.ciborium_value.specs.{Given.given_bytes, TreeAnswers.{value_item}}
use Rattle.ciborium_value.proofs.deserialized.parts.copy_bytes.Goals as goal

pub returns-in-Array-clause-ok : goal.returns-in-Array-clause-ok
returns-in-Array-clause-ok c =
    let e : outcome None (take_each given_byte (map value_item c.in-Array.values.items)) ≡ outcome None
    (given_bytes (value_item c.args.value.now)) = sym (numbers_of c.skip_tags.result.now c.in-Array.values
    (value_item c.args.value.now) c.in-Array.is c.skip_tags.ensures.item) in
    rw (c.deref-in-Array.ensures.value, e) at c.copy_bytes_of.ensures.ok

pub returns-in-Array-clause-refused : goal.returns-in-Array-clause-refused
returns-in-Array-clause-refused c =
    let e : outcome None (take_each given_byte (map value_item c.in-Array.values.items)) ≡ outcome None
    (given_bytes (value_item c.args.value.now)) = sym (numbers_of c.skip_tags.result.now c.in-Array.values
    (value_item c.args.value.now) c.in-Array.is c.skip_tags.ensures.item) in
    rw (c.deref-in-Array.ensures.value, e) at c.copy_bytes_of.ensures.refused
