use Rattle.std.proofs.lemmas.Result.{on_ok_weaker}
use Rattle.ciborium_ll.specs.declared.strings.StringType.{StringType}
use Rattle.cbor.{proofs.ExactNotation.{alone, as-float}, specs.Exact.IsExactly}
use Rattle.cbor.proofs.exact.push_leaf.Goals as goal

pub returns-in-Positive : goal.returns-in-Positive
returns-in-Positive c = on_ok_weaker c.push_unsigned.result
    (alone c.args.head.now _ _ _ (rw c.in-Positive.is at c.requires.payload)
    (IsExactly.unsigned c.args.head.now.bytes.now c.in-Positive.n (rw c.in-Positive.is at c.requires.spelled)))
    c.push_unsigned.ensures

pub returns-in-Negative : goal.returns-in-Negative
returns-in-Negative c = on_ok_weaker c.push_negative.result
    (alone c.args.head.now _ _ _ (rw c.in-Negative.is at c.requires.payload)
    (IsExactly.negative c.args.head.now.bytes.now c.in-Negative.n (rw c.in-Negative.is at c.requires.spelled)))
    c.push_negative.ensures

pub returns-in-Bytes : goal.returns-in-Bytes
returns-in-Bytes c = on_ok_weaker c.push_string.result
    (λ (u, is, e). (u, IsExactly.string StringType.Bytes _ u is, e)) c.push_string.ensures

pub returns-in-Text : goal.returns-in-Text
returns-in-Text c = on_ok_weaker c.push_string-in-Text.result
    (λ (u, is, e). (u, IsExactly.string StringType.Text _ u is, e)) c.push_string-in-Text.ensures

pub returns-in-Simple : goal.returns-in-Simple
returns-in-Simple c = on_ok_weaker c.push_simple.result
    (alone c.args.head.now _ _ _ (rw c.in-Simple.is at c.requires.payload)
    (IsExactly.simple c.args.head.now.bytes.now c.in-Simple.n (rw c.in-Simple.is at c.requires.spelled)))
    c.push_simple.ensures

pub returns-in-Float : goal.returns-in-Float
returns-in-Float c = on_ok_weaker c.push_float.result
    (alone c.args.head.now _ _ _ (rw c.in-Float.is at c.requires.payload)
    (as-float c.args.head.now.bytes.now c.in-Float.field-0 (rw c.in-Float.is at c.requires.spelled)))
    c.push_float.ensures
