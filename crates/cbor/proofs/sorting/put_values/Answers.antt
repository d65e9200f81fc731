use Rattle.std.proofs.{Common.{arith, refl, rules, ◌≡◌}, lemmas.List.take_all}
use Rattle.hex.specs.Hex.{encode_lower}
use Rattle.ciborium_value.specs.{Encoding.encoding, View.tree_of}
use Rattle.cbor.proofs.WrittenLines.{one-more-written}
use Rattle.cbor.proofs.sorting.put_values.Goals as goal

pub loop-value-preserved : goal.loop-value-preserved
loop-value-preserved g c w e =
    let v = c.value-item.result in
    let digits : c.push_encoding.new.text.items ≡ encode_lower (encoding (tree_of v)) = search rules in
    one-more-written _ _ _ w c.push_encoding.new.text.items _ c.args.values.now c.loop-value.value-index v
    (c.loop-value.invariant w e)
    (rw c.deref.ensures.value at c.in_ok-put_text.ensures) c.in_ok-put_text-2.ensures digits refl (search rules)
    c.value-item.is

pub returns : goal.returns
returns g c w e =
    let all = take_all c.loop-value.value-index c.args.values.now (omega arith) in
    rw all at c.loop-value.invariant w e
