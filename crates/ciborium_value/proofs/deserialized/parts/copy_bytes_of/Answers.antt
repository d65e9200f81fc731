use Rattle.std.proofs.Common.{◌≡◌, ◌∙◌, ◌+◌, ◌<◌, ◌++◌, ◌∷◌, ℕ, List, [], None, ap, add-one, arith, drop}
use Rattle.std.proofs.{Common.{get_or, length, map, rules, subst, sym}, lemmas.Grind.common_steps}
use Rattle.ciborium_ll.specs.Item.{Item}
use Rattle.ciborium_value.proofs.Trees.Elements.{at, left_from}
use Rattle.ciborium_value.{proofs.Sources.TreeReading.behind_these, specs.Given.{given_byte, gives, outcome, take_each}}
use Rattle.ciborium_value.specs.{TreeAnswers.{IsErrorOf, value_item}, declared.error.Error.Error}
use Rattle.ciborium_value.specs.declared.{error.Error.TheVariants.{Custom, Memory}, tree.Value.Value}
use Rattle.ciborium_value.proofs.deserialized.parts.copy_bytes_of.Goals as goal

-- one byte more
behind_byte : (bs : List ℕ) (b : ℕ) (i : Item) (is : List Item) → outcome None (given_byte i) ≡ gives b →
    behind_these bs (outcome None (take_each given_byte (i ∷ is))) ≡
    behind_these (bs ++ b ∷ []) (outcome None (take_each given_byte is))
behind_byte bs b i is e = grind (arith, common_steps)

refused_byte : (e : Error) (bs : List ℕ) (i : Item) (is : List Item) → IsErrorOf e (outcome None (given_byte i)) →
    IsErrorOf e (behind_these bs (outcome None (take_each given_byte (i ∷ is))))
refused_byte Memory bs i is h = tt
refused_byte (Custom k) bs i is h = cc h

-- a value and those behind it
here : (vs : List Value) (i : ℕ) (v : Value) → i < length vs → v ≡ get_or vs i v → drop i vs ≡ v ∷ drop (i + 1) vs
here vs i v h e = rw add-one (left_from (at h e))

pub loop-value-preserved : goal.loop-value-preserved
loop-value-preserved c =
    let vs = c.args.values.now in let i = c.loop-value.value-index in
    c.loop-value.invariant ∙ ap (λ l. behind_these c.loop-value.bytes.items (outcome None (take_each given_byte
    (map value_item l)))) (here vs i c.value-item.result c.loop-value-test.true c.value-item.is) ∙
    behind_byte c.loop-value.bytes.items c.in_ok-byte.byte (value_item c.value-item.result)
    (map value_item (drop (i + 1) vs)) c.in_ok-byte.ensures.ok ∙ ap (λ l. behind_these l (outcome None
    (take_each given_byte (map value_item (drop (i + 1) vs))))) (sym c.in-Ok.ensures.items)

pub returns-in_err-byte-clause-refused : goal.returns-in_err-byte-clause-refused
returns-in_err-byte-clause-refused c =
    let vs = c.args.values.now in let i = c.loop-value.value-index in let bytes = c.loop-value.bytes.items in
    let all = c.loop-value.invariant ∙
    ap (λ l. behind_these bytes (outcome None (take_each given_byte (map value_item l))))
    (here vs i c.value-item.result c.loop-value-test.true c.value-item.is) in
    let h = subst (IsErrorOf c.in_err-byte.field-0.0) (sym all) (refused_byte c.in_err-byte.field-0.0 bytes
    (value_item c.value-item.result) (map value_item (drop (i + 1) vs)) c.in_err-byte.ensures.refused) in
    search (rules, h)

pub returns-clause-ok : goal.returns-clause-ok
returns-clause-ok c = grind (arith, common_steps)
