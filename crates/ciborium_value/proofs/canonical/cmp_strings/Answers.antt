use Rattle.std.proofs.Common.{◌∙◌, ap, string_bytes}
use Rattle.ciborium_value.specs.{Tree.{bytes, text}, View.tree_of, inner.SideBySide.payload_order}
use Rattle.ciborium_value.proofs.Orders.OrderedStrings.{bytes-in-order, of-these, one-payload, texts-in-order}
use Rattle.ciborium_value.proofs.{Orders.SideBySide.{same_payload-Bytes, same_payload-Text}, Trees.Views.tree_of-Bytes}
use Rattle.ciborium_value.proofs.Trees.Views.{tree_of-Text}
use Rattle.ciborium_value.proofs.canonical.cmp_strings.Goals as goal

pub returns-in-Text-Text-clause-order : goal.returns-in-Text-Text-clause-order
returns-in-Text-Text-clause-order c =
    of-these _ _ _ _ _ (c.cmp_payloads.ensures ∙ texts-in-order _ _ c.as_bytes.type_inv.0
    c.as_bytes-in-Text-Text.type_inv.0) (ap text c.as_bytes.ensures.value)
    (ap text c.as_bytes-in-Text-Text.ensures.value) (ap tree_of c.in-Text-Text.is-0 ∙ tree_of-Text c.in-Text-Text.left)
    (ap tree_of c.in-Text-Text.is-1 ∙ tree_of-Text c.in-Text-Text.right)

pub returns-in-Text-Text-clause-equal : goal.returns-in-Text-Text-clause-equal
returns-in-Text-Text-clause-equal c e =
    let left = string_bytes c.in-Text-Text.left in
    let right = string_bytes c.in-Text-Text.right in
    let order = c.cmp_payloads.ensures ∙ ap (λ a. payload_order a c.as_bytes-in-Text-Text.result.now)
    c.as_bytes.ensures.value ∙ ap (payload_order left) c.as_bytes-in-Text-Text.ensures.value in
    same_payload-Text _ _ _ _ c.in-Text-Text.is-0 c.in-Text-Text.is-1
    (one-payload c.cmp_payloads.result left right order e)

pub returns-in-Bytes-Bytes-clause-order : goal.returns-in-Bytes-Bytes-clause-order
returns-in-Bytes-Bytes-clause-order c =
    of-these _ _ _ _ _ (c.cmp_payloads-in-Bytes-Bytes.ensures ∙ bytes-in-order _ _ c.deref.type_inv.0
    c.deref-in-Bytes-Bytes.type_inv.0) (ap bytes c.deref.ensures.value) (ap bytes c.deref-in-Bytes-Bytes.ensures.value)
    (ap tree_of c.in-Bytes-Bytes.is-0 ∙ tree_of-Bytes c.in-Bytes-Bytes.left)
    (ap tree_of c.in-Bytes-Bytes.is-1 ∙ tree_of-Bytes c.in-Bytes-Bytes.right)

pub returns-in-Bytes-Bytes-clause-equal : goal.returns-in-Bytes-Bytes-clause-equal
returns-in-Bytes-Bytes-clause-equal c e =
    let left = c.in-Bytes-Bytes.left.items in
    let right = c.in-Bytes-Bytes.right.items in
    let order = c.cmp_payloads-in-Bytes-Bytes.ensures ∙ ap (λ a. payload_order a c.deref-in-Bytes-Bytes.result.now)
    c.deref.ensures.value ∙ ap (payload_order left) c.deref-in-Bytes-Bytes.ensures.value in
    same_payload-Bytes _ _ _ _ c.in-Bytes-Bytes.is-0 c.in-Bytes-Bytes.is-1
    (one-payload c.cmp_payloads-in-Bytes-Bytes.result left right order e)
