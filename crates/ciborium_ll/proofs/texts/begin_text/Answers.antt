use Rattle.std.proofs.Common.{◌≡◌, ◌-◌, ◌<◌, Some, None, refl, sym, ◌∙◌, arith, ltb-true, lt-ltb, drop, ap, subst}
use Rattle.std.proofs.Common.{length, length-drop, ◌+◌}
use Rattle.std.specs.{Str.{error_len, IsErrorLen, IsValidUpTo}, Str.Lossy.utf8_error_len}
use Rattle.ciborium_ll.proofs.BegunTexts.{begin-text, none-begun, begun-room, room-begun}
use Rattle.ciborium_ll.proofs.texts.begin_text.Goals as goal

pub returns-in-Ok : goal.returns-in-Ok
returns-in-Ok c = (λ h. begin-text c.args.size c.args.bytes.now c.requires c.in-Ok.ensures.cases.1, λ h. refl)

pub returns-in-Some : goal.returns-in-Some
returns-in-Some c =
    let b = c.args.bytes.now in
    let e = c.in-Err.e in
    let none : utf8_error_len (drop e.valid_up_to b) ≡ Some c.in-Some.field-0 =
    sym c.in-Err.ensures.fault ∙ sym c.error_len.ensures ∙ c.in-Some.is in
    let v = c.in-Err.ensures.cases.1 in
    (λ h. absurd cc, λ h. absurd (none-begun b e.valid_up_to v c.args.size _ none h))

pub returns-in-None : goal.returns-in-None
returns-in-None c =
    let b = c.args.bytes.now in
    let at = c.valid_up_to-at.result in
    let here : c.in-Err.e.valid_up_to ≡ at = sym c.valid_up_to-at.ensures in
    let v : IsValidUpTo b at = subst (IsValidUpTo b) here c.in-Err.ensures.cases.1 in
    let len : error_len c.in-Err.e ≡ None = sym c.error_len.ensures ∙ c.in-None.is in
    let none : utf8_error_len (drop at b) ≡ None =
    sym (c.in-Err.ensures.fault ∙ ap (λ k. utf8_error_len (drop k b)) here) ∙ len in
    let few : length b < c.in-Err.e.valid_up_to + 4 =
    subst (IsErrorLen b c.in-Err.e.valid_up_to) len c.in-Err.ensures.error_len in (
      λ h. room-begun b at v c.args.size (omega (arith, few, here, length-drop at b)) none
          (subst (λ k. k < c.args.size - at) c.bytes_behind.ensures (ltb-true _ _ h)),
      λ h. lt-ltb _ _ (subst (λ k. k < c.args.size - at) (sym c.bytes_behind.ensures)
          (begun-room b at v c.args.size h)),
    )
