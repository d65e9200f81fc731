use Rattle.std.proofs.Common.{◌≡◌, ◌++◌, Some, drop, length, refl, sym, ◌∙◌, subst, take, take-append-drop, IsUtf8}
use Rattle.std.{proofs.lemmas.Str.IsUtf8-append, specs.Str.Lossy.utf8_error_len}
use Rattle.ciborium_ll.proofs.BegunTexts.{none-begun}
use Rattle.ciborium.proofs.de.byte_source.payloads.whole_len.Goals as goal

pub returns-in-Some-clause-none : goal.returns-in-Some-clause-none
returns-in-Some-clause-none c t utf8 =
    let b = c.args.bytes.now in
    let e = c.in-Err.e in
    let fault : utf8_error_len (drop e.valid_up_to b) ≡ Some c.in-Some.field-0 =
    sym c.in-Err.ensures.fault ∙ sym c.error_len.ensures ∙ c.in-Some.is in
    none-begun b e.valid_up_to c.in-Err.ensures.cases.1 (length (b ++ t)) c.in-Some.field-0 fault (t, refl, utf8)

pub returns-in-None-clause-cut : goal.returns-in-None-clause-cut
returns-in-None-clause-cut c rest =
    let b = c.args.bytes.now in
    let at = c.valid_up_to.result in
    let front : IsUtf8 (take at b) = subst (λ k. IsUtf8 (take k b)) (sym c.valid_up_to.ensures)
    c.in-Err.ensures.cases.1.front in
    absurd (c.in-Err.ensures.cases.0 (subst IsUtf8 (take-append-drop at b)
    (IsUtf8-append (take at b) (drop at b) front rest)))
