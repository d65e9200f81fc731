use Rattle.std.proofs.Common.{List, ℕ, ◌∙◌, ap, subst, Some, Ok}
use Rattle.ciborium_ll.specs.Decoding.{TakesBeforeAny}
use Rattle.ciborium.specs.{inner.StringAnswers.{IsHeldRead, string_type}, inner.ValuesInBytes.IsAt}
use Rattle.ciborium.proofs.Readers.WhateverFollows.{PartSo, so-then}
use Rattle.ciborium.proofs.de.parts.read_string.Goals as goal

pub returns-in-Some-2-clause-content : goal.returns-in-Some-2-clause-content
returns-in-Some-2-clause-content g c =
    rw c.in-Some.is (subst (λ r. TakesBeforeAny g.A.Access.remaining c.args.decoder.now c.copy_held.new.decoder
    (λ d e. (xs : List ℕ) (p : ℕ) → IsAt Some d xs p → IsHeldRead (string_type c.args.is_text) Some e c.in-Some.size
    c.args.decoder.now.last xs p r)) (c.in_ok-value.was ∙ ap Ok c.in-Some-2.is) c.copy_held.ensures.content)

pub returns-in-None-clause-content : goal.returns-in-None-clause-content
returns-in-None-clause-content g c =
    let old = c.args.decoder.now in
    let new = c.append_string-in-None.new.decoder in
    let type = string_type c.args.is_text in
    let size = Some c.in-Some.size in
    rw c.in-Some.is (so-then g.A.Access.remaining old c.copy_held.new.decoder new
    (λ d e. (xs : List ℕ) (p : ℕ) → IsAt Some d xs p → IsAt Some e xs p)
    (λ d e. PartSo type size old.last d e c.append_string-in-None.result)
    (λ d e. PartSo type size old.last d e c.append_string-in-None.result)
    (λ u v w stays reads xs p at. reads xs p (stays xs p at))
    (subst (λ r. TakesBeforeAny g.A.Access.remaining old c.copy_held.new.decoder
    (λ d e. (xs : List ℕ) (p : ℕ) → IsAt Some d xs p → IsHeldRead type Some e c.in-Some.size old.last xs p r))
    (c.in_ok-value.was ∙ ap Ok c.in-None.is) c.copy_held.ensures.content)
    (subst (λ at. TakesBeforeAny g.A.Access.remaining c.copy_held.new.decoder new
    (λ d e. PartSo type size at d e c.append_string-in-None.result))
    c.copy_held.ensures.last c.append_string-in-None.ensures.content))
