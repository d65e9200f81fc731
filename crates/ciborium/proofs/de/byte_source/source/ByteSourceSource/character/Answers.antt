use Rattle.std.proofs.Common.{◌≡◌, ◌≤◌, ℕ, [], ◌∷◌, ap, ◌∙◌, Some, false, subst, arith, length, take}
use Rattle.std.proofs.{lemmas.Grind.common_steps}
use Rattle.ciborium_ll.specs.{Accesses.left_at_failure, declared.strings.StringType.StringType}
use Rattle.ciborium_value.{specs.Given.{given_character}}
use Rattle.ciborium_value.specs.{Sources.of_kind}
use Rattle.ciborium.proofs.Containers.ByteItems.{bare-refused, behind-refused, head-refused, other-refuses}
use Rattle.ciborium.proofs.Containers.ByteItems.{TakesOne, refuses-denied, string-given, string-refuses}
use Rattle.ciborium.proofs.Exits.{both, by-cases, passed_on}
use Rattle.ciborium.proofs.Payloads.ShortNames.{just-denied}
use Rattle.ciborium.specs.inner.StringContents.{DeniesJust}
use Rattle.ciborium.proofs.{Items.{TakenOnly.same-end}, Payloads.LoneCharacters.character-given}
use Rattle.ciborium.proofs.Payloads.LoneCharacters.{character-open, character-other, long-denied, payload-denied}
use Rattle.ciborium.proofs.Payloads.{LoneCharacters.{payload-taken, text-denied}}
use Rattle.ciborium.specs.inner.{ByteSources.{IsUnread, end_at, fault_at}, Skips.TakesBare}
use Rattle.ciborium_ll.specs.declared.header.Header.TheVariants as header
use Rattle.ciborium_ll.specs.declared.kind.Kind.TheVariants as kinds
use Rattle.ciborium.proofs.de.byte_source.source.ByteSourceSource.character.Goals as goal

short : (n : ℕ) → n ≤ 4 → length {A = ℕ} (take n (0 ∷ 0 ∷ 0 ∷ 0 ∷ [])) ≡ n
short n h = grind (arith, common_steps)

pub returns-in_err-header-clause-takes : goal.returns-in_err-header-clause-takes
returns-in_err-header-clause-takes g c =
    rw (passed_on c.from_residual.result _ c.from_residual.ensures.1)
    (head-refused c.in_err-header.ensures.reads c.in_err-header.ensures.denied)

pub returns-then-n-gt-GREATEST_CHARACTER_SIZE-clause-takes : goal.returns-then-n-gt-GREATEST_CHARACTER_SIZE-clause-takes
returns-then-n-gt-GREATEST_CHARACTER_SIZE-clause-takes g c =
    let old = c.args.self.now in
    let mid = c.bare_head.new.self in
    bare-refused c.in_ok-header.ensures.reads (refuses-denied g.A.Access.remaining old given_character
    (of_kind kinds.Char)
    (long-denied (IsUnread g.A.Access.remaining) (end_at g.A.Access.remaining) (Some old.levels) old mid c.in-Some.n
    (subst (TakesBare (IsUnread g.A.Access.remaining) old mid false) (c.in-Text.is ∙ ap header.Text c.in-Some.is)
    c.in_ok-header.ensures.head) (same-end g.A.Access.remaining old mid c.in_ok-header.ensures.reads.kept.only)
    c.if-n-gt-GREATEST_CHARACTER_SIZE.true))

pub returns-in_ok-fill-in-Some-clause-takes : goal.returns-in_ok-fill-in-Some-clause-takes
returns-in_ok-fill-in-Some-clause-takes g c =
    let old = c.args.self.now in
    let n = c.in-Some.n in
    let mid = c.bare_head.new.self in
    let new = c.fill.new.self in
    let payload = c.fill.new.buffer in
    let size : length payload ≡ n = c.fill.auto.buffer ∙ short n c.if-n-gt-GREATEST_CHARACTER_SIZE.false in
    let content = c.in_ok-fill-in-Some.ensures in
    let read = c.only_character.ensures in
    let is = c.in-Text.is ∙ ap header.Text c.in-Some.is in
    let fault = fault_at g.A.Access.can_fail g.A.Access.remaining new in
    by-cases c.only_character.result _ _
    (TakesOne g.A.Access.can_fail g.A.Access.remaining old new given_character (λ v. v))
    (both _ _ _ read.utf8 read.ok) read.refused
    (λ v t. let (utf8, ok) = t in
    string-given c.in_ok-header.ensures.reads c.in_ok-header.ensures.head StringType.Text (Some n) is content.keeps
    payload (payload-taken (IsUnread g.A.Access.remaining mid) (IsUnread g.A.Access.remaining new) n payload size utf8
    content.ok) (character-given (Some old.levels) payload v ok))
    (λ e refused. behind-refused c.in_ok-header.ensures.reads content.keeps.only content.keeps.no_more
    (refuses-denied g.A.Access.remaining old given_character (fault e)
    (text-denied (IsUnread g.A.Access.remaining) (end_at g.A.Access.remaining) (Some old.levels) old mid n
    (subst (TakesBare (IsUnread g.A.Access.remaining) old mid false) is c.in_ok-header.ensures.head) (fault e)
    (same-end g.A.Access.remaining old mid c.in_ok-header.ensures.reads.kept.only)
    (payload-denied (end_at g.A.Access.remaining mid) (IsUnread g.A.Access.remaining mid)
    (IsUnread g.A.Access.remaining new) n payload (fault e) size
    (refused (left_at_failure g.A.Access.can_fail (g.A.Access.remaining new.decoder.reader.now))) content.ok))))

pub returns-in_err-fill-in-Some-clause-takes : goal.returns-in_err-fill-in-Some-clause-takes
returns-in_err-fill-in-Some-clause-takes g c =
    let n = c.in-Some.n in
    let P = IsUnread g.A.Access.remaining c.bare_head.new.self in
    let end = end_at g.A.Access.remaining c.bare_head.new.self in
    let fault = fault_at g.A.Access.can_fail g.A.Access.remaining c.fill.new.self c.in_err-fill-in-Some.field-0.0 in
    let refusal = c.in_err-fill-in-Some.ensures in
    rw (passed_on c.from_residual-in_err-fill-in-Some.result _ c.from_residual-in_err-fill-in-Some.ensures.1)
    (behind-refused c.in_ok-header.ensures.reads refusal.keeps.only refusal.keeps.no_more
    (string-refuses given_character c.in_ok-header.ensures.reads c.in_ok-header.ensures.head fault StringType.Text
    (Some n) (c.in-Text.is ∙ ap header.Text c.in-Some.is) (just-denied P end n fault StringType.Text
    (subst (λ k. DeniesJust P end k fault) (short n c.if-n-gt-GREATEST_CHARACTER_SIZE.false) refusal.outside))))

pub returns-in-None-clause-takes : goal.returns-in-None-clause-takes
returns-in-None-clause-takes g c = bare-refused c.in_ok-header.ensures.reads
    (other-refuses given_character c.in_ok-header.ensures.reads c.in_ok-header.ensures.head
    (λ ts i all e. character-open (Some c.args.self.now.levels) ts i all
    (e ∙ c.in-Text.is ∙ ap header.Text c.in-None.is)))

pub returns-in_default-clause-takes : goal.returns-in_default-clause-takes
returns-in_default-clause-takes g c = bare-refused c.in_ok-header.ensures.reads
    (other-refuses given_character c.in_ok-header.ensures.reads c.in_ok-header.ensures.head
    (character-other (Some c.args.self.now.levels) c.in_ok-header.header c.in_ok-header.ensures.reads.bare
    c.in_default.not-Text))
