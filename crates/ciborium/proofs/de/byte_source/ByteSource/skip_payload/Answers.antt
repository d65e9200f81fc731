use Rattle.std.proofs.Common.{◌≡◌, Some, ap, sym, ◌∙◌, subst, IfErr, OnOk}
use Rattle.ciborium.specs.inner.{ByteSources.{IsUnread, end_at, fault_at}, PassedOver.{DeniesPayload, TakesPayload}}
use Rattle.ciborium_ll.specs.declared.header.Header.TheVariants as header
use Rattle.ciborium.proofs.de.byte_source.ByteSource.skip_payload.Goals as goal

pub returns-in-Bytes-Some-clause-denied : goal.returns-in-Bytes-Some-clause-denied
returns-in-Bytes-Some-clause-denied g c =
    let old = c.args.self.now in
    let len : c.in-Bytes-Some.field-0 ≡ Some c.in-Bytes-Some.n = rw c.in-Bytes-Some.is at c.in-Bytes-Some.field-0-is in
    subst (λ h. IfErr c.skip_bytes.result (λ e. DeniesPayload (IsUnread g.A.Access.remaining old)
    (end_at g.A.Access.remaining old) h (fault_at g.A.Access.can_fail g.A.Access.remaining c.skip_bytes.new.self e)))
    (sym (c.in-Bytes-Some.is ∙ ap header.Bytes len)) c.skip_bytes.ensures.denied

pub returns-in-Text-Some-clause-denied : goal.returns-in-Text-Some-clause-denied
returns-in-Text-Some-clause-denied g c =
    let old = c.args.self.now in
    let len : c.in-Text-Some.field-0 ≡ Some c.in-Text-Some.n = rw c.in-Text-Some.is at c.in-Text-Some.field-0-is in
    subst (λ h. IfErr c.skip_text.result (λ e. DeniesPayload (IsUnread g.A.Access.remaining old)
    (end_at g.A.Access.remaining old) h (fault_at g.A.Access.can_fail g.A.Access.remaining c.skip_text.new.self e)))
    (sym (c.in-Text-Some.is ∙ ap header.Text len)) c.skip_text.ensures.denied

pub returns-in-Bytes-Some-clause-ok : goal.returns-in-Bytes-Some-clause-ok
returns-in-Bytes-Some-clause-ok g c =
    let len : c.in-Bytes-Some.field-0 ≡ Some c.in-Bytes-Some.n = rw c.in-Bytes-Some.is at c.in-Bytes-Some.field-0-is in
    subst (λ h. OnOk c.skip_bytes.result (TakesPayload (IsUnread g.A.Access.remaining c.args.self.now)
    (IsUnread g.A.Access.remaining c.skip_bytes.new.self) h)) (sym (c.in-Bytes-Some.is ∙ ap header.Bytes len))
    c.skip_bytes.ensures.ok

pub returns-in-Text-Some-clause-ok : goal.returns-in-Text-Some-clause-ok
returns-in-Text-Some-clause-ok g c =
    let len : c.in-Text-Some.field-0 ≡ Some c.in-Text-Some.n = rw c.in-Text-Some.is at c.in-Text-Some.field-0-is in
    subst (λ h. OnOk c.skip_text.result (TakesPayload (IsUnread g.A.Access.remaining c.args.self.now)
    (IsUnread g.A.Access.remaining c.skip_text.new.self) h)) (sym (c.in-Text-Some.is ∙ ap header.Text len))
    c.skip_text.ensures.ok
