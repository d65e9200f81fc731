use Rattle.std.proofs.{Common.{◌≡◌, ap, sym, Some, false, subst, string_bytes}, lemmas.Str.IsUtf8-string_bytes}
use Rattle.std.specs.Str.{IsUtf8}
use Rattle.ciborium_ll.specs.declared.strings.StringType.{StringType}
use Rattle.ciborium_value.specs.{Given.{bare_name, given_name, outcome, settled}, Places.is_open}
use Rattle.ciborium.proofs.{Containers.NamedVariants.{bytes-name, bytes-no-name, name-other}, Exits.passed_on}
use Rattle.ciborium.proofs.Items.BareHeads.{head-denied, other-denied, string-answered, string-denied, string-read}
use Rattle.ciborium.{proofs.Items.SkippedTags.untagged-under, specs.inner.ByteSources.{IsUnread, end_at, fault_at}}
use Rattle.ciborium.specs.inner.{Skips.TakesBare, StringContents.string_item}
use Rattle.ciborium_ll.specs.declared.kind.Kind.TheVariants as kinds
use Rattle.ciborium.proofs.de.byte_source.ByteSource.name.Goals as goal

pub returns-in_err-header-clause-answer : goal.returns-in_err-header-clause-answer
returns-in_err-header-clause-answer g c =
    rw (passed_on c.from_residual.result _ c.from_residual.ensures.1)
    (head-denied g.A.Access.remaining c.args.self.now given_name
    (fault_at g.A.Access.can_fail g.A.Access.remaining c.bare_head.new.self c.in_err-header.field-0.0)
    c.in_err-header.ensures.denied)

pub returns-in-Text-clause-answer : goal.returns-in-Text-clause-answer
returns-in-Text-clause-answer g c =
    string-answered g.A.Access.remaining c.args.self.now given_name c.bare_head.new.self c.in_ok-header.header
    c.in_ok-header.ensures.head StringType.Text c.in-Text.len c.in-Text.is g.A.Access.can_fail c.text_content.new.self
    string_bytes c.text_content.result c.in_ok-header.ensures.reads.kept.only c.text_content.ensures.ok
    (λ v took. (
      string_bytes v,
      took,
      λ ts all. ap (λ j. settled (bare_name j))
          (untagged-under ts (string_item StringType.Text c.in-Text.len (string_bytes v))),
    )) c.text_content.ensures.denied

pub returns-in_err-bytes-in-Bytes-clause-answer : goal.returns-in_err-bytes-in-Bytes-clause-answer
returns-in_err-bytes-in-Bytes-clause-answer g c =
    rw (passed_on c.from_residual-in_err-bytes-in-Bytes.result _ c.from_residual-in_err-bytes-in-Bytes.ensures.1)
    (string-denied g.A.Access.remaining c.args.self.now given_name c.bare_head.new.self
    c.in_ok-header.header c.in_ok-header.ensures.head StringType.Bytes c.in-Bytes.len c.in-Bytes.is
    c.in_ok-header.ensures.reads.kept.only (fault_at g.A.Access.can_fail g.A.Access.remaining c.bytes_content.new.self
    c.in_err-bytes-in-Bytes.field-0.0)
    c.in_err-bytes-in-Bytes.ensures.denied)

pub returns-in-Ok-clause-answer : goal.returns-in-Ok-clause-answer
returns-in-Ok-clause-answer g c =
    let l = Some c.args.self.now.levels in
    let payload = c.in_ok-bytes-in-Bytes.bytes.items in
    let same : string_bytes c.in-Ok.name ≡ payload = ap (λ v. v.items) c.in-Ok.ensures.ok in
    let utf8 : IsUtf8 payload = subst IsUtf8 same (IsUtf8-string_bytes c.in-Ok.name) in
    string-read g.A.Access.remaining c.args.self.now given_name c.bare_head.new.self c.in_ok-header.header
    c.in_ok-header.ensures.head StringType.Bytes c.in-Bytes.len c.in-Bytes.is c.bytes_content.new.self payload
    (string_bytes
    c.in-Ok.name) c.in_ok-bytes-in-Bytes.ensures.ok (λ ts all. subst (λ b. outcome l
    (given_name (Rattle.ciborium.specs.inner.Skips.under ts (string_item StringType.Bytes c.in-Bytes.len payload))) ≡
    Rattle.ciborium_value.specs.Given.gives b) (sym same) (bytes-name ts l (is_open c.in-Bytes.len) payload utf8))

pub returns-in-Bytes-clause-answer : goal.returns-in-Bytes-clause-answer
returns-in-Bytes-clause-answer g c =
    bytes-no-name (IsUnread g.A.Access.remaining) (end_at g.A.Access.remaining) c.args.self.now c.bare_head.new.self
    c.bytes_content.new.self c.in-Bytes.len (Some c.args.self.now.levels) c.in_ok-bytes-in-Bytes.bytes.items
    (λ u. let never = c.in-Err.ensures.succeeds u in cc)
    (subst (TakesBare (IsUnread g.A.Access.remaining) c.args.self.now c.bare_head.new.self false) c.in-Bytes.is
    c.in_ok-header.ensures.head) c.in_ok-bytes-in-Bytes.ensures.ok

pub returns-clause-answer : goal.returns-clause-answer
returns-clause-answer g c =
    other-denied g.A.Access.remaining c.args.self.now given_name c.bare_head.new.self c.in_ok-header.header
    c.in_ok-header.ensures.head kinds.Name (name-other (Some c.args.self.now.levels) c.in_ok-header.header
    c.in_ok-header.ensures.reads.bare c.in_default.not-Text c.in_default.not-Bytes)
