use Rattle.std.{proofs.Common.{◌≡◌, ◌∙◌, ap, sym, Some, false, subst}, specs.Str.IsUtf8}
use Rattle.ciborium_ll.specs.declared.strings.StringType.{StringType}
use Rattle.ciborium_value.{proofs.Sources.Sequences.fault_map, specs.Given.{bare_name, gives, outcome_map, given_name}}
use Rattle.ciborium_value.specs.{Given.{outcome, settled}, Labels.{name_place, placed}, Places.is_open, Sources.of_kind}
use Rattle.ciborium_value.specs.declared.labels.LabelType.TheVariants.{Name}
use Rattle.ciborium.proofs.{Containers.NamedVariants.{bytes-name, bytes-no-name, name-other}, Exits.passed_on}
use Rattle.ciborium.proofs.Items.BareHeads.{head-denied, other-denied, string-answered, string-denied, string-read}
use Rattle.ciborium.{proofs.Items.SkippedTags.untagged-under, specs.inner.ByteSources.{IsUnread, end_at, fault_at}}
use Rattle.ciborium.specs.inner.{Skips.TakesBare, StringContents.string_item}
use Rattle.ciborium_ll.specs.declared.kind.Kind.TheVariants as kinds
use Rattle.ciborium.proofs.de.byte_source.ByteSource.named_place.Goals as goal

pub returns-in_err-header-clause-answer : goal.returns-in_err-header-clause-answer
returns-in_err-header-clause-answer g c =
    rw (passed_on c.from_residual.result _ c.from_residual.ensures.1) (head-denied g.A.Access.remaining c.args.self.now
    (placed (g.N.Labels.place_of c.args.labels.now) Name)
    (fault_at g.A.Access.can_fail g.A.Access.remaining c.bare_head.new.self c.in_err-header.field-0.0)
    c.in_err-header.ensures.denied)

pub returns-in-Text-clause-answer : goal.returns-in-Text-clause-answer
returns-in-Text-clause-answer g c =
    let place = name_place (g.N.Labels.place_of c.args.labels.now) in
    string-answered g.A.Access.remaining c.args.self.now (placed (g.N.Labels.place_of c.args.labels.now) Name)
    c.bare_head.new.self c.in_ok-header.header c.in_ok-header.ensures.head StringType.Text c.in-Text.len c.in-Text.is
    g.A.Access.can_fail c.text_place.new.self (λ v. v) c.text_place.result c.in_ok-header.ensures.reads.kept.only
    c.text_place.ensures.ok (λ v (payload, took, is). (
      payload,
      took,
      λ ts all.
          ap (λ x. outcome_map place (settled (bare_name x)))
          (untagged-under ts (string_item StringType.Text c.in-Text.len payload)) ∙ ap gives (sym is),
    ))
    c.text_place.ensures.denied

pub returns-in_err-bytes-in-Bytes-clause-answer : goal.returns-in_err-bytes-in-Bytes-clause-answer
returns-in_err-bytes-in-Bytes-clause-answer g c =
    rw (passed_on c.from_residual-in_err-bytes-in-Bytes.result _ c.from_residual-in_err-bytes-in-Bytes.ensures.1)
    (string-denied g.A.Access.remaining c.args.self.now
    (placed (g.N.Labels.place_of c.args.labels.now) Name) c.bare_head.new.self
    c.in_ok-header.header c.in_ok-header.ensures.head StringType.Bytes c.in-Bytes.len c.in-Bytes.is
    c.in_ok-header.ensures.reads.kept.only (fault_at g.A.Access.can_fail g.A.Access.remaining c.bytes_content.new.self
    c.in_err-bytes-in-Bytes.field-0.0) c.in_err-bytes-in-Bytes.ensures.denied)

pub returns-in-Ok-clause-answer : goal.returns-in-Ok-clause-answer
returns-in-Ok-clause-answer g c =
    let l = Some c.args.self.now.levels in
    let place = name_place (g.N.Labels.place_of c.args.labels.now) in
    let payload = c.in_ok-bytes-in-Bytes.bytes.items in
    let same : c.in-Ok.name.now ≡ payload = c.in-Ok.ensures.cases.0 ∙ c.deref.ensures.value in
    let utf8 : IsUtf8 payload = subst IsUtf8 c.deref.ensures.value c.in-Ok.ensures.cases.1 in
    let found : c.find_name.result ≡ place payload =
    subst (λ b. c.find_name.result ≡ place b) same c.find_name.ensures in
    string-read g.A.Access.remaining c.args.self.now (placed (g.N.Labels.place_of c.args.labels.now) Name)
    c.bare_head.new.self c.in_ok-header.header c.in_ok-header.ensures.head StringType.Bytes c.in-Bytes.len c.in-Bytes.is
    c.bytes_content.new.self payload c.find_name.result
    c.in_ok-bytes-in-Bytes.ensures.ok (λ ts all.
    ap (outcome_map place) (bytes-name ts l (is_open c.in-Bytes.len) payload utf8) ∙ ap gives (sym found))

pub returns-in-Bytes-clause-answer : goal.returns-in-Bytes-clause-answer
returns-in-Bytes-clause-answer g c b s z i end u sp e fits = fault_map end (of_kind kinds.Name)
    (name_place (g.N.Labels.place_of c.args.labels.now)) (outcome (Some c.args.self.now.levels) (given_name i))
    (bytes-no-name (IsUnread g.A.Access.remaining) (end_at g.A.Access.remaining) c.args.self.now c.bare_head.new.self
    c.bytes_content.new.self c.in-Bytes.len (Some c.args.self.now.levels) c.in_ok-bytes-in-Bytes.bytes.items
    (λ u. c.in-Err.ensures.cases.0 (subst IsUtf8 (sym c.deref.ensures.value) u))
    (subst (TakesBare (IsUnread g.A.Access.remaining) c.args.self.now c.bare_head.new.self false) c.in-Bytes.is
    c.in_ok-header.ensures.head) c.in_ok-bytes-in-Bytes.ensures.ok b s z i end u sp e fits)

pub returns-clause-answer : goal.returns-clause-answer
returns-clause-answer g c =
    let place = name_place (g.N.Labels.place_of c.args.labels.now) in
    other-denied g.A.Access.remaining c.args.self.now (placed (g.N.Labels.place_of c.args.labels.now) Name)
    c.bare_head.new.self c.in_ok-header.header c.in_ok-header.ensures.head kinds.Name
    (λ ts i all head. ap (outcome_map place)
    (name-other (Some c.args.self.now.levels) c.in_ok-header.header
    c.in_ok-header.ensures.reads.bare c.in_default.not-Text c.in_default.not-Bytes ts i all head))
