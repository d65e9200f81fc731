use Rattle.std.proofs.{Common.{subst, refl}, lemmas.Result.{IfErr-weaker, IfOk-weaker}}
use Rattle.ciborium_value.specs.Sources.{of_kind}
use Rattle.ciborium.proofs.{Exits.passed_on, Items.SkippedTags.{bare-head, bare-behind, skips-none, skips-more}}
use Rattle.ciborium.proofs.Items.{SkippedTags.{denies-item, denies-break, denies-behind}, TakenOnly.same-end}
use Rattle.ciborium.specs.inner.{ByteSources.{IsUnread, end_at, fault_at}, FrontItems.TakesHead, Skips.IsEndTag}
use Rattle.ciborium_ll.specs.declared.header.Header.TheVariants as header
use Rattle.ciborium_ll.specs.declared.kind.Kind.TheVariants as kinds
use Rattle.ciborium.proofs.de.byte_source.ByteSource.bare_head.Goals as goal

pub returns-in_err-header-clause-denied : goal.returns-in_err-header-clause-denied
returns-in_err-header-clause-denied g c =
    rw (passed_on c.from_residual.result _ c.from_residual.ensures.1)
    (denies-item (IsUnread g.A.Access.remaining) (end_at g.A.Access.remaining) c.args.self.now
    c.args.self.now c.args.numbers (fault_at g.A.Access.can_fail g.A.Access.remaining c.next_head.new.self
    c.in_err-header.field-0.0)
    (λ b u. refl)
    (skips-none (IsUnread g.A.Access.remaining) c.args.self.now c.args.numbers) c.in_err-header.ensures.denied)

pub returns-then-is_end_tag-clause-head : goal.returns-then-is_end_tag-clause-head
returns-then-is_end_tag-clause-head g c =
    bare-head (IsUnread g.A.Access.remaining) c.args.self.now c.next_head.new.self c.args.numbers
    (header.Tag c.in-Tag.tag) (subst (TakesHead (IsUnread g.A.Access.remaining) c.args.self.now c.next_head.new.self)
    c.in-Tag.is c.in_ok-header.ensures.head)

pub returns-else-is_end_tag-clause-denied : goal.returns-else-is_end_tag-clause-denied
returns-else-is_end_tag-clause-denied g c =
    let I = IsUnread g.A.Access.remaining in
    let end = end_at g.A.Access.remaining in
    let one = skips-more I c.args.self.now c.args.self.now c.next_head.new.self c.args.numbers c.in-Tag.tag
    (subst (IsEndTag c.args.numbers c.in-Tag.tag) c.if-is_end_tag.false c.is_end_tag.ensures)
    (skips-none I c.args.self.now c.args.numbers) (subst (TakesHead I c.args.self.now c.next_head.new.self) c.in-Tag.is
    c.in_ok-header.ensures.head) in
    IfErr-weaker c.skip_tags.result _ _ (λ e. denies-behind I end c.args.self.now c.next_head.new.self c.args.numbers
    (fault_at g.A.Access.can_fail g.A.Access.remaining c.skip_tags.new.self e)
    (same-end g.A.Access.remaining c.args.self.now c.next_head.new.self c.in_ok-header.ensures.keeps.only) one)
    c.skip_tags.ensures.denied

pub returns-else-is_end_tag-clause-head : goal.returns-else-is_end_tag-clause-head
returns-else-is_end_tag-clause-head g c =
    let I = IsUnread g.A.Access.remaining in
    let one = skips-more I c.args.self.now c.args.self.now c.next_head.new.self c.args.numbers c.in-Tag.tag
    (subst (IsEndTag c.args.numbers c.in-Tag.tag) c.if-is_end_tag.false c.is_end_tag.ensures)
    (skips-none I c.args.self.now c.args.numbers) (subst (TakesHead I c.args.self.now c.next_head.new.self) c.in-Tag.is
    c.in_ok-header.ensures.head) in
    IfOk-weaker c.skip_tags.result _ _ (λ h. bare-behind I c.args.self.now c.next_head.new.self c.skip_tags.new.self
    c.args.numbers h.0 one) c.skip_tags.ensures.head

pub returns-in-Break-clause-denied : goal.returns-in-Break-clause-denied
returns-in-Break-clause-denied g c =
    denies-break (IsUnread g.A.Access.remaining) (end_at g.A.Access.remaining) c.args.self.now c.args.self.now
    c.next_head.new.self c.args.numbers (of_kind kinds.Break)
    (skips-none (IsUnread g.A.Access.remaining) c.args.self.now c.args.numbers)
    (subst (TakesHead (IsUnread g.A.Access.remaining) c.args.self.now c.next_head.new.self) c.in-Break.is
    c.in_ok-header.ensures.head)

pub returns-in_default-clause-head : goal.returns-in_default-clause-head
returns-in_default-clause-head g c =
    bare-head (IsUnread g.A.Access.remaining) c.args.self.now c.next_head.new.self c.args.numbers c.in_ok-header.header
    c.in_ok-header.ensures.head
