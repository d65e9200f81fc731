use Rattle.std.proofs.Common.{refl, ◌∙◌, le_refl, le_trans, subst}
use Rattle.ciborium_value.specs.Sources.{of_kind}
use Rattle.ciborium.proofs.{Exits.passed_on, Items.SkippedTags.{skips-none, skips-more}}
use Rattle.ciborium.proofs.Items.{SkippedTags.{denies-item, denies-break}, TakenOnly.same-end}
use Rattle.ciborium.specs.inner.{ByteSources.{IsUnread, end_at, fault_at}, FrontItems.TakesHead, Skips.IsEndTag}
use Rattle.ciborium_ll.specs.declared.kind.Kind.TheVariants as kinds
use Rattle.ciborium.proofs.de.byte_source.ByteSource.behind_tags.Goals as goal

pub tags-init : goal.tags-init
tags-init g c = record {
  same_reader = refl;
  only = λ first h. h;
  levels = refl;
  fewer = le_refl _;
  skipped = skips-none (IsUnread g.A.Access.remaining) c.args.self.now c.args.numbers;
}

pub returns-in_err-header-clause-denied : goal.returns-in_err-header-clause-denied
returns-in_err-header-clause-denied g c =
    rw (passed_on c.from_residual.result _ c.from_residual.ensures.1)
    (denies-item (IsUnread g.A.Access.remaining) (end_at g.A.Access.remaining) c.args.self.now
    c.tags.self c.args.numbers (fault_at g.A.Access.can_fail g.A.Access.remaining c.next_head.new.self
    c.in_err-header.field-0.0)
    (same-end g.A.Access.remaining c.args.self.now c.tags.self c.tags.invariant.only) c.tags.invariant.skipped
    c.in_err-header.ensures.denied)

pub returns-in-Break-clause-denied : goal.returns-in-Break-clause-denied
returns-in-Break-clause-denied g c =
    denies-break (IsUnread g.A.Access.remaining) (end_at g.A.Access.remaining) c.args.self.now c.tags.self
    c.next_head.new.self c.args.numbers (of_kind kinds.Break) c.tags.invariant.skipped
    (subst (TakesHead (IsUnread g.A.Access.remaining) c.tags.self c.next_head.new.self) c.in-Break.is
    c.in_ok-header.ensures.head)

pub tags-preserved : goal.tags-preserved
tags-preserved g c = record {
  same_reader = c.in_ok-header.ensures.keeps.same_reader ∙ c.tags.invariant.same_reader;
  only = λ first h. c.in_ok-header.ensures.keeps.only first (c.tags.invariant.only first h);
  levels = c.in_ok-header.ensures.keeps.levels ∙ c.tags.invariant.levels;
  fewer = le_trans c.in_ok-header.ensures.keeps.no_more c.tags.invariant.fewer;
  skipped = skips-more (IsUnread g.A.Access.remaining) c.args.self.now c.tags.self c.next_head.new.self c.args.numbers
      c.in-Tag.tag (subst (IsEndTag c.args.numbers c.in-Tag.tag) c.if-is_end_tag.false c.is_end_tag.ensures)
      c.tags.invariant.skipped
      (subst (TakesHead (IsUnread g.A.Access.remaining) c.tags.self c.next_head.new.self) c.in-Tag.is
      c.in_ok-header.ensures.head);
}
