use Rattle.std.proofs.Common.{None, ◌≡◌, ap, ◌∙◌, sym, Some, false, subst, arith, ◌++◌, refl}
use Rattle.ciborium_ll.specs.Header.{SpellsHeader}
use Rattle.ciborium_value.specs.{Given.given_outer_tag, Sources.of_kind}
use Rattle.ciborium.proofs.Containers.ByteItems.{refuses-denied}
use Rattle.ciborium.proofs.Containers.DueLevels.{completes-begun, holds-begun, level-some, none-begun}
use Rattle.ciborium.proofs.Containers.{DueLevels.{tag-begun, tag-refused}, EnteredContainers.same-unread}
use Rattle.ciborium.proofs.{Containers.NextParts.aside-unread, Exits.passed_on, Items.SkippedTags.denies-item}
use Rattle.ciborium.proofs.Items.SkippedTags.{denies-break, denies-of-item, skips-none}
use Rattle.ciborium.proofs.Items.TakenOnly.{is-kept, kept-alone}
use Rattle.ciborium.specs.inner.ByteSources.{IsUnread, IsUnreadBy, end_at, fault_at, pending_head_weight}
use Rattle.ciborium.specs.inner.FrontItems.{TakesHead}
use Rattle.ciborium_ll.specs.declared.kind.Kind.TheVariants as kinds
use Rattle.ciborium.proofs.de.byte_source.source.ByteSourceSource.begin_tag.Goals as goal

pub returns-in_err-header-clause-refused : goal.returns-in_err-header-clause-refused
returns-in_err-header-clause-refused g c =
    let U = IsUnread g.A.Access.remaining in
    let old = c.args.self.now in
    let fault = fault_at g.A.Access.can_fail g.A.Access.remaining c.next_head.new.self c.in_err-header.field-0.0 in
    rw (passed_on c.from_residual.result _ c.from_residual.ensures.1)
    (refuses-denied g.A.Access.remaining old given_outer_tag fault
    (denies-of-item U (end_at g.A.Access.remaining) (Some old.levels) given_outer_tag old fault
    (denies-item U (end_at g.A.Access.remaining) old old false fault (λ b u. refl) (skips-none U old false)
    c.in_err-header.ensures.denied)))

pub returns-in-Break-clause-refused : goal.returns-in-Break-clause-refused
returns-in-Break-clause-refused g c =
    let U = IsUnread g.A.Access.remaining in
    let old = c.args.self.now in
    refuses-denied g.A.Access.remaining old given_outer_tag (of_kind kinds.Break)
    (denies-of-item U (end_at g.A.Access.remaining) (Some old.levels) given_outer_tag old (of_kind kinds.Break)
    (denies-break U (end_at g.A.Access.remaining) old old c.next_head.new.self false
    (of_kind kinds.Break) (skips-none U old false)
    (subst (TakesHead U old c.next_head.new.self) c.in-Break.is c.in_ok-header.ensures.head)))

pub returns-in-Tag : goal.returns-in-Tag
returns-in-Tag g c =
    let U = IsUnread g.A.Access.remaining in
    let old = c.args.self.now in
    let mid = c.next_head.new.self in
    let new = c.take_level.new.self in
    let head = c.in_ok-header.ensures in
    let level = c.in_ok-level.ensures in
    let less = level.some.1 in
    let same = head.keeps.levels in
    let fewer = head.fewer in
    let count : new.decoder.counter.count ≡ mid.decoder.counter.count = ap (λ d. d.counter.count) level.decoder in
    let none : pending_head_weight new.pending ≡ 0 = ap pending_head_weight (level.pending ∙ head.keeps.pending) in
    let kept = kept-alone g.A.Access.remaining old mid new level.decoder (is-kept head.keeps) in
    let begun = tag-begun U old mid new old.levels (level-some _ same less) c.in-Tag.tag
    (subst (TakesHead U old mid) c.in-Tag.is head.head)
    (same-unread g.A.Access.remaining mid new level.decoder level.pending) in record {
      ok = holds-begun g.A.Access.remaining old new given_outer_tag (Some c.in-Tag.tag) c.in_ok-level.level kept
          (level.some.0 ∙ same, sym same ∙ less) begun;
      refused = tt;
      memory = tt;
      took = completes-begun g.A.Access.remaining old new (Some old.levels) given_outer_tag (Some c.in-Tag.tag) begun;
      only = λ first t. kept.1 first.decoder t;
      less = omega (arith, fewer, count, none);
      no_more = tt;
    }

pub returns-in_err-level-clause-refused : goal.returns-in_err-level-clause-refused
returns-in_err-level-clause-refused g c =
    rw (passed_on c.from_residual-in_err-level.result _ c.from_residual-in_err-level.ensures.1)
    (tag-refused g.A.Access.can_fail g.A.Access.remaining c.args.self.now c.next_head.new.self
    c.take_level.new.self c.in_err-level.field-0.0 c.in_ok-header.ensures.keeps.levels
    c.in_err-level.ensures.none c.in_err-level.ensures.err)

pub returns-in_default-header : goal.returns-in_default-header
returns-in_default-header g c =
    let U = IsUnread g.A.Access.remaining in
    let h = c.in_ok-header.header in
    let old = c.args.self.now in
    let mid = c.next_head.new.self in
    let taken = c.take_level.new.self in
    let new = record taken { pending = Some (h, c.in_ok-header.offset) } in
    let head = c.in_ok-header.ensures in
    let level = c.in_ok-level.ensures in
    let less = level.some.1 in
    let same = head.keeps.levels in
    let aside : (b x y : _) → U old b → SpellsHeader x h → b ≡ x ++ y → U mid y →
    IsUnreadBy g.A.Access.remaining taken.decoder (Some (h, c.in_ok-header.offset)) b
    = λ b x y w hd e u. subst (λ d. IsUnreadBy g.A.Access.remaining d (Some (h, c.in_ok-header.offset)) b)
    (sym level.decoder) (aside-unread g.A.Access.remaining mid.decoder mid.pending h c.in_ok-header.offset b x y
    head.keeps.pending hd e (head.counted b x y w hd e) u) in
    let fewer = head.fewer in
    let count : taken.decoder.counter.count ≡ mid.decoder.counter.count = ap (λ d. d.counter.count) level.decoder in
    let kept = kept-alone g.A.Access.remaining old mid new level.decoder (is-kept head.keeps) in
    let begun = none-begun U old mid new old.levels (level-some _ same less) h
    c.in_default-header.not-Tag head.head aside in record {
      ok = holds-begun g.A.Access.remaining old new given_outer_tag None c.in_ok-level.level kept
          (level.some.0 ∙ same, sym same ∙ less) begun;
      refused = tt;
      memory = tt;
      took = completes-begun g.A.Access.remaining old new (Some old.levels) given_outer_tag None begun;
      only = λ first t. kept.1 first.decoder t;
      less = omega (arith, fewer, count);
      no_more = tt;
    }
