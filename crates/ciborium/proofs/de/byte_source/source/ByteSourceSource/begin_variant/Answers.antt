use Rattle.std.proofs.Common.{rules, ◌≡◌, ◌≤◌, ◌+◌, length, ap, ◌∙◌, sym, Some, false, subst, string_bytes}
use Rattle.std.proofs.Common.{le_of_eq, le_refl, le_trans, Bool, Ok, List, Option, ℕ}
use Rattle.ciborium_ll.specs.declared.{header.Header.Header, strings.StringType.StringType}
use Rattle.ciborium_value.specs.Given.{deeper, given_name, given_variant}
use Rattle.ciborium.proofs.Containers.ByteItems.{head-refuses, nested-refuses, other-refuses, refuses-denied}
use Rattle.ciborium.proofs.Containers.DueLevels.{completes-begun, holds-begun, level-behind, level-inner, level-some}
use Rattle.ciborium.proofs.Containers.EnteredContainers.{deeper-is}
use Rattle.ciborium.proofs.Containers.{EnteredContainers.same-unread, NamedVariants.{key-denied, map-no-text}}
use Rattle.ciborium.proofs.Containers.NamedVariants.{map-not-one, null-unread, pair-nests, pair-begun, text-nests}
use Rattle.ciborium.proofs.{Containers.NamedVariants.{text-begun, variant-other}}
use Rattle.ciborium.proofs.Items.{TakenOnly.{is-kept, kept-alone, same-end}, Weights.same-left}
use Rattle.ciborium.{specs.declared.de.byte_source.ByteSource.ByteSource}
use Rattle.ciborium.specs.inner.ByteSources.{IsUnread, ReadsBareHead, weight_left, end_at, reader_of, fault_at}
use Rattle.ciborium.specs.inner.{FrontItems.{Denies, Reads}, Skips.TakesBare}
use Rattle.ciborium_ll.specs.declared.header.Header.TheVariants as header
use Rattle.ciborium.proofs.Exits.{passed_on}
use Rattle.ciborium.proofs.Containers.ByteItems.{string-refuses}
use Rattle.ciborium.proofs.de.byte_source.source.ByteSourceSource.begin_variant.Goals as goal

-- no more is left than before the head
module _ {S W : Type 0} {can_fail numbers : Bool} {remaining : S → Option (List ℕ)} {old mid : ByteSource S W}
    {h : Header × ℕ} (new : ByteSource S W) (reads : ReadsBareHead can_fail remaining old mid numbers (Ok h)) where
  behind-bare : weight_left new ≤ weight_left mid → weight_left new ≤ weight_left old
  behind-bare fewer = le_trans fewer reads.kept.no_more

  -- and a level
  behind-level : (taken : ByteSource S W) → taken.decoder ≡ mid.decoder → taken.pending ≡ mid.pending →
      weight_left new ≤ weight_left taken → weight_left new ≤ weight_left old
  behind-level taken same none fewer = behind-bare (le_trans fewer (le_of_eq (same-left taken mid same none)))

pub returns-in_err-header-clause-refused : goal.returns-in_err-header-clause-refused
returns-in_err-header-clause-refused g c =
    rw (passed_on c.from_residual.result _ c.from_residual.ensures.1)
    (head-refuses given_variant c.in_err-header.ensures.reads c.in_err-header.ensures.denied)

pub returns-in_err-level-in-Text-clause-refused : goal.returns-in_err-level-in-Text-clause-refused
returns-in_err-level-in-Text-clause-refused g c =
    rw (passed_on c.from_residual-in_err-level-in-Text.result _ c.from_residual-in_err-level-in-Text.ensures.1)
    (nested-refuses given_variant c.in_ok-header.ensures.reads c.in_ok-header.ensures.head c.take_level.new.self
    (header.Text c.in-Text.len) c.in-Text.is c.in_err-level-in-Text.ensures.none c.in_err-level-in-Text.ensures.err
    (text-nests c.in-Text.len))

pub returns-in_err-level-in-Map-clause-refused : goal.returns-in_err-level-in-Map-clause-refused
returns-in_err-level-in-Map-clause-refused g c =
    rw (passed_on c.from_residual-in_err-level-in-Map.result _ c.from_residual-in_err-level-in-Map.ensures.1)
    (nested-refuses given_variant c.in_ok-header.ensures.reads c.in_ok-header.ensures.head c.take_level-in-Map.new.self
    (header.Map (Some 1)) (c.in-Map.is ∙ ap header.Map c.if-not-is_one.ensures) c.in_err-level-in-Map.ensures.none
    c.in_err-level-in-Map.ensures.err pair-nests)

pub returns-in_err-name-in-Text-clause-refused : goal.returns-in_err-name-in-Text-clause-refused
returns-in_err-name-in-Text-clause-refused g c =
    let level = c.in_ok-level-in-Text.ensures in
    rw (passed_on c.from_residual-in_err-name-in-Text.result _ c.from_residual-in_err-name-in-Text.ensures.1)
    (string-refuses given_variant c.in_ok-header.ensures.reads c.in_ok-header.ensures.head _ StringType.Text
    c.in-Text.len c.in-Text.is (λ y x s z payload end u hd sp e fits. c.in_err-name-in-Text.ensures.denied y x s z
    payload end (same-unread g.A.Access.remaining c.bare_head.new.self c.take_level.new.self level.decoder
    level.pending y u) hd sp e (subst (λ d. (reader_of g.A.Access.remaining d).1 ≤ end + length z) (sym level.decoder)
    fits)))

pub returns-in_ok-name-in-Text : goal.returns-in_ok-name-in-Text
returns-in_ok-name-in-Text g c =
    let U = IsUnread g.A.Access.remaining in
    let old = c.args.self.now in
    let mid = c.bare_head.new.self in
    let taken = c.take_level.new.self in
    let read = c.text_content.new.self in
    let new = record read { pending = Some (header.Simple 22, c.in_ok-header.offset) } in
    let name = string_bytes c.in_ok-name-in-Text.name in
    let reads = c.in_ok-header.ensures.reads in
    let level = c.in_ok-level-in-Text.ensures in
    let content = c.in_ok-name-in-Text.ensures in
    let less = level.some.1 in
    let same = reads.kept.levels in
    let levels = content.keeps.levels in
    let kept = kept-alone g.A.Access.remaining old mid taken level.decoder (is-kept reads.kept) in
    let begun = text-begun U old mid new old.levels (level-some _ same less) c.in-Text.len name
    (subst (TakesBare U old mid false) c.in-Text.is c.in_ok-header.ensures.head) (λ y u.
    let (d, z, make, f, un) = content.ok y
    (same-unread g.A.Access.remaining mid taken level.decoder level.pending y u) in (
      d,
      z,
      make,
      f,
      null-unread g.A.Access.remaining read.decoder read.pending c.in_ok-header.offset z content.keeps.pending un,
    )) in record {
      ok = holds-begun g.A.Access.remaining old new given_variant name c.in_ok-level-in-Text.level
          (content.keeps.same_reader ∙ kept.0, λ first t. content.keeps.only first (kept.1 first t))
          (level.some.0 ∙ same, level-behind _ same less levels) begun;
      refused = tt;
      took = completes-begun g.A.Access.remaining old new (Some old.levels) given_variant name begun;
      only = λ first t. content.keeps.only first.decoder (kept.1 first.decoder t);
      less = search rules;
      no_more = tt;
    }

pub returns-in_ok-name-in-Map : goal.returns-in_ok-name-in-Map
returns-in_ok-name-in-Map g c =
    let U = IsUnread g.A.Access.remaining in
    let old = c.args.self.now in
    let mid = c.bare_head.new.self in
    let taken = c.take_level-in-Map.new.self in
    let new = c.name.new.self in
    let name = string_bytes c.in_ok-name-in-Map.name in
    let reads = c.in_ok-header.ensures.reads in
    let level = c.in_ok-level-in-Map.ensures in
    let keeps = c.in_ok-name-in-Map.ensures.keeps in
    let less = level.some.1 in
    let same = reads.kept.levels in
    let levels = keeps.kept.levels in
    let some = level-some _ same less in
    let inner : Some taken.levels ≡ deeper (Some old.levels) =
    ap Some (level-inner _ same less) ∙ sym (deeper-is old.levels some) in
    let kept = kept-alone g.A.Access.remaining old mid taken level.decoder (is-kept reads.kept) in
    let begun = pair-begun U old mid taken new old.levels some
    (same-unread g.A.Access.remaining mid taken level.decoder level.pending) name
    (subst (TakesBare U old mid false) (c.in-Map.is ∙ ap header.Map c.if-not-is_one.ensures)
    c.in_ok-header.ensures.head)
    (subst (λ l. Reads U taken new l given_name name) inner c.in_ok-name-in-Map.ensures.answer) in record {
      ok = holds-begun g.A.Access.remaining old new given_variant name c.in_ok-level-in-Map.level
          (keeps.kept.same_reader ∙ kept.0, λ first t. keeps.kept.only first (kept.1 first t))
          (level.some.0 ∙ same, level-behind _ same less levels) begun;
      refused = tt;
      took = completes-begun g.A.Access.remaining old new (Some old.levels) given_variant name begun;
      only = λ first t. keeps.kept.only first.decoder (kept.1 first.decoder t);
      less = search rules;
      no_more = tt;
    }

pub returns-in_err-name-in-Map-clause-refused : goal.returns-in_err-name-in-Map-clause-refused
returns-in_err-name-in-Map-clause-refused g c =
    let U = IsUnread g.A.Access.remaining in
    let fault = fault_at g.A.Access.can_fail g.A.Access.remaining c.name.new.self c.in_err-name-in-Map.field-0.0 in
    let level = c.in_ok-level-in-Map.ensures in
    let less = level.some.1 in
    let same = c.in_ok-header.ensures.reads.kept.levels in
    let some = level-some _ same less in
    let inner : Some c.take_level-in-Map.new.self.levels ≡ deeper (Some c.args.self.now.levels) =
    ap Some (level-inner _ same less) ∙ sym (deeper-is c.args.self.now.levels some) in
    rw (passed_on c.from_residual-in_err-name-in-Map.result _ c.from_residual-in_err-name-in-Map.ensures.1)
    (refuses-denied g.A.Access.remaining c.args.self.now given_variant fault
    (key-denied U c.args.self.now c.bare_head.new.self c.take_level-in-Map.new.self
    c.take_level-in-Map.new.self c.args.self.now.levels some
    (same-unread g.A.Access.remaining c.bare_head.new.self c.take_level-in-Map.new.self level.decoder level.pending)
    (end_at g.A.Access.remaining) fault (λ b u. ap (λ d. (reader_of g.A.Access.remaining d).1) level.decoder ∙
    same-end g.A.Access.remaining c.args.self.now c.bare_head.new.self c.in_ok-header.ensures.reads.kept.only b u)
    (subst (TakesBare U c.args.self.now c.bare_head.new.self false)
    (c.in-Map.is ∙ ap header.Map c.if-not-is_one.ensures) c.in_ok-header.ensures.head)
    (subst (λ l. Denies U (end_at g.A.Access.remaining) c.take_level-in-Map.new.self l given_name fault) inner
    c.in_err-name-in-Map.ensures.answer)))

pub returns-then-not-is_one-clause-refused : goal.returns-then-not-is_one-clause-refused
returns-then-not-is_one-clause-refused g c =
    other-refuses given_variant c.in_ok-header.ensures.reads c.in_ok-header.ensures.head
    (variant-other (Some c.args.self.now.levels) c.in_ok-header.header
    c.in_ok-header.ensures.reads.bare (map-no-text c.in_ok-header.header c.in-Map.count c.in-Map.is) (map-not-one
    c.in_ok-header.header c.in-Map.count c.in-Map.is c.if-not-is_one.ensures))

pub returns-in_default-clause-refused : goal.returns-in_default-clause-refused
returns-in_default-clause-refused g c =
    other-refuses given_variant c.in_ok-header.ensures.reads c.in_ok-header.ensures.head
    (variant-other (Some c.args.self.now.levels) c.in_ok-header.header
    c.in_ok-header.ensures.reads.bare c.in_default.not-Text (c.in_default.not-Map (Some 1)))

pub returns-in_err-header-clause-no_more : goal.returns-in_err-header-clause-no_more
returns-in_err-header-clause-no_more g c =
    rw (passed_on c.from_residual.result _ c.from_residual.ensures.1) c.in_err-header.ensures.reads.kept.no_more

pub returns-in_err-level-in-Text-clause-no_more : goal.returns-in_err-level-in-Text-clause-no_more
returns-in_err-level-in-Text-clause-no_more g c =
    rw (passed_on c.from_residual-in_err-level-in-Text.result _ c.from_residual-in_err-level-in-Text.ensures.1)
    (behind-level c.take_level.new.self c.in_ok-header.ensures.reads c.take_level.new.self c.take_level.ensures.decoder
    c.take_level.ensures.pending (le_refl _))

pub returns-in_err-name-in-Text-clause-no_more : goal.returns-in_err-name-in-Text-clause-no_more
returns-in_err-name-in-Text-clause-no_more g c =
    rw (passed_on c.from_residual-in_err-name-in-Text.result _ c.from_residual-in_err-name-in-Text.ensures.1)
    (behind-level c.text_content.new.self c.in_ok-header.ensures.reads c.take_level.new.self
    c.take_level.ensures.decoder c.take_level.ensures.pending c.in_err-name-in-Text.ensures.keeps.no_more)

pub returns-in_err-level-in-Map-clause-no_more : goal.returns-in_err-level-in-Map-clause-no_more
returns-in_err-level-in-Map-clause-no_more g c =
    rw (passed_on c.from_residual-in_err-level-in-Map.result _ c.from_residual-in_err-level-in-Map.ensures.1)
    (behind-level c.take_level-in-Map.new.self c.in_ok-header.ensures.reads c.take_level-in-Map.new.self
    c.take_level-in-Map.ensures.decoder c.take_level-in-Map.ensures.pending (le_refl _))

pub returns-in_err-name-in-Map-clause-no_more : goal.returns-in_err-name-in-Map-clause-no_more
returns-in_err-name-in-Map-clause-no_more g c =
    rw (passed_on c.from_residual-in_err-name-in-Map.result _ c.from_residual-in_err-name-in-Map.ensures.1)
    (behind-level c.name.new.self c.in_ok-header.ensures.reads c.take_level-in-Map.new.self
    c.take_level-in-Map.ensures.decoder c.take_level-in-Map.ensures.pending
    c.in_err-name-in-Map.ensures.keeps.kept.no_more)

pub returns-then-not-is_one-clause-no_more : goal.returns-then-not-is_one-clause-no_more
returns-then-not-is_one-clause-no_more g c = behind-bare c.bare_head.new.self c.in_ok-header.ensures.reads (le_refl _)

pub returns-in_default-clause-no_more : goal.returns-in_default-clause-no_more
returns-in_default-clause-no_more g c = behind-bare c.bare_head.new.self c.in_ok-header.ensures.reads (le_refl _)
