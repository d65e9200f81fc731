use Rattle.std.proofs.Common.{None, Some, List, Option, [], ap, arith, refl, subst, sym, ℕ, ◌∙◌, ◌<◌, ◌≡◌, ◌≤◌, ◌+◌}
use Rattle.std.proofs.lemmas.Result.{IfErr-weaker, IfOk-from_err, IfOk-weaker}
use Rattle.ciborium_ll.specs.{Head.IsHead, declared.strings.StringType.StringType}
use Rattle.ciborium.proofs.{Exits.passed_on, Items.{FrontReads.weighs-none, Weights.kept-fewer}}
use Rattle.ciborium.proofs.Items.TakenOnly.{keeps-none, keeps-then, same-end}
use Rattle.ciborium_ll.specs.declared.header.Header.{Header}
use Rattle.ciborium.specs.declared.de.byte_source.ByteSource.{ByteSource}
use Rattle.ciborium.proofs.Payloads.OpenNumbers.{parts-more, parts-end, parts-no-head, parts-other, no-break}
use Rattle.ciborium.proofs.Payloads.{OpenNumbers.{no-definite, parts-cut}, ShortNames.just-denied}
use Rattle.ciborium.specs.inner.ByteSources.{IsUnread, KeepsSource, bytes_weight, end_at}
use Rattle.ciborium.specs.inner.ByteSources.{fault_at, head_weight, weight_left}
use Rattle.ciborium.specs.inner.FrontItems.{TakesHead}
use Rattle.ciborium.specs.inner.StringContents.{DeniesContent, TakesDigits, TakesNumber, TakesParts}
use Rattle.ciborium_value.specs.Sources.{of_syntax}
use Rattle.ciborium_ll.specs.declared.header.Header.TheVariants as header
use Rattle.ciborium.proofs.de.byte_source.ByteSource.read_number.Goals as goal

-- all bytes of a definite string
whole-number : (P Q : List ℕ → Type 0) (n : ℕ) (v : Option ℕ) → TakesDigits P Q n (Some 0) v →
    TakesNumber P Q (Some n) v
whole-number P Q n v took y p =
    let (b, z, size, are, is, whole, q) = took y p in
    (b, b, z, λ x head. (x, subst (IsHead x 2) (sym size) head, are, refl), is, are, whole, q)

-- a part leaves less
numbers-less : {S W : Type 0} {remaining : S → Option (List ℕ)} (old mid new : ByteSource S W) (h : Header) →
    bytes_weight mid + head_weight h ≤ weight_left old → old.pending ≡ None → mid.pending ≡ None →
    KeepsSource remaining mid new → bytes_weight new < bytes_weight old
numbers-less old mid new h fewer none behind kept =
    let less = kept-fewer old mid new h fewer behind kept in
    let before = weighs-none old none in
    let after = weighs-none new kept.pending in omega (arith, less, before, after)

-- none of its parts yet
no-parts : (P : List ℕ → Type 0) → TakesParts P P (Some 0)
no-parts P y p = ([], [], y, refl, refl, λ k d below. absurd (omega arith), refl, p)

pub returns-in_err-header-in-None-clause-denied : goal.returns-in_err-header-in-None-clause-denied
returns-in_err-header-in-None-clause-denied g c =
    let P = IsUnread g.A.Access.remaining c.args.self.now in
    let fault = fault_at g.A.Access.can_fail g.A.Access.remaining c.next_head.new.self c.in_err-header-in-None.field-0.0
    in
    rw (passed_on c.from_residual.result _ c.from_residual.ensures.1)
    (subst (λ l. DeniesContent P (end_at g.A.Access.remaining c.args.self.now) StringType.Bytes l
    fault)
    (sym c.in-None.is) (parts-no-head P (IsUnread g.A.Access.remaining c.parts.self) c.parts.number
    c.parts.invariant.took (end_at g.A.Access.remaining c.parts.self) (end_at g.A.Access.remaining c.args.self.now)
    fault (same-end g.A.Access.remaining c.args.self.now c.parts.self c.parts.invariant.kept.only)
    c.in_err-header-in-None.ensures.denied))

pub returns-in-Break-clause-ok : goal.returns-in-Break-clause-ok
returns-in-Break-clause-ok g c =
    let P = IsUnread g.A.Access.remaining c.args.self.now in
    let Q = IsUnread g.A.Access.remaining c.next_head.new.self in
    subst (λ l. TakesNumber P Q l c.parts.number) (sym c.in-None.is)
    (parts-end P (IsUnread g.A.Access.remaining c.parts.self) Q c.parts.number c.parts.invariant.took
    (subst (TakesHead (IsUnread g.A.Access.remaining) c.parts.self c.next_head.new.self) c.in-Break.is
    c.in_ok-header-in-None.ensures.head))

pub parts-preserved : goal.parts-preserved
parts-preserved g c =
    let U = IsUnread g.A.Access.remaining in
    record {
      kept = keeps-then c.parts.invariant.kept
          (keeps-then c.in_ok-header-in-None.ensures.keeps c.in_ok-number-in-Some-part.ensures.keeps);
      took = parts-more (U c.args.self.now) (U c.parts.self) (U c.next_head.new.self)
          (U c.read_digits-in-Some-part.new.self) c.in-Some-part.n c.parts.number c.in_ok-number-in-Some-part.number
          c.parts.invariant.took
          (subst (TakesHead U c.parts.self c.next_head.new.self) (c.in-Bytes.is ∙ ap header.Bytes c.in-Some-part.is)
          c.in_ok-header-in-None.ensures.head) c.in_ok-number-in-Some-part.ensures.ok;
    }

pub returns-in-None-part-clause-denied : goal.returns-in-None-part-clause-denied
returns-in-None-part-clause-denied g c =
    let P = IsUnread g.A.Access.remaining c.args.self.now in
    let h = c.in_ok-header-in-None.header in
    subst (λ l. DeniesContent P (end_at g.A.Access.remaining c.args.self.now) StringType.Bytes l of_syntax)
    (sym c.in-None.is)
    (parts-other P (IsUnread g.A.Access.remaining c.parts.self) c.parts.number c.parts.invariant.took
    (end_at g.A.Access.remaining c.args.self.now) of_syntax h
    (λ y u. let (x, r, hd, e, un) = c.in_ok-header-in-None.ensures.head y u in (x, r, hd, e))
    (no-break h (c.in-Bytes.is ∙ ap header.Bytes c.in-None-part.is))
    (no-definite h (c.in-Bytes.is ∙ ap header.Bytes c.in-None-part.is)))

pub returns-in_default-clause-denied : goal.returns-in_default-clause-denied
returns-in_default-clause-denied g c =
    let P = IsUnread g.A.Access.remaining c.args.self.now in
    let h = c.in_ok-header-in-None.header in
    subst (λ l. DeniesContent P (end_at g.A.Access.remaining c.args.self.now) StringType.Bytes l of_syntax)
    (sym c.in-None.is)
    (parts-other P (IsUnread g.A.Access.remaining c.parts.self) c.parts.number c.parts.invariant.took
    (end_at g.A.Access.remaining c.args.self.now) of_syntax h
    (λ y u. let (x, r, hd, e, un) = c.in_ok-header-in-None.ensures.head y u in (x, r, hd, e)) c.in_default.not-Break
    (λ n. c.in_default.not-Bytes (Some n)))

pub returns-in_err-number-in-Some-part-clause-denied : goal.returns-in_err-number-in-Some-part-clause-denied
returns-in_err-number-in-Some-part-clause-denied g c =
    let U = IsUnread g.A.Access.remaining in
    let fault =
    fault_at g.A.Access.can_fail g.A.Access.remaining c.read_digits-in-Some-part.new.self
    c.in_err-number-in-Some-part.field-0.0 in
    let mid = c.next_head.new.self in
    rw (passed_on c.from_residual-in_err-number-in-Some-part.result _
    c.from_residual-in_err-number-in-Some-part.ensures.1)
    (subst (λ l. DeniesContent (U c.args.self.now) (end_at g.A.Access.remaining c.args.self.now)
    StringType.Bytes l fault) (sym c.in-None.is)
    (parts-cut (U c.args.self.now) (U c.parts.self) c.parts.number c.parts.invariant.took (U mid)
    (end_at g.A.Access.remaining mid) (end_at g.A.Access.remaining c.args.self.now) c.in-Some-part.n fault
    (same-end g.A.Access.remaining c.args.self.now mid (keeps-then c.parts.invariant.kept
    c.in_ok-header-in-None.ensures.keeps).only)
    (subst (TakesHead U c.parts.self mid) (c.in-Bytes.is ∙ ap header.Bytes c.in-Some-part.is)
    c.in_ok-header-in-None.ensures.head) c.in_err-number-in-Some-part.ensures.outside))

pub returns-in_err-header-in-None-clause-ok : goal.returns-in_err-header-in-None-clause-ok
returns-in_err-header-in-None-clause-ok g c =
    IfOk-from_err c.from_residual.result _ c.from_residual.ensures.0

pub returns-in_err-number-in-Some-part-clause-ok : goal.returns-in_err-number-in-Some-part-clause-ok
returns-in_err-number-in-Some-part-clause-ok g c =
    IfOk-from_err c.from_residual-in_err-number-in-Some-part.result _
    c.from_residual-in_err-number-in-Some-part.ensures.0

pub parts-init : goal.parts-init
parts-init g c = record {
  kept = keeps-none g.A.Access.remaining c.args.self.now c.requires;
  took = no-parts (IsUnread g.A.Access.remaining c.args.self.now);
}

pub parts-smaller : goal.parts-smaller
parts-smaller g c =
    numbers-less c.parts.self c.next_head.new.self c.read_digits-in-Some-part.new.self c.in_ok-header-in-None.header
    c.in_ok-header-in-None.ensures.fewer c.parts.invariant.kept.pending c.in_ok-header-in-None.ensures.keeps.pending
    c.in_ok-number-in-Some-part.ensures.keeps

pub returns-in_err-header-in-None-clause-keeps : goal.returns-in_err-header-in-None-clause-keeps
returns-in_err-header-in-None-clause-keeps g c = keeps-then c.parts.invariant.kept c.next_head.ensures.keeps

pub returns-in-Break-clause-keeps : goal.returns-in-Break-clause-keeps
returns-in-Break-clause-keeps g c = keeps-then c.parts.invariant.kept c.next_head.ensures.keeps

pub returns-in-None-part-clause-keeps : goal.returns-in-None-part-clause-keeps
returns-in-None-part-clause-keeps g c = keeps-then c.parts.invariant.kept c.next_head.ensures.keeps

pub returns-in_default-clause-keeps : goal.returns-in_default-clause-keeps
returns-in_default-clause-keeps g c = keeps-then c.parts.invariant.kept c.next_head.ensures.keeps

pub returns-in_err-number-in-Some-part-clause-keeps : goal.returns-in_err-number-in-Some-part-clause-keeps
returns-in_err-number-in-Some-part-clause-keeps g c =
    keeps-then c.parts.invariant.kept (keeps-then c.next_head.ensures.keeps c.read_digits-in-Some-part.ensures.keeps)

pub returns-clause-ok : goal.returns-clause-ok
returns-clause-ok g c =
    rw c.in-Some.is (IfOk-weaker c.read_digits.result _ _ (λ number. whole-number (IsUnread g.A.Access.remaining
    c.args.self.now) (IsUnread g.A.Access.remaining c.read_digits.new.self) c.in-Some.n number)
    c.read_digits.ensures.ok)

pub returns-clause-denied : goal.returns-clause-denied
returns-clause-denied g c =
    rw c.in-Some.is (IfErr-weaker c.read_digits.result _ _ (λ e. just-denied (IsUnread g.A.Access.remaining
    c.args.self.now) (end_at g.A.Access.remaining c.args.self.now) c.in-Some.n
    (fault_at g.A.Access.can_fail g.A.Access.remaining c.read_digits.new.self e) StringType.Bytes)
    c.read_digits.ensures.outside)
