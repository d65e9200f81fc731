use Rattle.std.proofs.Common.{◌≡◌, ◌≤◌, ◌+◌, ◌-◌, ◌++◌, ◌∙◌, ℕ, IsUtf8, List, Some, arith, drop, length, rules, subst}
use Rattle.std.proofs.{Common.{sym, refl, [], take}, lemmas.{List.take-append-le, Result.IfOk-from_err}}
use Rattle.ciborium_value.specs.Sources.{of_syntax}
use Rattle.ciborium.proofs.{Exits.passed_on, Items.TakenOnly.{keeps-none, keeps-then, same-end}}
use Rattle.ciborium.proofs.{Payloads.SkippedPayloads.{TookText, cut-text}}
use Rattle.ciborium.proofs.Payloads.SkippedPayloads.{no-text, part-filled, part-size, piece-denied, text-more}
use Rattle.ciborium.{proofs.Payloads.SkippedPayloads.{text-some, text-taken}, specs.inner.ByteSources.IsUnread}
use Rattle.ciborium.specs.inner.{ByteSources.{end_at, fault_at}, StringContents.DeniesJust}
use Rattle.ciborium_ll.specs.declared.header.Header.TheVariants as header
use Rattle.ciborium.proofs.de.byte_source.ByteSource.skip_text_pieces.Goals as goal

pub returns-in_err-fill-clause-denied : goal.returns-in_err-fill-clause-denied
returns-in_err-fill-clause-denied g c =
    let old = c.args.self.now in
    let mid = c.loop-left.self in
    let room = c.loop-left.buffer in
    let kept = c.loop-left.kept in
    let size = c.min-size.result in
    let P = IsUnread g.A.Access.remaining old in
    let Q = IsUnread g.A.Access.remaining mid in
    let end = end_at g.A.Access.remaining mid in
    let fault = fault_at g.A.Access.can_fail g.A.Access.remaining c.fill.new.self c.in_err-fill.field-0.0 in
    let least = c.min-size.ensures in
    let long : length room ≡ 64 = c.min-size.array_long in
    rw (passed_on c.from_residual.result _ c.from_residual.ensures.1)
    (piece-denied P Q (end_at g.A.Access.remaining old) end fault (header.Text (Some c.args.len))
    c.args.len c.loop-left.left size (λ p is. is.0) (omega (arith, least))
    (same-end g.A.Access.remaining old mid c.loop-left.invariant.kept.only)
    (text-some P Q c.args.len c.loop-left.left (take kept room) c.loop-left.invariant.took)
    (subst (λ k. DeniesJust Q end k fault)
    (part-size room kept size (omega (arith, least, long, c.loop-left.invariant.few))) c.in_err-fill.ensures.outside))

pub loop-left-preserved : goal.loop-left-preserved
loop-left-preserved g c =
    let room = c.loop-left.buffer in
    let kept = c.loop-left.kept in
    let size = c.min-size.result in
    let buffer = c.fill.new.buffer in
    let bytes = c.keep_cut.new.bytes in
    let n = c.in-Some.n in
    let least = c.min-size.ensures in
    let long : length room ≡ 64 = c.min-size.array_long in
    let fits : kept + size ≤ length room = omega (arith, least, long, c.loop-left.invariant.few) in
    let len : length buffer ≡ size = c.fill.auto.buffer ∙ part-size room kept size fits in
    let same = c.keep_cut.auto.bytes in
    let short = c.in-Some.ensures.short in
    let rest : List ℕ = drop (kept + size) room in
    let front : take n (bytes ++ rest) ≡ take n bytes = take-append-le n bytes rest (omega (arith, same, short.0)) in
    let (more, chars, parts) = c.in-Some.ensures.kept in
    let P = IsUnread g.A.Access.remaining c.args.self.now in
    let R = IsUnread g.A.Access.remaining c.fill.new.self in record {
      kept = keeps-then c.loop-left.invariant.kept c.in_ok-fill.ensures.keeps;
      few = short.1;
      cut = λ utf8. c.in-Some.ensures.cut (subst IsUtf8 front utf8);
      took = subst (TookText P R c.args.len (c.loop-left.left - size)) (sym front)
          (text-more P (IsUnread g.A.Access.remaining c.loop-left.self) R c.args.len c.loop-left.left size
          (take kept room) buffer more (take n bytes) (omega (arith, least)) len chars
          (sym (part-filled room buffer kept size fits len) ∙ parts) c.in_ok-fill.ensures.ok
          c.loop-left.invariant.took);
    }

pub returns-in-None-clause-denied : goal.returns-in-None-clause-denied
returns-in-None-clause-denied g c =
    let room = c.loop-left.buffer in
    let kept = c.loop-left.kept in
    let size = c.min-size.result in
    let buffer = c.fill.new.buffer in
    let least = c.min-size.ensures in
    let long : length room ≡ 64 = c.min-size.array_long in
    let fits : kept + size ≤ length room = omega (arith, least, long, c.loop-left.invariant.few) in
    let len : length buffer ≡ size = c.fill.auto.buffer ∙ part-size room kept size fits in
    no-text (IsUnread g.A.Access.remaining c.args.self.now) (IsUnread g.A.Access.remaining c.loop-left.self)
    (IsUnread g.A.Access.remaining c.fill.new.self) (end_at g.A.Access.remaining c.args.self.now) c.args.len
    c.loop-left.left size of_syntax (take kept room) buffer (omega (arith, least)) len
    (λ t utf8. c.in-None.ensures.none t (subst (λ (l : List ℕ). IsUtf8 (l ++ t))
    (sym (part-filled room buffer kept size fits len)) utf8)) c.in_ok-fill.ensures.ok c.loop-left.invariant.took

pub returns-then-kept-gt0-clause-denied : goal.returns-then-kept-gt0-clause-denied
returns-then-kept-gt0-clause-denied g c =
    cut-text (IsUnread g.A.Access.remaining c.args.self.now) (IsUnread g.A.Access.remaining c.loop-left.self)
    (end_at g.A.Access.remaining c.args.self.now) c.args.len c.loop-left.left c.loop-left.kept of_syntax
    (take c.loop-left.kept c.loop-left.buffer) c.loop-left-test.false c.if-kept-gt0.true c.loop-left.invariant.cut
    c.loop-left.invariant.took

pub returns-clause-ok : goal.returns-clause-ok
returns-clause-ok g c =
    text-taken (IsUnread g.A.Access.remaining c.args.self.now) (IsUnread g.A.Access.remaining c.loop-left.self)
    c.args.len c.loop-left.left c.loop-left.kept c.loop-left.buffer c.loop-left-test.false c.if-kept-gt0.false
    c.loop-left.invariant.took

pub returns-in_err-skip_pieces-in-None-clause-denied : goal.returns-in_err-skip_pieces-in-None-clause-denied
returns-in_err-skip_pieces-in-None-clause-denied g c =
    let room = c.loop-left.buffer in
    let kept = c.loop-left.kept in
    let size = c.min-size.result in
    let buffer = c.fill.new.buffer in
    let least = c.min-size.ensures in
    let long : length room ≡ 64 = c.min-size.array_long in
    let fits : kept + size ≤ length room = omega (arith, least, long, c.loop-left.invariant.few) in
    let len : length buffer ≡ size = c.fill.auto.buffer ∙ part-size room kept size fits in
    rw (passed_on c.from_residual-in_err-skip_pieces-in-None.result _
    c.from_residual-in_err-skip_pieces-in-None.ensures.1)
    (no-text (IsUnread g.A.Access.remaining c.args.self.now)
    (IsUnread g.A.Access.remaining c.loop-left.self) (IsUnread g.A.Access.remaining c.fill.new.self)
    (end_at g.A.Access.remaining c.args.self.now) c.args.len c.loop-left.left size
    (fault_at g.A.Access.can_fail g.A.Access.remaining c.skip_pieces.new.self c.in_err-skip_pieces-in-None.field-0.0)
    (take kept room) buffer (omega (arith, least)) len
    (λ t utf8. c.in-None.ensures.none t (subst (λ (l : List ℕ). IsUtf8 (l ++ t))
    (sym (part-filled room buffer kept size fits len)) utf8)) c.in_ok-fill.ensures.ok c.loop-left.invariant.took)

pub loop-left-init : goal.loop-left-init
loop-left-init g c = record {
  kept = keeps-none g.A.Access.remaining c.args.self.now c.requires;
  few = search rules;
  cut = λ utf8. refl;
  took = λ y u. ([], y, ([], (refl, refl)), search rules, refl, u);
}

pub returns-in_err-fill-clause-ok : goal.returns-in_err-fill-clause-ok
returns-in_err-fill-clause-ok g c = IfOk-from_err c.from_residual.result _ c.from_residual.ensures.0

pub returns-in_err-fill-clause-keeps : goal.returns-in_err-fill-clause-keeps
returns-in_err-fill-clause-keeps g c = keeps-then c.loop-left.invariant.kept c.fill.ensures.keeps

pub returns-in_err-skip_pieces-in-None-clause-keeps : goal.returns-in_err-skip_pieces-in-None-clause-keeps
returns-in_err-skip_pieces-in-None-clause-keeps g c =
    keeps-then (keeps-then c.loop-left.invariant.kept c.fill.ensures.keeps) c.skip_pieces.ensures.keeps

pub returns-in-None-clause-keeps : goal.returns-in-None-clause-keeps
returns-in-None-clause-keeps g c =
    keeps-then (keeps-then c.loop-left.invariant.kept c.fill.ensures.keeps) c.skip_pieces.ensures.keeps
