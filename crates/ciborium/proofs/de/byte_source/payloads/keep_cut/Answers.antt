use Rattle.std.proofs.lemmas.Grind.{common_steps}
use Rattle.std.proofs.Common.{◌≡◌, ◌+◌, ◌-◌, ◌++◌, ◌∙◌, ℕ, List, ap, append-nil, arith, drop, length, length-drop, sym}
use Rattle.std.proofs.{Common.{take, take-append-drop, take_all}, lemmas.List.Edits.take-paste, Math.Seq.paste}
use Rattle.ciborium.proofs.de.byte_source.payloads.keep_cut.Goals as goal

pub returns-then-kept-gt0-clause-kept : goal.returns-then-kept-gt0-clause-kept
returns-then-kept-gt0-clause-kept c =
    let b = c.args.bytes.now in
    let whole = c.in_ok-whole.whole in
    let rest : List ℕ = drop whole b in
    let kept : ℕ = length b - whole in
    let long : length rest ≡ kept = length-drop whole b in
    let count : kept ≡ 0 + kept = omega arith in
    let front : take kept c.copy_within.new.self ≡ rest = ap (take kept) c.copy_within.ensures.after ∙
    ap (λ k. take k (paste b 0 rest kept)) count ∙ take-paste b 0 rest kept (omega arith) (omega (arith, long)) ∙
    take_all kept rest (omega (arith, long)) in (
      take whole b,
      c.in_ok-whole.ensures.whole,
      sym (ap (λ (r : List ℕ). take whole b ++ r) front ∙ take-append-drop whole b),
    )

pub returns-else-kept-gt0-clause-kept : goal.returns-else-kept-gt0-clause-kept
returns-else-kept-gt0-clause-kept c =
    let b = c.args.bytes.now in
    let whole = c.in_ok-whole.whole in
    let none : length b - whole ≡ 0 = omega (arith, c.if-kept-gt0.false) in
    let all : take whole b ≡ b = take_all whole b (omega (arith, none)) in (
      take whole b,
      c.in_ok-whole.ensures.whole,
      sym (ap (λ k. take whole b ++ take k b) none ∙ append-nil (take whole b) ∙ all),
    )

pub returns-then-kept-gt0-clause-cut : goal.returns-then-kept-gt0-clause-cut
returns-then-kept-gt0-clause-cut c = grind (arith, common_steps)
