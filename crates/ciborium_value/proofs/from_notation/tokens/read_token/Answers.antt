use Rattle.std.proofs.Common.{◌≢◌, ◌∙◌, Some, ap, get_or, refl, rules, sym}
use Rattle.ciborium_value.proofs.{Denoting.Texts.{begins, mark_token}, Trees.Views.tree_of-Text}
use Rattle.ciborium_value.specs.{Denotes.Memory, Tokens.{leaf, token_at}}
use Rattle.ciborium_value.proofs.from_notation.tokens.read_token.Goals as goal

pub returns-in_err-text-clause-refused : goal.returns-in_err-text-clause-refused
returns-in_err-text-clause-refused c =
    let text = ap token_at (begins 34 c.args.text.now c.in-len1-up.len_at_least c.if-first-eq34.true) in
    let h = λ (m : c.in_err-text.field-0.0 ≢ Memory). text ∙ c.in_err-text.ensures.refused m in search (rules, h)

pub returns-then-first-eq34-clause-found : goal.returns-then-first-eq34-clause-found
returns-then-first-eq34-clause-found c =
    ap token_at (begins 34 c.args.text.now c.in-len1-up.len_at_least c.if-first-eq34.true) ∙
    c.in_ok-text.ensures.found ∙ ap (λ v. Some (leaf v, c.in_ok-text.behind.now)) (sym (tree_of-Text c.in_ok-text.text))

pub returns-in-Some-clause-found : goal.returns-in-Some-clause-found
returns-in-Some-clause-found c = ap token_at (begins _ c.args.text.now c.in-len1-up.len_at_least refl) ∙
    mark_token (get_or c.args.text.now 0 0) _ _ c.in-Some.ensures
