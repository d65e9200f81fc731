use Rattle.std.proofs.Common.{◌≡◌, ◌∙◌, rules, ap, subst, sym, Some, string_bytes, IsUtf8}
use Rattle.std.proofs.lemmas.Str.{IsUtf8-string_bytes}
use Rattle.ciborium_value.{proofs.Denoting.Texts.{no_utf8_token, utf8_token}, specs.{Tokens.leaf, Tree.text}}
use Rattle.ciborium_value.proofs.from_notation.texts.end_text.Goals as goal

pub returns-in-Ok-clause-found : goal.returns-in-Ok-clause-found
returns-in-Ok-clause-found c =
    let same : c.args.bytes.items ≡ string_bytes c.in-Ok.text = search rules in
    utf8_token c.args.bytes.items c.args.behind.now (subst IsUtf8 (sym same) (IsUtf8-string_bytes c.in-Ok.text)) ∙
    ap (λ b. Some (leaf (text b), c.args.behind.now)) same

pub returns-clause-refused : goal.returns-clause-refused
returns-clause-refused c = no_utf8_token c.args.bytes.items c.args.behind.now (λ h. search (rules, h))
