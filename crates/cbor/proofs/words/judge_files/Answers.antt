use Rattle.std.proofs.Common.{◌≡◌, ◌-◌, false, List, ℕ, length, map, take, string_bytes, ap, subst, sym, ◌∙◌}
use Rattle.std.proofs.lemmas.List.{take-map}
use Rattle.ciborium_value.proofs.Writing.Progress.{length-map}
use Rattle.cbor.{proofs.AskedWords.asks-for-one, specs.Words.{AskFor, takes_files, words_before, words_behind}}
use Rattle.cbor.proofs.words.judge_files.Goals as goal

-- the words before the names
before : {S : Type 0} (f : S → List ℕ) (words names : List S) → map f names ≡ words_behind (map f words) →
    map f (take (length words - length names) words) ≡ words_before (map f words)
before f words names e =
    sym (rw (← e, length-map f words, length-map f names) (take-map f (length words - length names) words))

pub returns-in_default : goal.returns-in_default
returns-in_default c command files asked =
    c.in_default.ensures command (subst (λ (ws : List (List ℕ)). AskFor ws command)
    (sym (before string_bytes c.args.words.now _ c.find_names-names.ensures.names)) asked)

pub returns-then-not-takes_files : goal.returns-then-not-takes_files
returns-then-not-takes_files c command files asked =
    let same = asks-for-one _ c.in-Some.command command
    (subst (λ (ws : List (List ℕ)). AskFor ws c.in-Some.command)
    (before string_bytes c.args.words.now _ c.find_names-names.ensures.names) c.in-Some.ensures) asked in
    let none : takes_files command ≡ false =
    sym (ap takes_files same) ∙ (sym c.takes_files.ensures ∙ c.if-not-takes_files.true) in
    let no = rw none at files in cc

pub returns : goal.returns
returns c = (
  subst (λ (ws : List (List ℕ)). AskFor ws c.in-Some.command)
      (before string_bytes c.args.words.now _ c.find_names-names.ensures.names) c.in-Some.ensures,
  sym c.takes_files.ensures ∙ c.if-not-takes_files.false,
  c.find_names-names.ensures.names,
)
