use Rattle.std.proofs.Common.{rules, ◌≡◌, [], get_or, string_bytes, sym, ◌∙◌}
use Rattle.cbor.proofs.AskedWords.{first-words, same-limit}
use Rattle.cbor.proofs.words.+limit_behind.Goals as goal

pub returns : goal.returns
returns t c =
    let same : c.as_str.result.now ≡ (get_or c.args.flags.now 0 (record { ref_ptr = (0, 0); now = [] })).now =
    search rules in
    same-limit c.limit_behind.result _ _ _ _ _
    (first-words string_bytes (λ f. f.now) c.args.words.now c.args.flags.now c.word-item.result
    (record { ref_ptr = (0, 0); now = [] }) c.in-len1-up-words.len_at_least
    c.in-len1-up.len_at_least c.word-item.is (sym c.as_str.ensures.value ∙ same))
    c.limit_behind.ensures
