use Rattle.std.proofs.Common.{rules, ◌≡◌, [], get_or, string_bytes, sym, ◌∙◌}
use Rattle.cbor.proofs.AskedWords.{first-words, same-words}
use Rattle.cbor.proofs.words.+are_words.Goals as goal

pub returns-then-eq : goal.returns-then-eq
returns-then-eq t c =
    let same : c.as_str.result.now ≡ (get_or c.args.names.now 0 (record { ref_ptr = (0, 0); now = [] })).now =
    search rules in
    same-words c.are_words.result _ _ _ _ _
    (first-words string_bytes (λ n. n.now) c.args.words.now c.args.names.now c.word-item.result
    (record { ref_ptr = (0, 0); now = [] }) c.in-len1-up-words.len_at_least
    c.in-len1-up.len_at_least c.word-item.is (sym c.as_str.ensures.value ∙ same))
    c.are_words.ensures
