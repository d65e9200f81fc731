use Rattle.std.proofs.Common.{◌++◌, [], List, ap, append-nil, inl, inr, refl, sym, ℕ}
use Rattle.ciborium_value.specs.View.{tree_of}
use Rattle.cbor.specs.{Answer.{refusal_behind, refused_text}, Forms.formless_text, Lines.text_line}
use Rattle.cbor.proofs.streams.write_judged.Goals as goal

pub returns-in-Err-make_shown : goal.returns-in-Err-make_shown
returns-in-Err-make_shown c place s limit is =
    let kind = c.in-Err-make_shown.kind in
    let item = rw c.in-Ok.is at is in
    let none = c.in-Err-make_shown.ensures.formless in (
      formless_text kind,
      inr (tree_of c.in-Ok.value, [], kind, (s, item, sym (append-nil s)), none, refl),
      ap (λ (t : List ℕ). place ++ text_line t) c.in_ok-write_formless_item-in-Ok.ensures,
    )

pub returns-in_ok-write_refused-in-Err : goal.returns-in_ok-write_refused-in-Err
returns-in_ok-write_refused-in-Err c place s limit is =
    let (memory, same) = c.in_ok-write_refused-in-Err.ensures in (
      refused_text (refusal_behind c.args.offset c.in-Err.refusal),
      inl (c.in-Err.refusal, rw c.in-Err.is at is, memory, refl),
      ap (λ (t : List ℕ). place ++ text_line t) same,
    )
