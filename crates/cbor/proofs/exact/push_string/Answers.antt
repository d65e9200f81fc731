use Rattle.std.proofs.Common.{◌++◌, ap, sym, ◌∙◌}
use Rattle.cbor.{proofs.ExactNotation.marked-string, specs.Exact.payload_text}
use Rattle.cbor.proofs.exact.push_string.Goals as goal
use Rattle.cbor.proofs.exact.push_string.Goals.{in-Bytes+in_ok-push_bytes-in-Bytes}
use Rattle.cbor.proofs.exact.push_string.Goals.{in-Text+in_ok-push_quoted-in-Text}

pub returns : goal.returns
returns c = elim c.match-string.branch [
  | in-Bytes+in_ok-push_bytes-in-Bytes w ↦
      marked-string c.args.string c.requires.string.0 c.args.head.now c.extend_from_slice.result _ _ _ _
      c.requires.spelled c.requires.payload c.requires.string.1
      (ap (λ v. v.items) w.text-is ∙ w.in_ok-push_bytes-in-Bytes.ensures ∙
      ap (λ s. c.args.text.now.items ++ payload_text s c.args.head.now.payload.now) (sym w.in-Bytes.is))
      c.mark.ensures c.extend_from_slice.ensures.items
  | in-Text+in_ok-push_quoted-in-Text w ↦
      marked-string c.args.string c.requires.string.0 c.args.head.now c.extend_from_slice.result _ _ _ _
      c.requires.spelled c.requires.payload c.requires.string.1
      (ap (λ v. v.items) w.text-is ∙ w.in_ok-push_quoted-in-Text.ensures ∙
      ap (λ s. c.args.text.now.items ++ payload_text s c.args.head.now.payload.now) (sym w.in-Text.is))
      c.mark.ensures c.extend_from_slice.ensures.items
]
