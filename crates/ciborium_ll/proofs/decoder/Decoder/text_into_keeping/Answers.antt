use Rattle.std.{proofs.{Common.{rules, sym, subst}, lemmas.Str.IsUtf8-string_bytes}, specs.Prelude.IsUtf8}
use Rattle.ciborium_ll.{proofs.Unread.{refused-string, grown-utf8}, specs.declared.strings.StringType.StringType}
use Rattle.ciborium_ll.proofs.decoder.Decoder.text_into_keeping.Goals as goal

pub from_utf8_unchecked-requires : goal.from_utf8_unchecked-requires
from_utf8_unchecked-requires g c = grown-utf8 c.args.len c.args.self.now.last _ _ _ _ _ _ _
    (subst (λ v. IsUtf8 v.items) (sym c.into_bytes-bytes.ensures.value) (IsUtf8-string_bytes c.replace.result))
    c.append_string-result.ensures.bytes

pub returns : goal.returns
returns g c = record {
  same_reader = search rules;
  none_pushed = search rules;
  last = search rules;
  head_len = search rules;
  taken = search rules;
  refused = λ b known. refused-string StringType.Text c.args.len c.args.self.now.last _ _ _ _ _ b _
      c.append_string-result.ensures.bytes known;
  ended = search rules;
}
