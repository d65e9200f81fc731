use Rattle.std.proofs.Common.{rules}
use Rattle.ciborium_ll.{proofs.Unread.refused-string, specs.declared.strings.StringType.StringType}
use Rattle.ciborium_ll.proofs.decoder.Decoder.bytes_into_keeping.Goals as goal

pub returns : goal.returns
returns g c = record {
  same_reader = search rules;
  none_pushed = search rules;
  last = search rules;
  head_len = search rules;
  taken = search rules;
  refused = λ b known. refused-string StringType.Bytes c.args.len c.args.self.now.last _ _ _ _ _ b _
      c.append_string.ensures.bytes known;
  ended = search rules;
}
