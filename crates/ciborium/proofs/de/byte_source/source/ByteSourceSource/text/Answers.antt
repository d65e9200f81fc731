use Rattle.std.proofs.{Common.{Some, ap, string_bytes}}
use Rattle.ciborium_ll.specs.declared.strings.StringType.{StringType}
use Rattle.ciborium_value.specs.Given.{bare_text, given_text, settled}
use Rattle.ciborium.proofs.Containers.ByteItems.{bare-refused, head-refused, other-refuses}
use Rattle.ciborium.proofs.{Containers.ByteItems.{string-one}, Items.SkippedTags.untagged-under}
use Rattle.ciborium.{proofs.Payloads.StringPayloads.text-other, specs.inner.StringContents.string_item}
use Rattle.ciborium.proofs.Exits.{passed_on}
use Rattle.ciborium.proofs.de.byte_source.source.ByteSourceSource.text.Goals as goal

pub returns-in_err-header : goal.returns-in_err-header
returns-in_err-header g c =
    rw (passed_on c.from_residual.result _ c.from_residual.ensures.1)
    (record { takes = head-refused c.in_err-header.ensures.reads c.in_err-header.ensures.denied })

pub returns-in-Text : goal.returns-in-Text
returns-in-Text g c =
    let content = c.text_content.ensures in record {
      takes = string-one c.in_ok-header.ensures.reads c.text_content.result string_bytes c.in_ok-header.ensures.head
          StringType.Text c.in-Text.len c.in-Text.is content.keeps content.ok content.denied
          (λ v ts all. ap (λ j. settled (bare_text j))
          (untagged-under ts (string_item StringType.Text c.in-Text.len (string_bytes v))));
    }

pub returns-in_default : goal.returns-in_default
returns-in_default g c = record {
  takes = bare-refused c.in_ok-header.ensures.reads
      (other-refuses given_text c.in_ok-header.ensures.reads c.in_ok-header.ensures.head
      (text-other (Some c.args.self.now.levels) c.in_ok-header.header c.in_ok-header.ensures.reads.bare
      c.in_default.not-Text));
}
