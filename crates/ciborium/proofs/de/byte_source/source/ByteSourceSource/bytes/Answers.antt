use Rattle.std.proofs.Common.{Some, ap, le_of_eq, refl, subst, sym}
use Rattle.ciborium_ll.specs.declared.strings.StringType.{StringType}
use Rattle.ciborium_value.specs.Given.{bare_bytes, given_bytes, outcome, given_byte, take_each}
use Rattle.ciborium.proofs.Containers.ByteItems.{array-one, bytes-other, bytes-given}
use Rattle.ciborium.proofs.Containers.ByteItems.{bare-refused, behind-refused, head-refused, nested-refuses}
use Rattle.ciborium.proofs.Containers.ByteItems.{other-refuses, string-one}
use Rattle.ciborium.proofs.{Containers.EnteredContainers.array-nests, Exits.passed_on, Items.SkippedTags.untagged-under}
use Rattle.ciborium.{proofs.Items.Weights.same-left, specs.inner.ByteSources.{HasTaken}}
use Rattle.ciborium.specs.inner.StringContents.{string_item}
use Rattle.ciborium_ll.specs.declared.header.Header.TheVariants as header
use Rattle.ciborium.proofs.Containers.EnteredContainers.{array-container, entered}
use Rattle.ciborium.proofs.de.byte_source.source.ByteSourceSource.bytes.Goals as goal

pub returns-in_err-header : goal.returns-in_err-header
returns-in_err-header g c =
    rw (passed_on c.from_residual.result _ c.from_residual.ensures.1)
    (record { takes = head-refused c.in_err-header.ensures.reads c.in_err-header.ensures.denied })

-- ---- a byte string

pub returns-in-Bytes : goal.returns-in-Bytes
returns-in-Bytes g c =
    let content = c.bytes_content.ensures in record {
      takes = string-one c.in_ok-header.ensures.reads c.bytes_content.result (λ v. v.items)
          c.in_ok-header.ensures.head StringType.Bytes c.in-Bytes.len c.in-Bytes.is content.keeps content.ok
          content.denied (λ v ts all. ap (λ j. outcome (Some c.args.self.now.levels) (bare_bytes j))
          (untagged-under ts (string_item StringType.Bytes c.in-Bytes.len v.items)));
    }

-- ---- an array

pub returns-in_err-seq-in-Array : goal.returns-in_err-seq-in-Array
returns-in_err-seq-in-Array g c =
    let enter = c.in_err-seq-in-Array.ensures in
    rw (passed_on c.from_residual-in_err-seq-in-Array.result _ c.from_residual-in_err-seq-in-Array.ensures.1) (record {
      takes = behind-refused c.in_ok-header.ensures.reads (λ first t. subst
          (HasTaken g.A.Access.remaining first) (sym enter.decoder) t)
          (le_of_eq (same-left c.enter.new.self c.bare_head.new.self enter.decoder enter.pending))
          (nested-refuses given_bytes c.in_ok-header.ensures.reads c.in_ok-header.ensures.head c.enter.new.self
          (header.Array c.in-Array.count) c.in-Array.is enter.none enter.err
          (array-nests bare_bytes (λ o is. refl) c.in-Array.count));
    })

pub returns-in_ok-seq-in-Array : goal.returns-in_ok-seq-in-Array
returns-in_ok-seq-in-Array g c =
    let enter = c.in_ok-seq-in-Array.ensures in
    let all = entered array-container c.enter.new.self c.in-Array.count c.in_ok-seq-in-Array.seq
    c.in_ok-header.ensures.reads c.in_ok-header.ensures.head
    (enter.decoder, enter.pending, enter.some, enter.levels, enter.left) enter.back given_bytes
    (λ span is. take_each given_byte is) c.in-Array.is bytes-given in
    let read = c.read_byte_items.ensures in record {
      takes = array-one _ g.A.Access.remaining all c.read_byte_items.new.self (λ v. v.items) c.read_byte_items.result
          read.only read.no_more read.ok read.refused read.took read.fewer;
    }

pub returns-in_default : goal.returns-in_default
returns-in_default g c = record {
  takes = bare-refused c.in_ok-header.ensures.reads
      (other-refuses given_bytes c.in_ok-header.ensures.reads c.in_ok-header.ensures.head
      (bytes-other (Some c.args.self.now.levels) c.in_ok-header.header c.in_ok-header.ensures.reads.bare
      c.in_default.not-Array c.in_default.not-Bytes));
}
