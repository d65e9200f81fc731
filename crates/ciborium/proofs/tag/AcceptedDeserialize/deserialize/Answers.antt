use Rattle.std.proofs.Common.{arith, sym}
use Rattle.ciborium_value.{specs.TagReadings.is_no_other_tag, proofs.Sources.Sequences.passes_on}
use Rattle.ciborium.proofs.Readers.TestedTags.{tag-blamed, tag-found, tag-refused}
use Rattle.ciborium.proofs.tag.AcceptedDeserialize.deserialize.Goals as goal

pub returns-in_err-tag-clause-takes : goal.returns-in_err-tag-clause-takes
returns-in_err-tag-clause-takes g c =
    let t = c.in_err-tag.ensures.takes in
    passes_on _ c.in_err-tag.field-0.0 c.from_residual.ensures.1 (tag-blamed g.S.Source.stands_before c.args.source.now
    c.deserialize.new.source g.V.Deserialize.reading.taken (is_no_other_tag g.row.TAG) _ t.refused) t.only t.no_more

pub returns-then-not-is_no_other_tag-clause-takes : goal.returns-then-not-is_no_other_tag-clause-takes
returns-then-not-is_no_other_tag-clause-takes g c =
    let t = c.in_ok-tag.ensures.takes in record {
      ok = tt;
      refused = tag-refused g.S.Source.stands_before c.args.source.now c.deserialize.new.source
          g.V.Deserialize.reading.taken (is_no_other_tag g.row.TAG) _ _ _ t.ok (sym c.if-not-is_no_other_tag.ensures)
          c.refuse.ensures;
      took = tt;
      only = t.only;
      less = tt;
      no_more = omega (arith, t.less);
    }

pub returns-clause-takes : goal.returns-clause-takes
returns-clause-takes g c =
    let t = c.in_ok-tag.ensures.takes in record {
      ok = tag-found g.S.Source.stands_before c.args.source.now c.deserialize.new.source
          g.V.Deserialize.reading.taken (is_no_other_tag g.row.TAG) _ _ t.ok (sym c.if-not-is_no_other_tag.ensures);
      refused = tt;
      took = t.took;
      only = t.only;
      less = t.less;
      no_more = tt;
    }
