use Rattle.std.proofs.Common.{◌≡◌, ◌≤◌, ◌++◌, length, refl, ap, ◌∙◌, subst, rules}
use Rattle.std.proofs.lemmas.Result.{err_from_is_err_and, on_ok_weaker}
use Rattle.ciborium_ll.specs.{Bytes.{AreBytes, greatest_offset}, Head.shortest_head, ProperItems.IsProperBytes}
use Rattle.ciborium_ll.specs.Writing.{Writes}
use Rattle.ciborium_value.specs.{Meaning.without_zeros, Number.shortest_bytes, Sinks.bignum_item}
use Rattle.ciborium_value.specs.WrittenItems.{IsWritten}
use Rattle.ciborium.proofs.{Writing.ByteSinks.shortest-is, Writing.WritingSteps.{Writes-after, Writes-before}}
use Rattle.ciborium.proofs.ser.byte_sink.ByteSink.write_bignum.Goals as goal

pub returns-clause-bytes : goal.returns-clause-bytes
returns-clause-bytes g c =
    let payload : c.without_leading_zeros-shortest.result.now ≡ shortest_bytes c.args.number =
    c.without_leading_zeros-shortest.ensures ∙ (ap without_zeros c.to_be_bytes-bytes.ensures ∙
    shortest-is c.args.number) in
    subst (λ l. Writes (g.W.Write.contents c.args.self.now.writer.now)
    (g.W.Write.contents c.write_string.new.self.writer.now) c.write_string.result
    (shortest_head 6 c.args.tag ++ (shortest_head 2 (length l) ++ l))) payload
    (Writes-after _ _ _ _ _ _ c.in_ok-push.ensures.bytes c.write_string.ensures.bytes)

pub returns-clause-written : goal.returns-clause-written
returns-clause-written g c =
    let payload : c.without_leading_zeros-shortest.result.now ≡ shortest_bytes c.args.number =
    c.without_leading_zeros-shortest.ensures ∙ (ap without_zeros c.to_be_bytes-bytes.ensures ∙
    shortest-is c.args.number) in
    let small : length c.without_leading_zeros-shortest.result.now ≤ greatest_offset = search rules in
    let written : AreBytes c.without_leading_zeros-shortest.result.now →
    IsWritten (bignum_item c.args.tag c.args.number) =
    λ h. (c.ranges.tag.fits, (refl, subst IsProperBytes payload (h, small))) in
    on_ok_weaker _ written c.write_string.ensures.payload

pub returns-in_err-push-clause-bytes : goal.returns-in_err-push-clause-bytes
returns-in_err-push-clause-bytes g c =
    let exit = err_from_is_err_and c.from_residual.result c.from_residual.ensures.1 in
    rw exit.1 (Writes-before (g.W.Write.contents c.args.self.now.writer.now)
    (g.W.Write.contents c.push.new.self.writer.now) exit.0 (shortest_head 6 c.args.tag)
    (shortest_head 2 (length (shortest_bytes c.args.number)) ++ shortest_bytes c.args.number)
    c.in_err-push.ensures.bytes)
