use Rattle.std.proofs.Common.{◌≡◌, ◌∙◌, arith, rules, length, length-take-le, subst, Some}
use Rattle.ciborium.specs.{inner.ByteSources.{IsUnread, end_at, fault_at}, inner.StringContents.DeniesJust}
use Rattle.ciborium.proofs.Items.TakenOnly.{keeps-then, same-end}
use Rattle.ciborium.proofs.Payloads.SkippedPayloads.{bytes-taken, piece-denied, some-more}
use Rattle.ciborium_ll.specs.declared.header.Header.TheVariants as header
use Rattle.ciborium.proofs.Exits.{passed_on}
use Rattle.ciborium.proofs.de.byte_source.ByteSource.skip_pieces.Goals as goal

pub returns-in_err-fill-clause-denied : goal.returns-in_err-fill-clause-denied
returns-in_err-fill-clause-denied g c =
    let old = c.args.self.now in
    let mid = c.loop-left.self in
    let size = c.min-size.result in
    let end = end_at g.A.Access.remaining mid in
    let fault = fault_at g.A.Access.can_fail g.A.Access.remaining c.fill.new.self c.in_err-fill.field-0.0 in
    let least = c.min-size.ensures in
    let long : length c.loop-left.buffer ≡ 64 = search rules in
    rw (passed_on c.from_residual.result _ c.from_residual.ensures.1)
    (piece-denied (IsUnread g.A.Access.remaining old) (IsUnread g.A.Access.remaining mid)
    (end_at g.A.Access.remaining old) end fault (header.Bytes (Some c.args.len)) c.args.len c.loop-left.left size
    (λ p is. is.0) (omega (arith, least)) (same-end g.A.Access.remaining old mid c.loop-left.invariant.kept.only)
    c.loop-left.invariant.took (subst (λ k. DeniesJust (IsUnread g.A.Access.remaining mid) end k fault)
    (length-take-le size c.loop-left.buffer (omega (arith, least, long))) c.in_err-fill.ensures.outside))

pub loop-left-preserved : goal.loop-left-preserved
loop-left-preserved g c =
    let size = c.min-size.result in
    let least = c.min-size.ensures in
    let long : length c.loop-left.buffer ≡ 64 = search rules in record {
      kept = keeps-then c.loop-left.invariant.kept c.in_ok-fill.ensures.keeps;
      took = some-more (IsUnread g.A.Access.remaining c.args.self.now) (IsUnread g.A.Access.remaining c.loop-left.self)
          (IsUnread g.A.Access.remaining c.fill.new.self) c.args.len c.loop-left.left size c.fill.new.buffer
          (omega (arith, least))
          (c.fill.auto.buffer ∙ length-take-le size c.loop-left.buffer (omega (arith, least, long)))
          c.in_ok-fill.ensures.ok c.loop-left.invariant.took;
    }

pub returns-clause-ok : goal.returns-clause-ok
returns-clause-ok g c = bytes-taken g.A.Access.remaining c.args.self.now c.loop-left.self c.args.len c.loop-left.left
    c.loop-left.invariant.kept.only c.requires c.loop-left.invariant.kept.pending c.loop-left-test.false
    c.loop-left.invariant.took

pub returns-in_err-fill-clause-keeps : goal.returns-in_err-fill-clause-keeps
returns-in_err-fill-clause-keeps g c = keeps-then c.loop-left.invariant.kept c.fill.ensures.keeps
