use Rattle.std.proofs.{Common.arith, lemmas.Grind.common_steps}
use Rattle.std.proofs.Common.{ap, refl, subst, ◌-◌, ◌≡◌, ◌≤◌, true, take, length}
use Rattle.ciborium_ll.proofs.HeadsRead.{behind-bytes, cut-inside-head, cut-inside-payload, ends-in-head}
use Rattle.ciborium_ll.proofs.HeadsRead.{ends-in-payload, front-behind, head-read, malformed, misplaced, no-chunk}
use Rattle.ciborium_ll.proofs.HeadsRead.{no-text, enters-too-many, some-unfinished, too-deep, was-misplaced}
use Rattle.ciborium_ll.{proofs.HeadsRead.{was-too-deep, whole-read}, specs.{Bytes.AreBytes, Header.SpellsHeader}}
use Rattle.ciborium_ll.specs.{Header.is_ill_formed, ItemHeads.levels_of, ItemLengths.Misfits, Levels.IsPayloadOf}
use Rattle.ciborium_ll.specs.inner.Fronts.{IsCut, IsCutPayload, IsNoChunk, IsNoText, MayBeChunk}
use Rattle.ciborium_ll.proofs.item_heads.ItemHeads.next.Goals as goal

pub returns-then-is_empty : goal.returns-then-is_empty
returns-then-is_empty c h =
    let none = c.is_empty.ensures.0 c.if-is_empty.true in (whole-read _ h none, none, refl)

pub returns-in-IllFormed : goal.returns-in-IllFormed
returns-in-IllFormed c h =
    let some = some-unfinished _ _ c.is_empty.ensures c.if-is_empty.false in (
      malformed _ h some (Misfits.ill_formed (subst (λ b. is_ill_formed b ≡ true) c.rest-rest.ensures
          c.in-IllFormed.ensures.front)),
      refl,
    )

pub returns-in-Cut : goal.returns-in-Cut
returns-in-Cut c h =
    let some = some-unfinished _ _ c.is_empty.ensures c.if-is_empty.false in (
      malformed _ h some (no-chunk _ _ (subst IsCut c.rest-rest.ensures c.in-Cut.ensures.front)
          (subst (IsNoChunk (levels_of c.args.self.now)) c.rest-rest.ensures
          (c.is_no_chunk.ensures.yes c.if-is_no_chunk.true))),
      refl,
    )

pub returns-in-Cut-2 : goal.returns-in-Cut-2
returns-in-Cut-2 c h =
    let some = some-unfinished _ _ c.is_empty.ensures c.if-is_empty.false in (
      cut-inside-head _ h some (subst AreBytes c.rest-rest.ensures c.in-Cut-2.ensures.bytes)
          (subst IsCut c.rest-rest.ensures c.in-Cut-2.ensures.front)
          (subst (MayBeChunk (levels_of c.args.self.now)) c.rest-rest.ensures
          (c.is_no_chunk.ensures.no c.if-is_no_chunk.false)),
      ends-in-head _ (subst IsCut c.rest-rest.ensures c.in-Cut-2.ensures.front),
    )

pub returns-in-Err-Misplaced : goal.returns-in-Err-Misplaced
returns-in-Err-Misplaced c h =
    let some = some-unfinished _ _ c.is_empty.ensures c.if-is_empty.false in
    let spelled = subst (λ b. SpellsHeader (take c.in-Head.size b) c.in-Head.header) c.rest-rest.ensures
    c.in-Head.ensures.front.0 in (
      malformed _ h some (misplaced c.args.self.now c.in-Head.header c.in-Head.size spelled
          (was-misplaced _ _ (levels_of c.args.self.now) _ c.in-Err-Misplaced.field-0-is
          c.in-Err-Misplaced.ensures)),
      refl,
    )

pub returns-in-Err-TooDeep : goal.returns-in-Err-TooDeep
returns-in-Err-TooDeep c h =
    let spelled = subst (λ b. SpellsHeader (take c.in-Head.size b) c.in-Head.header) c.rest-rest.ensures
    c.in-Head.ensures.front.0 in (
      too-deep c.args.self.now h (enters-too-many c.args.self.now c.in-Head.header c.in-Head.size spelled
          (was-too-deep _ _ (levels_of c.args.self.now) _ c.in-Err-TooDeep.field-0-is c.in-Err-TooDeep.ensures)),
      refl,
    )

pub returns-in-Cut-payload_of : goal.returns-in-Cut-payload_of
returns-in-Cut-payload_of c h =
    let spelled = subst (λ b. SpellsHeader (take c.in-Head.size b) c.in-Head.header) c.rest-rest.ensures
    c.in-Head.ensures.front.0 in (
      cut-inside-payload c.args.self.now c.in-Head.header c.in-Head.size _ h spelled c.in-Ok.ensures.1
          (subst (IsCutPayload c.in-Head.header) (behind-bytes _ _ c.in-Head.size c.rest-rest.ensures)
          c.in-Cut-payload_of.ensures),
      ends-in-payload _ _ c.in-Head.size spelled (subst (IsCutPayload c.in-Head.header)
          (behind-bytes _ _ c.in-Head.size c.rest-rest.ensures) c.in-Cut-payload_of.ensures),
    )

pub returns-in-NotText : goal.returns-in-NotText
returns-in-NotText c h =
    let some = some-unfinished _ _ c.is_empty.ensures c.if-is_empty.false in
    let spelled = subst (λ b. SpellsHeader (take c.in-Head.size b) c.in-Head.header) c.rest-rest.ensures
    c.in-Head.ensures.front.0 in (
      malformed _ h some (no-text c.args.self.now c.in-Head.header c.in-Head.size spelled
          (subst (IsNoText c.in-Head.header) (behind-bytes _ _ c.in-Head.size c.rest-rest.ensures)
          c.in-NotText.ensures)),
      refl,
    )

pub returns : goal.returns
returns c h =
    let heads = c.args.self.now in
    let size = c.in-Head.size in
    let n = c.in-Whole.length in
    let spelled = subst (λ b. SpellsHeader (take size b) c.in-Head.header) c.rest-rest.ensures
    c.in-Head.ensures.front.0 in
    let room = subst (λ b. size ≤ length b) c.rest-rest.ensures c.in-Head.ensures.front.1 in
    let payload = subst (λ b. (n ≤ length b) × IsPayloadOf c.in-Head.header (take n b))
    (behind-bytes _ _ size c.rest-rest.ensures) c.in-Whole.ensures in (
      head-read heads c.in-Head.header size n _ h spelled room payload c.in-Ok.ensures,
      record {
        same = refl;
        spelled = c.in-Head.ensures.front.0;
        payload = c.in-Whole.ensures.1;
        front = front-behind heads c.rest-rest.result.now size n c.pass.new.self c.rest-rest.ensures;
        offset = refl;
        depth = ap (λ k. k - 1) c.depth-depth.ensures;
        levels = c.in-Ok.ensures;
      },
    )

pub overflow_add-self-2 : goal.overflow_add-self-2
overflow_add-self-2 h = grind (arith, common_steps)

pub overflow_sub-depth : goal.overflow_sub-depth
overflow_sub-depth h = grind (arith, common_steps)
