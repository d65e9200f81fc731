use Rattle.std.proofs.lemmas.Grind.{common_steps}
use Rattle.std.proofs.Common.{◌++◌, List, ℕ, ap, arith, ◌∙◌}
use Rattle.cbor.proofs.{DumpedHeads.less-unread, ExactLevels.chunk-read, ExactNotation.{all-chunks, no-chunks}}
use Rattle.cbor.proofs.ExactNotation.{one-more-chunk}
use Rattle.cbor.proofs.exact.push_chunks.Goals as goal

pub chunks-init : goal.chunks-init
chunks-init c = (
  no-chunks c.args.string c.args.heads.now c.args.text.now.items c.requires.read,
  λ around e. e,
  omega arith,
)

pub returns-in-Break-clause-shown : goal.returns-in-Break-clause-shown
returns-in-Break-clause-shown c =
    all-chunks c.args.string c.chunks.place c.args.heads.now c.chunks.heads c.next_head.new.heads
    c.in_ok-head.head _ _ _ c.chunks.invariant.0 c.in_ok-head.ensures.read c.in-Break.is
    (c.in_ok-extend_from_slice.ensures.items ∙ ap (λ (s : List ℕ). c.chunks.text.items ++ s) c.chunks_end.ensures)

pub chunks-preserved : goal.chunks-preserved
chunks-preserved c = (
  one-more-chunk c.args.string c.chunks.place c.args.heads.now c.chunks.heads c.next_head.new.heads
      c.in_ok-head.head _ _ _ _ c.chunks.invariant.0 c.in_ok-head.ensures.read
      (c.in_ok-extend_from_slice-2.ensures.items ∙ ap (λ (s : List ℕ). c.chunks.text.items ++ s) c.chunk_lead.ensures)
      c.in_ok-push_string.ensures,
  λ around e. (chunk-read c.args.string c.chunks.heads c.next_head.new.heads c.in_ok-head.head around
      (c.chunks.invariant.1 around e) c.in_default.not-Break c.in_ok-head.ensures.read).1,
  omega (
    arith,
    c.chunks.invariant.2,
    less-unread c.chunks.heads c.next_head.new.heads c.in_ok-head.head
        c.in_ok-head.ensures.read.1,
  ),
)

pub push_string-requires : goal.push_string-requires
push_string-requires c = record {
  spelled = c.in_ok-head.ensures.read.1.spelled;
  payload = c.in_ok-head.ensures.read.1.payload;
  string = (chunk-read c.args.string c.chunks.heads c.next_head.new.heads c.in_ok-head.head c.requires.due.0
      (c.chunks.invariant.1 c.requires.due.0 c.requires.due.1) c.in_default.not-Break c.in_ok-head.ensures.read).0;
}

pub chunks-smaller : goal.chunks-smaller
chunks-smaller c = grind (arith, common_steps)

pub unreachable-requires : goal.unreachable-requires
unreachable-requires c = grind (arith, common_steps)

pub returns-in-Break-clause-left : goal.returns-in-Break-clause-left
returns-in-Break-clause-left c = grind (arith, common_steps)
