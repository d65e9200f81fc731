use Rattle.std.proofs.Common.{◌+◌, ◌-◌, ◌++◌, ◌∷◌, ◌∙◌, List, ℕ, ap, arith, codes, decimal, length, refl, suc}
use Rattle.std.proofs.{Common.{◌≡◌}, lemmas.{Grind.common_steps, Result.on_ok_weaker}}
use Rattle.ciborium_ll.specs.{Levels.incomplete, declared.levels.Level.TheVariants.Items}
use Rattle.ciborium_ll.specs.declared.strings.StringType.{StringType}
use Rattle.cbor.specs.Exact.{AreExactly, AreOpenParts, IsExactly, closing, mark, open_level, opening, spaced}
use Rattle.cbor.proofs.DumpedHeads.{less-unread}
use Rattle.cbor.proofs.ExactLevels.{counted-begun, head-begun, no-break, open-begun, part-due, parts-break, parts-due}
use Rattle.cbor.proofs.ExactLevels.{parts-open}
use Rattle.cbor.proofs.ExactNotation.{all-parts, as-open-parts, as-open-string, as-parts, as-tag, behind-both}
use Rattle.cbor.proofs.ExactNotation.{bracketed, leaf-pushed, less-left, next-pushed, none-pushed, one-more-pushed}
use Rattle.cbor.proofs.ExactNotation.{passed-less}
use Rattle.ciborium_ll.specs.declared.header.Header.TheVariants as header
use Rattle.cbor.proofs.exact.+push_item.Goals as goal

pub push_item-returns-in-Bytes-None-clause-shown : goal.push_item-returns-in-Bytes-None-clause-shown
push_item-returns-in-Bytes-None-clause-shown t c =
    let is = c.in-Bytes-None.is ∙ ap header.Bytes (rw c.in-Bytes-None.is at c.in-Bytes-None.field-0-is) in
    on_ok_weaker c.push_chunks.result
    (as-open-string StringType.Bytes c.args.head.now c.args.heads.now c.push_chunks.new.heads _ _
    (rw is at c.requires.payload) (rw is at c.requires.spelled)) c.push_chunks.ensures.shown

pub push_item-returns-in-Text-None-clause-shown : goal.push_item-returns-in-Text-None-clause-shown
push_item-returns-in-Text-None-clause-shown t c =
    let is = c.in-Text-None.is ∙ ap header.Text (rw c.in-Text-None.is at c.in-Text-None.field-0-is) in
    on_ok_weaker c.push_chunks-in-Text-None.result
    (as-open-string StringType.Text c.args.head.now c.args.heads.now c.push_chunks-in-Text-None.new.heads _ _
    (rw is at c.requires.payload) (rw is at c.requires.spelled)) c.push_chunks-in-Text-None.ensures.shown

pub push_item-returns-in_ok-push_leaf-in_default-clause-shown :
    goal.push_item-returns-in_ok-push_leaf-in_default-clause-shown
push_item-returns-in_ok-push_leaf-in_default-clause-shown t c =
    leaf-pushed c.args.head.now c.args.heads.now _ _ c.requires.read c.in_ok-push_leaf-in_default.ensures

pub push_tag-returns-clause-shown : goal.push_tag-returns-clause-shown
push_tag-returns-clause-shown t c =
    let h = c.args.head.now.bytes.now in
    bracketed IsExactly c.args.head.now c.args.heads.now c.push_next.new.heads
    ((decimal c.args.tag ++ mark (length h) c.args.tag) ++ codes "(") (codes ")") _ _ _ _ c.requires.payload
    (λ b u is. as-tag h c.args.tag b u c.requires.spelled is)
    (behind-both c.args.text.now.items _ _ _ (codes "(") c.in_ok-push_unsigned.ensures
    c.in_ok-extend_from_slice.ensures.items) c.in_ok-push_next.ensures.shown c.in_ok-extend_from_slice-2.ensures.items

pub push_tag-returns-clause-left : goal.push_tag-returns-clause-left
push_tag-returns-clause-left t c = λ around e. c.in_ok-push_next.ensures.left 0 around e

pub push_next-returns-clause-shown : goal.push_next-returns-clause-shown
push_next-returns-clause-shown t c = on_ok_weaker c.push_item.result
    (next-pushed c.args.heads.now c.next_head.new.heads c.push_item.new.heads c.in_ok-head.head _ _
    c.in_ok-head.ensures.read) c.push_item.ensures.shown

pub push_next-push_item-requires : goal.push_next-push_item-requires
push_next-push_item-requires t c =
    let (n, around, e) = c.requires.due in
    let (read, is) = c.in_ok-head.ensures.read in
    let item = no-break c.args.heads.now c.next_head.new.heads c.in_ok-head.head (suc n) around e (read, is) in
    let less = less-unread c.args.heads.now c.next_head.new.heads c.in_ok-head.head is in (
      omega (arith, less, c.decreases),
      (
        is.spelled,
        (
          is.payload,
          (
            item,
            (
              read,
              (
                Items n ∷ around,
                head-begun c.args.heads.now c.next_head.new.heads c.in_ok-head.head _ _ e refl item (read, is),
              ),
            ),
          ),
        ),
      ),
    )

pub push_next-returns-clause-left : goal.push_next-returns-clause-left
push_next-returns-clause-left t c = on_ok_weaker c.push_item.result (λ left n around e. left (Items n ∷ around)
    (head-begun c.args.heads.now c.next_head.new.heads c.in_ok-head.head _ _ e refl
    (no-break c.args.heads.now c.next_head.new.heads c.in_ok-head.head (suc n) around e c.in_ok-head.ensures.read)
    c.in_ok-head.ensures.read)) c.push_item.ensures.left

pub push_open_parts-parts-init : goal.push_open_parts-parts-init
push_open_parts-parts-init t c = (
  none-pushed c.args.is_map c.args.heads.now c.extend_from_slice-2.new.self.items c.requires.read,
  λ around e. open-begun c.args.is_map c.args.heads.now around e,
  omega arith,
)

pub push_open_parts-returns-in-Break-clause-shown : goal.push_open_parts-returns-in-Break-clause-shown
push_open_parts-returns-in-Break-clause-shown t c =
    let (around, begun) = c.requires.due in
    let (left, k, count) = parts-break c.args.is_map c.parts.place c.parts.heads c.next_head.new.heads
    c.in_ok-head.head around (c.parts.invariant.1 around begun) c.in-Break.is c.in_ok-head.ensures.read in
    bracketed (AreOpenParts c.args.is_map) c.args.head.now c.args.heads.now c.next_head.new.heads
    (opening c.args.is_map ++ codes "_ ") (closing c.args.is_map) _ _ _ _ c.requires.payload
    (as-open-parts c.args.is_map c.args.head.now.bytes.now c.requires.spelled)
    (behind-both c.args.text.now.items _ _ (opening c.args.is_map) (codes "_ ")
    (c.in_ok-extend_from_slice.ensures.items ∙ ap (λ (s : List ℕ). c.args.text.now.items ++ s) c.opening.ensures)
    c.in_ok-extend_from_slice-2.ensures.items)
    (all-parts c.args.is_map c.parts.place k c.args.heads.now c.parts.heads c.next_head.new.heads c.in_ok-head.head _ _
    c.parts.invariant.0 c.in_ok-head.ensures.read c.in-Break.is count)
    (c.in_ok-extend_from_slice-3.ensures.items ∙ ap (λ (s : List ℕ). c.parts.text.items ++ s) c.closing.ensures)

pub push_open_parts-parts-smaller : goal.push_open_parts-parts-smaller
push_open_parts-parts-smaller t c = omega (
  arith,
  less-unread c.parts.heads c.next_head.new.heads c.in_ok-head.head c.in_ok-head.ensures.read.1,
  passed-less c.next_head.new.heads c.push_item.new.heads _ c.in_ok-push_item.ensures.shown.2,
)

pub push_open_parts-push_item-requires : goal.push_open_parts-push_item-requires
push_open_parts-push_item-requires t c =
    let (r, u, before, are, e) = c.parts.invariant.0 in
    let (read, is) = c.in_ok-head.ensures.read in
    let less = less-left c.args.heads.now c.parts.heads c.next_head.new.heads r c.in_ok-head.head before (read, is) in (
      omega (arith, less, c.decreases),
      (
        is.spelled,
        (
          is.payload,
          (
            c.in_default.not-Break,
            (
              read,
              (
                open_level c.args.is_map (c.parts.place + 1) ∷ c.requires.due.0,
                head-begun c.parts.heads c.next_head.new.heads c.in_ok-head.head _ _
                    (c.parts.invariant.1 c.requires.due.0 c.requires.due.1)
                    (part-due c.args.is_map c.parts.place c.requires.due.0) c.in_default.not-Break (read, is),
              ),
            ),
          ),
        ),
      ),
    )

pub push_open_parts-parts-preserved : goal.push_open_parts-parts-preserved
push_open_parts-parts-preserved t c = (
  one-more-pushed c.args.is_map c.parts.place c.args.heads.now c.parts.heads c.push_item.new.heads _ _ _ _
      c.parts.invariant.0 (c.in_ok-extend_from_slice-4.ensures.items ∙ ap (λ (s : List ℕ). c.parts.text.items ++ s)
      c.lead.ensures)
      (next-pushed c.parts.heads c.next_head.new.heads c.push_item.new.heads c.in_ok-head.head _ _
      c.in_ok-head.ensures.read c.in_ok-push_item.ensures.shown),
  λ around e. c.in_ok-push_item.ensures.left (open_level c.args.is_map (c.parts.place + 1) ∷ around)
      (head-begun c.parts.heads c.next_head.new.heads c.in_ok-head.head _ _ (c.parts.invariant.1 around e)
      (part-due c.args.is_map c.parts.place around) c.in_default.not-Break c.in_ok-head.ensures.read) ∙
      parts-open c.args.is_map (c.parts.place + 1) around,
  omega (
    arith,
    c.parts.invariant.2,
    less-unread c.parts.heads c.next_head.new.heads c.in_ok-head.head
        c.in_ok-head.ensures.read.1,
    passed-less c.next_head.new.heads c.push_item.new.heads _
        c.in_ok-push_item.ensures.shown.2,
  ),
)

pub push_parts-parts-init : goal.push_parts-parts-init
push_parts-parts-init t c = (
  none-pushed c.args.is_map c.args.heads.now c.push_opening.new.text.items c.requires.read,
  λ around e. counted-begun c.args.is_map c.args.count c.args.heads.now around e ∙
      ap (λ (n : ℕ). incomplete (Items n ∷ around)) (omega (arith, c.part_count-total.ensures)),
)

pub push_parts-push_next-requires : goal.push_parts-push_next-requires
push_parts-push_next-requires t c =
    let (r, u, before, are, e) = c.parts.invariant.0 in
    let (around, begun) = c.requires.due in
    let less = passed-less c.args.heads.now c.parts.heads r before in (
      omega (arith, less, c.decreases),
      (
        before.read,
        (
          c.part_count-total.result - (c.parts.place + 1),
          around,
          parts-due c.parts.heads c.part_count-total.result c.parts.place around c.parts-test.true
              (c.parts.invariant.1 around begun),
        ),
      ),
    )

pub push_parts-parts-preserved : goal.push_parts-parts-preserved
push_parts-parts-preserved t c = (
  one-more-pushed c.args.is_map c.parts.place c.args.heads.now c.parts.heads c.push_next.new.heads _ _ _ _
      c.parts.invariant.0 (c.in_ok-extend_from_slice.ensures.items ∙ ap (λ (s : List ℕ). c.parts.text.items ++ s)
      c.lead.ensures) c.in_ok-push_next.ensures.shown,
  λ around e. c.in_ok-push_next.ensures.left (c.part_count-total.result - (c.parts.place + 1)) around
      (parts-due c.parts.heads c.part_count-total.result c.parts.place around c.parts-test.true
      (c.parts.invariant.1 around e)),
)

pub push_parts-returns-clause-shown : goal.push_parts-returns-clause-shown
push_parts-returns-clause-shown t c =
    let h = c.args.head.now.bytes.now in
    let n = c.args.count in
    bracketed (AreExactly c.args.is_map c.parts.place) c.args.head.now c.args.heads.now c.parts.heads
    (opening c.args.is_map ++ spaced (mark (length h) n)) (closing c.args.is_map) _ _ _ _ c.requires.payload
    (as-parts c.args.is_map h n c.parts.place c.requires.spelled (omega (arith, c.part_count-total.ensures)))
    c.in_ok-push_opening.ensures c.parts.invariant.0
    (c.in_ok-extend_from_slice-2.ensures.items ∙ ap (λ (s : List ℕ). c.parts.text.items ++ s) c.closing.ensures)

pub push_open_parts-returns-in-Break-clause-left : goal.push_open_parts-returns-in-Break-clause-left
push_open_parts-returns-in-Break-clause-left t c = λ around begun. (parts-break c.args.is_map c.parts.place
    c.parts.heads c.next_head.new.heads c.in_ok-head.head around (c.parts.invariant.1 around begun) c.in-Break.is
    c.in_ok-head.ensures.read).0

pub push_open_parts-overflow_step-place : goal.push_open_parts-overflow_step-place
push_open_parts-overflow_step-place t c = omega arith

pub push_open_parts-unreachable-requires : goal.push_open_parts-unreachable-requires
push_open_parts-unreachable-requires t c = grind (arith, common_steps)

pub push_parts-returns-clause-left : goal.push_parts-returns-clause-left
push_parts-returns-clause-left t c = λ around e.
    let none : c.part_count-total.result - c.parts.place ≡ 0 = omega (arith, c.parts-test.false) in
    rw none at (c.parts.invariant.1 around e)
