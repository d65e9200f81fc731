use Rattle.std.proofs.{Common.arith, lemmas.Grind.common_steps}
use Rattle.std.proofs.{Common.{◌≡◌, List, ℕ, ◌++◌, IsTrue, [], rules, subst, ◌∙◌}, lemmas.List.drop_at}
use Rattle.ciborium_ll.{proofs.{CopiedItems.taken-judged, HeadsRead.behind-bytes}, specs.ItemBytes.IsCopyOf}
use Rattle.ciborium_ll.proofs.item_bytes.copy_item.Goals as goal

pub returns : goal.returns
returns g c =
    let (copied, taken, is, u) = c.in_ok-is_end.ensures.copied in
    let is_end = c.in_ok-is_end.is_end in
    let same = behind-bytes _ _ c.len-start.result (c.deref.ensures.value ∙ is) ∙
    drop_at c.args.item.now.items copied _ (search rules) in (
      copied,
      taken,
      is,
      taken-judged _ _ copied c.judge_copy.result (IsTrue is_end) taken c.in_ok-is_end.ensures.end
          (subst (λ x. (left : List ℕ) → (IsTrue is_end → left ≡ []) → IsCopyOf (x ++ left) x c.judge_copy.result) same
          c.judge_copy.ensures),
    )

pub slice_bounds-judge_copy-count : goal.slice_bounds-judge_copy-count
slice_bounds-judge_copy-count g c = grind (arith, common_steps)

pub slice_bounds-judge_copy-start : goal.slice_bounds-judge_copy-start
slice_bounds-judge_copy-start g c = grind (arith, common_steps)
