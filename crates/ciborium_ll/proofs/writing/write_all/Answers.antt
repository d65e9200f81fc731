use Rattle.std.proofs.Common.{arith, ◌≡◌, ℕ, ◌-◌, List, ◌++◌, length, take, drop, subst, sym, ap, ◌∙◌, take_all}
use Rattle.std.{proofs.{Common.length-drop, KnownBytes.Appends-trans}, specs.Io.KnownBytes.Appends}
use lib.Seq.{take-add}
use Rattle.ciborium_ll.proofs.writing.write_all.Goals as goal

-- the slice from an index on is what follows there
slice-from : (at : ℕ) (xs : List ℕ) → take (length xs - at) (drop at xs) ≡ drop at xs
slice-from at xs =
    let len : length (drop at xs) ≡ length xs - at = length-drop at xs in
    take_all (length xs - at) (drop at xs) (omega arith)

pub loop-written-preserved : goal.loop-written-preserved
loop-written-preserved g c =
    let at = c.loop-written.written in
    let bytes = c.args.bytes.now in
    let whole = slice-from at bytes in
    let len : length (drop at bytes) ≡ length bytes - at = length-drop at bytes in
    let rest : length (take (length bytes - at) (drop at bytes)) ≡ length (drop at bytes) = ap length whole in
    record {
      within = omega (arith, rest, len, c.in-Ok.ensures.bound, c.loop-written.invariant.within);
      appended = subst (Appends _ _) (ap (λ l. take at bytes ++ take c.in-Ok.n l) whole ∙
          sym (take-add at c.in-Ok.n bytes)) (Appends-trans _ _ _ _ _ c.loop-written.invariant.appended
          c.in-Ok.ensures.bytes);
    }
