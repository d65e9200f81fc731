use Rattle.std.proofs.Common.{◌≡◌, ℕ, ◌<◌, List, [], take, min, Option, append-nil, refl, sym, ◌∙◌, arith, subst}
use Rattle.std.proofs.{KnownBytes.{Consumes-kept, Consumes-nil}, Math.Nat.{min-le_left, min-le_right}}
use Rattle.std.specs.Io.{BufRead.FillKeeps, KnownBytes.Keeps}
use Rattle.ciborium_ll.{proofs.{CopiedItems.none-held, HeldBytes.dropped}, specs.ItemBytes.HasCopied}
use Rattle.ciborium_ll.proofs.item_bytes.copy_held.Goals as goal

none-copied : (a b : Option (List ℕ)) (old new : List ℕ) → Keeps a b → new ≡ old →
    HasCopied a b old new (λ _. Unit {0})
none-copied a b old new kept same =
    ([], Consumes-kept a a b [] (Consumes-nil a) kept, same ∙ sym (append-nil old), tt)

none-least : (n most k : ℕ) → k ≡ min most n → k ≡ 0 → 0 < most → n ≡ 0
none-least n most k is none some = omega (arith, is, none, some)

pub returns-then-is_err-clause-copied : goal.returns-then-is_err-clause-copied
returns-then-is_err-clause-copied g c = none-copied _ _ _ _ c.fill_buf.follows.holds-at-none.0
    (rw c.if-is_err.ensures.negation at c.extend_from_slice.ensures.items)

pub returns-in-Err-clause-copied : goal.returns-in-Err-clause-copied
returns-in-Err-clause-copied g c = none-copied _ _ _ _ c.fill_buf.follows.holds-at-none.0 refl

pub returns : goal.returns
returns g c =
    let held = c.in-Ok.held.now in
    let rested = c.fill_buf.follows.lender-at-none in
    let kept = subst (FillKeeps _ (g.R.Read.remaining rested) (g.R.BufRead.consumable_len rested)) c.in-Ok.is
    c.fill_buf.follows.holds-at-none in
    let taken = dropped _ _ _ _ held c.min-count.result (rw c.min-count.ensures (min-le_right _ _))
    c.in-Ok.ensures.front kept c.consume.ensures.bytes in
    record {
      at_most = rw c.min-count.ensures (min-le_left _ _);
      copied = (
        take c.min-count.result held,
        taken,
        rw c.if-is_err.ensures.negation at c.extend_from_slice.ensures.items,
        tt,
      );
      end = λ none some.
          none-held _ _ held _ c.in-Ok.ensures.end (none-least _ _ _ c.min-count.ensures none some) taken;
    }
