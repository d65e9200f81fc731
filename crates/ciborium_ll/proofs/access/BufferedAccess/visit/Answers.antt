use Rattle.std.proofs.Common.{◌≡◌, ℕ, true, List, length-take-le, take, Option, Some, Err, subst, arith}
use Rattle.std.specs.Io.{BufRead.FillKeeps, KnownBytes.Keeps}
use Rattle.ciborium_ll.{proofs.HeldBytes.dropped, specs.{Accesses.VisitsHeld, FirstHeads.IsHeadIo}}
use Rattle.ciborium_ll.specs.declared.header.Error.{Error, TheVariants.{Io}}
use Rattle.ciborium_ll.proofs.access.BufferedAccess.visit.Goals as goal

-- no byte came
none-came : {V E : Type 0} (old new : Option (List ℕ)) (n : ℕ) (Makes : List ℕ → V → Type 0) (e : Error E) →
    (n ≡ 0 → ⊥) → Keeps old new → IsHeadIo e → VisitsHeld {V = V} {E = E} old new true n Makes (Some (Err e))
none-came old new n Makes (Io e) some kept io = (kept, omega (arith, some), λ h. absurd cc)
none-came old new n Makes u some kept io = absurd io

pub returns-then-is_empty : goal.returns-then-is_empty
returns-then-is_empty g c = none-came _ _ _ (g.V.Visitor.makes c.args.visitor.now) _ c.if-n-eq0.false
    c.fill_buf.follows.holds-at-none.0 c.end_of_bytes.ensures

pub returns-then-held-n : goal.returns-then-held-n
returns-then-held-n g c = c.fill_buf.follows.holds-at-none.0

pub returns : goal.returns
returns g c =
    let rested = c.fill_buf.follows.lender-at-none in
    let kept = subst (FillKeeps _ (g.R.Read.remaining rested) (g.R.BufRead.consumable_len rested)) c.in-Ok.is
    c.fill_buf.follows.holds-at-none in
    let fits = c.if-held-n.false in (
      take c.args.n c.in-Ok.held.now,
      dropped _ _ _ _ c.in-Ok.held.now c.args.n fits c.in-Ok.ensures.front kept c.consume.ensures.bytes,
      length-take-le c.args.n c.in-Ok.held.now fits,
      rw c.front.ensures.front at c.visit-value.ensures,
      rw c.front.ensures.front at c.front.ensures.bytes,
    )

pub returns-in-Err : goal.returns-in-Err
returns-in-Err g c = none-came _ _ _ (g.V.Visitor.makes c.args.visitor.now) (Io c.keep.result) c.if-n-eq0.false
    c.fill_buf.follows.holds-at-none.0 tt
