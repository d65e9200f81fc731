use Rattle.std.proofs.lemmas.Grind.{common_steps}
use Rattle.std.proofs.Common.{◌≡◌, ℕ, ◌+◌, ◌≤◌, true, List, ◌∷◌, length, get_or, take, drop, slice_range}
use Rattle.std.proofs.Common.{arith, subst, sym, ap, ◌∙◌, take-append-drop}
use Rattle.ciborium_ll.proofs.{Cursors.are-bytes, HeldBytes.head-bytes, LevelMisfits.ill-more}
use Rattle.ciborium_ll.specs.Header.{SpellsHeader, is_ill_formed}
use Rattle.ciborium_ll.proofs.item_heads.front_of.Goals as goal

front-is : (n size : ℕ) (held : List ℕ) → size ≡ 1 + n → size ≤ length held →
    take size held ≡ get_or held 0 0 ∷ slice_range held 1 size
front-is n size held same fits = ap (λ k. take k held) same ∙ head-bytes n held (omega (arith, same, fits)) ∙
    ap (λ k. get_or held 0 0 ∷ slice_range held 1 k) (sym same)

pub returns-in-Some-clause-front : goal.returns-in-Some-clause-front
returns-in-Some-clause-front c =
    let is = front-is _ _ c.args.held.now c.front_size-size.ensures.size c.if-held-size.false in
    (subst (λ b. SpellsHeader b c.in-Some.header) (sym is) c.in-Some.ensures, c.if-held-size.false)

pub returns-in-None-clause-front : goal.returns-in-None-clause-front
returns-in-None-clause-front c =
    let held = c.args.held.now in
    let size = c.front_size-size.result in
    let is = front-is _ size held c.front_size-size.ensures.size c.if-held-size.false in
    subst (λ b. is_ill_formed b ≡ true) (take-append-drop size held)
    (ill-more (take size held) (drop size held) (ap is_ill_formed is ∙ c.in-None.ensures))

pub returns-in-Some-clause-bytes : goal.returns-in-Some-clause-bytes
returns-in-Some-clause-bytes c = are-bytes c.args.held.now c.type_inv.held

pub returns-in-None-clause-bytes : goal.returns-in-None-clause-bytes
returns-in-None-clause-bytes c = are-bytes c.args.held.now c.type_inv.held

pub returns-then-is_empty-clause-bytes : goal.returns-then-is_empty-clause-bytes
returns-then-is_empty-clause-bytes c = are-bytes c.args.held.now c.type_inv.held

pub returns-then-held-size-clause-bytes : goal.returns-then-held-size-clause-bytes
returns-then-held-size-clause-bytes c = are-bytes c.args.held.now c.type_inv.held

pub returns-then-held-size-clause-front : goal.returns-then-held-size-clause-front
returns-then-held-size-clause-front c = grind (arith, common_steps)
