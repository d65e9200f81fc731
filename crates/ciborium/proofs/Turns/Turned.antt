-- The answers of one turn.
use Rattle.std.proofs.Common.{◌≡◌, ℕ, zero, suc, ◌+◌, ◌-◌, ◌<◌, ◌≤◌, List, [], ◌∷◌, ◌++◌, length, Option, Some, None}
use Rattle.std.proofs.Common.{Result, Ok, Err, IfOk, MatchOption, IsSome, refl, sym, ap, ◌∙◌, subst, arith, inl, inr}
use Rattle.ciborium_ll.specs.{Bytes.greatest_offset, Decoding.{Takes, TakesBeforeAny, left_of, offset_of, with_left}}
use Rattle.ciborium_ll.specs.{Head.break_byte, Refusal.semantic}
use Rattle.ciborium_ll.specs.declared.{decoder.Decoder.Decoder, kind.Kind.TheVariants.Break}
use Rattle.ciborium_value.{proofs.GoodItems.Steps.opened-has, specs.{Refuses.Refuses, Spelling.Spelling, Tree.Tree}}
use Rattle.ciborium_value.specs.{View.{tree_of, trees_from, tree_pairs_from}, declared.stack.NewFrame.NewFrame}
use Rattle.ciborium_value.specs.{declared.tree.Value.Value, inner.Frames.{TreeFrame, array, map, tag, Placed, more}}
use Rattle.ciborium_value.specs.inner.{Frames.{placed, closed}, ReadItems.ReadsItem, Stack.begun_frame}
use Rattle.ciborium.proofs.Turns.{Heads.{ahead-of, stands-offset}, Pulled.refused-map, Turning.{EndsHere, Lands}}
use Rattle.ciborium.proofs.Turns.Turning.{LandsIn, landed, kept, disordered, closed-item, refused-turn}
use Rattle.ciborium.specs.{ValueAnswers.IsRefusedBy, declared.de.{error.Error.Error, front.Part.Part}}
use Rattle.ciborium.specs.{declared.de.front.Part.TheVariants.{Whole, Begun, Ended}, inner.Around.IsAround}
use Rattle.ciborium.specs.inner.{Parts.{IsPartRead, RefusesPart}, Turns.{IsPlacedInOrder, IsReading, IsTurned}}
use Rattle.ciborium.specs.inner.ValuesInBytes.{StandsAt}
use Rattle.ciborium_value.specs.Tree as trees

-- a value was placed, and its key judged
turned : {S W E : Type 0} (spelling : Spelling) (remaining : S → Option (List ℕ)) (e : Decoder S W)
    (os after : List TreeFrame) (l : ℕ) (xs : List ℕ) (p : ℕ) {m : ℕ} {ys : List ℕ} {q : ℕ} {v : Tree} {zs : List ℕ}
    {r : ℕ} (end : ℕ) (x : Result (Option Value) (Error E)) → end ≡ r → IsAround spelling l xs p os m ys q →
    ReadsItem spelling (Some m) ys q v zs r → StandsAt spelling remaining e zs r →
    IsPlacedInOrder spelling os v end after x → IsTurned spelling remaining e after l xs p x
turned {E = E} spelling remaining e os after l xs p {m} {ys} {q} {v} {zs} {r} end x same a i stands = by x
  where
    lands : Lands spelling (placed os v) l xs p zs r
    lands = landed spelling l xs p os a i

    by : (x : Result (Option Value) (Error E)) → IsPlacedInOrder spelling os v end after x →
        IsTurned spelling remaining e after l xs p x
    by (Ok None) (is, rises) =
        let k = kept spelling l xs p after zs r (subst (λ (w : Placed). Lands spelling w l xs p zs r) (sym is) lands)
        rises in
        (k.0, zs, r, k.1, stands)
    by (Ok (Some w)) is = (
      zs,
      r,
      subst (λ (u : Placed). Lands spelling u l xs p zs r) (sym is) lands,
      ahead-of spelling remaining e zs r stands,
    )
    by (Err x) (inl memory) =
        subst (λ f. IsRefusedBy (left_of remaining e) f (Refuses spelling xs p (Some l))) (sym memory) tt
    by (Err x) (inr (is, (at, never, error))) =
        subst (λ f. IsRefusedBy (left_of remaining e) f (Refuses spelling xs p (Some l))) (sym error)
        (disordered spelling l xs p after zs end at (subst (λ n. LandsIn spelling after l xs p zs n) (sym same)
        (subst (λ (w : Placed). Lands spelling w l xs p zs r) (sym is) lands)) never)

ends-not : (os : List TreeFrame) → closed os ≡ None → EndsHere os → ⊥
ends-not os e h = let no = subst (λ o. IsSome o) e h in absurd cc

-- a break that ends nothing
broken : (spelling : Spelling) (l : ℕ) (xs : List ℕ) (p : ℕ) (os : List TreeFrame) (m : ℕ) (ys : List ℕ) (q : ℕ)
    (zs : List ℕ) → IsAround spelling l xs p os m ys q → closed os ≡ None → ys ≡ break_byte ∷ zs → q < greatest_offset →
    Refuses spelling xs p (Some l) (semantic q Break)
broken spelling l xs p os m ys q zs a none is less =
    let refuses : Refuses spelling ys q (Some m) (semantic q Break) =
    subst (λ z. Refuses spelling z q (Some m) (semantic q Break)) (sym is)
    (Refuses.break {b = zs} {p = q} (opened-has 7 q zs refl less)) in
    refused-turn spelling l xs p os a refuses (λ h. absurd (ends-not os none h))

-- ---- what `next` answers

levels-left : (spelling : Spelling) (l : ℕ) (xs : List ℕ) (p : ℕ) (os : List TreeFrame) (m : ℕ) (ys : List ℕ) (q : ℕ) →
    IsAround spelling l xs p os m ys q → length os + m ≡ l
levels-left spelling l xs p [] m ys q a = omega (arith, a.0)
levels-left spelling l xs p (o ∷ os) m ys q a = omega (arith, levels-left spelling l xs p os (suc m) a.0 a.1 a.2)

left : (spelling : Spelling) (l : ℕ) (xs : List ℕ) (p : ℕ) (os : List TreeFrame) (m : ℕ) (zs : List ℕ) (r : ℕ) →
    IsAround spelling l xs p os m zs r → l - length os ≡ m
left spelling l xs p os m zs r a = omega (arith, levels-left spelling l xs p os m zs r a)

-- what it answers where reading stands, and what is unfinished around that
pub record IsTold {S W : Type 0} (spelling : Spelling) (remaining : S → Option (List ℕ)) (e : Decoder S W)
    (os : List TreeFrame) (l : ℕ) (xs : List ℕ) (p : ℕ) (y : Result Part (Error (Unit {0}))) : Type 0 where
  m : ℕ
  ys : List ℕ
  q : ℕ
  around : IsAround spelling l xs p os m ys q
  part : IsPartRead spelling remaining e m ys q y

-- a turn answers by that, whatever follows what it takes
pub turn-by : {S W : Type 0} (spelling : Spelling) (remaining : S → Option (List ℕ)) (d e : Decoder S W)
    (os : List TreeFrame) (l n : ℕ) {x y : Result Part (Error (Unit {0}))} (P : List ℕ → List ℕ → ℕ → Type 0) →
    n ≡ length os → x ≡ y → TakesBeforeAny remaining d e (λ d e. (xs : List ℕ) (p : ℕ) →
    StandsAt spelling Some d xs p → IsPartRead spelling Some e (l - n) xs p x) →
    ((z xs : List ℕ) (p : ℕ) → IsTold spelling Some (with_left e z) os l xs p y → P z xs p) →
    Takes remaining d e (λ b. (z xs : List ℕ) (p : ℕ) → IsReading spelling Some (with_left d (b ++ z)) os l xs p →
    P z xs p)
turn-by spelling remaining d e os l n {x} P depth same t f = (
  t.0,
  t.1,
  t.2,
  λ z xs p (m, ys, q, around, stands). f z xs p (record {
    m = m;
    ys = ys;
    q = q;
    around = around;
    part = subst (λ r. IsPartRead spelling Some (with_left e z) m ys q r) same
        (subst (λ k. IsPartRead spelling Some (with_left e z) k ys q x)
        (ap (λ k. l - k) depth ∙ left spelling l xs p os m ys q around) (t.3 z ys q stands));
  }),
  t.4,
)

-- ---- the answers of a turn

module _ {S W : Type 0} {spelling : Spelling} {remaining : S → Option (List ℕ)} {e : Decoder S W} {os : List TreeFrame}
    {l : ℕ} {xs : List ℕ} {p : ℕ} where
  pub turn-refused : {f : Error (Unit {0})} → IsTold spelling remaining e os l xs p (Err f) →
      IsRefusedBy (left_of remaining e) f (Refuses spelling xs p (Some l))
  turn-refused {f} s = refused-map (left_of remaining e) f (RefusesPart spelling s.ys s.q s.m)
      (Refuses spelling xs p (Some l)) (λ r h. refused-turn spelling l xs p os s.around h.0 (λ _. h.1))
      s.part

  pub turn-whole : {v : Value} (after : List TreeFrame) (end : ℕ) (z : Result (Option Value) (Error (Unit {0}))) →
      end ≡ offset_of e → IsPlacedInOrder spelling os (tree_of v) end after z →
      IsTold spelling remaining e os l xs p (Ok (Whole v)) → IsTurned spelling remaining e after l xs p z
  turn-whole after end z at placed s =
      let a = s.part in
      turned spelling remaining e os after l xs p end z (at ∙ stands-offset spelling remaining e a.1 a.0 a.3) s.around
      a.2 a.3 placed

  pub turn-begun : {f : NewFrame} (after : List TreeFrame) → after ≡ begun_frame f ∷ os →
      IsTold spelling remaining e os l xs p (Ok (Begun f)) → IsReading spelling remaining e after l xs p
  turn-begun after now s =
      let a = s.part in
      let (m, more_levels, inside) = a.2 in (
        m,
        a.0,
        a.1,
        subst (λ us. IsAround spelling l xs p us m a.0 a.1) (sym now)
            (s.ys, s.q, subst (λ k. IsAround spelling l xs p os k s.ys s.q) more_levels s.around, inside),
        a.3,
      )

  pub turn-ended : (v : Value) {between : List TreeFrame} (after : List TreeFrame) (end : ℕ)
      (z : Result (Option Value) (Error (Unit {0}))) → closed os ≡ Some (tree_of v, between) → end ≡ offset_of e →
      IsPlacedInOrder spelling between (tree_of v) end after z → IsTold spelling remaining e os l xs p (Ok Ended) →
      IsTurned spelling remaining e after l xs p z
  turn-ended v {between} after end z ends at placed s =
      let a = s.part in
      let (m, ys, q, around, item) =
      closed-item spelling l xs p os between s.m s.ys s.q (tree_of v) a.0 s.around ends a.1 a.2 in
      turned spelling remaining e between after l xs p end z
      (at ∙ stands-offset spelling remaining e (s.q + 1) a.0 a.3) around item a.3 placed

  pub turn-break : {offset : ℕ} → closed os ≡ None → offset ≡ offset_of e - 1 →
      IsTold spelling remaining e os l xs p (Ok Ended) → Refuses spelling xs p (Some l) (semantic offset Break)
  turn-break none at s =
      let a = s.part in
      let end = stands-offset spelling remaining e (s.q + 1) a.0 a.3 in
      subst (λ k. Refuses spelling xs p (Some l) (semantic k Break)) (omega (arith, at, end))
      (broken spelling l xs p os s.m s.ys s.q a.0 s.around none a.1 a.2)

-- ---- how many are unfinished

same-length : (os us : List TreeFrame) → more os ≡ more us → length us ≤ length os
same-length os us e = let i : os ≡ us = cc e in omega (arith, ap length i)

-- a value closes some, and begins none
pub shallow : (os us : List TreeFrame) (v : Tree) → more us ≡ placed os v → length us ≤ length os
shallow [] us v e = absurd cc
shallow (array vs None ∷ os) us v e = same-length (array (vs ++ v ∷ []) None ∷ os) us (sym e)
shallow (array vs (Some (suc n)) ∷ os) us v e = same-length (array (vs ++ v ∷ []) (Some n) ∷ os) us (sym e)
shallow (array vs (Some zero) ∷ os) us v e = let less = shallow os us (trees.array (trees_from (vs ++ v ∷ []))) e in
    omega (arith, less)
shallow (map ps behind None ∷ os) us v e = same-length (map ps behind (Some v) ∷ os) us (sym e)
shallow (map ps None (Some k) ∷ os) us v e = same-length (map (ps ++ (k, v) ∷ []) None None ∷ os) us (sym e)
shallow (map ps (Some (suc n)) (Some k) ∷ os) us v e =
    same-length (map (ps ++ (k, v) ∷ []) (Some n) None ∷ os) us (sym e)
shallow (map ps (Some zero) (Some k) ∷ os) us v e = let less =
    shallow os us (trees.map (tree_pairs_from (ps ++ (k, v) ∷ []))) e in omega (arith, less)
shallow (tag t ∷ os) us v e = let less = shallow os us (trees.tag t v) e in omega (arith, less)

pub depth-placed : {E : Type 0} (spelling : Spelling) (x : Result (Option Value) (Error E)) (os after : List TreeFrame)
    (v : Tree) (end l : ℕ) → IsPlacedInOrder spelling os v end after x → length os ≤ l →
    IfOk x (λ o. MatchOption o (length after ≤ l) (λ _. Unit {0}))
depth-placed spelling (Ok None) os after v end l (is, rises) room = let less = shallow os after v is in
    omega (arith, less, room)
depth-placed spelling u os after v end l is room = tt

abbrev both : Tree → List TreeFrame → Tree × List TreeFrame
both v os = (v, os)

some-same : (v w : Tree) (os us : List TreeFrame) → Some (both v os) ≡ Some (both w us) → os ≡ us
some-same v w os us e = let same : both v os ≡ both w us = cc in ap (λ x. x.1) same

pub depth-closed : (os us : List TreeFrame) (v : Tree) (l : ℕ) → closed os ≡ Some (v, us) → length os ≤ l →
    length us ≤ l
depth-closed (array vs None ∷ os) us v l e room = let same = some-same (trees.array (trees_from vs)) v os us e in
    omega (arith, room, ap length same)
depth-closed (map ps None None ∷ os) us v l e room = let same = some-same (trees.map (tree_pairs_from ps)) v os us e in
    omega (arith, room, ap length same)
depth-closed u us v l e room = absurd cc

-- ---- the beginning

pub begin : {S W : Type 0} (spelling : Spelling) (remaining : S → Option (List ℕ)) (d : Decoder S W)
    (os : List TreeFrame) (l : ℕ) (xs : List ℕ) (p : ℕ) →
    os ≡ [] → StandsAt spelling remaining d xs p → IsReading spelling remaining d os l xs p
begin spelling remaining d os l xs p none s = (
  l,
  xs,
  p,
  subst (λ us. IsAround spelling l xs p us l xs p) (sym none) (refl, refl, refl),
  s,
)
