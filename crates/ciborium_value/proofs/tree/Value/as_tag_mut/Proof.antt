-- `as_tag_mut` cuts the borrow of a tag in two, and lends its number and what its box holds.
use Rattle.std.proofs.{Common.{◌≡◌, ℕ, List, [], ◌∷◌, rules, refl, sym, ap, ◌∙◌, subst}, raw_atomic.Walks.proved}
use Rattle.std.specs.{Box.with_value, Prelude.⊤, declared.option.Option.TheVariants.{None, Some}}
use Rattle.ciborium_value.proofs.Trees.{TagParts.{B, Tag, tag_with, tags, lends_two, then₂}, Views.tree_of-Tag}
use Rattle.ciborium_value.proofs.tree.{Value.as_tag_mut.Statement.statement, accessors.lend_content.Met.met}
use Rattle.ciborium_value.specs.{LentParts.value_with_tag, Tree.Tree, TreeVariants.IsTagTree, Variants.{IsTag, IsTagOf}}
use Rattle.ciborium_value.specs.declared.tree.Value.{the_lemmas, TheFolds.map-Value, TheOpen.Value-F}
use Rattle.ciborium_value.specs.declared.tree.Value.TheViews.{out-Value, roll-Value}
use Prim.Native.Nat.{◌+◌}
use base.{Fml.{ftrue, flft, GName, fsep, feq, fex}, Fraction.full_share, Logic.{sep, ent, emp, id⊢}}
use borrow.Enum.{Known.lives_at, Refused.not_key}
use contract.{Lifetimes.Lfts, Monad.{fact_i, fact}, Running.tables}
use denote.{Builtin.u64, Enum.{Declared.tag_of, Enum.in_a_row}, Exit.no, Follow.{follows, follows_both, both_if_by}}
use denote.{Laws.{Is, shows}, Memory.{cell_at, part_at, part_of}, RattleType.{flat, Valss, owns}, Ref.MutRef}
use denote.{Ref.{mut_vals, mut_Tells, MutBor}, Signature.{plain, mut_ref_to, type_at}, Steps.{opens, closes, peeks}}
use denote.{Steps.{nothing, only, heard}, Struct.Tuple.Tuple, Triple.{Call.calls_at, Clauses.lasts, Spec.triple_of}}
use denote.Triple.{Table.framed, Walked.{Stays, walk_of, stay_dropped, Goes-spent_ref, ends_at, says}}
use lib.Dec.{lit<}
use mir.{Syntax.{named, w8}, Val.{Val, vptr, vint, vstruct, vcons, vnil, of_list}}
use seplogic.Ra.Ura.{Ura}
use types.{ByLocal.{alloc_all, pass_all, free_all, through, env, sets, sets_last, get, look_at, lands_as}, Kit.frame}
use types.Kit.{‵, raw, ◌⊛◌, some, later, at_ret, ◌$◌, ◌∵◌, !, qed, done, move, keep, drop, use1, use2, split, split3}
use types.Kit.{join, fsplit, fsplit3, fjoin, feq_i, feq_l, fpack, pick, await, rewrite, suffices, group, use0}
use types.{Logic.{Logic, sem}, Match.{vrt, look_tag, by_variants, live}, Part.{whole, agg}, Run.{enter, first, stop}}
use types.{Run.{fld, load, addr, exec, no_more, and_then, lit, of_opd, returns, OneOf}, Tokens.name_done}
use Rattle.ciborium_value.specs.{View.{tree_of, level_tree}, contracts.tree.Value.{the_type, the_row as R, enum}}
use Rattle.ciborium_value.proofs.tree.Value.as_tag_mut.Code as code
use Rattle.ciborium_value.specs.Tree as trees
use Rattle.ciborium_value.specs.contracts.tree.Value.as_tag_mut as f
use Rattle.ciborium_value.specs.contracts.tree.accessors.lend_content as g

abbrev none_val : Val
none_val = vstruct (vcons (vint w8 0) vnil)

abbrev stayed : Stays f.ended.signature.params f.ended.kept
stayed = (stay_dropped (mut_ref_to (0 ∷ []) tt (plain (λ _. R))) no, tt)

none_in : {M : Type 1} {𝓤 : Ura M} (𝓛 : Logic 𝓤) (κs : Lfts 1) →
    ent 𝓤 (emp 𝓤) (sem 𝓛 ((type_at f.signature.result κs).own_val None (none_val ∷ [])))
none_in 𝓛 κs = qed 𝓛 (‵ ftrue ∷ []) ∵ feq_i ! (List Val) [] [] refl $ fjoin ! $ fpack ! (Valss [])
    (in_a_row [] (owns [] tt) []) tt $ feq_i ! (List Val) (none_val ∷ []) (live 0 (of_list []) ∷ []) refl $ fjoin ! $
    fpack ! (List Val) (λ (us : List Val). fsep (feq (List Val) (none_val ∷ []) (live 0 (of_list us) ∷ []))
    (fex (Valss []) (in_a_row [] (owns [] tt) us))) [] $ done !

abbrev pair_val : MutBor ℕ → MutBor R.Denot → Val
pair_val n r = vstruct (vcons (only (mut_vals n)) (vcons (only (mut_vals r)) vnil))

abbrev some_val : MutBor ℕ → MutBor R.Denot → Val
some_val n r = live 1 (vcons (pair_val n r) vnil)

some_in : {M : Type 1} {𝓤 : Ura M} (𝓛 : Logic 𝓤) (κs : Lfts 1) (n : MutBor ℕ) (r : MutBor R.Denot)
    → ent 𝓤 (sep 𝓤 (sem 𝓛 ((MutRef (named 0) κs.0 u64).own_val n (mut_vals n)))
    (sem 𝓛 ((MutRef (named 0) κs.0 R).own_val r (mut_vals r))))
    (sem 𝓛 ((type_at f.signature.result κs).own_val (Some (n, r)) (some_val n r ∷ [])))
some_in 𝓛 κs n r =
    let Rs = MutRef (named 0) κs.0 u64 ∷ MutRef (named 0) κs.0 R ∷ [] in let P = Tuple Rs in let p = pair_val n r in
    qed 𝓛 (‵ ((MutRef (named 0) κs.0 u64).own_val n (mut_vals n)) ∷ ‵ ((MutRef (named 0) κs.0 R).own_val r (mut_vals r))
    ∷ []) ∵
    nothing ! $ move ! (2 ∷ 0 ∷ []) $ fjoin ! $ move ! (1 ∷ 0 ∷ []) $ fjoin ! $ feq_i ! (List Val) (p ∷ []) (p ∷ [])
    refl $ fjoin ! $
    fpack ! (Valss Rs) (λ (vss : Valss Rs). fsep (feq (List Val) (p ∷ []) (vstruct (of_list (flat Rs vss)) ∷ []))
    (owns Rs (n, (r, tt)) vss)) (mut_vals n, (mut_vals r, tt)) $
    nothing ! $ move ! (1 ∷ 0 ∷ []) $ fjoin ! $ feq_i ! (List Val) (p ∷ []) (p ∷ []) refl $ fjoin ! $
    fpack ! (Valss (P ∷ [])) (in_a_row (P ∷ []) (owns (P ∷ []) ((n, r), tt)) (p ∷ [])) (p ∷ [], tt) $
    feq_i ! (List Val) (some_val n r ∷ []) (live 1 (of_list (p ∷ [])) ∷ []) refl $ fjoin ! $
    fpack ! (List Val) (λ (us : List Val). fsep (feq (List Val) (some_val n r ∷ []) (live 1 (of_list us) ∷ []))
    (fex (Valss (P ∷ [])) (in_a_row (P ∷ []) (owns (P ∷ []) ((n, r), tt)) us))) (p ∷ []) $ done !

-- a value of another variant is no tag
no_tag : (d : R.Denot) → OneOf (0 ∷ 1 ∷ 2 ∷ 3 ∷ 4 ∷ 6 ∷ 7 ∷ []) (tag_of the_type d) → IsTag d → ⊥
no_tag d key p = not_key (0 ∷ 1 ∷ 2 ∷ 3 ∷ 4 ∷ 6 ∷ 7 ∷ []) 5 tt (tag_of the_type d) key
    (ap (tag_of the_type) p.2 ∙ tags (p.0, (p.1, tt)))

-- a level whose tree is a tag is a tag
tagged_level : (y : Value-F R.Denot) → IsTagTree (tree_of (roll-Value y)) → IsTag (roll-Value y)
tagged_level (Value-F.Tag t box) p = (t, box, search (rules, the_lemmas))
tagged_level y p = let e : level_tree (map-Value R.Denot Tree tree_of y) ≡ trees.tag p.0 p.1 =
    search (rules, the_lemmas) ∙ p.2 in absurd cc

-- so a value that is no tag has a tree that is none
no_tag_tree : (d : R.Denot) → (IsTag d → ⊥) → IsTagTree (tree_of d) → ⊥
no_tag_tree d none p = none (subst (λ (v : R.Denot). IsTagTree (tree_of v) → IsTag v) (search (rules, the_lemmas))
    (tagged_level (out-Value d)) p)

pub as_tag_mut_spec : {M : Type 1} → statement M
unfolding both_if_by part_of
as_tag_mut_spec 𝓤 𝓛 𝓜 𝓡 wired =
    let c = f.clauses 𝓛 𝓜.mem 𝓡.returns in let W = walk_of 𝓛 f.ended stayed c in let 𝓣 = tables 𝓤 𝓛.H 𝓜 𝓡 𝓡.env in
    proved 𝓛 f.ended stayed c 𝓜 𝓡 (Goes-spent_ref 𝓛 1 (0 ∷ []) tt (plain (λ _. R)), tt)
    f.Key.name code.function (code.unfolded 𝓤 𝓛.H 𝓜 𝓡 wired)
    (λ κs. (mut_vals, tt)) (λ κs. (mut_Tells (named 0) κs.0 R, tt)) (λ κs qs bounds a _ are.
    let b = a.0.ref_ptr.0 in let o = a.0.ref_ptr.1 in let h = a.0.now in let vs = mut_vals a.0 in let κ = κs.0 in
    let q = qs.0 in let γ = a.0.ghost_name in
    let y : W.Ghost = ((κs, qs, bounds, a, (vs, tt)), tt) in
    qed 𝓛 (((‵ (flft κs.0 qs.0) ⊛ ‵ ftrue) ⊛ ‵ ((MutRef (named 0) κs.0 R).own_val a.0 vs) ⊛ ‵ ftrue) ∷ ‵ ftrue ∷ []) ∵
    split ! $ split ! $ move ! (2 ∷ []) $ split ! $ keep ! (0 ∷ 2 ∷ []) $
    enter ! _ _ _ _ _ $ alloc_all ! (λ l. pass_all ! refl ((tt, tt), tt) $
    fsplit3 ! $ drop ! $ move ! (0 ∷ 1 ∷ 2 ∷ []) $ opens ! tt R b o (λ us.
    move ! (1 ∷ []) $ peeks ! R (Is R) (shows 𝓛 R) h us (λ is.
    let word = is.1.0 in
    move ! (1 ∷ []) $ rewrite ! 0 (λ (ws : List Val). ‵ (cell_at full_share R.mir ws b o)) word refl $
    -- [the enum's cell; what the value owns; the open borrow; obs; auth]
    first ! $ by_variants ! 0 (whole !) (load ! (through ! refl (vrt ! refl (fld ! refl (stop !))))
    (look_tag ! 0 (whole !))) tt (
      (λ e.
          let at_tag = lives_at enum h 5 e in let t = at_tag.0.0 in let box = at_tag.0.1.0 in
          let is_tag : h ≡ Tag t box = at_tag.1 in
          sets ! (addr ! (through ! refl (vrt ! refl (fld ! refl (stop !))))) refl (tt, tt) $
          sets ! (addr ! (through ! refl (vrt ! refl (fld ! refl (stop !))))) refl (tt, tt) $
          sets ! (addr ! (through ! refl (stop !))) refl (tt, tt) $
          sets ! (addr ! (through ! refl (stop !))) refl (tt, tt) $
          rewrite ! 0 (λ (ws : List Val). ‵ (cell_at full_share R.mir ws b o)) (sym word) refl $ fjoin ! $
          fpack ! (List Val) (λ (ws : List Val). fsep (cell_at full_share R.mir ws b o) (R.own_val h ws)) us $
          rewrite ! 0 (λ (d : R.Denot). ‵ (part_at R full_share d b o)) is_tag refl $ group ! 4 $
          use1 𝓛 (later (some (λ (γs : GName × GName). ‵
          ((MutRef (named 0) κ u64).own_val (record { ref_ptr = (b, o + 8); ghost_name = γs.0; now = t })
          (vptr b (o + 8) ∷ []))
          ⊛ ‵ ((MutRef (named 0) κ B).own_val (record { ref_ptr = (b, o + 16); ghost_name = γs.1; now = box })
          (vptr b (o + 16) ∷ [])) ⊛ ‵ (flft κ q) ⊛ ‵ (follows_both R u64 B γ γs.0 γs.1 Tag))))
          (lends_two 𝓛 b o κ q γ t box (R.coded.code h)) $ await ! tt $ pick !
          (λ γs. split3 ! $ move ! (1 ∷ 2 ∷ []) $ move ! (1 ∷ []) $ split ! $ move ! (2 ∷ 0 ∷ []) $
          -- [the box's reference; the token; the way of the names; the number's reference]
          let G = triple_of 𝓛 g.signature (g.spec 𝓛 𝓜.mem 𝓡.returns) in
          let lent : MutBor B.Denot = record { ref_ptr = (b, o + 16); ghost_name = γs.1; now = box } in
          let z : G.Ghost = ((κs, qs, tt, (lent, tt), (vptr b (o + 16) ∷ [], tt)), tt) in
          nothing ! $ move ! (1 ∷ 0 ∷ []) $ join ! $ nothing ! $ move ! (2 ∷ 0 ∷ []) $ join ! $ join ! $ nothing ! $
          move ! (1 ∷ 0 ∷ []) $ use2 𝓛 (raw (G.pre z)) (id⊢ 𝓤 _) $
          calls_at ! (framed 𝓤 𝓛.H 𝓜 𝓣) G (met 𝓤 𝓛 𝓜 𝓡
          (code.calls-ciborium_value::tree::accessors::lend_content 𝓡.env wired)) z
          (and_then ! (get ! refl) (no_more !)) (λ v.
          use1 𝓛 (later (some (λ (r : MutBor R.Denot).
          ((‵ (flft κ q) ⊛ ‵ ftrue) ⊛ ‵ ((MutRef (named 0) κ R).own_val r (v ∷ []))) ⊛
          some (λ (ws : Unit {0} × Unit {0}). ‵ (lasts g.ended κs (lent, tt) ws) ⊛ ‵
          (follows B R γs.1 r.ghost_name (with_value box)) ⊛ raw (fact 𝓤 (r.now ≡ box.value)))))) (id⊢ 𝓤 _) $
          await ! tt $ pick ! (λ r. split ! $ split ! $ split ! $ move ! (2 ∷ []) $ fsplit ! $ feq_l !
          (λ is_ref. move ! (3 ∷ []) $ pick ! (λ ws. split3 ! $ drop ! $ move ! (1 ∷ []) $ heard ! _ (λ same.
          -- [the way of the box's name; the result's name and borrow; the token; true; the way of the names; the
          -- number's reference]
          move ! (4 ∷ 0 ∷ []) $ use2 𝓛 (‵ (follows_both R u64 R γ γs.0 r.ghost_name (λ x w. Tag x (with_value box w))))
          (then₂ 𝓛 R u64 B R Tag (with_value box) γ γs.0 γs.1 r.ghost_name) $
          rewrite ! 0 (λ (F : ℕ → R.Denot → R.Denot). ‵ (follows_both R u64 R γ γs.0 r.ghost_name F))
          (λ i x w. (tag_with t box x w ∙ ap (λ (d : R.Denot). value_with_tag d x w) (sym is_tag)) i) refl $
          let n : MutBor ℕ = record { ref_ptr = (b, o + 8); ghost_name = γs.0; now = t } in
          lands_as ! (ap only is_ref) refl (tt, tt) $
          sets ! (agg ! (and_then ! (get ! refl) (and_then ! (get ! refl) (no_more !)))) refl (tt, (tt, (tt, tt))) $
          sets_last ! (agg ! (and_then ! (lit ! tt) (and_then ! (get ! refl) (no_more !)))) refl
          (tt, (record { fits = lit< tt }, ((tt, (tt, tt)), tt))) $
          exec ! 𝓣.C 𝓣.Λ (env code.Mir.locals l) code.Mir.t-2 (at_ret _ (W.post y)) $ sets ! (of_opd ! (get ! refl))
          refl (tt, (record { fits = lit< tt }, ((tt, (tt, tt)), tt))) $
          returns ! (look_at ! 0 refl) $ free_all ! refl $
          suffices ! _ (ends_at 𝓛 f.ended stayed c y (some_val n r) (Some (n, r)) (tt, tt) (tt, tt)) $
          move ! (1 ∷ []) $ feq_i ! (List Val) (mut_vals r) (mut_vals r) refl $ fjoin ! $ keep ! (4 ∷ 0 ∷ 2 ∷ 1 ∷ []) $
          use2 𝓛 (‵ ((type_at f.signature.result κs).own_val (Some (n, r)) (some_val n r ∷ []))) (some_in 𝓛 κs n r) $
          nothing ! $ nothing ! $ fjoin ! $ join ! $ nothing ! $ move ! (2 ∷ 0 ∷ []) $ join ! $ join ! $ frame ! $ frame
          ! $
          use0 𝓛 (raw (fact 𝓤 (IsTagOf h t r.now))) (fact_i 𝓤 (IsTagOf h t r.now) (emp 𝓤) (box, is_tag, same)) $ frame !
          $
          says ! (ap tree_of is_tag ∙ tree_of-Tag t box ∙ ap (λ (w : R.Denot). trees.tag t (tree_of w)) (sym same)) $
          use0 𝓛 (raw (fact 𝓤 ⊤)) (fact_i 𝓤 ⊤ (emp 𝓤) tt) $ done !))))))),
      (
        (λ k. rewrite ! 0 (λ (ws : List Val). ‵ (cell_at full_share R.mir ws b o)) (sym word) refl $ closes ! tt R h us
            b o $ name_done ! tt $
            sets_last ! (agg ! (and_then ! (lit ! tt) (no_more !))) refl (tt, (record { fits = lit< tt }, tt)) $
            exec ! 𝓣.C 𝓣.Λ (env code.Mir.locals l) code.Mir.t-2 (at_ret _ (W.post y)) $ sets ! (of_opd ! (get ! refl))
            refl (tt, (record { fits = lit< tt }, tt)) $
            returns ! (look_at ! 0 refl) $ free_all ! refl $
            suffices ! _ (ends_at 𝓛 f.ended stayed c y none_val None (tt, tt) (tt, tt)) $
            -- [the last value; the borrow; the token]
            move ! (2 ∷ 0 ∷ []) $ keep ! (0 ∷ 1 ∷ []) $ nothing ! $ use1 𝓛
            (‵ ((type_at f.signature.result κs).own_val None (none_val ∷ []))) (none_in 𝓛 κs) $
            nothing ! $ nothing ! $ fjoin ! $ join ! $ nothing ! $ move ! (2 ∷ 0 ∷ []) $ join ! $ join ! $ frame ! $
            frame ! $ use0 𝓛 (raw (fact 𝓤 ⊤)) (fact_i 𝓤 ⊤ (emp 𝓤) tt) $ frame ! $
            says ! (no_tag_tree h (no_tag h k)) $ use0 𝓛 (raw (fact 𝓤 (IsTag h → ⊥)))
            (fact_i 𝓤 (IsTag h → ⊥) (emp 𝓤) (no_tag h k)) $ done !),
        tt,
      ),
    )))))
