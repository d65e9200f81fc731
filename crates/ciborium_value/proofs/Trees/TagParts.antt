-- A tag behind a `&mut` is cut in two: its number and its box are lent side by side.
use Rattle.std.{proofs.Common.{◌≡◌, ℕ, List, [], ◌∷◌, refl, sym, ap}, specs.Box.with_value}
use Rattle.std.specs.contracts.impls.GlobalAllocator.TheImpl.{ghosts}
use Rattle.ciborium_value.{proofs.tree.Value.TheLaws.{the_alike, the_loose}, specs.LentParts.value_with_tag}
use Rattle.ciborium_value.specs.declared.tree.Value.{TheOpen.Value-F, TheViews.outs-Tag}
use Prim.Native.Nat.{◌+◌}
use base.{Fml.{Fml, fex, Lft, GName, Share, flft, fobs, fauth, fres, fobor, fbor}, Fraction.full_share, Logic.SProp}
use base.{Logic.{ent, sep, wand, ex, all_e, apply∗}, Stored.Gv}
use borrow.Enum.{Copied.fields_at, Known.{at, choose}, LendTwo.{tag_m, VariantBack, variant_parts}}
use borrow.Struct.Alike.{lies_alike}
use denote.{Builtin.{u8, u64}, Enum.{Declared.{variants, intoss, tag_of}, Enum.{payload, tag, in_a_row}}}
use denote.{Follow.{follows, followed, both_by, follows_both}, Memory.{mem, part_at, lone}, Plain.uint_Lawful}
use denote.{RattleType.{RattleType, Denots, Valss, owns}, Ref.MutRef, Steps.nothing, Struct.At.FieldAt}
use denote.Struct.Members.{Member, rows_of, row_of, parts_at}
use lib.Dec.{lit<}
use mir.{Syntax.{named, ty_int, w8, w64}, Val.{Val, vptr}}
use seplogic.Ra.Ura.{Ura}
use types.{Follow.{after₂, followed₂, takes_two}, Kit.{‵, raw, ◌⊛◌, some, later, ◌$◌, ◌∵◌, !, qed, by, done, move}}
use types.Kit.{keep, use1, use2, split, split3, join, fsplit, fsplit3, fjoin, fjoin3, feq_i, each, assume, await, pick}
use types.{Kit.{rewrite, group, updating, now, show}, Logic.{Logic, sem}, SemTy.Body}
use Rattle.ciborium_value.specs.{LentParts.level_with_tag, contracts.tree.Value.{enum, the_type, the_row as R}}
use Rattle.std.specs.contracts.alloc.Global as global
use Rattle.std.specs.contracts.boxed.Box as box

-- a box of a value
abbrev pub B : RattleType
B = box.the_row R global.the_row ghosts

-- the position of the variant, and its two fields
abbrev k : ℕ
k = 5

abbrev members : List Member
members = record { row = u64; ty = ty_int w64 } ∷ record
    { row = (FieldAt (fields_at the_type.parts k) 1).row; ty = lone B.mir } ∷ []

abbrev pub Tag : ℕ → B.Denot → R.Denot
Tag t c = at enum k (t, (c, tt))

-- a tag whose two parts are set
pub tag_with : (t : ℕ) (box : B.Denot) (x : ℕ) (w : R.Denot) → Tag x (with_value box w) ≡ value_with_tag (Tag t box) x w
tag_with t box x w = sym (ap (λ (z : Value-F R.Denot). level_with_tag z (Tag t box) x w) (outs-Tag t box))

-- the position of a tag
pub tags : (a : Denots (rows_of members)) → tag_of the_type (at enum k a) ≡ k
tags v i = tag (variants the_type) (intoss enum.parts (enum.beta (choose enum.parts k v) i))

module _ {M : Type 1} {𝓤 : Ura M} (𝓛 : Logic 𝓤) where
  open 𝓛 use {H, A}

  -- a part of the second part takes its place
  pub then₂ : (R T U V : RattleType) (F : T.Denot → U.Denot → R.Denot) (G : V.Denot → U.Denot) (γ γ₁ γ₂ δ : GName)
      → ent 𝓤 (sep 𝓤 (sem 𝓛 (follows_both R T U γ γ₁ γ₂ F)) (sem 𝓛 (follows U V γ₂ δ G)))
      (sem 𝓛 (follows_both R T V γ γ₁ δ (λ x w. F x (G w))))
  unfolding both_by
  then₂ R T U V F G γ γ₁ γ₂ δ = qed 𝓛 (‵ (follows_both R T U γ γ₁ γ₂ F) ∷ ‵ (follows U V γ₂ δ G) ∷ []) ∵
      each ! (λ (w : T.Denot × V.Denot). wand 𝓤 (sep 𝓤 (A.res γ₁ (T.coded.code w.0)) (A.res δ (V.coded.code w.1)))
      (A.res γ (R.coded.code (F w.0 (G w.1))))) (λ w.
      assume ! (‵ (fres γ₁ (T.coded.code w.0)) ⊛ ‵ (fres δ (V.coded.code w.1))) $ split ! $
      -- [the first part's last value; the last value of the second's part; the two ways]
      move ! (3 ∷ 1 ∷ []) $ use2 𝓛 (‵ (fres γ₂ (U.coded.code (G w.1)))) (followed 𝓛 U V G γ₂ δ w.1) $
      move ! (1 ∷ 0 ∷ []) $ join ! $ by ! (followed₂ 𝓛 (mem R) (mem T) (mem U) F γ γ₁ γ₂ w.0 (G w.1)))

  module _ (b o : ℕ) where
    pays : (a : Denots (rows_of members)) (us : List Val) →
        payload (variants the_type) (the_type.to (at enum k a)) us ≡ fex (Valss (rows_of members))
        (in_a_row (rows_of members) (owns (rows_of members) a) us)
    pays v us i = payload (variants the_type) (intoss enum.parts (enum.beta (choose enum.parts k v) i)) us

    -- the way back, from the tag and any values of the two fields
    abbrev Mended : SProp 𝓤
    Mended = VariantBack the_type k members (λ a. at enum k a) pays tags (lit< tt) refl refl 𝓛 full_share b o

    cut : (t : ℕ) (c : B.Denot) → ent 𝓤 (sem 𝓛 (part_at R full_share (Tag t c) b o))
        (sep 𝓤 (sem 𝓛 (parts_at full_share (tag_m ∷ members) 0 (k, (t, (c, tt))) b o)) Mended)
    cut t c = variant_parts the_type k members (λ a. at enum k a) pays tags (lit< tt) refl refl 𝓛 full_share
        (uint_Lawful 𝓛 w8, (uint_Lawful 𝓛 w64, (the_loose.1.1.1.1.1.0.1.0.lawful 𝓛, tt))) (t, (c, tt)) b o

    abbrev Rest : SProp 𝓤
    Rest = sep 𝓤 (sem 𝓛 (part_at u8 full_share k b (o + 0))) Mended

    -- the box as the variant holds it, and as its own type does
    alike : (c : B.Denot) → part_at B full_share c b (o + 16) ≡ part_at
        (row_of (record { row = (FieldAt (fields_at the_type.parts k) 1).row; ty = lone B.mir })) full_share c b
        (o + 16)
    alike c = lies_alike the_alike.1.1.1.1.1.0.1.0 c b (o + 16)

    back : (t : ℕ) (c : B.Denot) → ent 𝓤 (sep 𝓤 (sem 𝓛 ((mem u64).own_at t b (o + 8)))
        (sep 𝓤 (sem 𝓛 ((mem B).own_at c b (o + 16))) Rest)) (sem 𝓛 ((mem R).own_at (Tag t c) b o))
    back t c = qed 𝓛 (‵ ((mem u64).own_at t b (o + 8)) ∷ ‵ ((mem B).own_at c b (o + 16)) ∷
        (‵ (part_at u8 full_share k b (o + 0)) ⊛ raw Mended) ∷ []) ∵ move ! (1 ∷ []) $ rewrite ! 0 (λ (X : Fml). ‵ X)
        (alike c) refl $ nothing ! $ move ! (1 ∷ 0 ∷ []) $ fjoin ! $ move ! (1 ∷ 0 ∷ []) $ fjoin ! $
        -- [the two fields; the tag and the way back]
        move ! (1 ∷ []) $ split ! $ move ! (0 ∷ 2 ∷ []) $ fjoin ! $ move ! (1 ∷ []) $
        use1 𝓛 (raw (wand 𝓤 (sem 𝓛 (parts_at full_share (tag_m ∷ members) 0 (k, (t, (c, tt))) b o))
        (sem 𝓛 (part_at R full_share (Tag t c) b o))))
        (all_e 𝓤 (λ (a : Denots (rows_of members)). wand 𝓤 (sem 𝓛 (parts_at full_share (tag_m ∷ members) 0 (k, a) b o))
        (sem 𝓛 (part_at R full_share (at enum k a) b o))) (t, (c, tt))) $
        move ! (1 ∷ 0 ∷ []) $ by ! (apply∗ 𝓤 (sem 𝓛 (parts_at full_share (tag_m ∷ members) 0 (k, (t, (c, tt))) b o))
        (sem 𝓛 (part_at R full_share (Tag t c) b o)))

    module _ (κ : Lft) (q : Share) (γ : GName) (t : ℕ) (c : B.Denot) where
      abbrev pub Two : GName × GName → SProp 𝓤
      Two γs = sep 𝓤 (sem 𝓛 ((MutRef (named 0) κ u64).own_val
          (record { ref_ptr = (b, o + 8); ghost_name = γs.0; now = t }) (vptr b (o + 8) ∷ [])))
          (sep 𝓤 (sem 𝓛 ((MutRef (named 0) κ B).own_val (record { ref_ptr = (b, o + 16); ghost_name = γs.1; now = c })
          (vptr b (o + 16) ∷ [])))
          (sep 𝓤 (A.lft κ q) (sem 𝓛 (follows_both R u64 B γ γs.0 γs.1 Tag))))

      -- a tag whose borrow is open is lent in its two parts
      pub lends_two : (g : Gv) → ent 𝓤 (sep 𝓤 (sem 𝓛 (part_at R full_share (Tag t c) b o))
          (sep 𝓤 (A.obor κ q (Body (mem R) b o γ)) (sep 𝓤 (A.obs γ g) (A.auth γ g)))) (H.⇛ (ex 𝓤 Two))
      unfolding both_by
      lends_two g =
          qed 𝓛 (‵ (part_at R full_share (Tag t c) b o) ∷ ‵ (fobor κ q (Body (mem R) b o γ)) ∷ ‵ (fobs γ g) ∷ ‵
          (fauth γ g) ∷ []) ∵ updating ! $
          use1 𝓛 (‵ (parts_at full_share (tag_m ∷ members) 0 (k, (t, (c, tt))) b o) ⊛ raw Mended) (cut t c) $ split ! $
          fsplit ! $ move ! (0 ∷ 2 ∷ []) $ join ! $
          -- [the tag and the way back; the two fields; the open borrow; obs; auth]
          move ! (1 ∷ []) $ fsplit3 ! $ move ! (1 ∷ []) $ rewrite ! 0 (λ (X : Fml). ‵ X) (sym (alike c)) refl $
          -- [the box; the number; true; the rest; the open borrow; obs; auth]
          move ! (4 ∷ 5 ∷ 6 ∷ 1 ∷ 0 ∷ 3 ∷ []) $ group ! 6 $
          use1 𝓛 (later (some (λ (γs : GName × GName).
          (‵ (fobs γs.0 (u64.coded.code t)) ⊛ ‵ (fbor κ (Body (mem u64) b (o + 8) γs.0))) ⊛
          (‵ (fobs γs.1 (B.coded.code c)) ⊛ ‵ (fbor κ (Body (mem B) b (o + 16) γs.1)))
          ⊛ ‵ (flft κ q) ⊛ ‵ (after₂ (mem R) (mem u64) (mem B) γ γs.0 γs.1 Tag))))
          (takes_two 𝓛 (mem R) (mem u64) (mem B) Tag κ q b o b (o + 8) b (o + 16) γ Rest back g g t c) $ await ! tt $
          pick ! (λ γs. split3 ! $
          split ! $ feq_i ! (List Val) (vptr b (o + 8) ∷ []) (vptr b (o + 8) ∷ []) refl $ fjoin3 ! $ move ! (1 ∷ []) $
          split ! $ feq_i ! (List Val) (vptr b (o + 16) ∷ []) (vptr b (o + 16) ∷ []) refl $ fjoin3 ! $ move ! (2 ∷ []) $
          split ! $
          -- [the token; the way of the names; the two references]
          now ! $ show ! Two γs $ keep ! (3 ∷ 2 ∷ 0 ∷ 1 ∷ []) $ done !)
