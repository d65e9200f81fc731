-- The next part of a container that is read, or its end.
use Rattle.std.proofs.Common.{◌≡◌, ◌≤◌, ◌≢◌, ℕ, suc, ◌+◌, ◌-◌, ◌<◌, Bool, false, is_some, List, [], ◌∷◌, ◌++◌, length}
use Rattle.std.proofs.Common.{map, Option, Some, None, refl, sym, ap, ◌∙◌, subst, append_assoc, append-nil, arith, inl}
use Rattle.std.{proofs.Common.{inr, ◌⊎◌, length-append}, specs.Vec.Iter.into_iter_items}
use Rattle.ciborium_ll.{proofs.{OneHeader.one_header_at_front, UniqueSpelling.one_at_front}, specs.Decoding.left_of}
use Rattle.ciborium_ll.specs.{Head.{IsHead, break_byte, head_in, eight_bytes}, Header.{SpellsHeader, announced_length}}
use Rattle.ciborium_ll.specs.{Item.{Item, unsigned}, Spells.Spells, declared.header.Header.Header}
use Rattle.ciborium_value.specs.Ahead.{Span, Rest, bottom, parts, pairs, entry, item, past, inside, end_of}
use Rattle.ciborium_value.specs.{Nesting.Limit, Places.{ContainerType, an_array, a_map}}
use Rattle.ciborium_value.specs.Sources.{Fault, HasItem, HasPart, GoesOn, Leaves, RefusesNext, OwesLess, OwesNothing}
use Rattle.ciborium.proofs.Items.ItemHeads.{header_of, first-head, first-payload, same-head, no-break-head}
use Rattle.ciborium.proofs.Items.TakenOnly.{IsKept, kept-reader, rest-end}
use Rattle.ciborium.specs.declared.de.byte_source.{ByteSeq.ByteSeq, ByteSource.ByteSource}
use Rattle.ciborium.specs.inner.ByteSources.{IsHeadCounted, IsUnread, IsUnreadBy, StandsBefore, SeqStands}
use Rattle.ciborium.specs.inner.ByteSources.{HasNoneBehind, HoldsItems, HoldsPairs, HoldsParts, SeqOwes, LeftOwes}
use Rattle.ciborium.specs.inner.{ByteSources.{OwesParts, end_at, reader_of}, FrontItems.{TakesHead, DeniesHead}}
use Rattle.ciborium.specs.inner.Unread.{AreSpelled, AreLeft, SpellsPair, FitsAhead, IsRest, ending, span_of, HasCount}
use Rattle.ciborium_ll.specs.declared.header.Header.TheVariants as header
use Rattle.ciborium.specs.declared.de.byte_source.Left.TheVariants as left

pub fits-past : (name : _) (b : List ℕ) (f : Rest) → IsRest name b f → FitsAhead name b (past f)
fits-past name b (bottom m r) h = h
fits-past name b _ h = h

pub none-past : (p : Option (Header × ℕ)) → p ≡ None → (f : Rest) → HasNoneBehind p (past f)
none-past p e (entry v span ps f) = tt
none-past p e u = e

-- ---- the parts left, by what stands at the front

-- a part begins with an item
BeginsWithItem : {X : Type 0} → (List ℕ → X → Type 0) → Type 0
BeginsWithItem {X} SpellsPart = (a : List ℕ) (x : X) → SpellsPart a x → (i : Item) × (s : List ℕ) × (t : List ℕ) ×
    Spells s i × (a ≡ s ++ t)

item-begins : BeginsWithItem Spells
unfolding BeginsWithItem
item-begins a i sp = (i, a, [], sp, sym (append-nil a))

pair-begins : BeginsWithItem SpellsPair
unfolding BeginsWithItem
pair-begins a p (s, t, sp, sq, e) = (p.0, s, t, sp, e)

-- of the parts left one is next, at the front of b
abbrev HasNext : {X : Type 0} → (List ℕ → X → Type 0) → Option ℕ → List X → List ℕ → List ℕ → Type 0
HasNext {X} SpellsPart rest xs b r =
    (x : X) × (ys : List X) × (xs ≡ x ∷ ys) × ((a : List ℕ) × (c : List ℕ) × SpellsPart a x ×
    AreLeft SpellsPart (span_of rest) c ys × (b ≡ a ++ (c ++ (ending (span_of rest) ++ r)))) × HasCount rest ys

-- of the parts left up to a break none is next, and the break stands at the front of b; or one is, which begins with an
-- item, and r stands somewhere behind that
abbrev IsFront : {X : Type 0} → (List ℕ → X → Type 0) → List X → List ℕ → List ℕ → Type 0
IsFront SpellsPart xs b r = ((xs ≡ []) × (b ≡ break_byte ∷ r)) ⊎ (HasNext SpellsPart None xs b r ×
    ((i : Item) × (t : List ℕ) × (z : List ℕ) × Spells t i × (b ≡ t ++ z) × (length r ≤ length z)))

module _ {X : Type 0} (SpellsPart : List ℕ → X → Type 0) where
  counted-next : (n : ℕ) (span : Span) (xs : List X) (s r b : List ℕ) → n ≢ 0 → HoldsParts (Some n) span xs →
      AreLeft SpellsPart span s xs → b ≡ s ++ (ending span ++ r) → HasNext SpellsPart (Some (n - 1)) xs b r
  counted-next n span xs s r b some (is, len) left e =
      by xs len (subst (λ k. AreLeft SpellsPart k s xs) is left) (e ∙ ap (λ k. s ++ (ending k ++ r)) is)
    where
      by : (xs : List X) → length xs ≡ n → AreSpelled SpellsPart s xs → b ≡ s ++ r →
          HasNext SpellsPart (Some (n - 1)) xs b r
      by [] len left e = absurd (some (sym len))
      by (x ∷ ys) len (a, c, sp, sps, g) e = (
        x,
        ys,
        refl,
        (a, c, sp, sps, e ∙ ap (λ (z : List ℕ). z ++ r) g ∙ append_assoc a c r),
        (let k : suc (length ys) ≡ n = len in omega (arith, k)),
      )

  counted-end : (span : Span) (xs : List X) (s r b : List ℕ) → HoldsParts (Some 0) span xs →
      AreLeft SpellsPart span s xs → b ≡ s ++ (ending span ++ r) → (xs ≡ []) × (b ≡ r)
  counted-end span xs s r b (is, len) left e = by xs len (subst (λ k. AreLeft SpellsPart k s xs) is left)
      (e ∙ ap (λ k. s ++ (ending k ++ r)) is)
    where
      by : (xs : List X) → length xs ≡ 0 → AreSpelled SpellsPart s xs → b ≡ s ++ r → (xs ≡ []) × (b ≡ r)
      by [] len left e = (refl, e ∙ ap (λ (z : List ℕ). z ++ r) left)
      by (x ∷ ys) len left e = absurd (let k : suc (length ys) ≡ 0 = len in omega (arith, k))

  module _ (begins : BeginsWithItem SpellsPart) where
    -- what stands at the front where parts are left up to a break: the break, or a head that is another one
    open-front : (span : Span) (xs : List X) (s r b : List ℕ) → HoldsParts None span xs → AreLeft SpellsPart span s xs →
        b ≡ s ++ (ending span ++ r) → IsFront SpellsPart xs b r
    unfolding BeginsWithItem
    open-front span xs s r b (is, any) left e = by xs (subst (λ k. AreLeft SpellsPart k s xs) is left)
        (e ∙ ap (λ k. s ++ (ending k ++ r)) is)
      where
        by : (xs : List X) → AreSpelled SpellsPart s xs → b ≡ s ++ (break_byte ∷ r) → IsFront SpellsPart xs b r
        by [] left e = inl (refl, e ∙ ap (λ (z : List ℕ). z ++ (break_byte ∷ r)) left)
        by (x ∷ ys) (a, c, sp, sps, g) e =
            let split : b ≡ a ++ (c ++ (break_byte ∷ r)) = e ∙ ap (λ (z : List ℕ). z ++ (break_byte ∷ r)) g ∙
            append_assoc a c (break_byte ∷ r) in
            let (i, t, u, sq, h) = begins a x sp in
            let all = length-append u (c ++ (break_byte ∷ r)) in
            let more : length (c ++ (break_byte ∷ r)) ≡ length c + suc (length r) = length-append c (break_byte ∷ r) in
            inr (
              (x, ys, refl, (a, c, sp, sps, split), tt),
              (
                i,
                t,
                u ++ (c ++ (break_byte ∷ r)),
                sq,
                split ∙ ap (λ (z : List ℕ). z ++ (c ++ (break_byte ∷ r))) h ∙
                    append_assoc t u (c ++ (break_byte ∷ r)),
                omega (arith, all, more),
              ),
            )

    unfinished-end : (span : Span) (xs : List X) (s r b x y : List ℕ) → HoldsParts None span xs →
        AreLeft SpellsPart span s xs → b ≡ s ++ (ending span ++ r) → SpellsHeader x header.Break → b ≡ x ++ y →
        (xs ≡ []) × (y ≡ r)
    unfinished-end span xs s r b x y hold left e hd f = by (open-front span xs s r b hold left e)
      where
        by : IsFront SpellsPart xs b r → (xs ≡ []) × (y ≡ r)
        by (inl (none, g)) = (
          none,
          (one_header_at_front x (break_byte ∷ []) y r header.Break header.Break hd refl
              (sym f ∙ g)).1,
        )
        by (inr (next, (i, t, z, sp, g, less))) = absurd (no-break-head i
            (same-head t z x y i header.Break sp hd (sym g ∙ f)).0)

    open-next : (span : Span) (xs : List X) (s r b x y : List ℕ) (h : Header) → HoldsParts None span xs →
        AreLeft SpellsPart span s xs → b ≡ s ++ (ending span ++ r) → SpellsHeader x h → h ≢ header.Break → b ≡ x ++ y →
        HasNext SpellsPart None xs b r
    open-next span xs s r b x y h hold left e hd other f = by (open-front span xs s r b hold left e)
      where
        by : IsFront SpellsPart xs b r → HasNext SpellsPart None xs b r
        by (inl (none, g)) = absurd (other (one_header_at_front x (break_byte ∷ []) y r h header.Break hd refl
            (sym f ∙ g)).2)
        by (inr (next, first)) = next

    -- some head stands there
    open-head : (span : Span) (xs : List X) (s r b : List ℕ) → HoldsParts None span xs → AreLeft SpellsPart span s xs →
        b ≡ s ++ (ending span ++ r) → (h : Header) × (x : List ℕ) × (y : List ℕ) × SpellsHeader x h × (b ≡ x ++ y) ×
        (announced_length h + length r ≤ length y)
    open-head span xs s r b hold left e = by (open-front span xs s r b hold left e)
      where
        by : IsFront SpellsPart xs b r → (h : Header) × (x : List ℕ) × (y : List ℕ) × SpellsHeader x h ×
            (b ≡ x ++ y) × (announced_length h + length r ≤ length y)
        by (inl (none, g)) = (header.Break, break_byte ∷ [], r, refl, g, omega arith)
        by (inr (next, (i, t, z, sp, g, less))) =
            let (x, y, hd, w) = first-head t i sp in (
              header_of i,
              x,
              y ++ z,
              hd,
              g ∙ ap (λ (k : List ℕ). k ++ z) w ∙ append_assoc x y z,
              (let there = first-payload t i sp in let more = length-append y z in
                  omega (arith, there, more, less)),
            )

-- ---- where the source stands before the next part

-- the same decoder, or one that read on; its levels are those of before
record IsAheadOf {S W : Type 0} (remaining : S → Option (List ℕ)) (old new : ByteSource S W) (b : List ℕ) : Type 0 where
  reader : reader_of remaining new.decoder ≡ reader_of remaining old.decoder
  levels : new.levels ≡ old.levels
  unread : IsUnread remaining new b

module _ {S W : Type 0} (remaining : S → Option (List ℕ)) (old new : ByteSource S W) (rest : Option ℕ) (b r : List ℕ)
    (f : Rest) (ahead : IsAheadOf remaining old new b) (q q' : ByteSeq) (same : q'.levels ≡ q.levels) where
  stands-item : (l : Limit) (span : Span) (xs : List Item) → span ≡ span_of rest → HasNext Spells rest xs b r →
      IsRest (reader_of remaining old.decoder) r f → inside span l ≡ Some old.levels →
      l ≡ Some q.levels → ((ys : List Item) → HasCount rest ys → HoldsItems q'.left span ys) →
      (i : Item) × (js : List Item) × (xs ≡ i ∷ js) × StandsBefore remaining new (inside span l)
      (item i (parts span js f)) × SeqStands q' l (parts span js f)
  stands-item l span xs is (x, ys, whole, (a, c, sp, left, e), count) behind lv lq hold = (
    x,
    ys,
    whole,
    (
      b,
      ahead.unread,
      (
        a,
        c ++ (ending span ++ r),
        sp,
        (
          c,
          r,
          subst (λ k. AreLeft Spells k c ys) (sym is) left,
          subst (λ n. IsRest n r f) (sym ahead.reader) behind,
          refl,
        ),
        subst (λ k. b ≡ a ++ (c ++ (ending k ++ r))) (sym is) e,
      ),
      lv ∙ ap Some (sym ahead.levels),
      tt,
    ),
    (lq ∙ ap Some (sym same), hold ys count),
  )

  stands-pair : (l : Limit) (span : Span) (xs : List (Item × Item)) → span ≡ span_of rest →
      HasNext SpellsPair rest xs b r → IsRest (reader_of remaining old.decoder) r f → inside span l ≡ Some old.levels →
      l ≡ Some q.levels → ((ys : List (Item × Item)) → HasCount rest ys → HoldsPairs q'.left span ys) →
      (k : Item) × (v : Item) × (qs : List (Item × Item)) × (xs ≡ (k, v) ∷ qs) ×
      StandsBefore remaining new (inside span l) (item k (entry v span qs f)) × SeqStands q' l (pairs span qs f)
  stands-pair l span xs is (x, ys, whole, (a, c, (s, t, sp, sq, g), left, e), count) behind lv lq hold = (
    x.0,
    x.1,
    ys,
    whole,
    (
      b,
      ahead.unread,
      (
        s,
        t ++ (c ++ (ending span ++ r)),
        sp,
        (
          t,
          c ++ (ending span ++ r),
          sq,
          (
            c,
            r,
            subst (λ k. AreLeft SpellsPair k c ys) (sym is) left,
            subst (λ n. IsRest n r f) (sym ahead.reader) behind,
            refl,
          ),
          refl,
        ),
        subst (λ k. b ≡ a ++ (c ++ (ending k ++ r))) (sym is) e ∙
            ap (λ (z : List ℕ). z ++ (c ++ (ending span ++ r))) g ∙ append_assoc s t (c ++ (ending span ++ r)),
      ),
      lv ∙ ap Some (sym ahead.levels),
      tt,
    ),
    (lq ∙ ap Some (sym same), hold ys count),
  )

-- behind the last part
stands-past : {S W : Type 0} (remaining : S → Option (List ℕ)) (old new : ByteSource S W) (l : Limit) (q : ByteSeq)
    (b : List ℕ) (f : Rest) → reader_of remaining new.decoder ≡ reader_of remaining old.decoder →
    new.levels ≡ q.levels → new.pending ≡ None → IsUnread remaining new b →
    IsRest (reader_of remaining old.decoder) b f → l ≡ Some q.levels → StandsBefore remaining new l (past f)
stands-past remaining old new l q b f name levels none un rest lq = (
  b,
  un,
  subst (λ n. FitsAhead n b (past f)) (sym name) (fits-past (reader_of remaining old.decoder) b f rest),
  lq ∙
      ap Some (sym levels),
  none-past new.pending none f,
)

-- ---- so many parts

module _ {S W : Type 0} (remaining : S → Option (List ℕ)) where
  pub goes-counted : (old : ByteSource S W) (q q' : ByteSeq) (n : ℕ) → q.left ≡ left.Counted n → n ≢ 0 →
      q'.left ≡ left.Counted (n - 1) → q'.levels ≡ q.levels → GoesOn (StandsBefore remaining) SeqStands old old q q'
  goes-counted old q q' n is some is' levels = (
    λ l span its f (b, u, (s, r, stand, rest, e), lv, none) (lq, hold).
        let held : HoldsParts (Some n) span its = subst (λ k. HoldsItems k span its) is hold in
        stands-item remaining old old (Some (n - 1)) b r f
        (record { reader = refl; levels = refl; unread = u }) q q' levels l span its held.0
        (counted-next Spells n span its s r b some held stand e) rest lv lq
        (λ ys count. subst (λ k. HoldsItems k span ys) (sym is') (held.0, count)),
    λ l span its f (b, u, (s, r, stand, rest, e), lv, none) (lq, hold).
        let held : HoldsParts (Some n) span its = subst (λ k. HoldsPairs k span its) is hold in
        stands-pair remaining old old (Some (n - 1)) b r f
        (record { reader = refl; levels = refl; unread = u }) q q' levels l span its held.0
        (counted-next SpellsPair n span its s r b some held stand e) rest lv lq
        (λ ys count. subst (λ k. HoldsPairs k span ys) (sym is') (held.0, count)),
  )

  pub leaves-counted : (old new : ByteSource S W) (q : ByteSeq) → q.left ≡ left.Counted 0 → new.decoder ≡ old.decoder →
      new.pending ≡ old.pending → new.levels ≡ q.levels → Leaves (StandsBefore remaining) SeqStands old new q
  leaves-counted old new q is same same' levels = (
    λ l span its f (b, u, (s, r, stand, rest, e), lv, none) (lq, hold).
        let (empty, all) = counted-end Spells span its s r b (subst (λ k. HoldsItems k span its) is hold) stand e in (
          empty,
          stands-past remaining old new l q b f (ap (reader_of remaining) same) levels (same' ∙ none) (into b u)
              (subst (λ k. IsRest (reader_of remaining old.decoder) k f) (sym all) rest) lq,
        ),
    λ l span its f (b, u, (s, r, stand, rest, e), lv, none) (lq, hold).
        let held = subst (λ k. HoldsPairs k span its) is hold in
        let (empty, all) = counted-end SpellsPair span its s r b held stand e in (
          empty,
          stands-past remaining old new l q b f (ap (reader_of remaining) same) levels (same' ∙ none) (into b u)
              (subst (λ k. IsRest (reader_of remaining old.decoder) k f) (sym all) rest) lq,
        ),
  )
    where
      into : (b : List ℕ) → IsUnread remaining old b → IsUnread remaining new b
      into b u = subst (λ d. IsUnreadBy remaining d new.pending b) (sym same)
          (subst (λ o. IsUnreadBy remaining old.decoder o b) (sym same') u)

-- what is owed, where one part more was taken
module _ {X : Type 0} (SpellsPart : List ℕ → X → Type 0) (b c z : List ℕ) (x : X) (a : List ℕ) (sp : SpellsPart a x)
    (e : c ≡ a ++ z) where
  counted-owed : (n : ℕ) → n ≢ 0 → OwesParts SpellsPart (Some n) b c → OwesParts SpellsPart (Some (n - 1)) b z
  counted-owed n some owed t w xs sps len f = owed (a ++ t) w (x ∷ xs) (a, t, sp, sps, refl) (omega (arith, len, some))
      (e ∙ ap (λ (k : List ℕ). a ++ k) f ∙ sym (append_assoc a t w))

  open-owed : OwesParts SpellsPart None b c → OwesParts SpellsPart None b z
  open-owed owed t w xs sps len f = owed (a ++ t) w (x ∷ xs) (a, t, sp, sps, refl) tt
      (e ∙ ap (λ (k : List ℕ). a ++ k) f ∙ sym (append_assoc a t (break_byte ∷ w)))

pair-at : (c z : List ℕ) → HasPart a_map c z → (p : Item × Item) × (a : List ℕ) × SpellsPair a p × (c ≡ a ++ z)
pair-at c z (m, (k, s, sp, e), (v, t, sq, f)) = (
  (k, v),
  s ++ t,
  (s, t, sp, sq, refl),
  e ∙
      ap (λ (w : List ℕ). s ++ w) f ∙ sym (append_assoc s t z),
)

counted-less : (n : ℕ) (s : ContainerType) (b c z : List ℕ) → n ≢ 0 → LeftOwes (left.Counted n) s b c → HasPart s c z →
    LeftOwes (left.Counted (n - 1)) s b z
counted-less n an_array b c z some owed (i, a, sp, e) = counted-owed Spells b c z i a sp e n some owed
counted-less n a_map b c z some owed part = let (p, a, sp, e) = pair-at c z part in
    counted-owed SpellsPair b c z p a sp e n some owed

open-less : (s : ContainerType) (b c z : List ℕ) → LeftOwes left.Open s b c → HasPart s c z → LeftOwes left.Open s b z
open-less an_array b c z owed (i, a, sp, e) = open-owed Spells b c z i a sp e owed
open-less a_map b c z owed part = let (p, a, sp, e) = pair-at c z part in open-owed SpellsPair b c z p a sp e owed

counted-nothing : (s : ContainerType) (b c : List ℕ) → LeftOwes (left.Counted 0) s b c → HasItem b c
counted-nothing an_array b c owed = owed [] c [] refl refl refl
counted-nothing a_map b c owed = owed [] c [] refl refl refl

open-nothing : (s : ContainerType) (b c z : List ℕ) → c ≡ break_byte ∷ z → LeftOwes left.Open s b c → HasItem b z
open-nothing an_array b c z e owed = owed [] z [] refl tt e
open-nothing a_map b c z e owed = owed [] z [] refl tt e

pub less-counted : (P : List ℕ → Type 0) (q q' : ByteSeq) (n : ℕ) → q.left ≡ left.Counted n → n ≢ 0 →
    q'.left ≡ left.Counted (n - 1) → (b : List ℕ) → P b → (u : List ℕ) × P u × OwesLess SeqOwes q q' b u
less-counted P q q' n is some is' b u = (
  b,
  u,
  λ s a z owed part. subst (λ k. LeftOwes k s a z) (sym is')
      (counted-less n s a b z some (subst (λ k. LeftOwes k s a b) is owed) part),
)

pub nothing-allowed : (P : List ℕ → Type 0) (q : ByteSeq) → q.left ≡ left.Counted 0 → (b : List ℕ) → P b →
    (u : List ℕ) × P u × OwesNothing SeqOwes q b u
nothing-allowed P q is b u = (b, u, λ s a owed. counted-nothing s a b (subst (λ k. LeftOwes k s a b) is owed))

-- ---- up to a break

module _ {S W : Type 0} (remaining : S → Option (List ℕ)) where
  pub leaves-open : (old mid new : ByteSource S W) (q : ByteSeq) → q.left ≡ left.Open → IsKept remaining old new →
      TakesHead (IsUnread remaining) old mid header.Break → new.levels ≡ q.levels → new.pending ≡ None →
      ((y : List ℕ) → IsUnread remaining mid y → IsUnread remaining new y) →
      Leaves (StandsBefore remaining) SeqStands old new q
  leaves-open old mid new q is kept took levels none into = (
    λ l span its f (b, u, (s, r, stand, rest, e), lv, ahead) (lq, hold).
        let (x, y, hd, g, un) = took b u in
        let (empty, all) = unfinished-end Spells item-begins span its s r b x y
        (subst (λ k. HoldsItems k span its) is hold)
        stand e hd g in (
          empty,
          stands-past remaining old new l q y f (kept-reader remaining old new kept b u) levels none (into y un)
              (subst (λ k. IsRest (reader_of remaining old.decoder) k f) (sym all) rest) lq,
        ),
    λ l span its f (b, u, (s, r, stand, rest, e), lv, ahead) (lq, hold).
        let (x, y, hd, g, un) = took b u in
        let (empty, all) = unfinished-end SpellsPair pair-begins span its s r b x y
        (subst (λ k. HoldsPairs k span its) is hold) stand e hd g in (
          empty,
          stands-past remaining old new l q y f (kept-reader remaining old new kept b u) levels none (into y un)
              (subst (λ k. IsRest (reader_of remaining old.decoder) k f) (sym all) rest) lq,
        ),
  )

  pub goes-open : (old mid new : ByteSource S W) (q q' : ByteSeq) (h : Header) →
      q.left ≡ left.Open → q'.left ≡ left.Open → q'.levels ≡ q.levels →
      IsKept remaining old new → new.levels ≡ old.levels → TakesHead (IsUnread remaining) old mid h → h ≢ header.Break →
      ((b x y : List ℕ) → IsUnread remaining old b → SpellsHeader x h → b ≡ x ++ y → IsUnread remaining mid y →
      IsUnread remaining new b) → GoesOn (StandsBefore remaining) SeqStands old new q q'
  goes-open old mid new q q' h is is' levels same kept took other back = (
    λ l span its f (b, u, (s, r, stand, rest, e), lv, none) (lq, hold).
        let (x, y, hd, g, un) = took b u in
        let held : HoldsParts None span its = subst (λ k. HoldsItems k span its) is hold in
        stands-item remaining old new None b r f (record {
          reader = kept-reader remaining old new same b u;
          levels = kept;
          unread = back b x y u hd g un;
        }) q q' levels l span its held.0
        (open-next Spells item-begins span its s r b x y h held stand e hd other g) rest lv lq
        (λ ys count. subst (λ k. HoldsItems k span ys) (sym is') (held.0, count)),
    λ l span its f (b, u, (s, r, stand, rest, e), lv, none) (lq, hold).
        let (x, y, hd, g, un) = took b u in
        let held : HoldsParts None span its = subst (λ k. HoldsPairs k span its) is hold in
        stands-pair remaining old new None b r f (record {
          reader = kept-reader remaining old new same b u;
          levels = kept;
          unread = back b x y u hd g un;
        }) q q' levels l span its held.0
        (open-next SpellsPair pair-begins span its s r b x y h held stand e hd other g) rest lv lq
        (λ ys count. subst (λ k. HoldsPairs k span ys) (sym is') (held.0, count)),
  )

  pub no-next : (old : ByteSource S W) (q : ByteSeq) (fault : Fault) → q.left ≡ left.Open →
      DeniesHead (IsUnread remaining) (end_at remaining) old fault →
      RefusesNext (StandsBefore remaining) SeqStands old q fault
  no-next old q fault is denied = (
    λ l span its f (b, u, (s, r, stand, rest, e), lv, ahead) (lq, hold).
        let (h, x, y, hd, g, there) = open-head Spells item-begins span its s r b
        (subst (λ k. HoldsItems k span its) is hold) stand e in
        denied b x y h (length r) (end_of f) u hd g there (rest-end (reader_of remaining old.decoder) r f rest),
    λ l span its f (b, u, (s, r, stand, rest, e), lv, ahead) (lq, hold).
        let (h, x, y, hd, g, there) = open-head SpellsPair pair-begins span its s r b
        (subst (λ k. HoldsPairs k span its) is hold) stand e in
        denied b x y h (length r) (end_of f) u hd g there (rest-end (reader_of remaining old.decoder) r f rest),
  )

pub less-open : (P Q : List ℕ → Type 0) (q q' : ByteSeq) → q.left ≡ left.Open → q'.left ≡ left.Open →
    ((b : List ℕ) → P b → Q b) → (b : List ℕ) → P b → (u : List ℕ) × Q u × OwesLess SeqOwes q q' b u
less-open P Q q q' is is' into b u = (
  b,
  into b u,
  λ s a z owed part. subst (λ k. LeftOwes k s a z) (sym is')
      (open-less s a b z (subst (λ k. LeftOwes k s a b) is owed) part),
)

pub nothing-open : (P Q : List ℕ → Type 0) (q : ByteSeq) → q.left ≡ left.Open →
    ((b : List ℕ) → P b → (y : List ℕ) × (b ≡ break_byte ∷ y) × Q y) → (b : List ℕ) → P b → (u : List ℕ) × Q u ×
    OwesNothing SeqOwes q b u
nothing-open P Q q is took b u =
    let (y, e, un) = took b u in
    (y, un, λ s a owed. open-nothing s a b y e (subst (λ k. LeftOwes k s a b) is owed))

-- ---- the bytes of a byte string

-- the widest spelling of a number, which stands for a byte that is not in the bytes
abbrev pub wide : ℕ → List ℕ
wide n = head_in eight_bytes 0 n

pub wide-head : (n : ℕ) → n < 18446744073709551616 → IsHead (wide n) 0 n
wide-head n lt = (eight_bytes, lt, refl)

module _ {S W : Type 0} (remaining : S → Option (List ℕ)) where
  pub goes-bytes : (old new : ByteSource S W) (q q' : ByteSeq) (v w : _) (n p : ℕ) → q.left ≡ left.Bytes v →
      q'.left ≡ left.Bytes w → q'.levels ≡ q.levels → into_iter_items v ≡ n ∷ into_iter_items w →
      n < 18446744073709551616 → new.decoder ≡ old.decoder → new.levels ≡ old.levels →
      new.pending ≡ Some (header.Positive n, p) → GoesOn (StandsBefore remaining) SeqStands old new q q'
  goes-bytes old new q q' v w n p is is' levels first lt same kept pushed = (
    λ l span its f (b, u, (s, r, stand, rest, e), lv, none) (lq, hold).
        let held : HoldsItems (left.Bytes v) span its = subst (λ k. HoldsItems k span its) is hold in
        let known : left_of remaining old.decoder ≡ Some b = subst (λ o. IsUnreadBy remaining old.decoder o b) none u in
        let known' : left_of remaining new.decoder ≡ Some b = ap (λ d. left_of remaining d) same ∙ known in
        let empty : s ≡ [] = subst (λ k. AreLeft Spells k s its) held.0 stand in
        let all : b ≡ r = e ∙ ap (λ (k : List ℕ). k ++ (ending span ++ r)) empty ∙ ap (λ k. ending k ++ r) held.0 in (
          unsigned n,
          map unsigned (into_iter_items w),
          sym held.1 ∙ ap (map unsigned) first,
          (
            wide n ++ b,
            subst (λ o. IsUnreadBy remaining new.decoder o (wide n ++ b)) (sym pushed)
                (wide n, b, wide-head n lt, refl, known', λ fixed. cc),
            (
              wide n,
              b,
              wide-head n lt,
              (
                [],
                r,
                subst (λ k. AreLeft Spells k [] (map unsigned (into_iter_items w))) (sym held.0) refl,
                subst (λ k. IsRest k r f) (ap (reader_of remaining) (sym same)) rest,
                all ∙
                    sym (ap (λ k. ending k ++ r) held.0),
              ),
              refl,
            ),
            lv ∙ ap Some (sym kept),
            tt,
          ),
          (
            lq ∙ ap Some (sym levels),
            subst (λ k. HoldsItems k span (map unsigned (into_iter_items w))) (sym is')
                (held.0, refl),
          ),
        ),
    λ l span its f (b, u, (s, r, stand, rest, e), lv, none) (lq, hold). absurd
        (subst (λ k. HoldsPairs k span its) is hold),
  )

module _ {S W : Type 0} (remaining : S → Option (List ℕ)) where
  pub leaves-bytes : (old : ByteSource S W) (q : ByteSeq) (v : _) → q.left ≡ left.Bytes v → into_iter_items v ≡ [] →
      Leaves (StandsBefore remaining) SeqStands old old q
  leaves-bytes old q v is nothing = (
    λ l span its f (b, u, (s, r, stand, rest, e), lv, none) (lq, hold).
        let held : HoldsItems (left.Bytes v) span its = subst (λ k. HoldsItems k span its) is hold in
        let empty : s ≡ [] = subst (λ k. AreLeft Spells k s its) held.0 stand in
        let all : b ≡ r = e ∙ ap (λ (k : List ℕ). k ++ (ending span ++ r)) empty ∙ ap (λ k. ending k ++ r) held.0 in
        let at : l ≡ Some old.levels = ap (λ k. inside k l) (sym held.0) ∙ lv in
        let levels : old.levels ≡ q.levels = same-level old.levels q.levels (sym at ∙ lq) in (
          sym held.1 ∙ ap (map unsigned) nothing,
          stands-past remaining old old l q b f refl levels none u
              (subst (λ k. IsRest (reader_of remaining old.decoder) k f) (sym all) rest) lq,
        ),
    λ l span its f (b, u, (s, r, stand, rest, e), lv, none) (lq, hold). absurd
        (subst (λ k. HoldsPairs k span its) is hold),
  )
    where
      same-level : (n m : ℕ) → Some n ≡ Some m → n ≡ m
      same-level n m h = cc

bytes-less : (v w : _) (s : _) (n : ℕ) (a b z : List ℕ) → n < 18446744073709551616 → LeftOwes (left.Bytes v) s a b →
    HasPart s (wide n ++ b) z → LeftOwes (left.Bytes w) s a z
bytes-less v w an_array n a b z lt owed (i, t, si, g) =
    subst (λ y. HasItem a y) (one_at_front (wide n) t b z (unsigned n) i (wide-head n lt) si g).1 owed
bytes-less v w a_map n a b z lt owed part = absurd owed

pub less-bytes : (P Q : List ℕ → Type 0) (q q' : ByteSeq) (v w : _) (n : ℕ) → q.left ≡ left.Bytes v →
    q'.left ≡ left.Bytes w → n < 18446744073709551616 → ((b : List ℕ) → P b → Q (wide n ++ b)) → (b : List ℕ) → P b →
    (u : List ℕ) × Q u × OwesLess SeqOwes q q' b u
less-bytes P Q q q' v w n is is' lt into b u = (
  wide n ++ b,
  into b u,
  λ s a z owed part. subst (λ k. LeftOwes k s a z) (sym is')
      (bytes-less v w s n a b z lt (subst (λ k. LeftOwes k s a b) is owed) part),
)

-- ---- heads that are put aside

pub aside-unread : {S W : Type 0} (remaining : S → Option (List ℕ)) (s : _) (pending : Option (Header × ℕ)) (h : Header)
    (p : ℕ) (b x y : List ℕ) → pending ≡ None → SpellsHeader x h → b ≡ x ++ y →
    IsHeadCounted {S = S} {W = W} s (h, p) b x →
    IsUnreadBy remaining s pending y → IsUnreadBy remaining s (Some (h, p)) b
aside-unread remaining s pending h p b x y none hd e seen u =
    (x, y, hd, e, subst (λ o. IsUnreadBy remaining s o y) none u, seen)

pub is-none : {A : Type 0} (o : Option A) (t : Bool) → t ≡ false → t ≡ is_some o → o ≡ None
is-none None t e f = refl
is-none (Some h) t e f = cc
