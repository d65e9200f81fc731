-- What stands at the front, by its head.
use Rattle.std.proofs.Common.{◌≡◌, ℕ, suc, ◌+◌, ◌%◌, ◌<◌, ◌≤◌, ◌⊎◌, List, [], ◌∷◌, ◌++◌, length, Option, Some, None}
use Rattle.std.proofs.{Common.{Result, refl, sym, ap, ◌∙◌, subst, arith}, lemmas.Nat.{div-mul-add, mod-mul-add}}
use Rattle.ciborium_ll.specs.{declared.header.Header.Header, declared.decoder.Decoder.Decoder, Bytes.greatest_offset}
use Rattle.ciborium_ll.specs.{Decoding.{IsAhead, IsAheadBy, offset_of, next_offset}, Head.{IsHead, information}}
use Rattle.ciborium_ll.specs.{Head.{argument_bytes, initial_byte, break_byte}, Header.{SpellsHeader, announced_length}}
use Rattle.ciborium_ll.specs.Refusal.{Refusal, HeadRefuses, IsUsable, head_refusal, argument_length, payload_length}
use Rattle.ciborium_ll.proofs.{HeadAnswers.header-begins, ReadHeads.payload_length-is, UsableHeads.usable-fits}
use Rattle.ciborium_ll.proofs.UsableHeads.{HeadFits, information-below, argument-information}
use Rattle.ciborium_ll.proofs.{UsableHeads.argument_length-information, OneHeader.one_header_at_front}
use Rattle.ciborium_value.proofs.GoodItems.Steps.{opened-has}
use Rattle.ciborium.specs.{declared.de.error.Error.Error, inner.Parts.IsHeadRead, inner.ValuesInBytes.{IsAt, IsPulled}}
use Rattle.ciborium.specs.inner.ValuesInBytes.{IsBreakAt}
use Rattle.ciborium_ll.specs.declared.header.Header.TheVariants as header
use Rattle.ciborium_ll.proofs.HeadAnswers as answers

-- a usable head of this header stands at the front of xs, offset p, and r follows it
pub record Front (xs : List ℕ) (p : ℕ) (h : Header) (b r : List ℕ) : Type 0 where
  pub spelled : SpellsHeader b h
  pub usable : IsUsable xs p
  pub split : xs ≡ b ++ r

pub front-of : {S W : Type 0} (remaining : S → Option (List ℕ)) (d : Decoder S W) (h k : Header) (xs : List ℕ) (p : ℕ) →
    h ≡ k → (a : IsPulled remaining d h xs p) → Front xs p k a.0 a.1
front-of remaining d h k xs p e a = record { spelled = subst (SpellsHeader a.0) e a.2; usable = a.3; split = a.4 }

pub front-fits : {xs : List ℕ} {p : ℕ} {h : Header} {b r : List ℕ} → Front xs p h b r → p + length b ≤ greatest_offset
front-fits {xs} {p} {h} {b} {r} u = by (header-begins b h u.spelled)
  where
    by : answers.BeginsHead b (announced_length h) → p + length b ≤ greatest_offset
    by (m, a, c, i, f) =
        let x : ℕ = initial_byte m a in
        let whole : xs ≡ x ∷ (c ++ r) = u.split ∙ ap (λ (z : List ℕ). z ++ r) i in
        let v = usable-fits x (c ++ r) p (subst (λ l. IsUsable l p) whole u.usable) in
        let w : HeadFits m a (c ++ r) p = subst (λ k. HeadFits m k (c ++ r) p) (mod-mul-add m 32 a f.below)
        (subst (λ k. HeadFits k (x % 32) (c ++ r) p) (div-mul-add m 32 a f.below) v.2) in
        let len : length b ≡ suc (length c) = ap length i in
        omega (arith, w.1, f.size, len)

-- the payload that a usable head announces fits behind it
pub string-room : (m n p : ℕ) (xs b r : List ℕ) → (m ≡ 2) ⊎ (m ≡ 3) → IsHead b m n → IsUsable xs p → xs ≡ b ++ r →
    p + length b + n ≤ greatest_offset
string-room m n p xs b r kind (w, h, i) u e =
    let a : ℕ = information w n in
    let c : List ℕ = argument_bytes w n in
    let x : ℕ = initial_byte m a in
    let info = information-below w n h in
    let below : a < 32 = omega (arith, info) in
    let whole : xs ≡ x ∷ (c ++ r) = e ∙ ap (λ (z : List ℕ). z ++ r) i in
    let v = usable-fits x (c ++ r) p (subst (λ z. IsUsable z p) whole u) in
    let f : HeadFits m a (c ++ r) p = subst (λ k. HeadFits m k (c ++ r) p) (mod-mul-add m 32 a below)
    (subst (λ k. HeadFits k (x % 32) (c ++ r) p) (div-mul-add m 32 a below) v.2) in
    let paid : payload_length m a (c ++ r) ≡ n = payload_length-is m a n (c ++ r) info (argument-information w n r h)
    kind in
    let size : argument_length a ≡ length c = argument_length-information w n h in
    let len : length b ≡ suc (length c) = ap length i in
    omega (arith, f.3, paid, size, len)

-- ---- breaks

abbrev pub IsNoBreak : Header → Type 0
IsNoBreak header.Break = ⊥
IsNoBreak _ = Unit {0}

same-none : (h : Header) → IsNoBreak h → h ≡ header.Break → ⊥
same-none h k e = subst IsNoBreak e k

pub no-break : {xs : List ℕ} {p : ℕ} {h : Header} {b r : List ℕ} → IsNoBreak h → Front xs p h b r → ¬ IsBreakAt xs p
no-break {h = h} {b = b} {r = r} k u (lt, (s, i)) = same-none h k (one_header_at_front b (break_byte ∷ []) r s h
    header.Break u.spelled refl (sym u.split ∙ i)).2

apart : (e : Refusal) → None ≡ Some e → ⊥
apart e i = cc

pub head-no-break : (xs : List ℕ) (p : ℕ) (e : Refusal) → HeadRefuses xs p e → ¬ IsBreakAt xs p
head-no-break xs p e f (lt, (s, i)) = apart e (sym (opened-has 7 p s refl lt) ∙
    sym (ap (λ (z : List ℕ). head_refusal z p) i) ∙ f)

-- ---- where the decoder stands

pub ahead-at : {S W : Type 0} (remaining : S → Option (List ℕ)) (d : Decoder S W) (p : ℕ) (xs : List ℕ) →
    d.pushed ≡ None → IsAt remaining d xs p → IsAhead remaining d xs p
ahead-at remaining d p xs e a = subst (λ o. IsAheadBy remaining d xs p o) (sym e) a

pub offset-at : {S W : Type 0} (remaining : S → Option (List ℕ)) (d : Decoder S W) (p : ℕ) (xs : List ℕ) →
    IsAhead remaining d xs p → offset_of d ≡ p
offset-at {S} remaining d p xs = by d.pushed
  where
    by : (o : Option (Header × ℕ)) → IsAheadBy remaining d xs p o → next_offset d.counter.count o ≡ p
    by None s = s.0
    by (Some k) s = s.0

-- what `pull` answers
abbrev pub PullsSo : {S W E : Type 0} → (S → Option (List ℕ)) → Decoder S W → Decoder S W → Result Header (Error E) →
    Type 0
PullsSo remaining d e x = (xs : List ℕ) (p : ℕ) → IsAhead remaining d xs p → IsHeadRead remaining e xs p x
