-- What stands at the front of unread bytes, where a head is read or refused.
use Rattle.ciborium.{proofs.Items.Weights.weight-bounds, specs.Errors.{HasEndedBy, fault_of, from_ll, io_fault}}
use Rattle.ciborium.specs.declared.de.{byte_source.ByteSource.ByteSource, error.Error.Error}
use Rattle.ciborium.specs.inner.ByteSources.{IsHeadCounted, IsUnreadBy, bytes_weight, pending_head_weight, head_weight}
use Rattle.ciborium.specs.inner.ByteSources.{weight_left}
use Rattle.std.proofs.Common.{◌≡◌, ℕ, suc, ◌+◌, ◌-◌, ◌*◌, add-zero, Ok, ◌/◌, ◌%◌, ◌<◌, ◌≤◌, cond, ltb, Bool, true}
use Rattle.std.proofs.Common.{false, ◌&&◌, List, [], ◌∷◌, ◌++◌, length, Option, Some, None, refl, sym, ap, ◌∙◌, subst}
use Rattle.std.proofs.Common.{arith, ne_eqb, ◌⊎◌, inl, inr, length-append, ltb-true, ltb-false, le-ltb, Err}
use Rattle.std.proofs.lemmas.Nat.{div-mul-add, mod-mul-add}
use Rattle.ciborium_ll.proofs.HeadAnswers.{header-begins, header-fits, BeginsHead, Facts, head-some}
use Rattle.ciborium_ll.proofs.{MoreBytes.payload_length-more, OneHeader.one_header_at_front, UsableHeads.and_false}
use Rattle.ciborium_ll.specs.{Accesses.{HasEnded, IsUsedUp, left_at_failure}, Bytes.greatest_offset, Decoding.IsAhead}
use Rattle.ciborium_ll.specs.{Decoding.{IsAheadBy, PullsTo, Takes, left_of}, Head.initial_byte, Header.SpellsHeader}
use Rattle.ciborium_ll.specs.{Header.announced_length, ReaderSteps.{IsFillTaken, IsHeadTaken}, Refusal.{Refusal, io}}
use Rattle.ciborium_ll.specs.Refusal.{syntax, too_long, argument_length, payload_length, is_reserved, is_low_simple}
use Rattle.ciborium_ll.specs.Refusal.{initial_refusal, HeadRefuses, IsUsable, head_refusal}
use Rattle.ciborium_ll.specs.declared.{decoder.Decoder.Decoder, header.{Error.Error as LlError, Header.Header}}
use Rattle.ciborium_value.specs.Sources.{IsGrantedFault, IsOutsideFault}
use Rattle.ciborium_ll.specs.declared.header.Error.TheVariants as ll
use Rattle.ciborium_ll.specs.ReaderSteps as reading
use Rattle.ciborium.specs.declared.de.error.Error.TheVariants as errors

-- ---- a head that is spelled is refused only as too long

initial-only : (t u v w : Bool) (p : ℕ) (e : Refusal) → t ≡ false → v ≡ false → cond t (Some (syntax p))
    (cond u (Some too_long) (cond v (Some io) (cond w (Some too_long) None))) ≡ Some e → e ≡ too_long
initial-only false false false true p e f g h = cc
initial-only _ _ _ _ p e f g h = cc

head-only : (t u : Bool) (r : Option Refusal) (p : ℕ) (e : Refusal) → u ≡ false → (r ≡ Some e → e ≡ too_long) →
    cond t (cond u (Some (syntax p)) r) (Some too_long) ≡ Some e → e ≡ too_long
head-only true false r p e f g h = g h
head-only u v r p e f g h = cc

low-more : (m a : ℕ) (c y : List ℕ) → a < 32 → length c ≡ argument_length a →
    is_low_simple (initial_byte m a) c ≡ false → is_low_simple (initial_byte m a) (c ++ y) ≡ false
low-more m a [] [] below size e = refl
low-more m a [] (z ∷ y) below size e = ap (λ t. t && ltb z 32)
    (ne_eqb (initial_byte m a) 248 (λ k. not_wide (omega (arith, below, k))))
  where
    not_wide : a ≡ 24 → ⊥
    not_wide k = let n : 0 ≡ argument_length 24 = size ∙ ap argument_length k in cc
low-more m a (z ∷ c) y below size e = e

pub only-long : (x y : List ℕ) (h : Header) (p : ℕ) (e : Refusal) → SpellsHeader x h → HeadRefuses (x ++ y) p e →
    e ≡ too_long
only-long x y h p e s r = by (header-begins x h s)
  where
    by : BeginsHead x (announced_length h) → e ≡ too_long
    by (m, a, c, g, f) =
        let i : ℕ = initial_byte m a in
        let t : head_refusal (i ∷ (c ++ y)) p ≡ Some e = ap (λ (z : List ℕ). head_refusal (z ++ y) p) (sym g) ∙ r in
        let info : i % 32 ≡ a = mod-mul-add m 32 a f.below in
        let size : length c ≡ argument_length (i % 32) = f.size ∙ ap argument_length (sym info) in
        let more = length-append c y in
        head-only (ltb p greatest_offset) (ltb (p + 1) greatest_offset && is_low_simple i (c ++ y))
        (initial_refusal (i / 32) (i % 32) (c ++ y) p) p e
        (and_false _ _ (low-more m a c y f.below f.size f.high))
        (initial-only (is_reserved (i / 32) (i % 32)) _ (ltb (length (c ++ y)) (argument_length (i % 32))) _ p e
        (ap (λ k. is_reserved k (i % 32)) (div-mul-add m 32 a f.below) ∙ ap (is_reserved m) info ∙ f.fair)
        (le-ltb (length (c ++ y)) (argument_length (i % 32)) (omega (arith, size, more))))
        t

-- ---- a head that is spelled is refused as too long only where it is, with its payload

initial-long : (t u v w : Bool) (p : ℕ) → t ≡ false → cond t (Some (syntax p))
    (cond u (Some too_long) (cond v (Some io) (cond w (Some too_long) None))) ≡ Some too_long → (u ≡ true) ⊎ (w ≡ true)
initial-long false true v w p e h = inl refl
initial-long false false false true p e h = inr refl
initial-long u v w x p e h = cc

head-long : (t u : Bool) (r : Option Refusal) (p : ℕ) → u ≡ false →
    cond t (cond u (Some (syntax p)) r) (Some too_long) ≡ Some too_long → (t ≡ false) ⊎ (r ≡ Some too_long)
head-long true true r p e h = cc
head-long true false r p e h = inr h
head-long false u r p e h = inl refl

pub head-passes : (x y : List ℕ) (h : Header) (p : ℕ) → SpellsHeader x h → HeadRefuses (x ++ y) p too_long →
    greatest_offset < p + length x + announced_length h
head-passes x y h p s r = by (header-begins x h s)
  where
    by : BeginsHead x (announced_length h) → greatest_offset < p + length x + announced_length h
    by (m, a, c, e, f) =
        let i : ℕ = initial_byte m a in
        let one : length x ≡ suc (length c) = ap length e in
        let t : head_refusal (i ∷ (c ++ y)) p ≡ Some too_long = ap (λ (z : List ℕ). head_refusal (z ++ y) p) (sym e) ∙
        r in
        from m a c f one (head-long (ltb p greatest_offset) (ltb (p + 1) greatest_offset && is_low_simple i (c ++ y))
        (initial_refusal (i / 32) (i % 32) (c ++ y) p) p
        (and_false _ _ (low-more m a c y f.below f.size f.high)) t)
      where
        from : (m a : ℕ) (c : List ℕ) (f : Facts m a c (announced_length h)) → length x ≡ suc (length c) →
            (ltb p greatest_offset ≡ false) ⊎ (initial_refusal (initial_byte m a / 32) (initial_byte m a % 32) (c ++ y)
            p ≡ Some too_long) → greatest_offset < p + length x + announced_length h
        from m a c f size (inl past) = let over = ltb-false p greatest_offset past in omega (arith, over, size)
        from m a c f size (inr late) =
            let plain : initial_refusal m a (c ++ y) p ≡ Some too_long =
            ap (λ k. initial_refusal k a (c ++ y) p) (sym (div-mul-add m 32 a f.below)) ∙
            (ap (λ k. initial_refusal (initial_byte m a / 32) k (c ++ y) p) (sym (mod-mul-add m 32 a f.below)) ∙
            late) in
            over (initial-long (is_reserved m a) _ _ _ p f.fair plain)
          where
            over : (ltb greatest_offset (p + 1 + argument_length a) ≡ true) ⊎
                (ltb greatest_offset (p + 1 + argument_length a + payload_length m a (c ++ y)) ≡ true) →
                greatest_offset < p + length x + announced_length h
            over (inl k) = let far = ltb-true greatest_offset (p + 1 + argument_length a) k in
                omega (arith, far, size, f.size)
            over (inr k) =
                let far = ltb-true greatest_offset (p + 1 + argument_length a + payload_length m a (c ++ y)) k in
                let same : payload_length m a (c ++ y) ≡ announced_length h =
                payload_length-more m a c y (omega (arith, f.size)) ∙ f.payload in
                omega (arith, far, size, f.size, same)

-- ---- why a reader gave no more

pub io-outside : (left : Option (List ℕ)) (end : ℕ) → (left ≡ Some [] → ⊥) → IsOutsideFault end (io_fault left)
io-outside (Some []) end h = h refl
io-outside u end h = tt

-- it is no want of memory
granted-io : (left : Option (List ℕ)) (needs : Bool) → IsGrantedFault (io_fault left) needs
granted-io None needs = tt
granted-io (Some []) needs = tt
granted-io (Some (x ∷ b)) needs = tt

-- a reader that cannot fail before its end has nothing left then
pub ended-ll : {E : Type 0} (can_fail : Bool) (left : Option (List ℕ)) (e : LlError E) → HasEnded can_fail left e →
    HasEndedBy can_fail left (from_ll e)
ended-ll can_fail left (ll.Io e) h = h
ended-ll can_fail left _ h = h

pub failed-fault : {E : Type 0} (can_fail : Bool) (left : Option (List ℕ)) (e : Error E) → HasEndedBy can_fail left e →
    fault_of left e ≡ fault_of (left_at_failure can_fail left) e
failed-fault false left (errors.Io e) h = ap io_fault (h refl)
failed-fault u left v h = refl

pub failed-end : (can_fail : Bool) (left : Option (List ℕ)) → IsUsedUp can_fail left →
    left_at_failure can_fail left ≡ Some [] → left ≡ Some []
failed-end true left h e = e
failed-end false left h e = h refl

-- where a head is spelled, with its payload, pulling is refused for what it does not decide
pub head-outside : {E : Type 0} (left : Option (List ℕ)) (e : LlError E) (b x y : List ℕ) (p n end : ℕ) (h : Header) →
    SpellsHeader x h → b ≡ x ++ y → announced_length h + n ≤ length y → p + length b ≤ end + n →
    reading.IsRefusalOf left e (HeadRefuses b p) → IsOutsideFault end (fault_of left (from_ll e))
head-outside left (ll.Io e) b x y p n end h s k there fits r = io-outside left end (λ none.
    let never = only-long x y h p io s (subst (λ (z : List ℕ). HeadRefuses z p io) k (r none)) in cc)
head-outside left (ll.Syntax q) b x y p n end h s k there fits r =
    let never = only-long x y h p (syntax q) s (subst (λ (z : List ℕ). HeadRefuses z p (syntax q)) k r) in cc
head-outside left ll.TooLong b x y p n end h s k there fits r =
    let past = head-passes x y h p s (subst (λ (z : List ℕ). HeadRefuses z p too_long) k r) in
    let size : length b ≡ length x + length y = ap length k ∙ length-append x y in
    omega (arith, past, size, there, fits)
head-outside left ll.Memory b x y p n end h s k there fits r = tt

-- pulling never wants memory, and filling a buffer does not
pub granted-head : {E : Type 0} (left : Option (List ℕ)) (x : LlError E) (b : List ℕ) (p : ℕ) (needs : Bool) →
    IsHeadTaken {E = E} b p (Err x) → IsGrantedFault (fault_of left (from_ll x)) needs
granted-head left ll.Memory b p needs h = absurd h.answers
granted-head left (ll.Io e) b p needs h = granted-io left needs
granted-head left u b p needs h = tt

pub granted-fill : {E : Type 0} (left : Option (List ℕ)) (x : LlError E) (b buffer : List ℕ) (p : ℕ) (needs : Bool) →
    IsFillTaken {E = E} b p buffer (Err x) → IsGrantedFault (fault_of left (from_ll x)) needs
granted-fill left ll.Memory b buffer p needs h = absurd h
granted-fill left (ll.Io e) b buffer p needs h = granted-io left needs
granted-fill left u b buffer p needs h = tt

-- ---- heads that are counted

pub ahead-unpushed : {S W : Type 0} (remaining : S → Option (List ℕ)) (d : Decoder S W) (b : List ℕ) → d.pushed ≡ None →
    left_of remaining d ≡ Some b → IsAhead remaining d b d.counter.count
ahead-unpushed remaining d b none e = subst (λ o. IsAheadBy remaining d b d.counter.count o) (sym none) (refl, e)

-- the head that was pending is counted as it was
pub counted-pending : {S W : Type 0} (remaining : S → Option (List ℕ)) (d : Decoder S W) (pending : Option (Header × ℕ))
    (h : Header × ℕ) (b x y : List ℕ) → pending ≡ Some h → IsUnreadBy remaining d pending b → SpellsHeader x h.0 →
    b ≡ x ++ y → IsHeadCounted d h b x
counted-pending remaining d pending h b x y is u hd e fixed =
    let (z, r, hd', e', left, counted) = subst (λ o. IsUnreadBy remaining d o b) is u in
    let one = one_header_at_front z x r y h.0 h.0 hd' hd (sym e' ∙ e) in
    let w = counted fixed in
    (w.0, w.1 ∙ ap (λ (k : List ℕ). h.1 + length k) one.0)

-- the head that was pulled is counted
pub counted-pulled : (E : Type 0) {S W : Type 0} (left : Option (List ℕ)) (d : Decoder S W) (h : Header) (p at last : ℕ)
    (b x y : List ℕ) → at ≡ p → PullsTo {E = E} last d.counter.count left b p (Ok h) → SpellsHeader x h → b ≡ x ++ y →
    IsHeadCounted d (h, at) b x
counted-pulled E left d h p at last b x y is (z, r, hd', usable, e', stood, counted, rest) hd e fixed =
    let one = one_header_at_front z x r y h h hd' hd (sym e' ∙ e) in (
      subst (IsUsable b) (sym is) usable,
      counted ∙ ap (λ (k : List ℕ). p + length k) one.0 ∙
          ap (λ n. n + length x) (sym is),
    )

-- ---- how much can still be read

pub fewer-bytes : (E : Type 0) {S W : Type 0} (remaining : S → Option (List ℕ)) (d e : Decoder S W) (h : Header) →
    Takes remaining d e (λ x. IsHeadTaken {E = E} x d.counter.count (Ok h)) →
    3 * (greatest_offset - e.counter.count) + head_weight h ≤ 3 * (greatest_offset - d.counter.count)
fewer-bytes E remaining d e h (b, t, count, u, bytes) =
    let some = head-some b h u.answers.0 in
    let fits = header-fits {E = E} b d.counter.count h u in
    let w = (weight-bounds h).1 in
    omega (arith, some, fits, count, w)

pub weighs-none : {S W : Type 0} (s : ByteSource S W) → s.pending ≡ None → weight_left s ≡ bytes_weight s
weighs-none s e = ap (λ o. bytes_weight s + pending_head_weight o) e ∙ add-zero (bytes_weight s)
