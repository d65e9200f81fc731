-- Numbers in byte strings, part by part, and bignums.
use Rattle.std.proofs.Common.{◌≡◌, ◌≢◌, ℕ, List, [], ◌∷◌, ◌++◌, length, ◌<◌, true, Option, Some, None, refl, sym, ap}
use Rattle.std.proofs.Common.{Err, ◌∙◌, subst, append_assoc, inl, inr, ◌⊎◌, ◌+◌, ◌≤◌, arith, length-append, suc}
use Rattle.std.proofs.lemmas.List.Elements.{All-append}
use Rattle.ciborium_ll.proofs.{OneHeader.one_header_at_front, OpenStrings.{AreParts-more, joined-more}}
use Rattle.ciborium_ll.{proofs.UniqueSpelling.one_at_front, specs.{Bytes.AreBytes, Head.{IsHead, open_byte}}}
use Rattle.ciborium_ll.specs.{Head.break_byte, Header.{SpellsHeader, announced_length}, Item.{Item, bytes}}
use Rattle.ciborium_ll.specs.{Spells.{Spells, AreChunks, joined}, declared.header.Header.Header}
use Rattle.ciborium_ll.specs.declared.strings.StringType.{StringType}
use Rattle.ciborium_value.{proofs.Sources.Sequences.fault_outside, specs.Given.{bignum_of, settled, given_bignum}}
use Rattle.ciborium_value.specs.{Places.is_open, Sources.{Fault, IsOutsideFault, of_kind}}
use Rattle.ciborium.proofs.Items.ItemHeads.{header_of, first-head, first-payload, same-head, no-break-head, by-shape}
use Rattle.ciborium.proofs.Payloads.{ReadDigits.{digits-append, digits-some, digits-none}, SpelledStrings.same-payload}
use Rattle.ciborium.proofs.Payloads.{SpelledStrings.{string-break, opened-up, same-rest}, StringPayloads.string-only}
use Rattle.ciborium.specs.inner.{FrontItems.{TakesHead, DeniesHead, Reads, Denies}, StringContents.digits_of}
use Rattle.ciborium.specs.inner.StringContents.{TakesDigits, TakesNumber, TakesParts, DeniesContent, DeniesJust}
use Rattle.ciborium_ll.specs.declared.header.Header.TheVariants as header
use Rattle.ciborium_ll.specs.declared.kind.Kind.TheVariants as kinds

module _ (P M Q R : List ℕ → Type 0) where
  pub parts-more : (n : ℕ) (v w : Option ℕ) → TakesParts P M v →
      ((y : List ℕ) → M y → (x : List ℕ) × (r : List ℕ) × SpellsHeader x (header.Bytes (Some n)) × (y ≡ x ++ r) × Q r) →
      TakesDigits Q R n v w → TakesParts P R w
  parts-more n v w parts head took y u =
      let (ps, c, z, are, val, small, split, un) = parts y u in
      let (x, r, hd, e, un') = head z un in
      let (d, r', len, small', val', f, un'') = took r un' in
      let join = joined-more ps d in (
        ps ++ d ∷ [],
        c ++ (x ++ d),
        r',
        AreParts-more 2 AreBytes ps c (x ++ d) d are (x, subst (IsHead x 2) (sym len) hd, small', refl),
        val' ∙ ap (λ o. digits_of o d) val ∙ sym (digits-append (Some 0) (joined ps) d) ∙
            ap (digits_of (Some 0)) (sym join),
        subst AreBytes (sym join) (All-append (λ k. k < 256) (joined ps) d small small'),
        split ∙ ap (λ (k : List ℕ). c ++ k) (e ∙ ap (λ (k : List ℕ). x ++ k) f ∙ sym (append_assoc x d r')) ∙
            sym (append_assoc c (x ++ d) r'),
        un'',
      )

pub parts-end : (P M Q : List ℕ → Type 0) (v : Option ℕ) → TakesParts P M v →
    ((y : List ℕ) → M y → (x : List ℕ) × (r : List ℕ) × SpellsHeader x header.Break × (y ≡ x ++ r) × Q r) →
    TakesNumber P Q None v
parts-end P M Q v parts head y u =
    let (ps, c, z, are, val, small, split, un) = parts y u in
    let (x, r, hd, e, un') = head z un in (
      joined ps,
      c ++ (break_byte ∷ []),
      r,
      λ o od. (ps, c, are, refl, ap (λ (k : List ℕ). k ++ (c ++ (break_byte ∷ []))) od),
      val,
      small,
      split ∙ ap (λ (k : List ℕ). c ++ k) (e ∙ ap (λ (k : List ℕ). k ++ r) hd) ∙
          sym (append_assoc c (break_byte ∷ []) r),
      un',
    )

-- ---- what stands behind the parts of a string that is spelled

-- the break, or a further part
abbrev HasNext : List ℕ → List ℕ → Type 0
HasNext r z = (r ≡ break_byte ∷ z) ⊎ ((h : List ℕ) × (n : ℕ) × (a : List ℕ) × IsHead h 2 n × (r ≡ h ++ a) ×
    (n + length z ≤ length a))

parts-front : (good t r z : List ℕ) (ps qs : List (List ℕ)) → AreChunks 2 AreBytes good ps → AreChunks 2 AreBytes t qs →
    good ++ r ≡ t ++ (break_byte ∷ z) → HasNext r z
parts-front good t r z [] [] g h f = inl (ap (λ (k : List ℕ). k ++ r) (sym g) ∙ f ∙
    ap (λ (k : List ℕ). k ++ (break_byte ∷ z)) h)
parts-front good t r z [] (q ∷ qs) g (s, c, (x, hd, ok, i), rest, j) f =
    inr (
      x,
      length q,
      q ++ (c ++ (break_byte ∷ z)),
      hd,
      ap (λ (k : List ℕ). k ++ r) (sym g) ∙ f ∙
          opened-up x q s c t (break_byte ∷ z) i j,
      (let more = length-append q (c ++ (break_byte ∷ z)) in
          let rest : length (c ++ (break_byte ∷ z)) ≡ length c + suc (length z) = length-append c (break_byte ∷ z) in
          omega (arith, more, rest)),
    )
parts-front good t r z (m ∷ ps) [] (s, c, (x, hd, ok, i), rest, j) h f =
    absurd (string-break StringType.Bytes x m (c ++ r) z hd (sym (opened-up x m s c good r i j) ∙ f ∙
    ap (λ (k : List ℕ). k ++ (break_byte ∷ z)) h))
parts-front good t r z (m ∷ ps) (q ∷ qs) (s, c, (x, hd, ok, i), rest, j) (s', c', (x', hd', ok', i'), rest', j') f =
    let same = same-payload StringType.Bytes x x' m q (c ++ r) (c' ++ (break_byte ∷ z)) hd hd'
    (sym (opened-up x m s c good r i j) ∙ f ∙ opened-up x' q s' c' t (break_byte ∷ z) i' j') in
    parts-front c c' r z ps qs rest rest' same.1

no-break-bytes : (n : ℕ) → header.Bytes (Some n) ≡ header.Break → ⊥
no-break-bytes n e = cc

same-bytes : (n m : ℕ) → header.Bytes (Some n) ≡ header.Bytes (Some m) → n ≡ m
same-bytes n m e = cc

module _ (P M : List ℕ → Type 0) (v : Option ℕ) (parts : TakesParts P M v) where
  front : (y x s z payload : List ℕ) → P y → SpellsHeader x (header.Bytes None) → Spells s (bytes true payload) →
      x ++ y ≡ s ++ z → (r : List ℕ) × M r × HasNext r z
  front y x s z payload u hd (qs, t, are', j, f) e =
      let (ps, c, r, are, val, small, split, un) = parts y u in
      let behind : y ≡ (t ++ (break_byte ∷ [])) ++ z =
      same-rest (open_byte 2) y ((t ++ (break_byte ∷ [])) ++ z)
      (ap (λ (k : List ℕ). k ++ y) (sym hd) ∙ e ∙ ap (λ (k : List ℕ). k ++ z) f) in
      (r, un, parts-front c t r z ps qs are are' (sym split ∙ behind ∙ append_assoc t (break_byte ∷ []) z))

  pub parts-no-head : (mid end : ℕ) (fault : Fault) → ((y : List ℕ) → P y → mid ≡ end) →
      ((b x y : List ℕ) (h : Header) (n o : ℕ) → M b → SpellsHeader x h → b ≡ x ++ y →
      announced_length h + n ≤ length y → mid ≤ o + n → IsOutsideFault o fault) →
      DeniesContent P end StringType.Bytes None fault
  parts-no-head mid end fault same none y x s z payload o u hd sp e fits =
      let (r, un, w) = front y x s z payload u hd sp e in
      by r un w (subst (λ n. n ≤ o + length z) (sym (same y u)) fits)
    where
      by : (r : List ℕ) → M r → HasNext r z → mid ≤ o + length z → IsOutsideFault o fault
      by r un (inl k) = none r (break_byte ∷ []) z header.Break (length z) o un refl k (omega arith)
      by r un (inr (h, n, a, w, k, there)) = none r h a (header.Bytes (Some n)) (length z) o un w k there

  pub parts-other : (end : ℕ) (fault : Fault) (h : Header) →
      ((y : List ℕ) → M y → (x : List ℕ) × (r : List ℕ) × SpellsHeader x h × (y ≡ x ++ r)) → h ≢ header.Break →
      ((n : ℕ) → h ≢ header.Bytes (Some n)) → DeniesContent P end StringType.Bytes None fault
  parts-other end fault h head p q y x s z payload o u hd sp e fits =
      let (r, un, w) = front y x s z payload u hd sp e in
      let (a, b, ad, f) = head r un in
      by r a b ad f w
    where
      by : (r a b : List ℕ) → SpellsHeader a h → r ≡ a ++ b → HasNext r z → IsOutsideFault o fault
      by r a b ad f (inl k) = absurd (p (one_header_at_front a (break_byte ∷ []) b z h header.Break ad refl
          (sym f ∙ k)).2)
      by r a b ad f (inr (k, n, d, w, m, there)) = absurd
          (q n (one_header_at_front a k b d h (header.Bytes (Some n)) ad w (sym f ∙ m)).2)

  -- the bytes of a further part are refused
  pub parts-cut : (Q : List ℕ → Type 0) (mid end n : ℕ) (fault : Fault) → ((y : List ℕ) → P y → mid ≡ end) →
      ((y : List ℕ) → M y → (x : List ℕ) × (r : List ℕ) × SpellsHeader x (header.Bytes (Some n)) × (y ≡ x ++ r) × Q r) →
      DeniesJust Q mid n fault → DeniesContent P end StringType.Bytes None fault
  parts-cut Q mid end n fault same head denied y x s z payload o u hd sp e fits =
      let (r, un, w) = front y x s z payload u hd sp e in
      let (a, b, ad, f, un') = head r un in
      denied b (length z) o un' (by r a b ad f w) (subst (λ n. n ≤ o + length z) (sym (same y u)) fits)
    where
      by : (r a b : List ℕ) → SpellsHeader a (header.Bytes (Some n)) → r ≡ a ++ b → HasNext r z →
          n + length z ≤ length b
      by r a b ad f (inl k) = absurd (no-break-bytes n
          (one_header_at_front a (break_byte ∷ []) b z (header.Bytes (Some n)) header.Break ad refl (sym f ∙ k)).2)
      by r a b ad f (inr (k, m, d, w, g, there)) =
          let one = one_header_at_front a k b d (header.Bytes (Some n)) (header.Bytes (Some m)) ad w (sym f ∙ g) in
          let size : n ≡ m = same-bytes n m one.2 in
          let rest : length b ≡ length d = ap length one.1 in
          omega (arith, size, rest, there)

pub no-break : (h : Header) → h ≡ header.Bytes None → h ≢ header.Break
no-break h e f = cc

pub no-definite : (h : Header) → h ≡ header.Bytes None → (n : ℕ) → h ≢ header.Bytes (Some n)
no-definite h e n f = cc

-- ---- bignums

other-bignum : (i : Item) (h : Header) → header_of i ≡ h → ((n : Option ℕ) → h ≡ header.Bytes n → ⊥) →
    bignum_of i ≡ Err kinds.Bytes
other-bignum i h e p =
    by-shape (λ j. bignum_of j ≡ Err kinds.Bytes) h (λ n k. refl) (λ n k. refl) (λ o b k. absurd (p _ k))
    (λ o b k. refl) (λ o is k. refl) (λ o ps k. refl) (λ n k. refl) (λ raw k. refl) (λ t j k. refl) i e

module _ {S : Type 0} (IsUnread : S → List ℕ → Type 0) (End : S → ℕ) (old mid : S) where
  pub bignum-reads : (new : S) (len : Option ℕ) (v : ℕ) → TakesHead IsUnread old mid (header.Bytes len) →
      TakesNumber (IsUnread mid) (IsUnread new) len (Some v) → Reads IsUnread old new None given_bignum v
  bignum-reads new len v took number b u =
      let (x, y, hd, e, un) = took b u in
      let (payload, c, z, make, val, small, f, un') = number y un in (
        bytes (is_open len) payload,
        x ++ c,
        z,
        make x hd,
        e ∙ ap (λ (k : List ℕ). x ++ k) f ∙ sym (append_assoc x c z),
        ap settled (digits-some payload v small val),
        un',
      )

  pub bignum-large : (Q : List ℕ → Type 0) (len : Option ℕ) → TakesHead IsUnread old mid (header.Bytes len) →
      TakesNumber (IsUnread mid) Q len None → Denies IsUnread End old None given_bignum (of_kind kinds.TooLarge)
  bignum-large Q len took number b s z i end u sp e fits =
      let (x, y, hd, f, un) = took b u in
      let (payload, c, r, make, val, small, g, un') = number y un in
      let one = one_at_front s (x ++ c) z r i (bytes (is_open len) payload) sp (make x hd)
      (sym e ∙ f ∙ ap (λ (k : List ℕ). x ++ k) g ∙ sym (append_assoc x c r)) in
      ap settled (ap bignum_of one.2 ∙ digits-none payload small val)

  pub bignum-content : (len : Option ℕ) (fault : Fault) → ((b : List ℕ) → IsUnread old b → End mid ≡ End old) →
      TakesHead IsUnread old mid (header.Bytes len) → DeniesContent (IsUnread mid) (End mid) StringType.Bytes len fault
      →
      Denies IsUnread End old None given_bignum fault
  bignum-content len fault same took none b s z i end u sp e fits =
      let (x, y, hd, f, un) = took b u in
      let (payload, io) = string-only StringType.Bytes len i
      (same-head s z x y i (header.Bytes len) sp hd (sym e ∙ f)).0 in
      fault_outside end fault (settled (bignum_of i)) (none y x s z payload end un hd (subst (Spells s) io sp)
      (sym f ∙ e)
      (subst (λ n. n ≤ end + length z) (sym (same b u)) fits))

  pub bignum-no-head : (fault : Fault) → DeniesHead IsUnread End old fault →
      Denies IsUnread End old None given_bignum fault
  bignum-no-head fault none b s z i end u sp e fits =
      let (x, y, hd, f) = first-head s i sp in
      let there = first-payload s i sp in
      let more = length-append y z in
      fault_outside end fault (settled (bignum_of i)) (none b x (y ++ z) (header_of i) (length z) end u hd
      (e ∙ ap (λ (k : List ℕ). k ++ z) f ∙ append_assoc x y z) (omega (arith, there, more)) fits)

  pub bignum-other : (h : Header) → TakesHead IsUnread old mid h → ((n : Option ℕ) → h ≡ header.Bytes n → ⊥) →
      Denies IsUnread End old None given_bignum (of_kind kinds.Bytes)
  bignum-other h took p b s z i end u sp e fits =
      let (x, y, hd, f, un) = took b u in
      ap settled (other-bignum i h (same-head s z x y i h sp hd (sym e ∙ f)).0 p)

  pub bignum-break : (fault : Fault) → TakesHead IsUnread old mid header.Break →
      Denies IsUnread End old None given_bignum fault
  bignum-break fault took b s z i end u sp e fits =
      let (x, y, hd, f, un) = took b u in
      absurd (no-break-head i (same-head s z x y i header.Break sp hd (sym e ∙ f)).0)
