-- Tags that are skipped, and what is read behind them.
use Rattle.std.proofs.Common.{◌≡◌, ℕ, Bool, true, false, List, [], ◌∷◌, ◌++◌, refl, sym, ap, ◌∙◌, subst, append_assoc}
use Rattle.std.proofs.Common.{append-nil, arith, length, length-append, ◌+◌, ◌≤◌}
use Rattle.ciborium_ll.specs.{declared.header.Header.Header, Header.SpellsHeader, Item.{Item, tag}, Spells.Spells}
use Rattle.ciborium_value.specs.{Meaning.is_bignum_tag, Nesting.Limit, Sources.{Fault, IsFaultOf, of_nesting}}
use Rattle.ciborium_value.specs.Given.{Given, gives, nests, number_of, number_under, outcome, untagged}
use Rattle.ciborium_value.proofs.Sources.Sequences.{fault_outside}
use Rattle.ciborium.specs.{inner.FrontItems.{TakesHead, DeniesHead, DeniesItem, Reads, Denies}, inner.Skips.under}
use Rattle.ciborium.specs.inner.Skips.{IsSkipped, AreSkipped, IsTagged, Skips, TakesBare}
use Rattle.ciborium.proofs.Items.ItemHeads.{header_of, first-head, first-payload, same-head, tag-front, no-break-head}
use Rattle.ciborium_ll.specs.declared.header.Header.TheVariants as header

pub untagged-under : (ts : List ℕ) (i : Item) → untagged (under ts i) ≡ untagged i
untagged-under [] i = refl
untagged-under (t ∷ ts) i = untagged-under ts (tag t i)

pub number-under : (ts : List ℕ) (i : Item) → AreSkipped true ts → number_of (under ts i) ≡ number_of i
number-under [] i h = refl
number-under (t ∷ ts) i h = number-under ts (tag t i) h.1 ∙ step (h.0 refl)
  where
    step : is_bignum_tag t ≡ false → number_under t i (number_of i) ≡ number_of i
    step e = rw e refl

-- ---- one tag more

tagged-none : (b : List ℕ) → IsTagged [] b b
tagged-none b = record { outward = λ i s z sp e. (s, sp, e); inward = λ j t z sp e. (j, t, refl, sp, e) }

tagged-more : (ts : List ℕ) (b u x y : List ℕ) (t : ℕ) → IsTagged ts b u → SpellsHeader x (header.Tag t) → u ≡ x ++ y →
    IsTagged (t ∷ ts) b y
tagged-more ts b u x y t k hd e = record {
  outward = λ i s z sp f. k.outward (tag t i) (x ++ s) z (x, s, hd, sp, refl)
      (e ∙ ap (λ (w : List ℕ). x ++ w) f ∙ sym (append_assoc x s z));
  inward = λ j c z sp f.
      let (i, s, is, sq, g) = k.inward j c z sp f in
      let (o, d, io, sr, w) = tag-front s z x y i t sq hd (sym g ∙ e) in
      (o, d, is ∙ ap (under ts) io, sr, w);
}

-- tags behind tags
under-append : (ts us : List ℕ) (i : Item) → under (ts ++ us) i ≡ under us (under ts i)
under-append [] us i = refl
under-append (t ∷ ts) us i = under-append ts us (tag t i)

skipped-append : (numbers : Bool) (ts us : List ℕ) → AreSkipped numbers ts → AreSkipped numbers us →
    AreSkipped numbers (ts ++ us)
skipped-append numbers [] us h k = k
skipped-append numbers (t ∷ ts) us h k = (h.0, skipped-append numbers ts us h.1 k)

tagged-append : (ts us : List ℕ) (b u w : List ℕ) → IsTagged us b u → IsTagged ts u w → IsTagged (ts ++ us) b w
tagged-append ts us b u w outer inner = record {
  outward = λ i s z sp e.
      let (t, sq, f) = inner.outward i s z sp e in
      let (c, sr, g) = outer.outward (under ts i) t z sq f in
      (c, subst (Spells c) (sym (under-append ts us i)) sr, g);
  inward = λ j c z sp e.
      let (k, t, is, sq, f) = outer.inward j c z sp e in
      let (i, s, io, sr, g) = inner.inward k t z sq f in
      (i, s, is ∙ ap (under us) io ∙ sym (under-append ts us i), sr, g);
}

module _ {S : Type 0} (IsUnread : S → List ℕ → Type 0) where
  pub skips-none : (old : S) (numbers : Bool) → Skips IsUnread old old numbers
  skips-none old numbers b u = ([], b, tagged-none b, tt, u)

  pub skips-more : (old mid new : S) (numbers : Bool) (t : ℕ) → IsSkipped numbers t → Skips IsUnread old mid numbers →
      TakesHead IsUnread mid new (header.Tag t) → Skips IsUnread old new numbers
  skips-more old mid new numbers t skipped h k b u =
      let (ts, c, tagged, all, un) = h b u in
      let (x, y, hd, e, un') = k c un in
      (t ∷ ts, y, tagged-more ts b c x y t tagged hd e, (skipped, all), un')

  pub denies-item : (End : S → ℕ) (old mid : S) (numbers : Bool) (fault : Fault) →
      ((b : List ℕ) → IsUnread old b → End mid ≡ End old) → Skips IsUnread old mid numbers →
      DeniesHead IsUnread End mid fault → DeniesItem IsUnread End old fault
  denies-item End old mid numbers fault same sk k b s z i end u sp e fits =
      let (ts, c, tagged, all, un) = sk b u in
      let (j, t, is, sq, f) = tagged.inward i s z sp e in
      let (x, y, hd, g) = first-head t j sq in
      let there = first-payload t j sq in
      let more = length-append y z in
      k c x (y ++ z) (header_of j) (length z) end un hd (f ∙ ap (λ (w : List ℕ). w ++ z) g ∙ append_assoc x y z)
      (omega (arith, there, more)) (subst (λ n. n ≤ end + length z) (sym (same b u)) fits)

  -- where a break stands no item does
  pub denies-break : (End : S → ℕ) (old mid new : S) (numbers : Bool) (fault : Fault) → Skips IsUnread old mid numbers →
      TakesHead IsUnread mid new header.Break → DeniesItem IsUnread End old fault
  denies-break End old mid new numbers fault sk k b s z i end u sp e fits =
      let (ts, c, tagged, all, un) = sk b u in
      let (j, t, is, sq, f) = tagged.inward i s z sp e in
      let (x, y, hd, g, un') = k c un in
      absurd (no-break-head j (same-head t z x y j header.Break sq hd (sym f ∙ g)).0)

  pub denies-of-item : {A : Type 0} (End : S → ℕ) (l : Limit) (taken : Given A) (old : S) (fault : Fault) →
      DeniesItem IsUnread End old fault → Denies IsUnread End old l taken fault
  denies-of-item End l taken old fault h b s z i end u sp e fits =
      fault_outside end fault (outcome l (taken i)) (h b s z i end u sp e fits)

  -- a head that is taken as it comes, and is not skipped
  pub bare-head : (old new : S) (numbers : Bool) (h : Header) → TakesHead IsUnread old new h →
      TakesBare IsUnread old new numbers h
  bare-head old new numbers h k b u =
      let (x, y, hd, e, un) = k b u in
      ([], b, x, y, tagged-none b, tt, hd, e, un)

  -- behind tags that were skipped
  pub bare-behind : (old mid new : S) (numbers : Bool) (h : Header) → Skips IsUnread old mid numbers →
      TakesBare IsUnread mid new numbers h → TakesBare IsUnread old new numbers h
  bare-behind old mid new numbers h sk k b u =
      let (us, c, outer, some, un) = sk b u in
      let (ts, w, x, y, inner, more, hd, e, un') = k c un in
      (ts ++ us, w, x, y, tagged-append ts us b c w outer inner, skipped-append numbers ts us more some, hd, e, un')

  pub denies-behind : (End : S → ℕ) (old mid : S) (numbers : Bool) (fault : Fault) →
      ((b : List ℕ) → IsUnread old b → End mid ≡ End old) → Skips IsUnread old mid numbers →
      DeniesItem IsUnread End mid fault → DeniesItem IsUnread End old fault
  denies-behind End old mid numbers fault same sk k b s z i end u sp e fits =
      let (us, c, outer, some, un) = sk b u in
      let (j, t, is, sq, f) = outer.inward i s z sp e in
      k c t z j end un sq f (subst (λ n. n ≤ end + length z) (sym (same b u)) fits)

-- ---- what is read behind tags

-- what stands behind a head makes an item with it, which gives this under tags that are skipped
abbrev pub ReadsBehind : {S A : Type 0} → (S → List ℕ → Type 0) → S → Bool → Header → Limit → Given A → A → List ℕ →
    Type 0
ReadsBehind IsUnread new numbers h l taken v y =
    (i : Item) × (c : List ℕ) × (z : List ℕ) × ((x : List ℕ) → SpellsHeader x h → Spells (x ++ c) i) × (y ≡ c ++ z) ×
    ((ts : List ℕ) → AreSkipped numbers ts → outcome l (taken (under ts i)) ≡ gives v) × IsUnread new z

module _ {S A : Type 0} (IsUnread : S → List ℕ → Type 0) (numbers : Bool) (h : Header) (l : Limit) (taken : Given A)
  where
    pub reads-bare : (old mid new : S) (v : A) → TakesBare IsUnread old mid numbers h →
        ((y : List ℕ) → IsUnread mid y → ReadsBehind IsUnread new numbers h l taken v y) →
        Reads IsUnread old new l taken v
    reads-bare old mid new v bare behind b u =
        let (ts, w, x, y, tagged, all, hd, e, un) = bare b u in
        let (i, c, z, make, f, give, un') = behind y un in
        let (t, sq, g) = tagged.outward i (x ++ c) z (make x hd)
        (e ∙ ap (λ (r : List ℕ). x ++ r) f ∙ sym (append_assoc x c z)) in
        (under ts i, t, z, sq, g, give ts all, un')

    -- a head that is a whole item
    pub reads-whole : (old mid : S) (v : A) (i : Item) → TakesBare IsUnread old mid numbers h →
        ((x : List ℕ) → SpellsHeader x h → Spells x i) →
        ((ts : List ℕ) → AreSkipped numbers ts → outcome l (taken (under ts i)) ≡ gives v) →
        Reads IsUnread old mid l taken v
    reads-whole old mid v i bare make give = reads-bare old mid mid v bare
        (λ y un. (
          i,
          [],
          y,
          λ x hd. subst (λ (s : List ℕ). Spells s i) (sym (append-nil x)) (make x hd),
          refl,
          give,
          un,
        ))

    pub denies-bare : (End : S → ℕ) (old mid : S) (fault : Fault) → TakesBare IsUnread old mid numbers h →
        ((end : ℕ) (ts : List ℕ) (i : Item) → AreSkipped numbers ts → header_of i ≡ h →
        IsFaultOf end fault (outcome l (taken (under ts i)))) → Denies IsUnread End old l taken fault
    denies-bare End old mid fault bare blames b s z j end u sp e fits =
        let (ts, w, x, y, tagged, all, hd, f, un) = bare b u in
        let (i, t, is, sq, g) = tagged.inward j s z sp e in
        subst (λ k. IsFaultOf end fault (outcome l (taken k))) (sym is)
        (blames end ts i all (same-head t z x y i h sq hd (sym g ∙ f)).0)

    -- no level is left for it
    pub denies-nested : (End : S → ℕ) (old mid : S) (fault : Fault) → fault ≡ of_nesting →
        TakesBare IsUnread old mid numbers h → ((ts : List ℕ) (i : Item) → AreSkipped numbers ts → header_of i ≡ h →
        outcome l (taken (under ts i)) ≡ nests) → Denies IsUnread End old l taken fault
    denies-nested End old mid fault is bare nested = subst (Denies IsUnread End old l taken) (sym is)
        (denies-bare End old mid of_nesting bare (λ end. nested))
