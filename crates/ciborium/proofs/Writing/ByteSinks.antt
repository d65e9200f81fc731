-- The steps of the sink over a writer, and what it hands back.
use Rattle.std.proofs.Common.{◌≡◌, ℕ, zero, suc, ◌+◌, ◌<◌, List, [], ◌∷◌, ◌++◌, length, take, Option, Some, None}
use Rattle.std.proofs.Common.{Result, Ok, Err, OnOk, OnErr, get_or, refl, sym, ◌∙◌, ap, subst, append_assoc, append-nil}
use Rattle.std.proofs.{Common.{arith, lit<, length-append}, lemmas.Grind.get_or_default_zero}
use Rattle.std.specs.{Borrow.GName, Io.KnownBytes.Appends, Int.{to_be_bytes, w128}}
use Rattle.ciborium_ll.specs.{Bytes.AreBytes, Head.shortest_head, Item.Item, ProperItems.IsArgument}
use Rattle.ciborium_value.specs.{Encoding.written_bytes, Meaning.without_zeros, Number.shortest_bytes}
use Rattle.ciborium_value.specs.Places.{container, begin_bytes, end_bytes, is_open, Place, top, within, tagged, HasRoom}
use Rattle.ciborium_value.specs.Places.{ContainerType, added, ended, IsComplete, IsWrittenPlace, Fits, bytes_at}
use Rattle.ciborium_value.specs.Places.{writer_at, Out}
use Rattle.ciborium_value.specs.{Places.{IsOutOf, IsOutAt, IsOutBetween, IsCutBetween, IsProperBeginning}, Sinks.Named}
use Rattle.ciborium_value.specs.Sinks.{IsReady, Adds, Begins, Tags, Ends, Breaks, BreaksBegin, BreaksTag, BreaksEnd}
use Rattle.ciborium_value.specs.{Sinks.{AddsNamed, BreaksNamed}, WrittenItems.IsWritten}
use Rattle.ciborium_value.proofs.Writing.Standing.{bytes_at-added, bytes_at-within, bytes_at-tagged, bytes_at-ended}
use Rattle.ciborium_value.proofs.Writing.Standing.{bytes_at-top, writer_at-added, written_some}
use Rattle.ciborium.specs.Writes.{WritesNamed, IsNamedWritten, named_out, out_of, PutsOut, IsOutFor}
use Rattle.ciborium.specs.declared.ser.byte_sink.ByteSink.{ByteSink}
use Rattle.ciborium.proofs.Writing.WrittenPlaces.{written-added, written-container}
use mir.Syntax.{w8}
use Rattle.std.proofs.lemmas.List.{append_cancel_left}
use Rattle.std.proofs.Math.Seq.{take-append_seam}
use mir.Val.{Fits as IsValid}

-- ---- what a slice of bytes holds

pub fitting_bytes : (xs : List ℕ) → ((i : ℕ) → IsValid w8 (get_or xs i 0)) → AreBytes xs
fitting_bytes xs h = λ k d lt. subst (λ x. x < 256) (sym (get_or_default_zero xs k d lt)) (h k).fits

pub shortest-is : (n : ℕ) → without_zeros (to_be_bytes w128 n) ≡ shortest_bytes n
unfolding shortest_bytes
shortest-is n = refl

-- ---- bytes behind those that are out

out_grows : (w : Option GName) (g g' : GName) (a b : Option (List ℕ)) (from bs : List ℕ) → g' ≡ g → Appends a b bs →
    IsOutOf w (named_out g a) from → IsOutOf w (named_out g' b) (from ++ bs)
out_grows None g g' a b from bs same h k = tt
out_grows (Some n) g g' None b from bs same h k = cc
out_grows (Some n) g g' (Some x) None from bs same h k = absurd h
out_grows (Some n) g g' (Some x) (Some y) from bs same h k =
    let p = out_is g n x from k in
    ap (λ l. Some (g', l)) (h ∙ ap (λ l. l ++ bs) p.1) ∙ ap (λ m. Some (m, from ++ bs)) (same ∙ p.0)
  where
    out_is : (g n : GName) (x from : List ℕ) → ◌≡◌ {A = Option (GName × List ℕ)} (Some (g, x)) (Some (n, from)) →
        (g ≡ n) × (x ≡ from)
    out_is g n x from h = let e : ◌≡◌ {A = GName × List ℕ} (g, x) (n, from) = cc in (ap (λ p. p.0) e, ap (λ p. p.1) e)

-- a beginning of the bytes, and not all of them
cut_at : (k : ℕ) (bs : List ℕ) → k < length bs → IsProperBeginning (take k bs) bs
cut_at k [] h = absurd (omega (arith, h))
cut_at zero (b ∷ bs) h = (b, bs, refl)
cut_at (suc k) (b ∷ bs) h = let r = cut_at k bs (omega (arith, h)) in (r.0, r.1, ap (λ l. b ∷ l) r.2)

out_cut : (w : Option GName) (g g' : GName) (a b : Option (List ℕ)) (from bs : List ℕ) (k : ℕ) → k < length bs →
    g' ≡ g → Appends a b (take k bs) → IsOutOf w (named_out g a) from →
    IsOutBetween w (named_out g' b) from (from ++ bs)
out_cut None g g' a b from bs k lt same h o = tt
out_cut (Some n) g g' a b from bs k lt same h o =
    let c = cut_at k bs lt in (
      from ++ take k bs,
      out_grows (Some n) g g' a b from (take k bs) same h o,
      (take k bs, refl),
      (c.0, c.1, ap (λ l. from ++ l) c.2 ∙ sym (append_assoc from (take k bs) (c.0 ∷ c.1))),
    )

module _ {W E : Type 0} (contents : W → Option (List ℕ)) (s t : ByteSink W)
    (same : t.writer.ghost_name ≡ s.writer.ghost_name) where
  -- from one place to another that adds these bytes
  goes : (r : Result (Unit {0}) E) (bs : List ℕ) (p q : Place) → writer_at q ≡ writer_at p →
      bytes_at q ≡ bytes_at p ++ bs → IsOutAt (out_of contents s) p → PutsOut contents s t r bs →
      OnOk r (IsOutAt (out_of contents t) q)
  goes (Err e) bs p q w b st h = tt
  goes (Ok u) bs p q w b st h = subst (λ x. IsOutOf x (out_of contents t) (bytes_at q)) (sym w)
      (subst (IsOutOf (writer_at p) (out_of contents t)) (sym b)
      (out_grows (writer_at p) _ _ _ _ (bytes_at p) bs same h st))

  stops : (r : Result (Unit {0}) E) (bs : List ℕ) (p q : Place) → bytes_at q ≡ bytes_at p ++ bs →
      IsOutAt (out_of contents s) p → PutsOut contents s t r bs → OnErr r (IsCutBetween (out_of contents t) p q)
  stops (Ok u) bs p q b st h = tt
  stops (Err e) bs p q b st h = subst (IsOutBetween (writer_at p) (out_of contents t) (bytes_at p)) (sym b)
      (out_cut (writer_at p) _ _ _ _ (bytes_at p) bs h.0 h.1 same h.2 st)

  pub adds : (r : Result (Unit {0}) E) (i : Item) → PutsOut contents s t r (written_bytes i) → OnOk r (IsWritten i) →
      OnOk r (Adds (IsOutFor contents) s t i)
  adds (Err e) i h w = tt
  adds (Ok u) i h w = λ p st room. (
    goes (Ok u) (written_bytes i) p (added p i) (writer_at-added p i)
        (bytes_at-added p i) st.0 h,
    written-added p i st.1 w,
  )

  pub breaks : (r : Result (Unit {0}) E) (i : Item) → PutsOut contents s t r (written_bytes i) →
      OnErr r (Breaks (IsOutFor contents) (out_of contents) s t i)
  breaks (Ok u) i h = tt
  breaks (Err e) i h = λ p st room. stops (Err e) (written_bytes i) p (added p i) (bytes_at-added p i) st.0 h

  -- the same, of an item by another name
  pub adds_as : (r : Result (Unit {0}) E) (i j : Item) → PutsOut contents s t r (written_bytes i) →
      OnOk r (IsWritten i) → i ≡ j → OnOk r (Adds (IsOutFor contents) s t j)
  adds_as r i j h w e = subst (λ k. OnOk r (Adds (IsOutFor contents) s t k)) e (adds r i h w)

  pub breaks_as : (r : Result (Unit {0}) E) (i j : Item) → PutsOut contents s t r (written_bytes i) → i ≡ j →
      OnErr r (Breaks (IsOutFor contents) (out_of contents) s t j)
  breaks_as r i j h e = subst (λ k. OnErr r (Breaks (IsOutFor contents) (out_of contents) s t k)) e (breaks r i h)

  pub begins : (r : Result (Unit {0}) E) (k : ContainerType) (n : Option ℕ) → PutsOut contents s t r (begin_bytes k n) →
      Fits n → OnOk r (Begins (IsOutFor contents) k s t n)
  begins (Err e) k n h fits = tt
  begins (Ok u) k n h fits = λ p st room. (
    goes (Ok u) (begin_bytes k n) p (within k n [] p) refl
        (bytes_at-within p k n) st.0 h,
    (fits, tt, st.1),
  )

  pub breaks_begin : (r : Result (Unit {0}) E) (k : ContainerType) (n : Option ℕ) →
      PutsOut contents s t r (begin_bytes k n) → OnErr r (BreaksBegin (IsOutFor contents) (out_of contents) k s t n)
  breaks_begin (Ok u) k n h = tt
  breaks_begin (Err e) k n h = λ p st room. stops (Err e) (begin_bytes k n) p (within k n [] p) (bytes_at-within p k n)
      st.0 h

  pub tags : (r : Result (Unit {0}) E) (n : ℕ) → PutsOut contents s t r (shortest_head 6 n) → IsArgument n →
      OnOk r (Tags (IsOutFor contents) s t n)
  tags (Err e) n h fits = tt
  tags (Ok u) n h fits = λ p st room. (
    goes (Ok u) (shortest_head 6 n) p (tagged n p) refl (bytes_at-tagged p n) st.0 h,
    (fits, st.1),
  )

  pub breaks_tag : (r : Result (Unit {0}) E) (n : ℕ) → PutsOut contents s t r (shortest_head 6 n) →
      OnErr r (BreaksTag (IsOutFor contents) (out_of contents) s t n)
  breaks_tag (Ok u) n h = tt
  breaks_tag (Err e) n h = λ p st room. stops (Err e) (shortest_head 6 n) p (tagged n p) (bytes_at-tagged p n) st.0 h

  pub ends : (r : Result (Unit {0}) E) (n : Option ℕ) → PutsOut contents s t r (end_bytes n) →
      OnOk r (Ends (IsOutFor contents) s t n)
  ends (Err e) n h = tt
  ends (Ok u) n h = by
    where
      by : (p : Place) → IsOutFor contents s p → IsComplete p n → IsOutFor contents t (ended p)
      by (top name before is) st full = absurd full
      by (tagged m p) st full = absurd full
      by (within k m is around) st full = (
        goes (Ok u) (end_bytes n) (within k m is around) _ (writer_at-added around (container k (is_open m) is))
            (bytes_at-ended k m is around full.1 ∙ ap (λ e. bytes_at (within k m is around) ++ end_bytes e) full.0) st.0
            h,
        written-added around (container k (is_open m) is) st.1.2 (written-container k m is st.1.0 st.1.1 full.1),
      )

  pub breaks_end : (r : Result (Unit {0}) E) (n : Option ℕ) → PutsOut contents s t r (end_bytes n) →
      OnErr r (BreaksEnd (IsOutFor contents) (out_of contents) s t n)
  breaks_end (Ok u) n h = tt
  breaks_end (Err e) n h = by
    where
      by : (p : Place) → IsOutFor contents s p → IsComplete p n → IsCutBetween (out_of contents t) p (ended p)
      by (top name before is) st full = absurd full
      by (tagged m p) st full = absurd full
      by (within k m is around) st full = stops (Err e) (end_bytes n) (within k m is around) _
          (bytes_at-ended k m is around full.1 ∙ ap (λ e. bytes_at (within k m is around) ++ end_bytes e) full.0) st.0 h

Appends-nothing : (a : Option (List ℕ)) → Appends a a []
Appends-nothing None = tt
Appends-nothing (Some a) = sym (append-nil a)

-- nothing goes out where the count was announced
pub ends_silently : {W : Type 0} (contents : W → Option (List ℕ)) (s : ByteSink W) (n : Option ℕ) (m : ℕ) → n ≡ Some m →
    Ends (IsOutFor contents) s s n
ends_silently contents s n m is = ends {E = Unit {0}} contents s s refl (Ok tt) n (subst
    (λ k. PutsOut {E = Unit {0}} contents s s (Ok tt) (end_bytes k)) (sym is) (Appends-nothing (contents s.writer.now)))

-- ---- the top

abbrev top_of : Out → Place
top_of None = top None [] []
top_of (Some o) = top (Some o.0) o.1 []

at_top : (o : Out) → IsOutAt o (top_of o) × IsWrittenPlace (top_of o) × HasRoom (top_of o)
at_top None = (tt, tt, lit< tt)
at_top (Some o) = (ap (λ b. Some (o.0, b)) (sym (bytes_at-top (Some o.0) o.1)), tt, lit< tt)

named_is : (name g : GName) (o : Option (List ℕ)) (bs : List ℕ) → named_out g o ≡ Some (name, bs) → (o ≡ Some bs) ×
    (g ≡ name)
named_is name g None bs h = cc
named_is name g (Some b) bs h = let e : ◌≡◌ {A = GName × List ℕ} (g, b) (name, bs) = cc in
    (ap (λ p. Some p.1) e, ap (λ p. p.0) e)

module _ {W : Type 0} (contents : W → Option (List ℕ)) where
  -- what the writer holds that was lent, where it is the one that the sink holds
  all_back : (a : Option (List ℕ)) (g g' : GName) (now x : W) (bs : List ℕ) → (g ≡ g' → x ≡ now) →
      IsOutOf (writer_at (top_of (named_out g a))) (named_out g' (contents now))
      (bytes_at (top_of (named_out g a)) ++ bs) → Appends a (contents x) bs
  all_back None g g' now x bs back h = tt
  all_back (Some a) g g' now x bs back h =
      let k = named_is g g' (contents now) _ h in
      let same : contents x ≡ Some (a ++ bs) = ap contents (back (sym k.1)) ∙ k.0 ∙
      ap (λ l. Some (l ++ bs)) (bytes_at-top (Some g) a) in
      subst (λ o. Appends (Some a) o bs) (sym same) refl

  part_back : (a : Option (List ℕ)) (g g' : GName) (now x : W) (bs : List ℕ) → 0 < length bs → (g ≡ g' → x ≡ now) →
      IsOutBetween (writer_at (top_of (named_out g a))) (named_out g' (contents now))
      (bytes_at (top_of (named_out g a))) (bytes_at (top_of (named_out g a)) ++ bs) → (k : ℕ) × (k < length bs) ×
      Appends a (contents x) (take k bs)
  part_back None g g' now x bs some back h = (0, some, tt)
  part_back (Some a) g g' now x bs some back h =
      let k = named_is g g' (contents now) _ h.1 in
      let front : bytes_at (top (Some g) a []) ≡ a = bytes_at-top (Some g) a in
      let part = h.2.0 in
      let out : h.0 ≡ a ++ part = h.2.1 ∙ ap (λ l. l ++ part) front in
      let rest : List ℕ = h.3.0 ∷ h.3.1 in
      let whole : a ++ bs ≡ a ++ (part ++ rest) = ap (λ l. l ++ bs) (sym front) ∙
      (h.3.2 ∙ (ap (λ l. l ++ rest) out ∙ append_assoc a part rest)) in
      let split : bs ≡ part ++ rest = append_cancel_left a bs (part ++ rest) whole in
      let len : length bs ≡ length part + length rest = ap length split ∙ length-append part rest in
      let same : contents x ≡ Some (a ++ take (length part) bs) = ap contents (back (sym k.1)) ∙ k.0 ∙ ap Some out ∙
      ap (λ l. Some (a ++ l)) (sym (ap (take (length part)) split ∙ take-append_seam part rest)) in
      (length part, omega (arith, len), subst (λ o. Appends (Some a) o (take (length part) bs)) (sym same) refl)

  module _ (s t : ByteSink W) (x : W) where
    pub wrote : (E : Type 0) (n : Named) → (s.writer.ghost_name ≡ t.writer.ghost_name → x ≡ t.writer.now) →
        AddsNamed (IsOutFor contents) s t n → WritesNamed {E = E} (contents s.writer.now) (contents x) (Ok tt) n
    wrote E (Err k) back h = absurd h
    wrote E (Ok i) back h =
        let p = top_of (out_of contents s) in
        let at = at_top (out_of contents s) in
        let k : IsOutOf (writer_at (added p i)) (out_of contents t) (bytes_at (added p i)) =
        (h p (at.0, at.1) at.2).0 in
        all_back (contents s.writer.now) s.writer.ghost_name t.writer.ghost_name t.writer.now x (written_bytes i) back
        (subst (λ r. IsOutOf r (out_of contents t) (bytes_at p ++ written_bytes i)) (writer_at-added p i)
        (subst (IsOutOf (writer_at (added p i)) (out_of contents t)) (bytes_at-added p i) k))

    pub wrote_part : (E : Type 0) (e : E) (n : Named) → (s.writer.ghost_name ≡ t.writer.ghost_name → x ≡ t.writer.now) →
        BreaksNamed (IsOutFor contents) (out_of contents) s t n →
        WritesNamed {E = E} (contents s.writer.now) (contents x) (Err e) n
    wrote_part E e (Err k) back h = refl
    wrote_part E e (Ok i) back h =
        let p = top_of (out_of contents s) in
        let at = at_top (out_of contents s) in
        let k : IsCutBetween (out_of contents t) p (added p i) = h p (at.0, at.1) at.2 in
        part_back (contents s.writer.now) s.writer.ghost_name t.writer.ghost_name t.writer.now x (written_bytes i)
        (written_some i) back
        (subst (IsOutBetween (writer_at p) (out_of contents t) (bytes_at p)) (bytes_at-added p i) k)

    pub named_written : (n : Named) → AddsNamed (IsOutFor contents) s t n → IsNamedWritten n
    named_written (Err k) h = absurd h
    named_written (Ok i) h = by (out_of contents s) refl
      where
        by : (o : Out) → out_of contents s ≡ o → IsWritten i
        by None e = (h (top None [] []) (subst (λ o. IsOutAt o (top None [] [])) (sym e) tt, tt) (lit< tt)).1.0
        by (Some o) e =
            let at = at_top (Some o) in
            (h (top (Some o.0) o.1 []) (subst (λ o'. IsOutAt o' (top (Some o.0) o.1 [])) (sym e) at.0, tt)
            (lit< tt)).1.0

  pub begins_ready : (s : ByteSink W) → IsReady (IsOutFor contents) s
  begins_ready s = let at = at_top (out_of contents s) in (top_of (out_of contents s), (at.0, at.1), at.2)
