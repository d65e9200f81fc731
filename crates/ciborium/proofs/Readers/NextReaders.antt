-- From the head that was pulled first, and what is read behind it, to the reader of a sequence.
use Rattle.std.proofs.Common.{◌≡◌, ℕ, ◌+◌, ◌<◌, Bool, List, [], ◌∷◌, ◌++◌, length, Option, Some, None, Result, Ok, Err}
use Rattle.std.proofs.Common.{IfErr, IfNone, IfSome, refl, sym, ap, ◌∙◌, subst, append_assoc, arith, lit<}
use Rattle.std.proofs.{Common.length-append, KnownBytes.{Consumes-nil, Consumes-trans}, lemmas.List.Elements.All-append}
use Rattle.std.specs.Io.KnownBytes.{Consumes, IsAtEnd}
use Rattle.ciborium_ll.{proofs.{Decoders.begun-left, Unread.reads-head}, specs.Accesses.{HasEnded, left_at_failure}}
use Rattle.ciborium_ll.specs.{Bytes.greatest_offset, Decoding.{HasBegun, HasSameReader, IsAheadBy, Takes, left_of}}
use Rattle.ciborium_ll.specs.{Decoding.{next_offset, offset_of, with_left}, FirstHeads.{IsEndOrFault, IsFirstTaken}}
use Rattle.ciborium_ll.specs.{ReaderSteps.IsHeadTaken, Refusal.{HeadRefuses, IsUsable}}
use Rattle.ciborium_ll.specs.declared.{decoder.Decoder.Decoder, header.{Error.Error as LlError, Header.Header}}
use Rattle.ciborium_value.{proofs.{GoodItems.Spelled.spells-pos, Sources.Sequences.fault_outside}, specs.Given.Given}
use Rattle.ciborium_value.specs.{Given.outcome, Readings.Reading, Refuses.Refuses, Sources.IsGrantedFault}
use Rattle.ciborium_value.specs.{Sources.{IsOutsideFault, TakesOnly}, Spelling.any, Tree.Tree, View.result_map}
use Rattle.ciborium.proofs.Items.{FrontReads.{ended-ll, failed-fault, granted-head, head-outside}, ItemHeads.first-head}
use Rattle.ciborium.proofs.Items.{ItemHeads.{first-payload, header_of}, TakenOnly.{taken-beginning, taken-none}}
use Rattle.ciborium.proofs.Items.TakenOnly.{taken-then, taken-to, takes-end, takes-only}
use Rattle.ciborium.proofs.Readers.HandedReaders.{handed-denied, handed-given, handed-memory, on-ok, some-map}
use Rattle.ciborium.proofs.{Readers.{KnownReaders.whole-of, WhateverFollows.{taken-refused, taken-tree}}}
use Rattle.ciborium.{proofs.Turns.Pulled.{refused-from, refused-map}, specs.Errors.{fault_of, from_ll}}
use Rattle.ciborium.specs.NextItems.{IsReadIo, IsReadFrom, MatchItem, MovesOffset, Otherwise, ReadsNextAsTypeFrom}
use Rattle.ciborium.specs.NextItems.{IfNotEnded, ReadsNextAtFrom, TakesTo, TellsEnd, TellsEndAt, behind_head}
use Rattle.ciborium.specs.{TypedAnswers.{IsFaultAhead, RefusesGiven, TakesGiven}, ValueAnswers.TakesBytes}
use Rattle.ciborium.specs.{ValueClauses.ReadsWhole, declared.de.{byte_source.ByteSource.ByteSource, error.Error.Error}}
use Rattle.ciborium.specs.{declared.de.error.Error.TheVariants.TooLong, inner.ByteSources.{HasTakenSince, IsUnread}}
use Rattle.ciborium.specs.inner.ByteSources.{ReadsValue, end_at}
use Rattle.ciborium_ll.specs.declared.header.Error.TheVariants as ll
use Rattle.ciborium_ll.specs.FirstHeads as first_heads
use Rattle.ciborium_ll.specs.Refusal as refusal

-- what an answer says where none is the end
end-says : {A E : Type 0} (r : Result (Option A) E) (P : Result A E → Type 0) → r ≡ Ok None → Otherwise r P
end-says r P is = subst (λ q. Otherwise q P) (sym is) tt

end-at : {A E : Type 0} (p : ℕ) (before after : Option (List ℕ)) (r : Result (Option A) (Error E)) →
    TellsEnd before after r → TellsEndAt p before after r
end-at p before after (Ok None) h = h
end-at p before after (Ok (Some v)) h = h
end-at p before after (Err e) h = λ known less. h known

-- ---- the head that was pulled first: d was begun on the reader that was lent, and has pulled it

module _ {S W : Type 0} (E : Type 0) (can_fail : Bool) (remaining : S → Option (List ℕ)) (d : Decoder S W)
    (s : ByteSource S W) (lent : S) (p : ℕ)
    (begins : HasBegun d lent p) (same : HasSameReader d s.decoder) (h : Header)
    (taken : Takes remaining d s.decoder (λ b. IsHeadTaken {E = E} b d.counter.count (Ok h))) where
  -- it is pending
  front : (b : List ℕ) → remaining lent ≡ Some b → IsUnread remaining (behind_head s p h) b
  front b known =
      let (x, r, spelled, usable, split, count, left) =
      reads-head {E = E} (left_of remaining d) (left_of remaining s.decoder) b d.counter.count s.decoder.counter.count
      (Ok h) (begun-left remaining d lent p begins ∙ known) taken in (
        x,
        r,
        spelled,
        split,
        left,
        λ fixed. (
          subst (IsUsable b) begins.count usable,
          count ∙
              ap (λ n. n + length x) begins.count,
        ),
      )

  -- whatever follows it
  front-any : (u : List ℕ) → IsAheadBy Some (with_left s.decoder u) (taken.0 ++ u) p (Some (h, p))
  front-any u =
      let (x, consumed, count, t, bytes) = taken in
      let (y, r, spelled, usable, split, sum, left) = reads-head {E = E} (Some (x ++ u)) (Some u) (x ++ u)
      d.counter.count s.decoder.counter.count (Ok h) refl (x, refl, count, t, bytes) in (
        refl,
        y,
        r,
        spelled,
        subst (IsUsable (x ++ u)) begins.count usable,
        split,
        sum ∙ ap (λ n. n + length y) begins.count,
        left,
      )

  -- with the bytes that were taken behind it
  joined : (t : ByteSource S W) (x : S) (r : Result Tree (Error E)) →
      (s.decoder.reader.ghost_name ≡ t.decoder.reader.ghost_name → x ≡ t.decoder.reader.now) →
      ReadsValue {E = E} can_fail remaining (behind_head s p h) t r →
      TakesBytes {E = E} any p (remaining lent) s.levels (remaining x) r
  joined t x r back reads =
      let (b, consumed, count, head, bytes) = taken in
      let (kept, ended, (c, more, sum, f, low)) = reads in
      let begun : d.counter.count ≡ p = begins.count in
      let less = t.decoder.counter.fits in
      let after : remaining x ≡ left_of remaining t.decoder = ap remaining (back (sym kept)) in (
        b ++ c,
        subst (λ o. Consumes (remaining lent) o (b ++ c)) (sym after)
            (Consumes-trans (remaining lent) (left_of remaining s.decoder) (left_of remaining t.decoder) b c
            (subst (λ y. Consumes y (left_of remaining s.decoder) b) (begun-left remaining d lent p begins) consumed)
            more),
        omega (arith, count, sum, begun, less, length-append b c),
        taken-tree E any t.decoder s.levels p (b ++ c) r (on-ok r t.unpushed)
            (λ z. subst (λ u. Rattle.ciborium.specs.inner.Turns.IsTreeRead {S = List ℕ} {E = E} any Some
            (with_left t.decoder z) s.levels u p r) (sym (append_assoc b c z))
            (f z (b ++ (c ++ z)) p (front-any (c ++ z)))),
        All-append (λ n. n < 256) b c bytes low,
      )

-- ---- the answer of the call, with what was read behind the head

module _ {S W T A : Type 0} (E : Type 0) (can_fail : Bool) (remaining : S →
    Option (List ℕ)) (reading : Reading T A) (d : Decoder S W)
    (s t : ByteSource S W) (lent x : S) (p : ℕ) (begins : HasBegun d lent p) (kept : HasSameReader d s.decoder) where
  -- what is known of the answer behind the first head
  abbrev pub Behind : Option Header → Result (Option T) (Error E) → Type 0
  Behind first r = IfSome first (λ h. IfNotEnded r (λ q. IsReadFrom {E = E} can_fail remaining reading
      (behind_head s p h) t q))

  abbrev pub End : Option Header → Result (Option T) (Error E) → Type 0
  End first r = IfNone first ((r ≡ Ok None) × (t.decoder ≡ s.decoder))

  abbrev pub First : Option Header → Type 0
  First first = Takes remaining d s.decoder (λ b. IsFirstTaken {E = E} b d.counter.count (Ok first))

  ends : (b : List ℕ) → remaining lent ≡ Some b → (h : Header) → First (Some h) → end_at remaining s ≡ p + length b
  ends b known h taken = takes-end remaining d s.decoder _ b (begun-left remaining d lent p begins ∙ known) taken ∙
      ap (λ n. n + length b) begins.count

  -- what holds of each item that is read holds where the answer is not the end
  item-says : (P : Result T (Error E) → Type 0) (first : Option Header) (r : Result (Option T) (Error E)) →
      ((h : Header) → First (Some h) → (q : Result T (Error E)) →
      IsReadFrom {E = E} can_fail remaining reading (behind_head s p h) t q → P q) → First first → End first r →
      Behind first r → Otherwise r P
  item-says P None r f taken (is, same) item = end-says r P is
  item-says P (Some h) (Ok None) f taken none item = absurd item
  item-says P (Some h) (Ok (Some v)) f taken none item = f h taken (Ok v) item
  item-says P (Some h) (Err e) f taken none item = f h taken (Err e) item

  module _ (back : s.decoder.reader.ghost_name ≡ t.decoder.reader.ghost_name → x ≡ t.decoder.reader.now) where
    tells-end : (first : Option Header) (r : Result (Option T) (Error E)) → First first →
        IfNone first (IsAtEnd (left_of remaining s.decoder)) →
        (left_of remaining d ≡ Some [] → IsEndOrFault {E = E} (Ok first)) → End first r → Behind first r →
        TellsEnd {E = E} (remaining lent) (remaining x) r
    tells-end None r (b, consumed, count, none, bytes) end empty (is, same) item =
        let after : x ≡ s.decoder.reader.now = back (ap (λ (u : Decoder S W). u.reader.ghost_name) (sym same)) ∙
        ap (λ (u : Decoder S W). u.reader.now) same in
        subst (λ q. TellsEnd {E = E} (remaining lent) (remaining x) q) (sym is) (
          subst (λ y. Consumes (remaining lent) (remaining y) []) (sym after)
              (subst (λ y. Consumes y (left_of remaining s.decoder) []) (begun-left remaining d lent p begins)
              (subst (λ z. Consumes (left_of remaining d) (left_of remaining s.decoder) z) none consumed)),
          subst (λ y. IsAtEnd (remaining y)) (sym after) end,
        )
    tells-end (Some h) (Ok None) taken end empty none item = absurd item
    tells-end (Some h) (Ok (Some v)) taken end empty none item =
        λ known. empty (begun-left remaining d lent p begins ∙ known)
    tells-end (Some h) (Err e) taken end empty none item =
        λ known. absurd (empty (begun-left remaining d lent p begins ∙ known))

    next-memory : (first : Option Header) (r : Result (Option T) (Error E)) → End first r → Behind first r →
        IfErr r (λ e. IsGrantedFault (fault_of (left_at_failure can_fail (remaining x)) e) reading.needs_memory)
    next-memory None r (is, same) item = subst (λ q. IfErr q (λ e. IsGrantedFault (fault_of (left_at_failure can_fail
        (remaining x)) e) reading.needs_memory)) (sym is) tt
    next-memory (Some h) (Ok v) none item = tt
    next-memory (Some h) (Err e) none item =
        handed-memory E can_fail remaining reading (behind_head s p h) t x back (Err e) item

  -- the offset behind an item is where the source stands
  moves-offset : (r : Result (Option T) (Error E)) (q : ℕ) → TakesTo p t.decoder.counter.count (remaining lent)
      (remaining x) → MatchItem r (q ≡ offset_of t.decoder) (q ≡ p) → MovesOffset p q (remaining lent) (remaining x) r
  moves-offset (Ok (Some v)) q (b, consumes, counted) at =
      (b, consumes, at ∙ (ap (next_offset t.decoder.counter.count) t.unpushed ∙ counted))
  moves-offset (Ok None) q taken at = at
  moves-offset (Err e) q taken at = at

  -- all of it
  pub reads-next : (s.decoder.reader.ghost_name ≡ t.decoder.reader.ghost_name → x ≡ t.decoder.reader.now) →
      p < greatest_offset → TakesOnly (HasTakenSince remaining) s t →
      (first : Option Header) (r : Result (Option T) (Error E)) (q : ℕ) → MatchItem r (q ≡ offset_of t.decoder)
      (q ≡ p) → First first → IfNone first (IsAtEnd (left_of remaining s.decoder)) →
      (left_of remaining d ≡ Some [] → IsEndOrFault {E = E} (Ok first)) →
      End first r → Behind first r → ReadsNextAtFrom can_fail p s.levels reading (remaining lent) (remaining x) r ×
      MovesOffset p q (remaining lent) (remaining x) r
  reads-next back less only first r q at taken end empty none item =
      let same = kept in
      let all = taken-to remaining d t.decoder lent x p begins (λ e. back (same ∙ e))
      (taken-then remaining d s.decoder t.decoder
      (takes-only remaining d s.decoder _ same taken d (taken-none remaining d))
      (only s (taken-none remaining s.decoder))) in (
        record {
          end = (
            end-at p (remaining lent) (remaining x) r (tells-end back first r taken end empty none item),
            λ full. absurd (omega (arith, less, full)),
          );
          ok = item-says (λ q. TakesGiven (Some s.levels) reading.taken (remaining lent) (remaining x)
              (result_map reading.content q)) first r (λ h read q item b known. handed-given E can_fail remaining
              reading (behind_head s p h) t x back b p (front E can_fail remaining d s lent p begins kept h read b
              known) (ends b known h read) q item) taken none item;
          refused = item-says (λ q. RefusesGiven p (Some s.levels) reading.taken (remaining lent)
              (left_at_failure can_fail (remaining x)) (result_map reading.content q)) first r
              (λ h read q item b known. handed-denied E can_fail remaining reading (behind_head s p h) t x back
              b p (front E can_fail remaining d s lent p begins kept h read b known) (ends b known h read) q item)
              taken none item;
          memory = next-memory back first r none item;
          taken = (all.0, all.1);
          value = item-says (λ q. IfSome reading.whole (λ tree. TakesBytes any p (remaining lent) s.levels (remaining x)
              (result_map (λ v. tree (reading.content v)) q))) first r (λ h read q item. some-map reading.whole
              item.whole (λ tree reads. joined E can_fail remaining d s lent p begins kept h read t x
              (result_map (λ v. tree (reading.content v)) q) back reads)) taken none item;
        },
        moves-offset r q all at,
      )

-- ---- the first head was refused

some-all : {A : Type 0} {P : A → Type 0} (o : Option A) → ((v : A) → P v) → IfSome o P
some-all (Some v) f = f v
some-all None f = tt

first-io : {E : Type 0} (e : LlError E) → first_heads.IsHeadIo e → IsReadIo (from_ll e)
first-io (ll.Io e) h = tt
first-io u h = h

module _ {S W : Type 0} (E : Type 0) (can_fail : Bool) (remaining : S → Option (List ℕ)) (d e : Decoder S W) (lent : S)
    (p : ℕ) (begins : HasBegun d lent p) (same : HasSameReader d e) (x : LlError E)
    (ended : HasEnded can_fail (left_of remaining e) x)
    (taken : Takes remaining d e (λ b. IsHeadTaken {E = E} b d.counter.count (Err x))) where
  first-denied : {A : Type 0} (l : Option ℕ) (given : Given A) (b : List ℕ) → remaining lent ≡ Some b →
      IsFaultAhead p l given b (fault_of (left_at_failure can_fail (remaining e.reader.now)) (from_ll x))
  first-denied l given b known i s left spelled split =
      let (y, c, head, whole) = first-head s i spelled in
      let refused = reads-head {E = E} (left_of remaining d) (left_of remaining e) b d.counter.count e.counter.count
      (Err x) (begun-left remaining d lent p begins ∙ known) taken in
      let there = first-payload s i spelled in
      let more = length-append c left in
      let all : length b ≡ length s + length left = ap length split ∙ length-append s left in
      let begun : d.counter.count ≡ p = begins.count in
      fault_outside _ (fault_of (left_at_failure can_fail (remaining e.reader.now)) (from_ll x)) (outcome l (given i))
      (subst (λ f. IsOutsideFault (p + length s) f) (failed-fault can_fail (left_of remaining e) (from_ll x)
      (ended-ll can_fail (left_of remaining e) x ended))
      (head-outside (remaining e.reader.now) x b y (c ++ left) d.counter.count (length left) (p + length s)
      (header_of i) head (split ∙ ap (λ (z : List ℕ). z ++ left) whole ∙ append_assoc y c left)
      (omega (arith, there, more)) (omega (arith, all, begun)) refused))

  first-taken : (l : ℕ) (back : S) → back ≡ e.reader.now →
      TakesBytes {E = E} any p (remaining lent) l (remaining back) (Err (from_ll x))
  first-taken l back given =
      let (b, consumed, count, head, bytes) = taken in
      let begun : d.counter.count ≡ p = begins.count in
      let less = e.counter.fits in (
        b,
        subst (λ y. Consumes (remaining lent) (remaining y) b) (sym given)
            (subst (λ y. Consumes y (left_of remaining e) b) (begun-left remaining d lent p begins) consumed),
        omega (arith, count, begun, less),
        taken-refused E any p b l (from_ll x) (λ c. refused-map (Some c) (from_ll x) (HeadRefuses (b ++ c) p)
            (λ r. Refuses any (b ++ c) p (Some l) r) (λ r h. Refuses.no_head h)
            (refused-from (Some c) x (HeadRefuses (b ++ c) p)
            (subst (λ n. Rattle.ciborium_ll.specs.ReaderSteps.IsRefusalOf (Some c) x (HeadRefuses (b ++ c) n)) begun
            (reads-head {E = E} (Some (b ++ c)) (Some c) (b ++ c) d.counter.count e.counter.count (Err x) refl
            (b, refl, count, head, bytes))))),
        bytes,
      )

  -- all of it
  pub refuses-first : {T A : Type 0} (l : ℕ) (reading : Reading T A) (back : S) →
      (left_of remaining d ≡ Some [] → first_heads.IsHeadIo x) → back ≡ e.reader.now → p < greatest_offset →
      ReadsNextAtFrom can_fail p l reading (remaining lent) (remaining back) (Err (from_ll x))
  refuses-first l reading back empty given less = record {
    end = (
      (λ known _. first-io x (empty (begun-left remaining d lent p begins ∙ known))),
      λ full. absurd (omega (arith, less, full)),
    );
    ok = λ b known. tt;
    refused = λ b known. subst (λ y. IsFaultAhead p (Some l) reading.taken b
        (fault_of (left_at_failure can_fail (remaining y)) (from_ll x))) (sym given) (first-denied
        (Some l) reading.taken b known);
    memory = granted-head (left_at_failure can_fail (remaining back)) x taken.0 d.counter.count reading.needs_memory
        taken.3;
    taken = taken-beginning remaining d e lent back p begins (λ _. given)
        (takes-only remaining d e _ same taken d (taken-none remaining d));
    value = some-all reading.whole (λ tree. first-taken l back given);
  }

-- ---- at the greatest offset

full-refuses : (c : List ℕ) → HeadRefuses c greatest_offset refusal.too_long
full-refuses [] = refl
full-refuses (x ∷ c) = refl

pub refuses-full : {T A : Type 0} (E : Type 0) (can_fail : Bool) (p l : ℕ) (reading : Reading T A)
    (before : Option (List ℕ)) → p ≡ greatest_offset →
    ReadsNextAtFrom {E = E} can_fail p l reading before before (Err TooLong)
refuses-full E can_fail p l reading before full = record {
  end = ((λ known less. absurd (omega (arith, less, full))), λ _. refl);
  ok = λ b known. tt;
  refused = λ b known i s left spelled split. let some = spells-pos i s spelled in omega (arith, full, some);
  memory = tt;
  taken = ([], Consumes-nil before);
  value = some-all reading.whole (λ tree. (
    [],
    Consumes-nil before,
    omega (arith, full),
    (λ c. Refuses.no_head (subst (λ n. HeadRefuses c n refusal.too_long) (sym full) (full-refuses c))),
    (λ k n h. absurd (omega (arith, h))),
  ));
}

-- ---- at offset 0

start-end : {A E : Type 0} (before after : Option (List ℕ)) (r : Result (Option A) (Error E)) →
    TellsEndAt 0 before after r → TellsEnd before after r
start-end before after (Ok None) h = h
start-end before after (Ok (Some v)) h = h
start-end before after (Err e) h = λ known. h known (lit< tt)

start-whole : {T A : Type 0} (E : Type 0) (l : ℕ) (reading : Reading T A) (before after : Option (List ℕ))
    (r : Result (Option T) (Error E)) → Otherwise r (λ q. IfSome reading.whole (λ tree. TakesBytes any 0 before l after
    (result_map (λ v. tree (reading.content v)) q))) → Otherwise r (λ q. IfSome reading.whole (λ tree. ReadsWhole any
    before l after (result_map (λ v. tree (reading.content v)) q)))
start-whole E l reading before after (Ok None) h = tt
start-whole E l reading before after (Ok (Some v)) h = some-map reading.whole h
    (λ tree taken. whole-of {E = E} any l before after (Ok (tree (reading.content v))) taken)
start-whole E l reading before after (Err e) h = some-map reading.whole h
    (λ tree taken. whole-of {E = E} any l before after (Err e) taken)

pub reads-from-start : {T A : Type 0} (E : Type 0) (can_fail : Bool) (l : ℕ) (reading : Reading T A)
    (before after : Option (List ℕ)) (r : Result (Option T) (Error E)) →
    ReadsNextAtFrom can_fail 0 l reading before after r → ReadsNextAsTypeFrom can_fail l reading before after r
reads-from-start E can_fail l reading before after r h = record {
  end = start-end before after r h.end.0;
  ok = h.ok;
  refused = h.refused;
  memory = h.memory;
  taken = h.taken;
  value = start-whole E l reading before after r h.value;
}
