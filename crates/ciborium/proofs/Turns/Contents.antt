-- Strings behind their heads, in each spelling.
use Rattle.std.proofs.Common.{◌≡◌, ℕ, ◌+◌, ◌≤◌, ◌⊎◌, List, [], ◌∷◌, ◌++◌, length, Option, Some, None, Ok, refl, sym, ap}
use Rattle.std.proofs.Common.{Err, Result, ◌∙◌, subst, arith, length-append, append_assoc, inl, inr}
use Rattle.ciborium_ll.specs.{Bytes.greatest_offset, Decoding.left_of, Head.{open_byte, break_byte}}
use Rattle.ciborium_ll.specs.{Header.{SpellsHeader, IsCounted}, Refusal.Refusal, StringRefusal.string_major}
use Rattle.ciborium_ll.specs.{StringRefusal.{PayloadRefuses, ChunksRefuse}, Strings.{ContentRefuses, IsStringTaken}}
use Rattle.ciborium_ll.specs.declared.{decoder.Decoder.Decoder, header.Header.Header, strings.StringType.StringType}
use Rattle.ciborium_value.specs.{declared.tree.Value.Value, Refuses.{HasGoodHead, Refuses}, Spelling.Spelling}
use Rattle.ciborium_value.specs.{View.tree_of, inner.ReadItems.{ReadsItem, string_tree}}
use Rattle.ciborium_value.proofs.GoodItems.Introduced.{reads-string, reads-open_string}
use Rattle.ciborium.specs.{declared.de.error.Error.Error, ValueAnswers.IsRefusedBy, inner.Parts.IsHeadAccepted}
use Rattle.ciborium.specs.inner.{Parts.{IsPartRead, RefusesPart}, StringAnswers.{IsStringPart, IsStringRead}}
use Rattle.ciborium.specs.{declared.de.front.Part.{Part, TheVariants.Whole}, inner.ValuesInBytes.IsAt}
use Rattle.ciborium.proofs.Turns.{Fronts.{Front, string-room, IsNoBreak, no-break}, Pulled.refused-map}
use Rattle.ciborium.proofs.Turns.Heads.{Got, accepted-front, good-head, got}
use Rattle.ciborium_ll.specs.declared.header.Header.TheVariants as header

-- the head of a string of this length
abbrev pub header_of : StringType → Option ℕ → Header
header_of StringType.Bytes len = header.Bytes len
header_of StringType.Text len = header.Text len

counted : (type : StringType) (len : Option ℕ) (b : List ℕ) → SpellsHeader b (header_of type len) →
    IsCounted b (string_major type) len
counted StringType.Bytes len b s = s
counted StringType.Text len b s = s

no-break-type : (type : StringType) (len : Option ℕ) → IsNoBreak (header_of type len)
no-break-type StringType.Bytes len = tt
no-break-type StringType.Text len = tt

of-type : (type : StringType) → (string_major type ≡ 2) ⊎ (string_major type ≡ 3)
of-type StringType.Bytes = inl refl
of-type StringType.Text = inr refl

module _ (spelling : Spelling) (type : StringType) (l : ℕ) (xs : List ℕ) (p : ℕ) (b r : List ℕ)
    (good : HasGoodHead spelling xs p) where
  string-reads : (E : Type 0) (len : Option ℕ) (at : ℕ) (bs added zs : List ℕ) → Front xs p (header_of type len) b r →
      IsStringTaken {E = E} type len at bs (p + length b) (Ok tt) added → r ≡ bs ++ zs →
      p + length b + length bs ≤ greatest_offset →
      ReadsItem spelling (Some l) xs p (string_tree type added) zs (p + length b + length bs)
  string-reads E (Some n) at bs added zs u (inl (over, never, none, nothing)) e f = absurd cc
  string-reads E (Some n) at bs added zs u (inr (within, (size, ok, same))) e f =
      subst (λ c. ReadsItem spelling (Some l) xs p (string_tree type c) zs (p + length b + length bs)) (sym same)
      (subst (λ k. ReadsItem spelling (Some l) xs p (string_tree type bs) zs (p + length b + k)) (sym size)
      (reads-string spelling type xs p n (length b) (Some l) bs zs
      (b, counted type (Some n) b u.spelled, refl, u.split ∙ ap (λ (z : List ℕ). b ++ z) e) size ok good.1
      (omega (arith, f, size))))
  string-reads E None at bs added zs u (payloads, c, parts, room, split, same) e f =
      let one : length b ≡ 1 = ap length (counted type None b u.spelled) in
      let more : length bs ≡ length c + 1 = ap length split ∙ length-append c (break_byte ∷ []) in
      subst (λ z. ReadsItem spelling (Some l) xs p (string_tree type z) zs (p + length b + length bs)) (sym same)
      (subst (ReadsItem spelling (Some l) xs p (string_tree type (Rattle.ciborium_ll.specs.Spells.joined payloads)) zs)
      (omega (arith, one, more))
      (reads-open_string spelling type xs p (Some l) c payloads zs (u.split ∙ ap (λ (z : List ℕ). z ++ r)
      (counted type None b u.spelled) ∙ ap (λ (z : List ℕ). open_byte (string_major type) ∷ z)
      (e ∙ ap (λ (z : List ℕ). z ++ zs) split ∙ append_assoc c (break_byte ∷ []) zs)) parts good.1
      (omega (arith, f, one, more))))

  content-refuses : (len : Option ℕ) (at : ℕ) (e : Refusal) → at ≡ p → Front xs p (header_of type len) b r →
      ContentRefuses type len at r (p + length b) e → Refuses spelling xs p (Some l) e
  content-refuses (Some n) at e here u (inl (over, is)) =
      let room = string-room (string_major type) n p xs b r (of-type type) (counted type (Some n) b u.spelled) u.usable
      u.split in
      absurd (omega (arith, room, over))
  content-refuses (Some n) at e here u (inr (within, refuses)) =
      Refuses.string type good (
        n,
        length b,
        r,
        (b, counted type (Some n) b u.spelled, refl, u.split),
        subst (λ k. PayloadRefuses type n k r e) here refuses,
      )
  content-refuses None at e here u refuses =
      let is = counted type None b u.spelled in
      Refuses.open_string type good (
        r,
        u.split ∙ ap (λ (z : List ℕ). z ++ r) is,
        subst (λ k. ChunksRefuse type r (p + k) e) (ap length is) refuses,
      )

module _ {S W : Type 0} {spelling : Spelling} {remaining : S → Option (List ℕ)} {d : Decoder S W} (e : Decoder S W)
    (l : ℕ) {xs : List ℕ} {p : ℕ} {h : Header} (E : Type 0) (type : StringType) (len : Option ℕ)
    (is : h ≡ header_of type len) where
  got-string : (v : Value) → e.pushed ≡ None → IsHeadAccepted spelling remaining d h xs p →
      ((ys : List ℕ) (q : ℕ) → IsAt remaining d ys q →
      IsStringRead {S = S} {E = E} type remaining e len d.last ys q (Ok v)) →
      Got spelling remaining e l xs p (tree_of v)
  got-string v pushed a read =
      let b : List ℕ = a.pulled.0 in
      let r : List ℕ = a.pulled.1 in
      let c = read r (p + length b) a.pulled.6 in
      got remaining e pushed c.4 (string-reads spelling type l xs p b r (good-head a) E len d.last c.0 c.1 c.2
      (accepted-front is a) c.3 c.5 c.7) c.6

  string-fault : (x : Error E) → IsHeadAccepted spelling remaining d h xs p →
      ((ys : List ℕ) (q : ℕ) → IsAt remaining d ys q →
      IsRefusedBy (left_of remaining e) x (λ r. ContentRefuses type len d.last ys q r)) →
      IsRefusedBy (left_of remaining e) x (RefusesPart spelling xs p l)
  string-fault x a read =
      let b : List ℕ = a.pulled.0 in
      let r : List ℕ = a.pulled.1 in
      let u = accepted-front is a in
      refused-map (left_of remaining e) x (λ f. ContentRefuses type len d.last r (p + length b) f)
      (RefusesPart spelling xs p l)
      (λ f g. (
        content-refuses spelling type l xs p b r (good-head a) len d.last f a.pulled.5 u g,
        no-break (no-break-type type len) u,
      )) (read r (p + length b) a.pulled.6)

  -- either
  pub string-part : (r : Result Part (Error E)) → e.pushed ≡ None → IsHeadAccepted spelling remaining d h xs p →
      ((ys : List ℕ) (q : ℕ) → IsAt remaining d ys q → IsStringPart {S = S} type remaining e len d.last ys q r) →
      IsPartRead spelling remaining e l xs p r
  string-part (Ok (Whole v)) pushed a read = got-string v pushed a read
  string-part (Err x) pushed a read = string-fault x a read
  string-part (Ok part) pushed a read = absurd (read a.pulled.1 (p + length a.pulled.0) a.pulled.6)
