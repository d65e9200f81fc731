-- What a head gives or refuses by itself, in each spelling.
use Rattle.std.proofs.Common.{◌≡◌, ℕ, suc, ◌+◌, ◌-◌, ◌<◌, ◌≤◌, Bool, true, false, List, [], ◌∷◌, ◌++◌, length, Option}
use Rattle.std.proofs.Common.{Some, None, Result, Ok, Err, pos, negsuc, refl, sym, ap, ◌∙◌, subst, arith, inl, inr}
use Rattle.ciborium_ll.specs.{Bytes.greatest_offset, Decoding.left_of, Head.break_byte, Header.SpellsHeader}
use Rattle.ciborium_ll.specs.Refusal.{semantic, recursion_limit_exceeded, IsUsable}
use Rattle.ciborium_ll.specs.declared.{decoder.Decoder.Decoder, header.Header.Header}
use Rattle.ciborium_value.proofs.GoodItems.Introduced.{reads-positive, reads-negative, reads-simple}
use Rattle.ciborium_value.{proofs.GoodItems.Introduced.reads-container, specs.{Meaning.simple_meaning, Refuses.Due}}
use Rattle.ciborium_value.specs.{Refuses.{items, keys, BeginsContainer, IsInside, Refuses}, Spelling.Spelling}
use Rattle.ciborium_value.specs.{Tree.Tree, inner.ReadItems.ReadsItem}
use Rattle.ciborium.proofs.Turns.Fronts.{Front, front-fits, IsNoBreak, no-break}
use Rattle.ciborium.proofs.Turns.Heads.{Got, accepted-front, good-head, got, stands-at}
use Rattle.ciborium.specs.ValueAnswers.{IsRefusedBy}
use Rattle.ciborium.specs.declared.de.{error.Error.Error, front.Part.{Part, TheVariants.{Whole, Begun, Ended}}}
use Rattle.ciborium.specs.inner.{Around.IsUnfinished, Parts.{IsHeadAccepted, IsPartRead, RefusesPart, IsContainerBegun}}
use Rattle.ciborium.specs.inner.Parts.{IsSimpleRead}
use Rattle.ciborium.specs.inner.Parts.{IsBehind, container_header, empty_container, begun_container}
use Rattle.ciborium.specs.inner.ValuesInBytes.{StandsAt}
use Rattle.ciborium_ll.specs.declared.header.Header.TheVariants as header
use Rattle.ciborium_ll.specs.declared.kind.Kind.TheVariants as kinds
use Rattle.ciborium_value.specs.Tree as trees

module _ {S W : Type 0} {spelling : Spelling} {remaining : S → Option (List ℕ)} {d : Decoder S W} {xs : List ℕ} {p : ℕ}
    {h : Header} where
  -- the head is a whole item
  got-alone : {l : ℕ} {k : Header} {t u : Tree} → d.pushed ≡ None → u ≡ t → h ≡ k →
      (a : IsHeadAccepted spelling remaining d h xs p) →
      (Front xs p k a.pulled.0 a.pulled.1 → p + length a.pulled.0 ≤ greatest_offset →
      ReadsItem spelling (Some l) xs p t a.pulled.1 (p + length a.pulled.0)) → Got spelling remaining d l xs p u
  got-alone pushed same is a reads =
      let u = accepted-front is a in got remaining d pushed same (reads u (front-fits u)) a.pulled.6

  pub got-positive : {l n : ℕ} {t : Tree} → d.pushed ≡ None → t ≡ trees.integer (pos n) → h ≡ header.Positive n →
      IsHeadAccepted spelling remaining d h xs p → Got spelling remaining d l xs p t
  got-positive {l} {n} pushed same is a = got-alone pushed same is a (λ u. reads-positive spelling xs p n
      (length a.pulled.0) (Some l) a.pulled.1 (a.pulled.0, u.spelled, refl, u.split) (good-head a).1)

  pub got-negative : {l n : ℕ} {t : Tree} → d.pushed ≡ None → t ≡ trees.integer (negsuc n) → h ≡ header.Negative n →
      IsHeadAccepted spelling remaining d h xs p → Got spelling remaining d l xs p t
  got-negative {l} {n} pushed same is a = got-alone pushed same is a (λ u. reads-negative spelling xs p n
      (length a.pulled.0) (Some l) a.pulled.1 (a.pulled.0, u.spelled, refl, u.split) (good-head a).1)

  got-simple : {l n : ℕ} {t : Tree} → d.pushed ≡ None → simple_meaning n ≡ Some t → h ≡ header.Simple n →
      IsHeadAccepted spelling remaining d h xs p → Got spelling remaining d l xs p t
  got-simple {l} {n} {t} pushed means is a = got-alone pushed refl is a (λ u. reads-simple spelling xs p (Some l)
      a.pulled.0 n a.pulled.1 t u.spelled u.split means (good-head a).1)

  pub got-end : d.pushed ≡ None → h ≡ header.Break → IsHeadAccepted spelling remaining d h xs p → (zs : List ℕ) ×
      (xs ≡ break_byte ∷ zs) × (p < greatest_offset) × StandsAt spelling remaining d zs (p + 1)
  got-end pushed is a =
      let r : List ℕ = a.pulled.1 in
      let u = accepted-front is a in
      let size : length a.pulled.0 ≡ 1 = ap length u.spelled in
      let fit = front-fits u in (
        r,
        u.split ∙ ap (λ (z : List ℕ). z ++ r) u.spelled,
        omega (arith, size, fit),
        subst (λ n. StandsAt spelling remaining d r (p + n)) size
            (stands-at spelling remaining d (p + length a.pulled.0) r pushed a.pulled.6),
      )

module _ {S W : Type 0} (remaining : S → Option (List ℕ)) (d : Decoder S W) (l : ℕ) (xs : List ℕ) (p : ℕ) (h : Header)
    (pushed : d.pushed ≡ None) where
  -- ---- arrays and maps

  abbrev due_of : Bool → Option ℕ → Due
  due_of false count = items count
  due_of true count = keys count

  opens : (is_map : Bool) (count : Option ℕ) (b r : List ℕ) → Front xs p (container_header is_map count) b r →
      BeginsContainer xs (length b) r (due_of is_map count)
  opens false (Some n) b r u = BeginsContainer.array n (b, u.spelled, refl, u.split)
  opens true (Some n) b r u = BeginsContainer.map n (b, u.spelled, refl, u.split)
  opens false None b r u = BeginsContainer.open_array (ap length u.spelled)
      (u.split ∙ ap (λ (z : List ℕ). z ++ r) u.spelled)
  opens true None b r u = BeginsContainer.open_map (ap length u.spelled)
      (u.split ∙ ap (λ (z : List ℕ). z ++ r) u.spelled)

  begun-open : (spelling : Spelling) (is_map : Bool) (count behind : Option ℕ) (m : ℕ) (r : List ℕ) (q : ℕ) →
      IsBehind count behind → IsInside spelling xs p (Some (suc m)) [] r q (due_of is_map count) (Some m) →
      IsUnfinished spelling (begun_container is_map behind) m xs p r q
  begun-open spelling is_map (Some n) None m r q e i = absurd e
  begun-open spelling is_map None (Some k) m r q e i = absurd e
  begun-open spelling false None None m r q e i = i
  begun-open spelling true None None m r q e i = i
  begun-open spelling false (Some n) (Some k) m r q e i =
      subst (λ c. IsInside spelling xs p (Some (suc m)) [] r q (items (Some c)) (Some m)) e i
  begun-open spelling true (Some n) (Some k) m r q e i =
      subst (λ c. IsInside spelling xs p (Some (suc m)) [] r q (keys (Some c)) (Some m)) e i

  no-container-break : (is_map : Bool) (count : Option ℕ) → IsNoBreak (container_header is_map count)
  no-container-break false count = tt
  no-container-break true count = tt

  -- an array or map without parts
  empty-item : (spelling : Spelling) (is_map : Bool) (m : ℕ) (r : List ℕ) (q : ℕ) →
      IsInside spelling xs p (Some (suc m)) [] r q (due_of is_map (Some 0)) (Some m) →
      ReadsItem spelling (Some (suc m)) xs p (empty_container is_map) r q
  empty-item spelling false m r q i =
      reads-container spelling xs p (Some (suc m)) (Some m) [] r r q q (items (Some 0)) i (refl, refl, refl)
  empty-item spelling true m r q i =
      reads-container spelling xs p (Some (suc m)) (Some m) [] r r q q (keys (Some 0)) i (refl, refl, refl)

  pub container-part : (spelling : Spelling) (E : Type 0) (is_map : Bool) (count : Option ℕ)
      (x : Result Part (Error E)) → h ≡ container_header is_map count → IsHeadAccepted spelling remaining d h xs p →
      IsContainerBegun is_map count l x → IsPartRead spelling remaining d l xs p x
  container-part spelling E is_map count x is a s = by x s
    where
      r : List ℕ
      r = a.pulled.1

      q : ℕ
      q = p + length a.pulled.0

      u : Front xs p (container_header is_map count) a.pulled.0 a.pulled.1
      u = accepted-front is a

      inside : (m : ℕ) → IsInside spelling xs p (Some (suc m)) [] a.pulled.1 (p + length a.pulled.0)
          (due_of is_map count) (Some m)
      inside m = IsInside.begun (good-head a) (opens is_map count a.pulled.0 a.pulled.1 u) refl (front-fits u)

      by : (x : Result Part (Error E)) → IsContainerBegun is_map count l x → IsPartRead spelling remaining d l xs p x
      by (Ok (Whole v)) (none, some, same) =
          let less : l ≡ suc (l - 1) = omega (arith, some) in
          got remaining d pushed same
          (subst (λ n. ReadsItem spelling (Some n) xs p (empty_container is_map) r q) (sym less)
          (empty-item spelling is_map (l - 1) r q (subst (λ c. IsInside spelling xs p (Some (suc (l - 1))) [] r q
          (due_of is_map c) (Some (l - 1))) none (inside (l - 1))))) a.pulled.6
      by (Ok (Begun f)) (some, behind, same, left) =
          let less : l ≡ suc (l - 1) = omega (arith, some) in (
            r,
            q,
            (
              l - 1,
              less,
              subst (λ o. IsUnfinished spelling o (l - 1) xs p r q) (sym same)
                  (begun-open spelling is_map count behind (l - 1) r q left (inside (l - 1))),
            ),
            stands-at spelling remaining d q r pushed a.pulled.6,
          )
      by (Ok Ended) s = absurd s
      by (Err e) (none, same) =
          subst (λ z. IsRefusedBy (left_of remaining d) z (RefusesPart spelling xs p l)) (sym same) (
            subst (λ n. Refuses spelling xs p (Some n) recursion_limit_exceeded) (sym none)
                (Refuses.no_level (length a.pulled.0) r (due_of is_map count) (good-head a)
                (opens is_map count a.pulled.0 r u)),
            no-break (no-container-break is_map count) u,
          )

-- ---- what has no meaning by itself

module _ {S W : Type 0} {spelling : Spelling} {remaining : S → Option (List ℕ)} {d : Decoder S W} {l : ℕ} {xs : List ℕ}
    {p : ℕ} {h : Header} where
  simple-refuses : {n : ℕ} → simple_meaning n ≡ None → h ≡ header.Simple n →
      IsHeadAccepted spelling remaining d h xs p → RefusesPart spelling xs p l (semantic p kinds.Simple)
  simple-refuses {n} none is a =
      let u = accepted-front is a in
      (Refuses.simple a.pulled.0 n a.pulled.1 u.usable u.spelled none u.split, no-break tt u)

  pub float-refuses : {n : ℕ} → h ≡ header.Float n → IsHeadAccepted spelling remaining d h xs p →
      RefusesPart spelling xs p l (semantic p kinds.Float)
  float-refuses {n} is a = (by a.pulled.0 u.spelled u.split, no-break tt u)
    where
      u : Front xs p (header.Float n) a.pulled.0 a.pulled.1
      u = accepted-front is a

      at : (x : ℕ) (raw : List ℕ) → xs ≡ (x ∷ raw) ++ a.pulled.1 → 0xf9 ≤ x → x ≤ 0xfb →
          Refuses spelling xs p (Some l) (semantic p kinds.Float)
      at x raw e low high = subst (λ z. Refuses spelling z p (Some l) (semantic p kinds.Float)) (sym e)
          (Refuses.float {x = x} {b = raw ++ a.pulled.1} {p = p} (subst (λ z. IsUsable z p) e u.usable) low high)

      by : (b : List ℕ) → SpellsHeader b (header.Float n) → xs ≡ b ++ a.pulled.1 →
          Refuses spelling xs p (Some l) (semantic p kinds.Float)
      by b (raw, (inl s), k) e = at 0xf9 raw (e ∙ ap (λ (z : List ℕ). z ++ a.pulled.1) s.1) (omega arith) (omega arith)
      by b (raw, (inr (inl s)), k) e = at 0xfa raw (e ∙ ap (λ (z : List ℕ). z ++ a.pulled.1) s.1) (omega arith)
          (omega arith)
      by b (raw, (inr (inr s)), k) e = at 0xfb raw (e ∙ ap (λ (z : List ℕ). z ++ a.pulled.1) s.1) (omega arith)
          (omega arith)

pub simple-part : {S W E : Type 0} {spelling : Spelling} {remaining : S → Option (List ℕ)} {d : Decoder S W}
    {xs : List ℕ} {p : ℕ} {h : Header} (l n q : ℕ) (r : Result Part (Error E)) → d.pushed ≡ None →
    h ≡ header.Simple n → q ≡ p → IsSimpleRead n q r → IsHeadAccepted spelling remaining d h xs p →
    IsPartRead spelling remaining d l xs p r
simple-part l n q (Ok (Whole v)) pushed is at means a = got-simple pushed means is a
simple-part l n q (Ok part) pushed is at means a = absurd means
simple-part {spelling = spelling} {remaining} {d} {xs} {p} l n q (Err e) pushed is at (none, same) a =
    subst (λ z. IsRefusedBy (left_of remaining d) z (RefusesPart spelling xs p l)) (sym same)
    (subst (λ k. RefusesPart spelling xs p l (semantic k kinds.Simple)) (sym at) (simple-refuses none is a))
