-- What is written of an enum by the names of its variants is read back.
use Rattle.std.proofs.Common.{ap, sym, subst, ◌∙◌}
use Rattle.std.specs.Prelude.{◌≡◌, ℕ, suc, false, true, List, [], ◌∷◌, Ok, Err, IfOk, refl}
use Rattle.ciborium_ll.specs.Item.{Item, Pairs, no_pairs, pair}
use Rattle.ciborium_value.specs.{Nesting.{Limit, IsWithin}, Labels.{fields_of, named}, Readings.Reading}
use Rattle.ciborium_value.specs.ReadsBack.{IsItemRead, IsNameRead, Way, at, item-back, met, met-text, name-back}
use Rattle.ciborium_value.specs.{Sinks.{Named, named_text}, Given.{give, gives, outcome, then_take, unpack_pairs}}
use Rattle.ciborium_value.specs.{GivenParts.given_then, VariantReadings.{Variant, given_data, given_enum}}
use Rattle.ciborium_value.specs.{lemmas.GivenOutcomes.one_given, lemmas.MetItems.{ArePairsMet, inside, map-met}}
use Rattle.ciborium_value.specs.lemmas.Reordered.{IsAlone, alone-reordered}
use Rattle.ciborium_ll.specs.Item as items

module _ {C : Type 0} (vs : List (Variant C)) (name : List ℕ) where
  -- the data is read on under its name
  under : (v : Item) (c : C) (n : ℕ) →
      ((l : Limit) → IsWithin l n → outcome l (given_data vs name v) ≡ gives c) → (l : Limit) → IsWithin l (suc n) →
      outcome l (given_enum vs (items.map false (pair (items.text false name) v no_pairs))) ≡ gives c
  under v c n h = inside (λ p. true) (λ p. given_data vs p.0 p.1) (name, v) c n refl h

  -- a variant without data: `λ l. refl` shows that the name is its own
  pub unit_variant_back : {way : Way} {c : C} →
      ((l : Limit) → outcome l (given_data vs name (items.simple 22)) ≡ gives c) →
      IsNameRead way (named_text name) (given_enum vs) c 1
  unit_variant_back {way = way} {c = c} h = item-back (items.text false name) (given_enum vs) (met-text name way)
      (inside (λ p. true) (λ p. given_data vs p.0 p.1) (name, items.simple 22) c 0 refl (λ l fits. h l))

  module _ (way : Way) (i : Item) (c : C) (n : ℕ) (h : IsItemRead way (given_data vs name) c n i)
    where
      -- the name, and what is met of the data
      abbrev IsVariant : Item × Item → Type 0
      IsVariant p = (p.0 ≡ items.text false name) × (met way i ≡ gives p.1)

      met-alone : (qs : List (Item × Item)) →
          ArePairsMet way (pair (items.text false name) i no_pairs) qs → IsAlone IsVariant qs
      met-alone [] each = absurd each
      met-alone (q ∷ []) each = (
        (one_given q.0 (items.text false name) (sym each.0 ∙ met-text name way), each.1),
        tt,
      )
      met-alone (q ∷ r ∷ qs) each = absurd each.2

      of_pairs : (ps : Pairs) → IsAlone IsVariant (unpack_pairs ps) → (l : Limit) →
          IsWithin l (suc n) → outcome l (given_enum vs (items.map false ps)) ≡ gives c
      of_pairs no_pairs alone l fits = absurd alone
      of_pairs (pair k v no_pairs) alone l fits =
          ap (λ x. outcome l (given_enum vs (items.map false (pair x v no_pairs)))) alone.0.0 ∙
          under v c n (h v alone.0.1) l fits
      of_pairs (pair k v (pair x y ps)) alone l fits = absurd alone.1

      of_map : IsItemRead way (given_enum vs) c (suc n) (items.map false (pair (items.text false name) i no_pairs))
      of_map j e l fits =
          let (qs, ps, each, order, same) =
          map-met way (pair (items.text false name) i no_pairs) j e in
          subst (λ x. outcome l (given_enum vs x) ≡ gives c) same
          (of_pairs ps (alone-reordered IsVariant order (met-alone qs each)) l fits)

  -- a variant with data: `λ l i. refl` shows that the name is its own
  pub data_variant_back : {U A : Type 0} (make : A → C) (r : Reading U A) {way : Way} {w : Named}
      {a : A} {n : ℕ} → ((l : Limit) (i : Item) → outcome l (given_data vs name i) ≡ outcome l
      (given_then r.taken (λ v. give (make v)) i)) → IsNameRead way w r.taken a n →
      IsNameRead way (fields_of ((named name, w) ∷ [])) (given_enum vs) (make a) (suc n)
  data_variant_back make r {way = way} {w = w} {a = a} {n = n} same law =
      name-back (fields_of ((named name, w) ∷ [])) (by w (at law))
    where
      by : (w : Named) → IfOk w (IsItemRead way r.taken a n) →
          IfOk (fields_of ((named name, w) ∷ [])) (IsItemRead way (given_enum vs) (make a) (suc n))
      by (Ok i) h = of_map way i (make a) n (λ j e l fits. same l j ∙
          ap (λ o. then_take o (λ v. gives (make v))) (h j e l fits))
      by (Err k) h = tt
