-- What is written under a tag is read back (RFC 8949, section 3.4), from its deterministic form
-- where the tag folds nothing (section 3.4.3).
use Rattle.std.{proofs.{Common.{ap, sym, subst, ◌∙◌, arith}, lemmas.Bool.Decides.nat_tests}, specs.Prelude.{◌≡◌, ℕ}}
use Rattle.std.specs.Prelude.{suc, Bool, true, false, nat_lt, List, Option, Some, None, Ok, Err, IfOk, if◌then◌else◌}
use Rattle.std.specs.Prelude.{refl}
use Rattle.ciborium_ll.specs.Item.{Item}
use Rattle.ciborium_value.specs.{DeterministicForms.{deterministic_form, tag_form}, Encoding.item_of}
use Rattle.ciborium_value.specs.{Folded.{short_bytes, tree_folding_bytes}, Given.{Given, deeper, gives, mapped}}
use Rattle.ciborium_value.specs.Given.{outcome, outcome_map, outer_tag, refuses, then_take, within_level}
use Rattle.ciborium_value.specs.{GivenParts.given_then, Meaning.is_bignum_tag, Nesting.{Limit, IsWithin}}
use Rattle.ciborium_value.specs.{NeverWritten.{Avoided, IsNever, IsOther, byte_strings, nulls}, ReadsBack.IsItemRead}
use Rattle.ciborium_value.specs.ReadsBack.{IsNameRead, IsPlain, Way, at, by_bytes, by_form, by_tree, met, name-back}
use Rattle.ciborium_value.specs.{ReadsBack.of_ok, Sinks.{Named, tag_of}, TagReadings.{if_tag, is_no_other_tag, is_tag}}
use Rattle.ciborium_value.specs.{TagReadings.given_with_tag, Tree.Tree, WrittenTrees.written_tree}
use Rattle.ciborium_value.specs.{declared.key_order.KeyOrder.KeyOrder, lemmas.GivenOutcomes.{mapped_gives, one_given}}
use Rattle.ciborium_value.specs.lemmas.MetItems.{form-kept, inside}
use Rattle.ciborium.specs.Tags.{captured_of}
use Rattle.ciborium_ll.specs.Item as items
use Rattle.ciborium_value.specs.Tree as trees
use Rattle.ciborium_ll.specs.declared.kind.Kind.TheVariants as kinds

-- what is written without a tag around it has none of its own, as a bignum has
abbrev pub IsToldApart : Option ℕ → Named → Type 0
IsToldApart (Some t) r = Unit {0}
IsToldApart None r = IfOk r (λ i. outer_tag i ≡ (None, i))

-- ---- what has no tag is met without one

abbrev IsUntagged : Item → Type 0
IsUntagged i = outer_tag i ≡ (None, i)

untagged-either : (t : Bool) (v w : Tree) → IsUntagged (item_of v) → IsUntagged (item_of w) →
    IsUntagged (item_of (if t then v else w))
untagged-either true v w h k = h
untagged-either false v w h k = k

tree-untagged : (i : Item) → IsUntagged i → IsUntagged (item_of (written_tree i))
tree-untagged (items.tag t i) e = let some : Some t ≡ None = ap (λ p. p.0) e in cc
tree-untagged (items.simple n) e =
    untagged-either (nat_lt n 21) (trees.boolean false) (if nat_lt n 22 then trees.boolean true else trees.null) refl
    (untagged-either (nat_lt n 22) (trees.boolean true) trees.null refl refl)
tree-untagged _ e = refl

form-untagged : (o : KeyOrder) (t u : Tree) → IsUntagged (item_of t) →
    deterministic_form o t ≡ gives u → IsUntagged (item_of u)
form-untagged o = form-kept o (λ t. IsUntagged (item_of t))
    (λ t v u h form. absurd (let some : Some t ≡ None = ap (λ p. p.0) h in cc)) (λ vs. refl)
    (λ ps. refl)

met-untagged : (way : Way) (i j : Item) → IsUntagged i → met way i ≡ gives j → IsUntagged j
met-untagged by_bytes i j h e = subst IsUntagged (one_given i j e) h
met-untagged by_tree i j h e = subst IsUntagged (one_given (item_of (written_tree i)) j e) (tree-untagged i h)
met-untagged (by_form o) i j h e =
    let (t, form, same) = mapped_gives item_of (deterministic_form o (written_tree i)) j e in
    subst IsUntagged same (form-untagged o (written_tree i) t (tree-untagged i h) form)

-- ---- what is met under a tag

either_none : (c : Bool) (m : Option (List ℕ)) → m ≡ None → (if c then m else None) ≡ None
either_none true m h = h
either_none false m h = refl

-- where a form is read, the tag, if there is one, folds nothing over the item that is named
abbrev pub IsUnfolded : Way → Option ℕ → Named → Type 0
IsUnfolded by_bytes m r = Unit {0}
IsUnfolded by_tree m r = Unit {0}
IsUnfolded (by_form o) None r = Unit {0}
IsUnfolded (by_form o) (Some t) r = (i : Item) → r ≡ Ok i → tree_folding_bytes t (written_tree i) ≡ None

pub plain-unfolded : (way : Way) → IsPlain way → (m : Option ℕ) (r : Named) → IsUnfolded way m r
plain-unfolded by_bytes plain m r = tt
plain-unfolded by_tree plain m r = tt
plain-unfolded (by_form o) plain m r = absurd plain

-- no tag does over what is no byte string
pub not_bytes : (way : Way) (m : Option ℕ) {r : Named} → IsNever byte_strings r → IsUnfolded way m r
not_bytes by_bytes m never = tt
not_bytes by_tree m never = tt
not_bytes (by_form o) None never = tt
not_bytes (by_form o) (Some t) never = λ i e. either_none (is_bignum_tag t) (short_bytes (written_tree i)) (never i e)

-- and a tag but 2 and 3 over nothing
pub no_bignum : (way : Way) (t : ℕ) (r : Named) → is_bignum_tag t ≡ false → IsUnfolded way (Some t) r
no_bignum by_bytes t r h = tt
no_bignum by_tree t r h = tt
no_bignum (by_form o) t r h = λ i e. ap (λ c. if c then short_bytes (written_tree i) else None) h

-- so a tag is met over what is met
met-tag : (way : Way) (t : ℕ) (i j : Item) → IsUnfolded way (Some t) (Ok i) →
    met way (items.tag t i) ≡ gives j → (u : Item) × (met way i ≡ gives u) × (items.tag t u ≡ j)
met-tag by_bytes t i j never e = (i, refl, one_given (items.tag t i) j e)
met-tag by_tree t i j never e =
    let u = item_of (written_tree i) in
    (u, refl, one_given (items.tag t u) j e)
met-tag (by_form o) t i j never e =
    let content = deterministic_form o (written_tree i) in
    let (v, form, same) = mapped_gives item_of
    (tag_form t (tree_folding_bytes t (written_tree i)) content) j e in
    let (w, is, over) = mapped_gives (trees.tag t) content v
    (sym (ap (λ b. tag_form t b content) (never i refl)) ∙ form) in
    (item_of w, ap (outcome_map item_of) is, ap item_of over ∙ same)

-- ---- types under tags

-- an item is read with its outermost tag, where what is under it is read with a level less
under : {C : Type 0} (taken : Given C) (c : C) (n : ℕ) (m : Option ℕ) (j u : Item) →
    outer_tag j ≡ (m, u) → ((l : Limit) → IsWithin l n → outcome l (taken u) ≡ gives c) →
    (l : Limit) → IsWithin l (suc n) → outcome l (given_with_tag taken j) ≡ gives (m, c)
under taken c n m j u e h l fits = ap (λ p. then_take (within_level l (gives p))
    (λ q. outcome (deeper l) (mapped (λ v. (q.0, v)) (taken q.1)))) e ∙
    inside (λ p. true) (λ p. mapped (λ v. (p.0, v)) (taken p.1)) (m, u) (m, c) n refl
    (λ k less. ap (outcome_map (λ v. (m, v))) (h k less)) l fits

captured-read : {C : Type 0} (way : Way) (taken : Given C) (c : C) (n : ℕ) (m : Option ℕ)
    (r : Named) → IsToldApart m r → IsUnfolded way m r → IfOk r (IsItemRead way taken c n) →
    IfOk (captured_of m r) (IsItemRead way (given_with_tag taken) (m, c) (suc n))
captured-read way taken c n (Some t) (Ok i) told never h = λ j e l fits.
    let (u, is, same) = met-tag way t i j never e in
    subst (λ x. outcome l (given_with_tag taken x) ≡ gives (Some t, c)) same
    (under taken c n (Some t) (items.tag t u) u refl (h u is) l fits)
captured-read way taken c n None (Ok i) told never h = λ j e l fits.
    under taken c n None j j (met-untagged way i j told e) (h j e) l fits
captured-read way taken c n u v told never h = tt

itself : (t : ℕ) → is_tag t (Some t) ≡ true
itself t = grind (arith, nat_tests)

module _ {C : Type 0} {way : Way} {taken : Given C} {c : C} {n : ℕ} where
  pub captured-back : (m : Option ℕ) {r : Named} → IsToldApart m r → IsUnfolded way m r →
      IsNameRead way r taken c n → IsNameRead way (captured_of m r) (given_with_tag taken) (m, c) (suc n)
  captured-back m {r = r} told never h = name-back (captured_of m r) (captured-read way taken c n m r told never (at h))

  -- under a tag that passes this test
  tested-back : (test : Option ℕ → Bool) (t : ℕ) {r : Named} → test (Some t) ≡ true →
      IsUnfolded way (Some t) r → IsNameRead way r taken c n →
      IsNameRead way (tag_of t r) (given_then (given_with_tag taken) (if_tag test)) c (suc n)
  tested-back test t passes never h = record {
    back = λ i e j is l fits. ap (λ o. then_take o (λ p. outcome l (if_tag test p)))
        ((captured-back (Some t) tt never h).back i e j is l fits) ∙
        ap (λ s. if s then gives c else refuses kinds.Tag) passes;
  }

  pub required-back : (t : ℕ) {r : Named} → IsUnfolded way (Some t) r → IsNameRead way r taken c n →
      IsNameRead way (tag_of t r) (given_then (given_with_tag taken) (if_tag (is_tag t))) c (suc n)
  required-back t never h = tested-back (is_tag t) t (itself t) never h

  pub accepted-back : (t : ℕ) {r : Named} → IsUnfolded way (Some t) r → IsNameRead way r taken c n →
      IsNameRead way (tag_of t r) (given_then (given_with_tag taken) (if_tag (is_no_other_tag t))) c (suc n)
  accepted-back t never h = tested-back (is_no_other_tag t) t (itself t) never h

-- ---- a tag is neither null nor a byte string, whatever stands under it

tag-other : (a : Avoided) (t : ℕ) (r : Named) → IfOk (tag_of t r) (IsOther a)
tag-other nulls t (Ok j) = (refl, refl)
tag-other byte_strings t (Ok j) = refl
tag-other a t (Err k) = tt

pub tag-never : (a : Avoided) (t : ℕ) (r : Named) → IsNever a (tag_of t r)
tag-never a t r = of_ok (tag_of t r) (IsOther a) (tag-other a t r)

pub captured-never : (a : Avoided) (o : Option ℕ) {r : Named} → IsNever a r → IsNever a (captured_of o r)
captured-never a (Some t) {r = r} h = tag-never a t r
captured-never a None h = h
