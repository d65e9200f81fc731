-- Options of what is never written as null or undefined are read back: what is not null is not null
-- in its deterministic form either.
use Rattle.std.{proofs.Common.{ap, subst, sym, ◌∙◌}, specs.{Option.option_map, Prelude.{◌≡◌, ℕ, ◌^◌, pos, negsuc}}}
use Rattle.std.specs.Prelude.{Bool, true, false, List, Option, Some, None, IfSome, if◌then◌else◌, ◌==◌, nat_lt, refl}
use Rattle.ciborium_ll.specs.Item.{Item}
use Rattle.ciborium_value.specs.{DeterministicForms.{deterministic_form, tag_form}, Encoding.item_of}
use Rattle.ciborium_value.specs.{Folded.tree_folding_bytes, Given.{Outcome, Given, gives, is_null, outcome}}
use Rattle.ciborium_value.specs.{Given.outcome_map, GivenParts.given_option, Meaning.{big_endian, bignum_meaning}}
use Rattle.ciborium_value.specs.{Meaning.{negative_bignum, unsigned_bignum, without_zeros}, Nesting.Limit}
use Rattle.ciborium_value.specs.{NeverWritten.{IsNever, IsOther, nulls}, ReadsBack.{IsNameRead, IsReadBack, Way}}
use Rattle.ciborium_value.specs.{ReadsBack.{by_bytes, by_form, by_tree, item-back, met, met-null}, Sinks.Named}
use Rattle.ciborium_value.specs.{Sinks.or_null, Tree.Tree, WrittenTrees.written_tree}
use Rattle.ciborium_value.specs.{declared.key_order.KeyOrder.KeyOrder, lemmas.GivenOutcomes.mapped_gives}
use Rattle.ciborium_value.specs.{lemmas.GivenOutcomes.{meaning_given, one_given}, lemmas.MetItems.form-kept}
use Rattle.ciborium_ll.specs.Item as items
use Rattle.ciborium_value.specs.Tree as trees
use Rattle.ciborium_ll.specs.declared.kind.Kind.TheVariants as kinds

-- the levels of what there is
abbrev pub option_levels : {T : Type 0} → (T → ℕ) → Option T → ℕ
option_levels levels None = 0
option_levels levels (Some v) = levels v

-- ---- forms that are not null

abbrev IsNotNull : Tree → Type 0
IsNotNull t = is_null (item_of t) ≡ false

-- of what there is
abbrev IfThere : Option Tree → Type 0
IfThere o = IfSome o IsNotNull

either : (c : Bool) (m n : Option Tree) → IfThere m → IfThere n → IfThere (if c then m else n)
either true m n h k = h
either false m n h k = k

-- what bytes mean on which a tag folds
bignum-not_null : (t : ℕ) (b : List ℕ) → IfThere (bignum_meaning t b)
unfolding bignum_meaning
bignum-not_null t b =
    let n : ℕ = big_endian b in
    let c : List ℕ = without_zeros b in
    either (t == 2) (unsigned_bignum n c) (negative_bignum n c)
    (either (nat_lt n (2 ^ 64)) (Some (trees.integer (pos n))) (Some (trees.tag 2 (trees.bytes c)))
    refl refl)
    (either (nat_lt n (2 ^ 64)) (Some (trees.integer (negsuc n)))
    (if nat_lt n (2 ^ 127) then Some (trees.tag 3 (trees.bytes c)) else None) refl
    (either (nat_lt n (2 ^ 127)) (Some (trees.tag 3 (trees.bytes c))) None refl tt))

tag_form-not_null : (t : ℕ) (b : Option (List ℕ)) (r : Outcome Tree) (u : Tree) → tag_form t b r ≡ gives u → IsNotNull u
tag_form-not_null t (Some b) r u form = subst IfThere
    (meaning_given kinds.TooLarge (bignum_meaning t b) u form) (bignum-not_null t b)
tag_form-not_null t None r u form = let (w, is, same) = mapped_gives (trees.tag t) r u form in
    ap (λ v. is_null (item_of v)) (sym same)

form-not_null : (o : KeyOrder) (t u : Tree) → IsNotNull t → deterministic_form o t ≡ gives u → IsNotNull u
form-not_null o = form-kept o IsNotNull (λ t v u h form. tag_form-not_null t
    (tree_folding_bytes t v) (deterministic_form o v) u form) (λ vs. refl) (λ ps. refl)

met-not_null : (way : Way) (i j : Item) → IsOther nulls i → met way i ≡ gives j → is_null j ≡ false
met-not_null by_bytes i j h e = ap is_null (sym (one_given i j e)) ∙ h.0
met-not_null by_tree i j h e = ap is_null (sym (one_given (item_of (written_tree i)) j e)) ∙ h.1
met-not_null (by_form o) i j h e =
    let (t, form, same) = mapped_gives item_of (deterministic_form o (written_tree i)) j e in
    ap is_null (sym same) ∙ form-not_null o (written_tree i) t h.1 form

-- ---- options

some-back : {C : Type 0} (taken : Given C) (l : Limit) (i : Item) (c : C) → is_null i ≡ false →
    outcome l (taken i) ≡ gives c → outcome l (given_option taken i) ≡ gives (Some c)
some-back taken l i c never h =
    ap (λ t. if t then gives None else outcome_map Some (outcome l (taken i))) never ∙ ap (outcome_map Some) h

something-back : {C : Type 0} {way : Way} (taken : Given C) {r : Named} {c : C} {n : ℕ} →
    IsNameRead way r taken c n → IsNever nulls r → IsNameRead way r (given_option taken) (Some c) n
something-back {way = way} taken {c = c} law never = record {
  back = λ i e j is l fits. some-back taken l j c (met-not_null way i j (never i e) is)
      (law.back i e j is l fits);
}

pub option-back : {T C : Type 0} {way : Way} {IsValid : T → Type 0} {written : T → Named}
    {taken : Given C} {content : T → C} {levels : T → ℕ} → IsReadBack way IsValid written taken content levels →
    ((v : T) → IsNever nulls (written v)) → IsReadBack way (λ o. IfSome o IsValid)
    (or_null written) (given_option taken) (option_map content) (option_levels levels)
option-back {way = way} {taken = taken} back never None valid =
    item-back (items.simple 22) (given_option taken) (met-null way) (λ l fits. refl)
option-back {taken = taken} back never (Some v) valid = something-back taken (back v valid) (never v)
