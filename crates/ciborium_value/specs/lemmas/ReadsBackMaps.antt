-- What is written of a map is read back: a form has the same pairs in another order, and reading
-- puts them in the order of the keys again.
use Rattle.std.{proofs.{Common.{ap, subst, ◌∙◌}, lemmas.List.Elements.{All-head, All-tail}}, specs.BTreeMap.BTreeMap}
use Rattle.std.specs.{BTreeMap.IsOrdered, Cmp.IsTotalOrder, List.All, Prelude.{◌≡◌, ℕ, suc, max, Bool, true, false}}
use Rattle.std.specs.{Prelude.{List, [], ◌∷◌, Result, Ok, Err, IfOk, refl}, declared.cmp.Ordering.Ordering}
use Rattle.ciborium_ll.specs.{Item.Item, declared.kind.Kind.Kind}
use Rattle.ciborium_value.specs.Given.{Given, gives, outcome, take_each, then_take, unpack_pairs}
use Rattle.ciborium_value.specs.{GivenParts.{given_map, put_all, put_each, take_entry}, Nesting.{Limit, IsWithin}}
use Rattle.ciborium_value.specs.{Places.{a_map, pairs_from}, ReadsBack.{IsItemRead, IsNameRead, IsReadBack, Way}}
use Rattle.ciborium_value.specs.{ReadsBack.{at, name-back}, Sinks.{Named, and_then, all_named, contained, container_of}}
use Rattle.ciborium_value.specs.{Sinks.in_turn, WrittenContents.contents}
use Rattle.ciborium_value.specs.lemmas.{GivenOutcomes.and_take, MetItems.{ArePairsMet, inside, map-met}}
use Rattle.ciborium_value.specs.lemmas.PutEntries.{AreNew, apart-reordered, contents-apart, put-new, reordered-contents}
use Rattle.ciborium_value.specs.lemmas.{PutEntries.sorted-apart, ReadsBackParts.{greatest, within-left, within-right}}
use Rattle.ciborium_value.specs.lemmas.Reordered.{AreEach, AreReordered, each-reordered}

-- what the entries are: their keys rise, and each key and value is valid
abbrev pub IsMapValid : {K V : Type 0} → (K → K → Ordering) → (K → Type 0) → (V → Type 0) → BTreeMap K V → Type 0
IsMapValid cmp IsKeyValid IsValueValid m = IsOrdered cmp m × All (λ e. IsKeyValid e.0 × IsValueValid e.1) m.entries

-- the levels of a key and its value
abbrev pub entry_levels : {K V : Type 0} → (K → ℕ) → (V → ℕ) → K × V → ℕ
entry_levels key_levels value_levels e = max (key_levels e.0) (value_levels e.1)

module _ {K V A B : Type 0} (key : K → A) (value : V → B) (f : Given A) (g : Given B) where
  -- a pair is read as what counts of an entry
  abbrev IsEntryRead : Limit → Item × Item → K × V → Type 0
  IsEntryRead l p e = outcome l (take_entry f g p) ≡ gives (key e.0, value e.1)

  each-read : (l : Limit) (ps : List (Item × Item)) (es : List (K × V)) →
      AreEach (IsEntryRead l) ps es → outcome l (take_each (take_entry f g) ps) ≡ gives (contents key value es)
  each-read l [] [] h = refl
  each-read l (p ∷ ps) (e ∷ es) h = ap (λ o. and_take o (outcome l (take_each (take_entry f g) ps))) h.0 ∙
      ap (and_take (gives (key e.0, value e.1))) (each-read l ps es h.1)
  each-read l u v h = absurd h

  module _ (way : Way) where
    -- what is met of the pairs of these items is read so, where so many levels are left
    abbrev AreEntriesRead : List (K × V) → ℕ → List Item → Type 0
    AreEntriesRead es n is = (ps : List (Item × Item)) → ArePairsMet way (pairs_from is) ps →
        (l : Limit) → IsWithin l n → AreEach (IsEntryRead l) ps es

    pair-back : (r s : Named) (t : Result (List Item) Kind) (e : K × V) (es : List (K × V)) (n m k : ℕ) →
        IfOk r (IsItemRead way f (key e.0) n) → IfOk s (IsItemRead way g (value e.1) m) →
        IfOk t (AreEntriesRead es k) → IfOk (and_then r (and_then s t)) (AreEntriesRead (e ∷ es) (max (max n m) k))
    pair-back (Ok i) (Ok j) (Ok is) e es n m k h w rest = elim [
      | [] ↦ λ each. absurd each
      | p ∷ ps ↦ λ each l fits.
          let here = within-left l (max n m) k fits in (
            ap (λ o. then_take o (λ a. then_take (outcome l (g p.1)) (λ b. gives (a, b))))
                (h p.0 each.0 l (within-left l n m here)) ∙
                ap (λ o. then_take o (λ b. gives (key e.0, b)))
                (w p.1 each.1 l (within-right l n m here)),
            rest ps each.2 l (within-right l (max n m) k fits),
          )
    ]
    pair-back u v w e es n m k h x rest = tt

    -- entries that are put in alike in any order
    entered : (once : Bool) (order : A → A → Ordering) (s : Result (List Item) Kind) (es : List (K × V)) (n : ℕ) →
        ((fs : List (K × V)) → AreReordered es fs → (put_all order [] (contents key value fs) ≡ contents key value es) ×
        AreNew order [] (contents key value fs)) → IfOk s (AreEntriesRead es n) →
        IfOk (contained a_map false s) (IsItemRead way (given_map once order f g) (contents key value es) (suc n))
    entered once order (Ok is) es n h each = λ j e l fits.
        let (qs, ps, these, turn, same) = map-met way (pairs_from is) j e in
        subst (λ x. outcome l (given_map once order f g x) ≡ gives (contents key value es)) same
        (inside (λ p. p.0) (λ p. put_each once order f g [] p.1) (true, unpack_pairs ps)
        (contents key value es) n refl
        (λ m less.
        let (fs, turned, all) = each-reordered (IsEntryRead m) turn es (each qs these m less) in
        let (put, new) = h fs turned in
        put-new order once f g m [] (unpack_pairs ps) (contents key value fs) new
        (each-read m (unpack_pairs ps) fs all) ∙ ap gives put) l fits)
    entered once order (Err k) es n h each = tt

module _ {way : Way} {K A : Type 0} {IsKeyValid : K → Type 0} {key_written : K → Named}
    {key_given : Given A} {key : K → A} {key_levels : K → ℕ}
    (key_back : IsReadBack way IsKeyValid key_written key_given key key_levels) where
  module _ {V B : Type 0} {IsValueValid : V → Type 0} {value_written : V → Named}
      {value_given : Given B} {value : V → B} {value_levels : V → ℕ}
      (value_back : IsReadBack way IsValueValid value_written value_given value value_levels) where
    entries-back : (es : List (K × V)) →
        All (λ e. IsKeyValid e.0 × IsValueValid e.1) es → IfOk (all_named (in_turn key_written value_written es))
        (AreEntriesRead key value key_given value_given way es (greatest (entry_levels key_levels value_levels) es))
    entries-back [] valid = elim [ [] ↦ λ each l fits. tt | p ∷ ps ↦ λ each. absurd each ]
    entries-back (e ∷ es) valid =
        let first = All-head (λ e. IsKeyValid e.0 × IsValueValid e.1) e es valid in
        pair-back key value key_given value_given way (key_written e.0) (value_written e.1)
        (all_named (in_turn key_written value_written es)) e es (key_levels e.0) (value_levels e.1)
        (greatest (entry_levels key_levels value_levels) es) (at (key_back e.0 first.0))
        (at (value_back e.1 first.1))
        (entries-back es (All-tail (λ e. IsKeyValid e.0 × IsValueValid e.1) e es valid))

    pub map-back : (once : Bool) (cmp : K → K → Ordering) (order : A → A → Ordering) → IsTotalOrder cmp →
        ((a b : K) → cmp a b ≡ order (key a) (key b)) → (m : BTreeMap K V) → IsMapValid cmp IsKeyValid IsValueValid m →
        IsNameRead way (container_of a_map (in_turn key_written value_written m.entries))
        (given_map once order key_given value_given) (contents key value m.entries)
        (suc (greatest (entry_levels key_levels value_levels) m.entries))
    map-back once cmp order total orders m valid =
        let parts = all_named (in_turn key_written value_written m.entries) in
        name-back (contained a_map false parts)
        (entered key value key_given value_given way once order parts m.entries
        (greatest (entry_levels key_levels value_levels) m.entries)
        (λ fs turned. (
          reordered-contents cmp total order key value orders m.entries fs turned valid.0,
          contents-apart cmp order key value orders total fs
              (apart-reordered cmp total turned (sorted-apart cmp m.entries valid.0)),
        )) (entries-back m.entries valid.1))
