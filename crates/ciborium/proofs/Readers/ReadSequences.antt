-- Values are read one after the other: how far, and what it says of all.
use Rattle.std.proofs.Common.{◌≡◌, ℕ, List, [], ◌∷◌, ◌++◌, Option, Some, None, Ok, Err, refl, ap, ◌∙◌}
use Rattle.std.proofs.KnownBytes.{Consumes-nil, Consumes-trans}
use Rattle.ciborium_value.specs.{Nesting.Limit, Sources.IsOutsideFault, Given.Given}
use Rattle.ciborium.specs.{declared.de.error.Error.Error, declared.de.error.Error.TheVariants.{Io, Memory}}
use Rattle.ciborium.specs.{Errors.fault_of, NextItems.{IsReadIo, TellsEnd}, SequenceReads.{GivesThen, RefusesSequence}}
use Rattle.ciborium.specs.TypedAnswers.{RefusesGiven, TakesBeginning, TakesGiven, TakesGiving}

-- ---- a beginning was taken, and nothing else

pub none-taken : (before : Option (List ℕ)) → TakesBeginning before before
none-taken before = ([], Consumes-nil before)

pub more-taken : (before mid after : Option (List ℕ)) → TakesBeginning before mid → TakesBeginning mid after →
    TakesBeginning before after
more-taken before mid after (b, first) (c, next) = (b ++ c, Consumes-trans before mid after b c first next)

-- ---- the values that were read

-- io, where a device may fail
outside-io : {E : Type 0} (e : Error E) → IsReadIo e → IsOutsideFault 0 (fault_of None e)
outside-io (Io e) h = tt
outside-io u h = absurd h

module _ {A : Type 0} (l : Limit) (taken : Given A) (before : Option (List ℕ)) where
  -- items that give these values stood at the front of the bytes, if they are known, and were taken
  abbrev pub HasRead : Option (List ℕ) → List A → Type 0
  HasRead after cs = (b : List ℕ) → before ≡ Some b → (u : List ℕ) × (after ≡ Some u) × GivesThen l taken b cs u

  pub none-read : HasRead before []
  none-read b known = (b, known, refl)

  gives-more : (b : List ℕ) (cs : List A) (u : List ℕ) (c : A) (after : Option (List ℕ)) → GivesThen l taken b cs u →
      TakesGiving l taken u c after → (left : List ℕ) × (after ≡ Some left) × GivesThen l taken b (cs ++ c ∷ []) left
  gives-more b [] u c after all (i, s, left, spelled, split, gives, is) =
      (left, is, (i, s, left, spelled, all ∙ split, gives, refl))
  gives-more b (d ∷ cs) u c after (i, s, left, spelled, split, gives, all) next =
      let (rest, is, more) = gives-more left cs u c after all next in
      (rest, is, (i, s, left, spelled, split, gives, more))

  pub one-more-read : (E : Type 0) (mid after : Option (List ℕ)) (cs : List A) (c : A) → HasRead mid cs →
      TakesGiven {E = E} l taken mid after (Ok c) → HasRead after (cs ++ c ∷ [])
  one-more-read E mid after cs c read next b known =
      let (u, is, all) = read b known in
      gives-more b cs u c after all (next u is)

  pub refused-behind : (T E : Type 0) (mid after : Option (List ℕ)) (cs : List A) (e : Error E) → HasRead mid cs →
      RefusesGiven {A = A} {E = E} 0 l taken mid after (Err e) → TellsEnd {A = T} {E = E} mid after (Err e) →
      RefusesSequence {E = E} l taken before after (Err e)
  refused-behind T E mid after cs e read refused end b known =
      let (u, is, all) = read b known in (
        cs,
        u,
        all,
        refused u is,
        λ none. outside-io e (end (is ∙ ap Some none)),
      )

  pub no-memory-behind : (E : Type 0) (after : Option (List ℕ)) (cs : List A) → HasRead after cs →
      RefusesSequence {E = E} l taken before after (Err Memory)
  no-memory-behind E after cs read b known = let (u, is, all) = read b known in
      (cs, u, all, λ i s left spelled split. tt, λ none. tt)
