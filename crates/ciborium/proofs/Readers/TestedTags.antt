-- A value whose tag is tested: what its call says, by what the call for the value and its tag says.
use Rattle.std.proofs.Common.{◌≡◌, ℕ, ◌∙◌, Bool, true, false, Option, ap, if◌then◌else◌, subst, sym}
use Rattle.ciborium_value.{proofs.Sources.Sequences.fault_then, specs.{Ahead.{Ahead, end_of}, Given.{Given, Outcome}}}
use Rattle.ciborium_value.specs.{Given.{gives, refuses, outcome, then_take}, GivenParts.given_then, Nesting.Limit}
use Rattle.ciborium_value.specs.Sources.{Fault, IsFaultOf, RefusesAhead, TakesAhead, of_kind}
use Rattle.ciborium_value.specs.TagReadings.{given_with_tag, if_tag}
use Rattle.ciborium_ll.specs.declared.kind.Kind.TheVariants as kinds

module _ {S C : Type 0} (StandsBefore : S → Limit → Ahead → Type 0) (old new : S) (taken : Given C)
    (test : Option ℕ → Bool) where
  abbrev pub given_tested : Given C
  given_tested = given_then (given_with_tag taken) (if_tag test)

  pub tag-blamed : (fault : Fault) → RefusesAhead StandsBefore old (given_with_tag taken) fault →
      RefusesAhead StandsBefore old given_tested fault
  tag-blamed fault h l i f at = fault_then (end_of f) fault _ (λ v. outcome l (if_tag test v)) (h l i f at)

  -- what the test decides
  decided-by : (l : Limit) (o : Outcome (Option ℕ × C)) (t : Option ℕ) (v : C) (b : Bool) → o ≡ gives (t, v) →
      test t ≡ b → then_take o (λ p. outcome l (if_tag test p)) ≡ (if b then gives v else refuses kinds.Tag)
  decided-by l o t v b e is = ap (λ p. then_take p (λ q. outcome l (if_tag test q))) e ∙
      ap (λ d. if d then gives v else refuses kinds.Tag) is

  pub tag-found : (t : Option ℕ) (v : C) → TakesAhead StandsBefore old new (given_with_tag taken) (t, v) →
      test t ≡ true → TakesAhead StandsBefore old new given_tested v
  tag-found t v h is l i f at = let both = h l i f at in (decided-by l _ t v true both.0 is, both.1)

  pub tag-refused : (t : Option ℕ) (v : C) (fault : Fault) →
      TakesAhead StandsBefore old new (given_with_tag taken) (t, v) → test t ≡ false → fault ≡ of_kind kinds.Tag →
      RefusesAhead StandsBefore old given_tested fault
  tag-refused t v fault h is e l i f at = subst (λ x. IsFaultOf (end_of f) x (outcome l (given_tested i))) (sym e)
      (decided-by l _ t v false (h l i f at).0 is)
