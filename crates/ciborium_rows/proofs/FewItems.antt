-- What is read of a sequence of few items, part by part, from any source.
use Rattle.std.proofs.Common.{◌≡◌, ℕ, zero, suc, List, [], ◌∷◌, ◌++◌, refl, sym, ◌∙◌, ap, append_assoc, append-nil}
use Rattle.ciborium_ll.specs.Item.{Item}
use Rattle.ciborium_value.specs.{Ahead.{Ahead, Rest, inside, parts}, Nesting.Limit}
use Rattle.ciborium_value.specs.Sources.{Fault, of_kind, TakesAhead, RefusesAhead}
use Rattle.ciborium_value.specs.{Sources.{GoesOn, Leaves}, lemmas.GivenOutcomes.and_take, Given.{Outcome, Steps, Given}}
use Rattle.ciborium_value.specs.Given.{gives, mapped, nests, outcome, outcome_map, refuses}
use Rattle.ciborium_value.proofs.Sources.Sequences.{Follows, IsPast, IsInside, IsBlamed, one_more_listed, reads}
use Rattle.ciborium_value.proofs.Sources.Sequences.{blames_part, leaves, fault_map, fault_then}
use Rattle.ciborium_rows.specs.Few.{few_items}
use Rattle.ciborium_ll.specs.declared.kind.Kind.TheVariants as kinds

-- what such a sequence becomes of which these items were read, and n more have room
abbrev pub few_from : {A : Type 0} → Given A → ℕ → List A → List Item → Steps (List A)
few_from taken n vs is = mapped (λ ws. vs ++ ws) (few_items taken is n)

module _ {S Q A : Type 0} {StandsBefore : S → Limit → Ahead → Type 0} {SeqStands : Q → Limit → Rest → Type 0}
    {taken : Given A} (n : ℕ) (vs : List A) where
  pub few_more : {old new : S} {q : Q} {v : A} (ahead : S) (q' : Q) →
      GoesOn StandsBefore SeqStands old ahead q q' → TakesAhead StandsBefore ahead new taken v →
      Follows (IsInside StandsBefore SeqStands parts old q (few_from taken (suc n) vs))
      (IsInside StandsBefore SeqStands parts new q' (few_from taken n (vs ++ v ∷ [])))
  few_more {v = v} ahead q' h t = reads taken ahead q' h (few_from taken n (vs ++ v ∷ [])) t
      (λ m i is e. ap (λ o. outcome_map (λ ws. vs ++ ws) (and_take o (outcome m (few_items taken is n)))) e ∙
      one_more_listed vs v (outcome m (few_items taken is n)))

  pub few_blames : {old : S} {q : Q} {fault : Fault} (ahead : S) (q' : Q) →
      GoesOn StandsBefore SeqStands old ahead q q' → RefusesAhead StandsBefore ahead taken fault →
      Follows (IsInside StandsBefore SeqStands parts old q (few_from taken (suc n) vs)) (IsBlamed fault)
  few_blames {fault = fault} ahead q' h t = blames_part taken ahead q' h t
      (λ end m i is e. fault_map _ fault (λ ws. vs ++ ws) _ (fault_then _ fault (outcome m (taken i)) _ e))

  pub few_ends : {old new : S} {q : Q} → Leaves StandsBefore SeqStands old new q →
      Follows (IsInside StandsBefore SeqStands parts old q (few_from taken n vs)) (IsPast StandsBefore new vs)
  few_ends h = leaves vs h.0 (λ m. ap gives (append-nil vs))

-- one that has no room is refused
pub few_refuses : {S Q A : Type 0} {StandsBefore : S → Limit → Ahead → Type 0} {SeqStands : Q → Limit → Rest → Type 0}
    {taken : Given A} {old : S} {q : Q} (vs : List A) (ahead : S) (q' : Q) →
    GoesOn StandsBefore SeqStands old ahead q q' →
    Follows (IsInside StandsBefore SeqStands parts old q (few_from taken zero vs)) (IsBlamed (of_kind kinds.Length))
few_refuses {taken = taken} vs ahead q' h = record {
  at = λ l f o w. record {
    blamed = w.is ∙ ap (λ is. outcome (inside w.span l) (few_from taken zero vs is))
        (h.0 l w.span w.left f w.stands w.due).2;
  };
}
