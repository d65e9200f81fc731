-- A log is read reading by reading: how far, and where it ends.
use Rattle.std.proofs.Common.{◌≡◌, ℕ, ◌+◌, List, [], ◌∷◌, ◌++◌, Option, Some, Ok, Err, refl, ap, arith, length}
use Rattle.std.proofs.{Common.{length-append, subst, sym, ◌∙◌}, KnownBytes.{Consumes-nil, Consumes-trans}}
use Rattle.std.specs.{Io.KnownBytes.{Consumes, IsAtEnd}, declared.io.Error.Error as IoError}
use Rattle.ciborium_ll.proofs.Unread.{rest-of}
use Rattle.ciborium_value.proofs.GoodItems.Spelled.{spells-pos}
use Rattle.ciborium.{proofs.Readers.ReadSequences.{HasRead, none-read, one-more-read}, specs.CutItems.IsEndError}
use Rattle.ciborium.specs.{Given.Given, NextItems.TakesTo, TypedAnswers.{RefusesGiven, TakesBeginning, TakesGiven}}
use Rattle.ciborium.specs.declared.de.error.Error.{Error, TheVariants.{Io, Syntax, Semantic, RecursionLimitExceeded}}
use Rattle.ciborium.specs.declared.de.error.Error.TheVariants.{Memory, TooLong}
use Rattle.ciborium_uses.specs.Logs.{BeginsNoItem, IsEndOfLog}

-- what was taken of some known bytes
taken-known : (b u : List ℕ) (after : Option (List ℕ)) (p : ℕ) → TakesTo 0 p (Some b) after → after ≡ Some u →
    length b ≡ p + length u
taken-known b u after p (s, consumes, size) known =
    let split : b ≡ s ++ u = subst (λ o. Consumes (Some b) o s) known consumes in
    let lengths = ap length split ∙ length-append s u in
    omega (arith, size, lengths)

none-begins : (b : List ℕ) → b ≡ [] → BeginsNoItem b
none-begins b none i s left spelled split =
    let some = spells-pos i s spelled in
    let lengths = ap length (sym none ∙ split) ∙ length-append s left in
    absurd (omega (arith, some, lengths))

module _ {A : Type 0} (taken : Given A) (before : Option (List ℕ)) where
  -- items that give values were taken, up to this offset
  abbrev pub HasReadTo : Option (List ℕ) → ℕ → Type 0
  HasReadTo after p = (cs : List A) × HasRead (Some 256) taken before after cs × TakesTo 0 p before after

  pub none-read-yet : HasReadTo before 0
  none-read-yet = ([], none-read (Some 256) taken before, ([], Consumes-nil before, refl))

  pub one-more : (mid after : Option (List ℕ)) (p q : ℕ) (c : A) → HasReadTo mid p →
      TakesGiven {E = IoError} (Some 256) taken mid after (Ok c) → TakesTo p q mid after → HasReadTo after q
  one-more mid after p q c (cs, read, (s, first, size)) given (t, next, more) =
      let lengths = length-append s t in (
        cs ++ c ∷ [],
        one-more-read (Some 256) taken before IoError mid after cs c read given,
        (s ++ t, Consumes-trans before mid after s t first next, omega (arith, size, more, lengths)),
      )

  -- behind them no item begins; the offset has stayed
  ends-before : (after : Option (List ℕ)) (p q : ℕ) → q ≡ p → HasReadTo after p →
      ((u : List ℕ) → after ≡ Some u → BeginsNoItem u) → (b : List ℕ) → before ≡ Some b → IsEndOfLog taken b q
  ends-before after p q stays (cs, read, all) none b known =
      let (u, left, gives) = read b known in
      let size = taken-known b u after p (subst (λ o. TakesTo 0 p o after) known all) left in
      (cs, u, gives, omega (arith, size, stays), none u left)

  pub ends-whole : (mid after : Option (List ℕ)) (p q : ℕ) → q ≡ p → HasReadTo mid p →
      Consumes mid after [] × IsAtEnd after → (b : List ℕ) → before ≡ Some b → IsEndOfLog taken b q
  ends-whole mid after p q stays read (consumes, end) = ends-before mid p q stays read
      (λ u known. let (r, left, split) = rest-of mid after u [] known consumes in
      none-begins u (split ∙ subst IsAtEnd left end))

  cut-there : (e : Error IoError) (u : List ℕ) (p : ℕ) → IsEndError e →
      RefusesGiven {E = IoError} p (Some 256) taken (Some u) (Some []) (Err e) → BeginsNoItem u
  cut-there (Io x) u p end refused = λ i s left spelled split. refused u refl i s left spelled split
  cut-there _ u p end refused = absurd end

  pub ends-cut : (mid after : Option (List ℕ)) (p q : ℕ) (e : Error IoError) → q ≡ p →
      HasReadTo mid p → RefusesGiven {E = IoError} p (Some 256) taken mid after (Err e) → TakesBeginning mid after →
      ((r : List ℕ) → after ≡ Some r → IsEndError e × (r ≡ [])) → (b : List ℕ) → before ≡ Some b → IsEndOfLog taken b q
  ends-cut mid after p q e stays read refused (x, consumes) cut = ends-before mid p q stays read
      (λ u known. let (r, left, split) = rest-of mid after u x known consumes in
      let (end, none) = cut r left in
      cut-there e u p end (subst (λ o. RefusesGiven {E = IoError} p (Some 256) taken o (Some []) (Err e)) known
      (subst (λ o. RefusesGiven {E = IoError} p (Some 256) taken mid o (Err e)) (left ∙ ap Some none) refused)))
