-- One more file is shown.
use Rattle.std.proofs.Common.{◌≡◌, ℕ, suc, ◌+◌, ◌<◌, Bool, ◌&&◌, true, false, List, [], ◌∷◌, get_or, map, length, take}
use Rattle.std.proofs.Common.{drop, Option, Some, None, refl, sym, subst, ◌∙◌, drop-cons, arith}
use Rattle.std.proofs.lemmas.List.{get_or-map, take_more}
use Rattle.cbor.specs.Files.{AreFilesShown, AreInputs, AreInputsShown, Input, IsInputShown, given_by, is_input, left_by}
use Rattle.cbor.specs.{Files.{next, none}, declared.command.Command.Command}
use Rattle.cbor.specs.declared.command.Command.TheVariants.{Dump, Show, ShowExactly}

-- of the inputs so many are shown behind w, and the others are left
abbrev pub AreShownSoFar : Command → (List ℕ → Option (List ℕ)) → List Input → ℕ → List ℕ → Bool →
    Option (List ℕ) → Option (List ℕ) → Type 0
AreShownSoFar command held inputs k w all input after =
    AreFilesShown command (take k inputs) w all after × AreInputs held input (drop k inputs)

-- what is known where the standard input is spent is known in any case
spent : (held : List ℕ → Option (List ℕ)) (input : Option (List ℕ)) (inputs : List Input) →
    AreInputs held None inputs → AreInputs held input inputs
spent held input [] h = tt
spent held input ((name, b) ∷ inputs) (e, h) = by (is_input name) refl e h (λ more. spent held input inputs more)
  where
    by : (is : Bool) → is_input name ≡ is → given_by held None name ≡ Some b →
        AreInputs held (left_by None name) inputs → (AreInputs held None inputs → AreInputs held input inputs) →
        AreInputs held input ((name, b) ∷ inputs)
    by true is e h others = absurd (let no = rw is at e in cc)
    by false is e h others = (rw is (rw is at e), rw is (others (rw is at h)))

-- the input behind a file of this name
behind : (held : List ℕ → Option (List ℕ)) (name : List ℕ) (old new : Option (List ℕ)) (inputs : List Input) →
    (is_input name ≡ false → new ≡ old) → AreInputs held (left_by old name) inputs → AreInputs held new inputs
behind held name old new inputs kept h = by (is_input name) refl h
  where
    by : (is : Bool) → is_input name ≡ is → AreInputs held (left_by old name) inputs → AreInputs held new inputs
    by true is h = spent held new inputs (rw is at h)
    by false is h = rw (kept is) (rw is at h)

-- what is written is known
known : (command : Command) (i : Input) (w : List ℕ) (all : Bool) (now : Option (List ℕ)) →
    IsInputShown command i w all now → (v : List ℕ) × (now ≡ Some v)
known (Show showing limit) i w all now (lines, shows, e) = (_, e)
known ShowExactly i w all now (lines, shows, e) = (_, e)
known Dump i w all now (text, dump, e) = (_, e)
known command i w all now h = absurd h

-- nothing is shown yet
pub none-shown : (command : Command) (held : List ℕ → Option (List ℕ)) (inputs : List Input) (w : List ℕ)
    (input after : Option (List ℕ)) → AreInputs held input inputs → after ≡ Some w →
    AreShownSoFar command held inputs 0 w true input after
none-shown command held inputs w input after h e = ((w, none, e), h)

-- one more is shown
pub one-more : (command : Command) (held : List ℕ → Option (List ℕ)) (inputs : List Input) (k : ℕ) (w : List ℕ)
    (all one : Bool) (input left after now : Option (List ℕ)) (name : List ℕ) → k < length inputs →
    name ≡ get_or (map (λ (i : Input). i.0) inputs) k name →
    AreShownSoFar command held inputs k w all input after → (is_input name ≡ false → left ≡ input) →
    ((b v : List ℕ) → given_by held input name ≡ Some b → after ≡ Some v → IsInputShown command (name, b) v one now) →
    AreShownSoFar command held inputs (k + 1) w (all && one) left now
one-more command held inputs k w all one input left after now name more at ((v, shown, e), ahead) kept is =
    let i : Input = get_or inputs k ([], []) in
    let named : name ≡ i.0 = at ∙ get_or-map (λ (j : Input). j.0) inputs k ([], []) name more in
    let here : AreInputs held input (i ∷ drop (suc k) inputs) =
    subst (λ (js : List Input). AreInputs held input js) (drop-cons inputs k ([], []) more) ahead in
    let written : IsInputShown command i v one now =
    subst (λ (n : List ℕ). IsInputShown command (n, i.1) v one now) named
    (is i.1 v (subst (λ (n : List ℕ). given_by held input n ≡ Some i.1) (sym named) here.0) e) in
    let there = known command i v one now written in
    let next_up : k + 1 ≡ suc k = omega arith in (
      (
        there.0,
        subst (λ (js : List Input). AreInputsShown command w js (all && one) there.0)
            (sym (take_more inputs k ([], []) more))
            (next (take k inputs) i all one v there.0 shown
            (subst (λ (u : Option (List ℕ)). IsInputShown command i v one u) there.1 written)),
        there.1,
      ),
      subst (λ (n : ℕ). AreInputs held left (drop n inputs)) (sym next_up)
          (behind held i.0 input left (drop (suc k) inputs)
          (subst (λ (n : List ℕ). is_input n ≡ false → left ≡ input) named kept) here.1),
    )
