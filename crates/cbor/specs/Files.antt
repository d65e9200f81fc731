-- Files by name: which bytes their names stand for, and what is written for them, one after the
-- other.
use Rattle.std.specs.Prelude.{◌≡◌, ℕ, ◌==◌, ◌&&◌, Bool, true, List, [], ◌∷◌, ◌++◌, length, get_or, if◌then◌else◌}
use Rattle.std.specs.Prelude.{Option, Some, None, codes}
use Rattle.cbor.specs.{declared.command.Command.Command, declared.command.Command.TheVariants.{Show, ShowExactly, Dump}}
use Rattle.cbor.specs.{ExactStreams.IsShownExactly, Streams.{IsDumpedBehind, IsStreamShown}}

-- a name, and the bytes that it stands for
abbrev pub Input : Type 0
Input = List ℕ × List ℕ

-- whether a name stands for the standard input: `-`
abbrev pub is_input : List ℕ → Bool
is_input name = (length name == 1) && (get_or name 0 0 == 45)

-- the bytes that a name stands for, where they are known: what is left of the standard input, or
-- what the file of this name holds
abbrev pub given_by : (List ℕ → Option (List ℕ)) → Option (List ℕ) → List ℕ → Option (List ℕ)
given_by contents input name = if is_input name then input else contents name

-- and what is known of the standard input behind it, which is read once
abbrev pub left_by : Option (List ℕ) → List ℕ → Option (List ℕ)
left_by input name = if is_input name then None else input

-- in order, the names stand for these bytes
abbrev pub AreInputs : (List ℕ → Option (List ℕ)) → Option (List ℕ) → List Input → Type 0
AreInputs contents input [] = Unit {0}
AreInputs contents input (i ∷ inputs) = (given_by contents input i.0 ≡ Some i.1) ×
    AreInputs contents (left_by input i.0) inputs

-- what is written for an input by a command that takes files
abbrev pub IsInputShown : Command → Input → List ℕ → Bool → Option (List ℕ) → Type 0
IsInputShown (Show showing limit) i w all after = IsStreamShown (i.0 ++ codes ": ") showing i.1 limit w all after
IsInputShown ShowExactly i w all after = IsShownExactly (i.0 ++ codes ": ") i.1 w all after
IsInputShown Dump i w all after = IsDumpedBehind i.1 w all after
IsInputShown other i w all after = ⊥

-- behind w the inputs are shown, one after the other, and then these bytes are written; all says
-- whether each is as it is asked for
pub data AreInputsShown (command : Command) (w : List ℕ) : List Input → Bool → List ℕ → Type 0
  where
    none : AreInputsShown command w [] true w
    next : (inputs : List Input) (i : Input) (all one : Bool) (before after : List ℕ) →
        AreInputsShown command w inputs all before → IsInputShown command i before one (Some after) →
        AreInputsShown command w (inputs ++ (i ∷ [])) (all && one) after

-- so are those of these names, where their bytes are known, and nothing else is written
abbrev pub AreFilesShown : Command → List Input → List ℕ → Bool → Option (List ℕ) → Type 0
AreFilesShown command inputs w all after = (written : List ℕ) ×
    AreInputsShown command w inputs all written × (after ≡ Some written)
