-- What a run does where nothing fails.
use Rattle.std.specs.Prelude.{◌≡◌, ℕ, Bool, List, [], ◌++◌, Option, Some, IfSome, IsTrue}
use Rattle.cbor.specs.{EncodedLines.AreEncoded, ExactStreams.IsShownExactly, Lines.AreAnswered, Topics.topic_text}
use Rattle.cbor.specs.{SortedLines.AreSortedOrRefused, Streams.{IsDumpedBehind, IsStreamShown}}
use Rattle.cbor.specs.declared.command.Command.{Command, TheVariants.{Answer, Sort, Show, ShowExactly, Dump}}
use Rattle.cbor.specs.declared.command.Command.TheVariants.{Encode, Tell}

-- behind w stands what was asked for of the input, where its bytes are known, and all says whether
-- each line or item is as it is asked for
abbrev pub IsDone : Command → Option (List ℕ) → List ℕ → Bool → Option (List ℕ) → Type 0
IsDone (Answer reading) input w all after = IfSome input (λ b. AreAnswered reading b w all after)
IsDone (Sort order) input w all after = IfSome input (λ b. AreSortedOrRefused order b 256 w all after)
IsDone (Show showing limit) input w all after = IfSome input (λ b. IsStreamShown [] showing b limit w all after)
IsDone ShowExactly input w all after = IfSome input (λ b. IsShownExactly [] b w all after)
IsDone Dump input w all after = IfSome input (λ b. IsDumpedBehind b w all after)
IsDone (Encode limit) input w all after =
    IfSome input (λ b. (message : List ℕ) × AreEncoded limit b w all after message)
IsDone (Tell topic) input w all after = IsTrue all × (after ≡ Some (w ++ topic_text topic))
