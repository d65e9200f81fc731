use Rattle.std.proofs.Common.{◌≡◌, ℕ, List, map, Some, string_bytes}
use Rattle.cbor.{proofs.ShownFiles.AreShownSoFar, specs.Files.{AreInputs, Input}}
use Rattle.cbor.proofs.files.show_files.Given as goal

-- the files so far are shown
abbrev pub invariant-files : goal.invariant-files
invariant-files g l = (inputs : List Input) (w : List ℕ) → map string_bytes l.names ≡ map (λ (i : Input). i.0) inputs →
    AreInputs (g.O.Opener.contents l.opener) (g.R.Read.remaining l.initial.input) inputs →
    g.W.Write.contents l.initial.output ≡ Some w →
    AreShownSoFar l.command (g.O.Opener.contents l.opener) inputs l.name-index w l.all
    (g.R.Read.remaining l.input) (g.W.Write.contents l.output)
