use Rattle.std.{proofs.Common.{◌≡◌, ℕ, List, Some}, specs.Io.{Buffered.reader_remaining, KnownBytes.append_known}}
use Rattle.cbor.proofs.AnsweredLines.{IsLeft}
use Rattle.cbor.proofs.answering.put_answers.Given as goal

-- the lines so far were answered, and the rest of the input is left
abbrev pub invariant-lines : goal.invariant-lines
invariant-lines g l = (b w : List ℕ) → reader_remaining g.R.Read.remaining l.initial.reader ≡ Some b →
    append_known (g.W.Write.contents l.initial.output) l.initial.waiting.items ≡ Some w →
    IsLeft l.reading b w l.all_ok (reader_remaining g.R.Read.remaining l.reader)
    (append_known (g.W.Write.contents l.output) l.waiting.items)
