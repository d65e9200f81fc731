use Rattle.std.{proofs.Common.{◌≡◌, ℕ, List, Some}, specs.Io.{Buffered.reader_remaining, KnownBytes.append_known}}
use Rattle.cbor.proofs.EncodedLines.{AreEncodedSoFar}
use Rattle.cbor.proofs.encoding.put_encodings.Given as goal

-- the lines so far are encoded, the next has this number, and the rest of the input is left
abbrev pub invariant-lines : goal.invariant-lines
invariant-lines g l = (b w : List ℕ) → reader_remaining g.R.Read.remaining l.initial.reader ≡ Some b →
    append_known (g.W.Write.contents l.initial.output) l.initial.waiting.items ≡ Some w →
    AreEncodedSoFar l.limit b w l.number (reader_remaining g.R.Read.remaining l.reader)
    (append_known (g.W.Write.contents l.output) l.waiting.items)
