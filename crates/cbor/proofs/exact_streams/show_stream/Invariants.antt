use Rattle.std.{proofs.Common.{◌≡◌, ℕ, List, Some}, specs.Io.{Buffered.reader_remaining, KnownBytes.append_known}}
use Rattle.cbor.proofs.ExactlyStreamed.{AreLinesSoFar}
use Rattle.cbor.proofs.exact_streams.show_stream.Given as goal

-- the items so far are shown, by lines that are written or wait, and the rest of the input is left
abbrev pub invariant-items : goal.invariant-items
invariant-items g l = (b w : List ℕ) → reader_remaining g.R.Read.remaining l.initial.reader ≡ Some b →
    append_known (g.W.Write.contents l.initial.output) l.initial.waiting.items ≡ Some w →
    AreLinesSoFar l.place b w (reader_remaining g.R.Read.remaining l.reader)
    (append_known (g.W.Write.contents l.output) l.waiting.items) l.number l.offset
