use Rattle.std.proofs.Common.{◌≡◌, ℕ, List, Some}
use Rattle.cbor.proofs.DumpedInputs.{AreReadOf}
use Rattle.cbor.proofs.dumping_streams.read_whole.Given as goal

-- the blocks so far are in the buffer, and the rest of the input is left
abbrev pub invariant-reads : goal.invariant-reads
invariant-reads g l = (b : List ℕ) → g.R.Read.remaining l.initial.reader.device.now ≡ Some b →
    AreReadOf b l.bytes.items (g.R.Read.remaining l.reader.device.now)
