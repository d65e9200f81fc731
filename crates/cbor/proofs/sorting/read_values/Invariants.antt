use Rattle.std.{proofs.Common.{◌≡◌, ℕ, List, Some, map}, specs.Io.Buffered.reader_remaining}
use Rattle.ciborium_value.specs.View.{tree_of}
use Rattle.cbor.proofs.MeantLines.{AreRead}
use Rattle.cbor.proofs.sorting.read_values.Given as goal

-- the lines so far mean the values, the next has this number, and the rest of the input is left
abbrev pub invariant-lines : goal.invariant-lines
invariant-lines g l = (b : List ℕ) → reader_remaining (λ r. g.R.Read.remaining r.now) l.initial.reader ≡ Some b →
    AreRead b l.limit (reader_remaining (λ r. g.R.Read.remaining r.now) l.reader) (map tree_of l.values.items) l.number
