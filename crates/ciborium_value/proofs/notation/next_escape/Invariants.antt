use Rattle.std.proofs.Common.{take}
use Rattle.ciborium_value.specs.Notation.{IsPlain}
use Rattle.ciborium_value.proofs.notation.next_escape.Given as goal

-- the bytes so far need no escape
abbrev pub invariant-loop-end : goal.invariant-loop-end
invariant-loop-end l = IsPlain (take l.end l.bytes)
