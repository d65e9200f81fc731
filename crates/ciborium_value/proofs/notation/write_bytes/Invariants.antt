use Rattle.std.{proofs.Common.{◌≡◌, ℕ, List, ◌++◌, codes, length}, specs.Fmt.{HasWrittenStyled, IsFlush}}
use Rattle.hex.specs.Hex.{encode_lower}
use Rattle.ciborium_value.proofs.notation.write_bytes.Given as goal

-- the digits of the bytes before the rest are written
abbrev pub invariant-loop-rest : goal.invariant-loop-rest
invariant-loop-rest g l = (shown : List ℕ) × (l.bytes ≡ shown ++ l.rest)
    × (IsFlush l.fn.f → HasWrittenStyled g.W.Write.write_str_gives l.fn.f (codes "h'" ++ encode_lower shown) l.f)

abbrev pub decreases-loop-rest : goal.decreases-loop-rest
decreases-loop-rest g l = length l.rest
