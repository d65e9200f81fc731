use Rattle.std.{proofs.Common.{◌≡◌, ℕ, List, ◌++◌, codes, length}, specs.Fmt.{HasWrittenStyled, IsFlush}}
use Rattle.std.specs.List.{flat_map}
use Rattle.ciborium_value.specs.Notation.{escaped}
use denote.{Shadow.shadow, Text.Utf8}
use Rattle.ciborium_value.proofs.notation.write_text.Given as goal

-- the text before the rest is written, escaped
abbrev pub invariant-loop-end : goal.invariant-loop-end
invariant-loop-end g l = shadow (Utf8 l.rest) × (shown : List ℕ) × (l.text ≡ shown ++ l.rest)
    × (IsFlush l.fn.f → HasWrittenStyled g.W.Write.write_str_gives l.fn.f (codes "\"" ++ flat_map escaped shown) l.f)

abbrev pub decreases-loop-end : goal.decreases-loop-end
decreases-loop-end g l = length l.rest
