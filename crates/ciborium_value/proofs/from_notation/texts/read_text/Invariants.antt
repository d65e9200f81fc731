use Rattle.std.proofs.Common.{◌≡◌, ◌≤◌, length}
use Rattle.ciborium_value.specs.Tokens.{prepended, text_at}
use Rattle.ciborium_value.proofs.from_notation.texts.read_text.Given as goal

-- the bytes stand before those of the rest
abbrev pub invariant-parts : goal.invariant-parts
invariant-parts l = (text_at l.text ≡ prepended l.bytes.items (text_at l.rest)) × (length l.rest ≤ length l.text)

abbrev pub decreases-parts : goal.decreases-parts
decreases-parts l = length l.rest
