use Rattle.std.proofs.Common.{◌≡◌, ◌≤◌, length}
use Rattle.ciborium_value.specs.{Tokens.{base64_at, prepended}, inner.ReadTokens.IsGroup}
use Rattle.ciborium_value.proofs.from_notation.byte_strings.read_base64.Given as goal

-- the bytes stand before those of the rest
abbrev pub invariant-digits : goal.invariant-digits
invariant-digits l = (base64_at 0 0 l.text ≡ prepended l.bytes.items (base64_at l.group.count l.group.bits l.rest)) ×
    IsGroup l.group × (length l.rest ≤ length l.text)

abbrev pub decreases-digits : goal.decreases-digits
decreases-digits l = length l.rest
