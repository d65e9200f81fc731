use Rattle.std.proofs.Common.{◌≡◌, ◌<◌, ◌≤◌, IfSome, None, length}
use Rattle.ciborium_value.specs.Tokens.{hex_at, prepended}
use Rattle.ciborium_value.proofs.from_notation.byte_strings.read_hex.Given as goal

-- the bytes stand before those of the rest
abbrev pub invariant-digits : goal.invariant-digits
invariant-digits l = (hex_at None l.text ≡ prepended l.bytes.items (hex_at l.waiting l.rest)) ×
    IfSome l.waiting (λ high. high < 16) × (length l.rest ≤ length l.text)

abbrev pub decreases-digits : goal.decreases-digits
decreases-digits l = length l.rest
