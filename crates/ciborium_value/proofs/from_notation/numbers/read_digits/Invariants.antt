use Rattle.std.proofs.Common.{◌≡◌, ◌<◌, length}
use Rattle.ciborium_value.specs.Tokens.{digits_behind}
use Rattle.ciborium_value.proofs.from_notation.numbers.read_digits.Given as goal

-- the digits go on in the rest
abbrev pub invariant-digits : goal.invariant-digits
invariant-digits l = (digits_behind l.base 0 l.text ≡ digits_behind l.base l.number l.rest) ×
    (length l.rest < length l.text)

abbrev pub decreases-digits : goal.decreases-digits
decreases-digits l = length l.rest
