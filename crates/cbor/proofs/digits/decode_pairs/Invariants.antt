use Rattle.std.proofs.Common.{◌≡◌, ◌*◌, take, drop}
use Rattle.hex.{proofs.Pairs.prepend, specs.Hex.decode_pairs}
use Rattle.cbor.proofs.digits.decode_pairs.Given as goal

-- the bytes of the pairs so far stand in the buffer, and the other pairs are left
abbrev pub invariant-bytes : goal.invariant-bytes
invariant-bytes l = decode_pairs 0 l.digits ≡ prepend (take l.index l.bytes)
    (decode_pairs (2 * l.index) (drop (2 * l.index) l.digits))
