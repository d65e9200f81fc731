use Rattle.std.proofs.Common.{◌≡◌, ◌<◌, ◌^◌, take}
use Rattle.ciborium_value.specs.Meaning.{big_endian}
use Rattle.ciborium_value.proofs.bignum.read_number.Given as goal

abbrev pub invariant-loop-byte : goal.invariant-loop-byte
invariant-loop-byte l = record {
  bound : l.number < 256 ^ l.byte-index;
  value : l.number ≡ big_endian (take l.byte-index l.bytes);
}
