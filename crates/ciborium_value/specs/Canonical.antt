-- The two orders of trees by their encodings.
use Rattle.std.specs.{declared.cmp.Ordering.Ordering, Ordering.{nat_cmp, then_cmp, on}, Cmp.Lexicographic.slice_cmp}
use Rattle.ciborium_value.specs.{Tree.Tree, Encoding.{encoding, encoded_size}, declared.key_order.KeyOrder.KeyOrder}
use Rattle.ciborium_value.specs.declared.key_order.KeyOrder.TheVariants.{LengthFirst, Bytewise}

-- bytewise: the first byte that differs decides (RFC 8949, section 4.2.1)
abbrev pub bytewise_order : Tree → Tree → Ordering
bytewise_order = on encoding (slice_cmp nat_cmp)

-- the canonical order: the shorter encoding first, then bytewise (RFC 8949, section 4.2.3; RFC
-- 7049, section 3.9)
abbrev pub canonical_order : Tree → Tree → Ordering
canonical_order = then_cmp (on encoded_size nat_cmp) bytewise_order

-- each by its name
abbrev pub key_order : KeyOrder → Tree → Tree → Ordering
key_order LengthFirst = canonical_order
key_order Bytewise = bytewise_order
