use Rattle.std.{proofs.Common.{refl, lit<, inl}, specs.Fmt.digits}
use Rattle.hex.specs.Hex.{encode_with}
use Rattle.ciborium_ll.specs.Head.{one_byte, shortest_head}
use Rattle.ciborium_value.specs.Meaning.{big_endian_behind, bignum_meaning, simple_meaning}
use Rattle.ciborium_ll.specs.Item as item
use Rattle.ciborium_value.proofs.tree_laws.worked_examples.Goals as goal

pub returns : goal.returns
unfolding digits encode_with big_endian_behind bignum_meaning simple_meaning shortest_head
returns c = record {
  zero_in_a_wide_head = (item.unsigned 0, (one_byte, lit< tt, refl), refl);
  undefined = (item.simple 23, inl (lit< tt, refl), refl);
  folds_in_a_tree = refl;
  too_large = refl;
  large_enough = refl;
  number_24 = refl;
  minus_257 = refl;
  nested = refl;
  open_array = refl;
  in_order = (refl, (refl, (refl, (refl, (refl, (refl, (refl, tt)))))));
  shorter_first = (refl, tt);
  printed = refl;
  indented = refl;
  escaped = refl;
}
