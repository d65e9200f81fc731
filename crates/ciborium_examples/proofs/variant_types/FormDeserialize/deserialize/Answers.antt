use Rattle.std.proofs.Common.{arith, rules}
use Rattle.ciborium_examples.proofs.variant_types.FormDeserialize.deserialize.Goals as goal

-- a name that is none of the four
pub returns-in_default-clause-takes : goal.returns-in_default-clause-takes
returns-in_default-clause-takes g c = record {
  ok = tt;
  refused = λ l i f st. search (
    rules,
    c.in_ok-name.ensures.ok l i f st,
    c.as_str.ensures.value,
    c.refuse.ensures,
    c.in_default.not-Unit,
    c.in_default.not-Newtype,
    c.in_default.not-Tuple,
    c.in_default.not-Struct,
  );
  took = tt;
  only = c.begin_variant.ensures.only;
  less = tt;
  no_more = omega (arith, c.in_ok-name.ensures.less);
}
