use Rattle.ciborium_value.specs.declared.key_order.KeyOrder.TheVariants.{Bytewise}
use Rattle.ciborium.proofs.Encodings.RisingKeys.{keys-rise}
use Rattle.ciborium.proofs.laws.bytewise_keys_rise.Goals as goal

pub returns-clause-rise : goal.returns-clause-rise
returns-clause-rise g c = keys-rise Bytewise g.V.Serialize.written c.args.map.now.entries c.len.ensures.ordered
