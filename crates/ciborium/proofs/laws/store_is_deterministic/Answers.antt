use Rattle.ciborium.proofs.ReadBack.Loaded.{deterministic_store, store_valid}
use Rattle.ciborium.proofs.laws.store_is_deterministic.Goals as goal

pub returns-clause-accepted : goal.returns-clause-accepted
returns-clause-accepted g c = deterministic_store g.O.EncodingOrder.order c.args.store.now.entries c.len.ensures.ordered

pub returns-clause-valid : goal.returns-clause-valid
returns-clause-valid g c = store_valid g.O.EncodingOrder.order c.args.store.now c.len.ensures.ordered
