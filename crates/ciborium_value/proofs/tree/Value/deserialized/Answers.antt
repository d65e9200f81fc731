-- The source begins before the item of the value, with nothing around it.
use Rattle.std.proofs.Common.{None, [], refl}
use Rattle.ciborium_value.specs.{Ahead.bottom, TreeAnswers.value_item}
use Rattle.ciborium_value.proofs.{Sources.TreeFaults.error_fault, Sources.TreeReading.{if_ok_so, if_err_so}}
use Rattle.ciborium_value.proofs.tree.Value.deserialized.Goals as goal

pub returns-clause-ok : goal.returns-clause-ok
returns-clause-ok g c = if_ok_so c.deserialize.result (λ v h.
    (h None (value_item c.args.self.now) (bottom (0, 0) []) (refl, (refl, tt))).0) c.deserialize.ensures.takes.ok

pub returns-clause-refused : goal.returns-clause-refused
returns-clause-refused g c = if_err_so c.deserialize.result
    (λ e h. error_fault e _ 0 (h None (value_item c.args.self.now) (bottom (0, 0) []) (refl, (refl, tt))))
    c.deserialize.ensures.takes.refused
