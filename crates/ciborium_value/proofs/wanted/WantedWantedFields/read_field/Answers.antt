-- A place behind the first field is one of the fields behind it.
use Rattle.std.{proofs.{Common.{ap, ◌∙◌}, lemmas.Result.on_ok_weaker}, specs.Option.option_map}
use Rattle.ciborium_value.proofs.Sources.{NamedFields.behind_first, Sequences.fault_map, TreeReading.if_err_so}
use Rattle.ciborium_value.specs.Given.{outcome_map}
use Rattle.ciborium_value.proofs.wanted.WantedWantedFields.read_field.Goals as goal

pub returns-in-Behind-clause-ok : goal.returns-in-Behind-clause-ok
returns-in-Behind-clause-ok g c = on_ok_weaker c.read_field.result (λ h name at l i f st.
    let behind = behind_first _ _ _ (at ∙ c.in-Behind.is) in
    let n = h name behind.1 l i f st in
    (rw behind.0 (ap (outcome_map (λ d. (option_map g.V.Deserialize.reading.content c.args.self.now.1, d))) n.0), n.1))
    c.read_field.ensures.ok

pub returns-in-Behind-clause-refused : goal.returns-in-Behind-clause-refused
returns-in-Behind-clause-refused g c = if_err_so c.read_field.result (λ e h name at l i f st.
    let behind = behind_first _ _ _ (at ∙ c.in-Behind.is) in
    rw behind.0 (fault_map _ _ _ _ (h name behind.1 l i f st)))
    c.read_field.ensures.refused
