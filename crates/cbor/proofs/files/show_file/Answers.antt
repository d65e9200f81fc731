use Rattle.std.proofs.Common.{sym, ◌∙◌}
use Rattle.cbor.proofs.files.show_file.Goals as goal

pub returns-then-is_input-clause-shown : goal.returns-then-is_input-clause-shown
returns-then-is_input-clause-shown g c b w e f =
    c.show_input.ensures b w (rw (sym c.is_input.ensures ∙ c.if-is_input.true) at e) f

pub returns-clause-shown : goal.returns-clause-shown
returns-clause-shown g c b w e f =
    let held = rw (sym c.is_input.ensures ∙ c.if-is_input.false) at e in
    c.show_input-2.ensures b w (rw held at c.in-Ok.ensures) f
