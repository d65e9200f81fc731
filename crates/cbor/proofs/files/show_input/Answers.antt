use Rattle.std.proofs.Common.{◌≡◌, ◌++◌, codes, ◌∙◌}
use Rattle.cbor.proofs.files.show_input.Goals as goal

pub returns-in-Show : goal.returns-in-Show
returns-in-Show g c b w e f =
    let place : c.deref.result.now ≡ c.args.name.now ++ codes ": " = c.deref.ensures.value ∙ c.in_ok-place.ensures in
    rw (c.in-Show.is, ← place) (c.show_items.ensures b w e f)

pub returns-in-ShowExactly : goal.returns-in-ShowExactly
returns-in-ShowExactly g c b w e f =
    let place : c.deref-in-ShowExactly.result.now ≡ c.args.name.now ++ codes ": " =
    c.deref-in-ShowExactly.ensures.value ∙ c.in_ok-place.ensures in
    rw (c.in-ShowExactly.is, ← place) (c.show_exactly.ensures b w e f)

pub returns-in-Dump : goal.returns-in-Dump
returns-in-Dump g c b w e f = rw c.in-Dump.is (c.dump_input.ensures b w e f)
