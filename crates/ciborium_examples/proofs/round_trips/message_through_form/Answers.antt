-- What was written into no bytes is read back, whatever order the fields come in.
use Rattle.std.proofs.Common.{rules}
use Rattle.ciborium_examples.proofs.round_trips.message_through_form.Goals as goal

pub returns-clause-version : goal.returns-clause-version
returns-clause-version c =
    let law = c.written_deterministically_is_read_back.ensures.alike c.new-bytes.result.items
    c.into_writer_deterministic.new.writer.items in search (rules, law)

pub returns-clause-body : goal.returns-clause-body
returns-clause-body c =
    let law = c.written_deterministically_is_read_back.ensures.alike c.new-bytes.result.items
    c.into_writer_deterministic.new.writer.items in search (rules, law)
