use Rattle.std.{proofs.Common.{[], Err, Ok, Some}, specs.declared.io.Error.Error}
use Rattle.ciborium_value.specs.{Spelling.any, View.tree_of}
use Rattle.ciborium.proofs.Readers.KnownReaders.{followed, whole-of}
use Rattle.cbor.proofs.{ReadBytes.named-anyway, StreamedItems.{taken-size, what-is-left}}
use Rattle.cbor.specs.declared.reading.Spelling.TheVariants.{Any}
use Rattle.cbor.proofs.streams.read_any.Goals as goal

pub judge_error-requires : goal.judge_error-requires
judge_error-requires g c = named-anyway (Some []) c.in-Err.error _
    (followed any c.args.limit _ c.in-Err.error c.in-Err.ensures.next.value.3 [])

pub returns-in-Ok-Some : goal.returns-in-Ok-Some
returns-in-Ok-Some g c b e =
    let said = rw c.in-Ok-Some.field-0-is at c.in-Ok-Some.ensures in
    let item = (whole-of {E = Error} any c.args.limit _ _ (Ok (tree_of c.in-Ok-Some.value)) said.next.value).ok b e in
    (item.1, (item.0, item.2, item.3), item.4, taken-size _ _ b item.1 _ e item.4 said.moved)

pub returns-in_ok-refusal-in-Err : goal.returns-in_ok-refusal-in-Err
returns-in_ok-refusal-in-Err g c b e =
    let taken = c.in-Err.ensures.next.value in
    let left = what-is-left _ _ b taken.0 e taken.1 in
    c.in_ok-refusal-in-Err.ensures Any b left.0 c.args.limit left.1
    ((whole-of {E = Error} any c.args.limit _ _ (Err c.in-Err.error) taken).refused b e)
