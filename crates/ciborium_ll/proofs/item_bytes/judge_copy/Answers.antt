use Rattle.ciborium_ll.proofs.CopiedItems.{malformed-more, deep-more}
use Rattle.ciborium_ll.proofs.item_bytes.judge_copy.Goals as goal

pub returns-in-Err-Malformed : goal.returns-in-Err-Malformed
returns-in-Err-Malformed c left ends =
    malformed-more c.args.copied.now left _ (rw c.in-Err-Malformed.field-0-is at c.in-Err-Malformed.ensures)

pub returns-in-Err-TooDeep : goal.returns-in-Err-TooDeep
returns-in-Err-TooDeep c left ends =
    deep-more c.args.copied.now left _ (rw c.in-Err-TooDeep.field-0-is at c.in-Err-TooDeep.ensures)
