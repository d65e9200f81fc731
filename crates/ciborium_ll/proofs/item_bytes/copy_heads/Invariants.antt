use Rattle.std.proofs.Common.{◌<◌}
use Rattle.ciborium_ll.specs.ItemBytes.{HasCopied}
use Rattle.ciborium_ll.proofs.item_bytes.copy_heads.Given as goal

-- what was taken was copied, and more is missing
abbrev pub invariant-pieces : goal.invariant-pieces
invariant-pieces g l = record {
  copied : HasCopied (g.R.Read.remaining l.fn.reader) (g.R.Read.remaining l.reader) l.fn.item.items l.item.items
      (λ _. Unit {0});
  some : 0 < l.missing;
}
