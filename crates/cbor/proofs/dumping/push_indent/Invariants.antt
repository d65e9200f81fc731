use Rattle.std.{proofs.Common.{◌≡◌, ◌++◌, codes}, specs.List.repeat}
use Rattle.cbor.proofs.dumping.push_indent.Given as goal

-- the spaces of so many levels stand behind the text
abbrev pub invariant-levels : goal.invariant-levels
invariant-levels l = l.text.items ≡ l.initial.text.items ++ repeat l.counter (codes "  ")
