use Rattle.ciborium_ll.proofs.HeaderBytes.{header_bytes_spelled, no_spelling_is_shorter, no_other_spelling_is_as_short}
use Rattle.ciborium_ll.proofs.spelling_laws.header_bytes_spell.Goals as goal

pub returns : goal.returns
returns c = record {
  spelled = header_bytes_spelled;
  none_shorter = no_spelling_is_shorter;
  no_other = no_other_spelling_is_as_short;
}
