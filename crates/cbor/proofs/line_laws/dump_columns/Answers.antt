use Rattle.cbor.proofs.{DumpedHeads.{dump_keeps_bytes, dump_keeps_hex}, OneDump.one_dump_of_item}
use Rattle.cbor.proofs.line_laws.dump_columns.Goals as goal

pub returns : goal.returns
returns c = record { bytes = dump_keeps_bytes; hex = dump_keeps_hex; one = one_dump_of_item }
