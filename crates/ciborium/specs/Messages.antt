-- What `{}` prints of an error of reading, and of one of writing.
use Rattle.std.specs.{Prelude.{ℕ, List, ◌++◌, Option, Some, None, codes}, Fmt.◌++?◌}
use Rattle.ciborium_ll.specs.HeadMessages.{at_byte, syntax_message, too_long_message, memory_message, kind_message}
use Rattle.ciborium_ll.specs.HeadMessages.{read_failure_message}
use Rattle.ciborium.specs.{declared.de.error.Error.Error as ReadError, declared.ser.error.Error.Error as WriteError}
use Rattle.ciborium.specs.declared.de.error.Error.TheVariants as read
use Rattle.ciborium.specs.declared.ser.error.Error.TheVariants as write

-- the message of an error of reading, where `output` is what `{}` prints of the reader's errors
abbrev pub read_error_message : {E : Type 0} → (E → Option (List ℕ)) → ReadError E → Option (List ℕ)
read_error_message output (read.Io e) = read_failure_message (output e)
read_error_message output (read.Syntax p) = Some (syntax_message p)
read_error_message output (read.Semantic (Some p) k) = Some (at_byte p (kind_message k))
read_error_message output (read.Semantic None k) = Some (kind_message k)
read_error_message output read.RecursionLimitExceeded = Some (codes "nested deeper than the limit")
read_error_message output read.Memory = Some memory_message
read_error_message output read.TooLong = Some too_long_message

-- the message of an error of writing, where `output` is what `{}` prints of the writer's errors
abbrev pub write_error_message : {E : Type 0} → (E → Option (List ℕ)) → WriteError E → Option (List ℕ)
write_error_message output (write.Io e) = Some (codes "writing failed: ") ++? output e
write_error_message output (write.Value k) = Some (codes "the value cannot be written: " ++ kind_message k)
write_error_message output write.Memory = Some memory_message
