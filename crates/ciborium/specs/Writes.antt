-- What writing answers, and where the sink over a writer stands.
use Rattle.std.specs.{Borrow.GName, Prelude.{◌≡◌, ℕ, List, Option, Some, None, Result, Ok, Err, IsErr}}
use Rattle.ciborium_ll.specs.Writing.{Writes}
use Rattle.ciborium_value.specs.{Encoding.written_bytes, Places.{Place, Out, IsOutAt, IsWrittenPlace}, Sinks.Named}
use Rattle.ciborium_value.specs.{Sinks.{Cause, value, memory, device}, WrittenItems.IsWritten}
use Rattle.ciborium.specs.declared.ser.{byte_sink.{BareWriteError.BareWriteError, ByteSink.ByteSink}, error.Error.Error}
use Rattle.ciborium.specs.declared.ser.error.Error.TheVariants.{Io, Value, Memory}
use Rattle.ciborium.specs.declared.ser.byte_sink.BareWriteError.TheVariants as refusal

-- the error is `Io`; of which error it holds nothing is said
abbrev pub IsWriteIo : {T : Type 0} → Error T → Type 0
IsWriteIo (Io e) = Unit {0}
IsWriteIo (Value kind) = ⊥
IsWriteIo Memory = ⊥

-- why writing was refused
abbrev pub cause_of : {T : Type 0} → Error T → Cause
cause_of (Io e) = device
cause_of (Value kind) = value kind
cause_of Memory = memory

-- the bytes of the item that a value names: all at `Ok`, a proper beginning of them at `Err`, and
-- nothing else. A value that names
-- none is never written
abbrev pub WritesNamed : {E : Type 0} → Option (List ℕ) → Option (List ℕ) → Result (Unit {0}) E → Named → Type 0
WritesNamed old new result (Ok i) = Writes old new result (written_bytes i)
WritesNamed old new result (Err kind) = IsErr result

-- the item that is named can be written
abbrev pub IsNamedWritten : Named → Type 0
IsNamedWritten (Ok i) = IsWritten i
IsNamedWritten (Err kind) = ⊥

-- these are just the bytes of the item that a value names, which can be written
abbrev pub IsWrittenAs : List ℕ → Named → Type 0
IsWrittenAs b (Ok i) = (b ≡ written_bytes i) × IsWritten i
IsWrittenAs b (Err kind) = ⊥

-- a value is refused for the kind that it names; or memory was
abbrev pub RefusesToWrite : {T : Type 0} → Error T → Named → Type 0
RefusesToWrite (Io e) named = ⊥
RefusesToWrite (Value kind) named = named ≡ Err kind
RefusesToWrite Memory named = Unit {0}

-- ---- the sink over a writer

abbrev pub named_out : GName → Option (List ℕ) → Out
named_out name None = None
named_out name (Some bs) = Some (name, bs)

-- the writer's bytes, where they are known
abbrev pub out_of : {W : Type 0} → (W → Option (List ℕ)) → ByteSink W → Out
out_of contents s = named_out s.writer.ghost_name (contents s.writer.now)

-- the bytes go out: all at `Ok`, and at `Err` a proper beginning of them
abbrev pub PutsOut : {W E : Type 0} → (W → Option (List ℕ)) → ByteSink W → ByteSink W →
    Result (Unit {0}) E → List ℕ → Type 0
PutsOut contents old new result bytes = Writes (contents old.writer.now) (contents new.writer.now) result bytes

-- just the bytes of the place are out, and they can be written
abbrev pub IsOutFor : {W : Type 0} → (W → Option (List ℕ)) → ByteSink W → Place → Type 0
IsOutFor contents s p = IsOutAt (out_of contents s) p × IsWrittenPlace p

abbrev pub refusal_cause : BareWriteError → Cause
refusal_cause refusal.Io = device
refusal_cause (refusal.Value kind) = value kind
refusal_cause refusal.Memory = memory
