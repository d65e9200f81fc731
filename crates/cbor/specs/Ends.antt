-- The status that a run ends with.
use Rattle.std.specs.Prelude.{◌≡◌, ◌⊎◌, ℕ, ◌≤◌, Bool, true, false, if◌then◌else◌, Result, Ok, Err}
use Rattle.cbor.specs.declared.command.Command.{Command, TheVariants.{Answer, Sort}}
use Rattle.cbor.specs.declared.{command.Command.TheVariants.Tell, fault.Fault.Fault}
use Rattle.cbor.specs.declared.fault.Fault.TheVariants as faults
use Rattle.cbor.specs.declared.reading.Reading.TheVariants as readings

-- whether a fault of a device has a status of its own: not where lines are read, sorted or read as
-- sequences, and where the program tells of itself
abbrev pub tells_devices : Command → Bool
tells_devices (Answer (readings.Item spelling n)) = false
tells_devices (Answer readings.Sequence) = false
tells_devices (Sort order) = false
tells_devices (Tell topic) = false
tells_devices _ = true

-- the status that a fault ends a run with
abbrev pub fault_status : Command → Fault → ℕ
fault_status command faults.Memory = 1
fault_status command fault = if tells_devices command then 3 else 1

-- the status of a run that found all to be as it is asked for, or something that is not, or that a
-- fault ended
abbrev pub end_status : Command → Result Bool Fault → ℕ
end_status command (Ok true) = 0
end_status command (Ok false) = 1
end_status command (Err fault) = fault_status command fault

-- the statuses of a run that was asked for this
abbrev pub IsStatusOf : Command → ℕ → Type 0
IsStatusOf command status = (status ≤ 1) ⊎ ((tells_devices command ≡ true) × (status ≡ 3))
