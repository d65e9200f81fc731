-- Why a copy is refused in which bignums are folded.
use Rattle.std.specs.Prelude.{◌≡◌, Option, None}
use Rattle.ciborium_value.specs.declared.error.Error.{Error, TheVariants.{Custom, Memory}}
use Rattle.ciborium_ll.specs.declared.kind.Kind.TheVariants as kinds

-- as too large where it does not fold, or for want of memory
abbrev pub RefusesFolding : {A : Type 0} → Error → Option A → Type 0
RefusesFolding (Custom k) o = (k ≡ kinds.TooLarge) × (o ≡ None)
RefusesFolding Memory o = Unit {0}
