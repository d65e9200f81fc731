-- The levels that are kept while an item is read head by head.
use Rattle.std.specs.Prelude.{◌≡◌, List, [], ◌∷◌, length, drop, Option, Some, None, Result, Ok, Err}
use Rattle.ciborium_ll.specs.{declared.header.Header.Header, declared.levels.Levels.Levels, declared.levels.Level.Level}
use Rattle.ciborium_ll.specs.{declared.levels.Misfit.Misfit, Levels.{behind_head, incomplete}}
use Rattle.ciborium_ll.specs.declared.levels.Misfit.TheVariants as misfit

-- the levels that are kept, the innermost first
abbrev pub levels_in : Levels → List Level
levels_in l = drop l.free l.kept

-- the innermost level
abbrev pub top_of : List Level → Option Level
top_of [] = None
top_of (level ∷ levels) = Some level

-- a head was counted, or it is refused: it may not stand there, or it enters a level more than are
-- kept
abbrev pub IsPassed : Header → List Level → List Level → Result (Unit {0}) Misfit → Type 0
IsPassed header old new (Ok u) = (more : List Level) × (behind_head header old ≡ Some more) × (new ≡ incomplete more)
IsPassed header old new (Err misfit.Misplaced) = behind_head header old ≡ None
IsPassed header old new (Err misfit.TooDeep) = (more : List Level) ×
    (behind_head header old ≡ Some more) × (length old ≡ 257) × (length more ≡ 258)
