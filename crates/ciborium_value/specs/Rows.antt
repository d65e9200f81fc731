-- The types that a `Value` holds, as the logic holds them, for the clauses on what a `&mut` lends.
use Rattle.std.specs.{Borrow.u8, Prelude.{[], ◌∷◌}, contracts.impls.GlobalAllocator.TheImpl.ghosts}
use Rattle.ciborium_value.specs.contracts.tree.Value.{the_row}
use denote.{RattleType.RattleType, Struct.Tuple.Tuple}
use Rattle.std.specs.contracts.alloc.Global as global
use Rattle.std.specs.contracts.vec.Vec as vec
use Rattle.std.specs.contracts.string.String as string

abbrev pub bytes_row : RattleType
bytes_row = vec.the_row u8 global.the_row ghosts

abbrev pub text_row : RattleType
text_row = string.the_row global.the_row ghosts

abbrev pub array_row : RattleType
array_row = vec.the_row the_row global.the_row ghosts

abbrev pub map_row : RattleType
map_row = vec.the_row (Tuple (the_row ∷ the_row ∷ [])) global.the_row ghosts
