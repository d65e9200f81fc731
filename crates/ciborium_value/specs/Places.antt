-- Where a sink stands while a value is written (RFC 8949, sections 3.2 and 4.1).
use Rattle.std.specs.Prelude.{◌≡◌, ℕ, ◌+◌, ◌<◌, ◌≤◌, Bool, true, false, List, [], ◌∷◌, ◌++◌, length, Option, Some, None}
use Rattle.std.specs.Borrow.{GName}
use Rattle.ciborium_ll.specs.{Bytes.greatest_offset, Head.{shortest_head, break_byte}, Header.counted_bytes, Item.Item}
use Rattle.ciborium_ll.specs.{Item.{Items, Pairs}, ProperItems.IsArgument}
use Rattle.ciborium_value.specs.{Encoding.items_bytes, WrittenItems.AreWritten}
use Rattle.ciborium_ll.specs.Item as item

-- ---- containers

-- an array, or a map whose keys and values come in turn
pub data ContainerType : Type 0 where
  an_array : ContainerType
  a_map : ContainerType

-- how many items stand in a container that announces n
abbrev pub size_of : ContainerType → ℕ → ℕ
size_of an_array n = n
size_of a_map n = n + n

abbrev pub items_from : List Item → Items
items_from [] = item.no_items
items_from (i ∷ is) = item.item i (items_from is)

-- keys and values in turn
abbrev pub pairs_from : List Item → Pairs
pairs_from [] = item.no_pairs
pairs_from (k ∷ []) = item.no_pairs
pairs_from (k ∷ v ∷ is) = item.pair k v (pairs_from is)

-- the container of these items, open or definite
abbrev pub container : ContainerType → Bool → List Item → Item
container an_array open_ is = item.array open_ (items_from is)
container a_map open_ is = item.map open_ (pairs_from is)

abbrev pub container_major : ContainerType → ℕ
container_major an_array = 4
container_major a_map = 5

-- what begins a container, open where nothing is announced
abbrev pub begin_bytes : ContainerType → Option ℕ → List ℕ
begin_bytes s n = counted_bytes (container_major s) n

-- what ends it
abbrev pub end_bytes : Option ℕ → List ℕ
end_bytes None = break_byte ∷ []
end_bytes (Some n) = []

abbrev pub is_open : Option ℕ → Bool
is_open None = true
is_open (Some n) = false

-- ---- places

-- the items that are done in the innermost container, what it announced, and what is unfinished around
-- it. The top holds the one item
-- that is written, the writer whose bytes are known, and the bytes before it; a tag waits for its
-- item
pub data Place : Type 0 where
  top : Option GName → List ℕ → List Item → Place
  within : ContainerType → Option ℕ → List Item → Place → Place
  tagged : ℕ → Place → Place

-- one more item may come
abbrev pub HasRoom : Place → Type 0
HasRoom (top name before done) = length done < 1
HasRoom (within s None done around) = Unit {0}
HasRoom (within s (Some n) done around) = length done < size_of s n
HasRoom (tagged t p) = HasRoom p

-- the place behind one more item
abbrev pub added : Place → Item → Place
added (top name before done) i = top name before (done ++ i ∷ [])
added (within s n done around) i = within s n (done ++ i ∷ []) around
added (tagged t p) i = added p (item.tag t i)

-- the place behind the end of the innermost container
abbrev pub ended : Place → Place
ended (top name before done) = top name before done
ended (within s n done around) = added around (container s (is_open n) done)
ended (tagged t p) = tagged t p

-- so many items make whole pairs
abbrev pub IsWhole : ContainerType → ℕ → Type 0
IsWhole an_array k = Unit {0}
IsWhole a_map k = (m : ℕ) × (k ≡ m + m)

-- all that was announced is done
abbrev pub IsFull : ContainerType → Option ℕ → List Item → Type 0
IsFull s None done = IsWhole s (length done)
IsFull s (Some n) done = length done ≡ size_of s n

-- the innermost container was begun with n and can end here
abbrev pub IsComplete : Place → Option ℕ → Type 0
IsComplete (top name before done) n = ⊥
IsComplete (within s m done around) n = (m ≡ n) × IsFull s m done
IsComplete (tagged t p) n = ⊥

-- an announced count that fits into memory
abbrev pub Fits : Option ℕ → Type 0
Fits None = Unit {0}
Fits (Some n) = n ≤ greatest_offset

-- what is done and what waits can be written
abbrev pub IsWrittenPlace : Place → Type 0
IsWrittenPlace (top name before done) = AreWritten (items_from done)
IsWrittenPlace (within s n done around) = Fits n × AreWritten (items_from done) × IsWrittenPlace around
IsWrittenPlace (tagged t p) = IsArgument t × IsWrittenPlace p

-- ---- bytes

-- the bytes that are out
unfoldable pub bytes_at : Place → List ℕ
bytes_at (top name before done) = before ++ items_bytes (items_from done)
bytes_at (within s n done around) = bytes_at around ++ (begin_bytes s n ++ items_bytes (items_from done))
bytes_at (tagged t p) = bytes_at p ++ shortest_head 6 t

-- the writer whose bytes are known
abbrev pub writer_at : Place → Option GName
writer_at (top name before done) = name
writer_at (within s n done around) = writer_at around
writer_at (tagged t p) = writer_at p

abbrev pub IsBeginning : List ℕ → List ℕ → Type 0
IsBeginning a b = (rest : List ℕ) × (b ≡ a ++ rest)

-- a beginning, and not all
abbrev pub IsProperBeginning : List ℕ → List ℕ → Type 0
IsProperBeginning a b = (c : ℕ) × (rest : List ℕ) × (b ≡ a ++ c ∷ rest)

-- the bytes of a writer by name, where they are known
abbrev pub Out : Type 0
Out = Option (GName × List ℕ)

abbrev pub IsOutOf : Option GName → Out → List ℕ → Type 0
IsOutOf None out bs = Unit {0}
IsOutOf (Some name) out bs = out ≡ Some (name, bs)

-- just the bytes of the place are out
abbrev pub IsOutAt : Out → Place → Type 0
IsOutAt out p = IsOutOf (writer_at p) out (bytes_at p)

abbrev pub IsOutBetween : Option GName → Out → List ℕ → List ℕ → Type 0
IsOutBetween None out from to = Unit {0}
IsOutBetween (Some name) out from to = (bs : List ℕ) × (out ≡ Some (name, bs)) ×
    IsBeginning from bs × IsProperBeginning bs to

-- the bytes of p are out, and a beginning of what q adds to them, but not all of it
abbrev pub IsCutBetween : Out → Place → Place → Type 0
IsCutBetween out p q = IsOutBetween (writer_at p) out (bytes_at p) (bytes_at q)
