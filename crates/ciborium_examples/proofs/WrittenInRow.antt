-- Two values that are written in a row are a sequence of their items.
use Rattle.std.proofs.Common.{◌≡◌, ℕ, List, [], ◌++◌, Option, Ok, Err, refl, sym, subst, append-nil}
use Rattle.std.{proofs.KnownBytes.Appends-trans, specs.Io.KnownBytes.Appends}
use Rattle.ciborium.specs.{Encoding.written_bytes, Item.Item, ItemSequences.IsSequence, Sinks.Named}
use Rattle.ciborium.specs.Writes.{IsNamedWritten, WritesNamed}
use Rattle.ciborium_value.proofs.Writing.ReadBack.{written_spells_item}
use Rattle.ciborium.specs.Item as items

pub both-written : (old mid new : Option (List ℕ)) (m n : Named) →
    IsNamedWritten m → IsNamedWritten n → ((i : Item) → m ≡ Ok i → Appends old mid (written_bytes i)) →
    ((i : Item) → n ≡ Ok i → Appends mid new (written_bytes i)) → (b : List ℕ) × (i : Item) ×
    (j : Item) × (m ≡ Ok i) × (n ≡ Ok j) × IsSequence b (items.item i (items.item j items.no_items)) × Appends old new b
both-written old mid new (Ok i) (Ok j) w v first second = (
  written_bytes i ++ written_bytes j,
  i,
  j,
  refl,
  refl,
  (
    written_bytes i,
    written_bytes j,
    written_spells_item i w,
    (written_bytes j, [], written_spells_item j v, refl, sym (append-nil (written_bytes j))),
    refl,
  ),
  Appends-trans old mid new (written_bytes i) (written_bytes j) (first i refl) (second j refl),
)
both-written old mid new (Ok i) (Err k) w v first second = absurd v
both-written old mid new (Err k) n w v first second = absurd w

-- what was written of a value that names an item
pub named-appends : (E : Type 0) (old new : Option (List ℕ)) (u : Unit {0}) (m : Named) →
    WritesNamed {E = E} old new (Ok u) m → (i : Item) → m ≡ Ok i → Appends old new (written_bytes i)
named-appends E old new u m h i is = subst (λ n. WritesNamed {E = E} old new (Ok u) n) is h
