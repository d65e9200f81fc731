-- The answers of the loop that puts a value together, turn by turn.
use Rattle.std.specs.Prelude.{◌≡◌, ℕ, ◌⊎◌, List, Option, Some, None, Result, Ok, Err}
use Rattle.ciborium_ll.specs.{declared.decoder.Decoder.Decoder, Decoding.{IsAhead, left_of}}
use Rattle.ciborium_value.specs.{Refuses.Refuses, Spelling.Spelling, Tree.Tree, View.{result_map, tree_of}}
use Rattle.ciborium_value.specs.{declared.tree.Value.Value, inner.Frames.{TreeFrame, done, more, placed}}
use Rattle.ciborium_value.specs.inner.ReadItems.{ReadsItem}
use Rattle.ciborium.specs.{declared.de.error.Error.Error, declared.de.error.Error.TheVariants.{Memory, Semantic}}
use Rattle.ciborium.specs.{ValueAnswers.IsRefusedBy, inner.Around.IsAround, inner.Rules.HasKeyInOrder}
use Rattle.ciborium.specs.{inner.Rules.HasKeyOutOfOrder, inner.ValuesInBytes.StandsAt}
use Rattle.ciborium_ll.specs.declared.kind.Kind.TheVariants as kinds

-- a value within l levels is being read at xs, offset p: this is unfinished, and the decoder stands
-- inside it
abbrev pub IsReading : {S W : Type 0} → Spelling → (S → Option (List ℕ)) → Decoder S W →
    List TreeFrame → ℕ → List ℕ → ℕ → Type 0
IsReading spelling remaining d os l xs p =
    (m : ℕ) × (zs : List ℕ) × (r : ℕ) × IsAround spelling l xs p os m zs r × StandsAt spelling remaining d zs r

-- the answer of a call that reads a value, by its tree
abbrev pub IsTreeRead : {S W E : Type 0} →
    Spelling → (S → Option (List ℕ)) → Decoder S W → ℕ → List ℕ → ℕ → Result Tree (Error E) → Type 0
IsTreeRead spelling remaining d l xs p (Ok v) = (zs : List ℕ) × (r : ℕ) ×
    ReadsItem spelling (Some l) xs p v zs r × IsAhead remaining d zs r
IsTreeRead spelling remaining d l xs p (Err e) = IsRefusedBy (left_of remaining d) e (Refuses spelling xs p (Some l))

abbrev pub IsValueRead : {S W E : Type 0} → Spelling → (S → Option (List ℕ)) → Decoder S W → ℕ →
    List ℕ → ℕ → Result Value (Error E) → Type 0
IsValueRead spelling remaining d l xs p r = IsTreeRead spelling remaining d l xs p (result_map tree_of r)

-- the answer of one turn of the loop
abbrev pub IsTurned : {S W E : Type 0} → Spelling → (S → Option (List ℕ)) → Decoder S W →
    List TreeFrame → ℕ → List ℕ → ℕ → Result (Option Value) (Error E) → Type 0
IsTurned spelling remaining d os l xs p (Ok None) = IsReading spelling remaining d os l xs p
IsTurned spelling remaining d os l xs p (Ok (Some v)) =
    (zs : List ℕ) × (r : ℕ) × ReadsItem spelling (Some l) xs p (tree_of v) zs r × IsAhead remaining d zs r
IsTurned spelling remaining d os l xs p (Err e) = IsRefusedBy (left_of remaining d) e (Refuses spelling xs p (Some l))

-- the answer of a call that places a value that ends before offset r
abbrev pub IsPlacedInOrder : {E : Type 0} → Spelling → List TreeFrame → Tree → ℕ → List TreeFrame →
    Result (Option Value) (Error E) → Type 0
IsPlacedInOrder spelling before v r after (Ok None) = (more after ≡ placed before v) × HasKeyInOrder spelling after
IsPlacedInOrder spelling before v r after (Ok (Some w)) = done (tree_of w) ≡ placed before v
IsPlacedInOrder spelling before v r after (Err e) = (e ≡ Memory) ⊎ ((more after ≡ placed before v) ×
    ((at : ℕ) × HasKeyOutOfOrder spelling after r at × (e ≡ Semantic (Some at) kinds.KeyOrder)))
