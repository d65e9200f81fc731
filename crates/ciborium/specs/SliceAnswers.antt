-- What reading answers where all of the bytes are at hand, and have to be one item.
use Rattle.std.specs.Prelude.{◌≡◌, ◌≢◌, ℕ, ◌⊎◌, List, [], ◌++◌, length, Some, Result, Ok, Err, IfErr, IfOk, IfSome}
use Rattle.ciborium_ll.specs.{Item.Item, Spells.Spells, declared.kind.Kind.TheVariants.TrailingData}
use Rattle.ciborium_value.specs.{Given.{Given, gives, outcome}, Readings.Reading, Refuses.Refuses, Sources.IsFaultOf}
use Rattle.ciborium_value.specs.{Sources.IsGrantedFault, Spelling.{any, IsReadAs}, Tree.Tree, View.result_map}
use Rattle.ciborium.specs.{Errors.fault_of, ValueAnswers.IsRefusedBy, declared.de.error.Error.Error}
use Rattle.ciborium.specs.declared.de.error.Error.TheVariants.{Memory, Semantic}

-- ---- by what an item gives

-- at Ok all of the bytes are one item, which gives the answer
abbrev pub IsAllTaken : {A E : Type 0} → ℕ → Given A → List ℕ → Result A (Error E) → Type 0
IsAllTaken l taken b r = IfOk r (λ v. (i : Item) × Spells b i × (outcome (Some l) (taken i) ≡ gives v))

-- bytes that are one item, which gives a value, answer it, unless an allocation failed
abbrev pub GivesAll : {A E : Type 0} → ℕ → Given A → List ℕ → Result A (Error E) → Type 0
GivesAll {A} l taken b r = (i : Item) (v : A) → Spells b i → outcome (Some l) (taken i) ≡ gives v →
    (r ≡ Ok v) ⊎ (r ≡ Err Memory)

-- an item at the front is refused as it is; or it gives a value, bytes follow it, and they are
-- refused where they begin
abbrev pub RefusesAll : {A E : Type 0} → ℕ → Given A → List ℕ → Result A (Error E) → Type 0
RefusesAll {A} l taken b r = IfErr r (λ e. (i : Item) (s left : List ℕ) → Spells s i →
    b ≡ s ++ left → IsFaultOf (length s) (fault_of (Some []) e) (outcome (Some l) (taken i)) ⊎
    ((left ≢ []) × ((v : A) × (outcome (Some l) (taken i) ≡ gives v)) × (e ≡ Semantic (Some (length s)) TrailingData)))

-- ---- by the tree of a value

-- bytes that are read as a value within l levels are followed by others, and these are refused
-- where they begin
abbrev pub RefusesTrailing : {E : Type 0} → ℕ → List ℕ → Error E → Type 0
RefusesTrailing l b e = (v : Tree) × (s : List ℕ) × (left : List ℕ) × IsReadAs any s 0 (Some l) v ×
    (b ≡ s ++ left) × (left ≢ []) × (e ≡ Semantic (Some (length s)) TrailingData)

-- all of the bytes are read as the answer; or they are refused as the definitions refuse them
abbrev pub AreAllRead : {E : Type 0} → ℕ → List ℕ → Result Tree (Error E) → Type 0
AreAllRead l b (Ok v) = IsReadAs any b 0 (Some l) v
AreAllRead l b (Err e) = IsRefusedBy (Some []) e (Refuses any b 0 (Some l)) ⊎ RefusesTrailing l b e

-- bytes that are read as a value answer it, unless an allocation failed
abbrev pub AnswersAll : {E : Type 0} → ℕ → List ℕ → Result Tree (Error E) → Type 0
AnswersAll l b r = (v : Tree) → IsReadAs any b 0 (Some l) v → (r ≡ Ok v) ⊎ (r ≡ Err Memory)

-- ---- all of this

-- a call that reads all of the bytes as a value of a type, within l levels; it has no reader that
-- could fail, so `Io` is the end of the bytes
pub record ReadsAll {T A E : Type 0} (l : ℕ) (reading : Reading T A) (b : List ℕ)
    (r : Result T (Error E)) : Type 0 where
  pub ok : IsAllTaken l reading.taken b (result_map reading.content r)
  pub exact : GivesAll l reading.taken b (result_map reading.content r)
  pub refused : RefusesAll l reading.taken b (result_map reading.content r)
  pub memory : IfErr r (λ e. IsGrantedFault (fault_of (Some []) e) reading.needs_memory)
  -- where reading is one call of `value`
  pub value : IfSome reading.whole (λ tree. AreAllRead l b (result_map (λ v. tree (reading.content v)) r))
  pub whole : IfSome reading.whole (λ tree. AnswersAll l b (result_map (λ v. tree (reading.content v)) r))
