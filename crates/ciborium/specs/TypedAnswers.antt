-- What reading a value of any type answers, from bytes and from a tree.
use Rattle.std.specs.Prelude.{◌≡◌, ℕ, ◌+◌, Bool, true, List, ◌++◌, length, Option, Some, None, Result, Ok, Err, IfOk}
use Rattle.std.specs.{Prelude.{IfErr, IfSome}, Io.KnownBytes.Consumes, declared.io.Error.Error as IoError}
use Rattle.ciborium_ll.specs.{Accesses.left_at_failure, Item.Item, Spells.Spells, declared.kind.Kind.Kind}
use Rattle.ciborium_value.specs.{Encoding.{encoding, item_of}, Given.{Given, gives, outcome}, Nesting.Limit}
use Rattle.ciborium_value.specs.{ProperTrees.IsProperTree, Readings.Reading, Sources.{Fault, of_kind, of_nesting}}
use Rattle.ciborium_value.specs.Sources.{of_syntax, of_memory, of_device, of_end, of_length, IsFaultOf, IsGrantedFault}
use Rattle.ciborium_value.specs.{Tree.Tree, TreeAnswers.IsErrorOf, View.result_map}
use Rattle.ciborium_value.specs.declared.error.Error.{Error as TreeError}
use Rattle.ciborium.specs.{Errors.fault_of, declared.de.error.Error.Error}
use Rattle.ciborium_value.specs.declared.error.Error.TheVariants as of_tree

-- ---- from bytes: what the reader had left before, what it is left with, and the answer

-- an item stood at the front that gives v within the limit, and just that item was taken
abbrev pub TakesGiving : {A : Type 0} → Limit → Given A → List ℕ → A → Option (List ℕ) → Type 0
TakesGiving l taken b v after = (i : Item) × (s : List ℕ) × (left : List ℕ) × Spells s i ×
    (b ≡ s ++ left) × (outcome l (taken i) ≡ gives v) × (after ≡ Some left)

-- where an item stands at the front, at offset p, it is refused so, or for what no item decides: as
-- too long only where its own bytes pass the greatest offset
abbrev pub IsFaultAhead : {A : Type 0} → ℕ → Limit → Given A → List ℕ → Fault → Type 0
IsFaultAhead p l taken b fault = (i : Item) (s left : List ℕ) → Spells s i → b ≡ s ++ left →
    IsFaultOf (p + length s) fault (outcome l (taken i))

-- at Ok just an item was taken, and the answer is what it gives
abbrev pub TakesGiven : {A E : Type 0} → Limit → Given A → Option (List ℕ) → Option (List ℕ) →
    Result A (Error E) → Type 0
TakesGiven l taken before after r = (b : List ℕ) → before ≡ Some b → IfOk r (λ v. TakesGiving l taken b v after)

-- an item at the front, at offset p, is refused only as it is, and with `Io` only where the device
-- failed, not at the reader's end
abbrev pub RefusesGiven : {A E : Type 0} → ℕ → Limit → Given A → Option (List ℕ) →
    Option (List ℕ) → Result A (Error E) → Type 0
RefusesGiven p l taken before after r = (b : List ℕ) → before ≡ Some b →
    IfErr r (λ e. IsFaultAhead p l taken b (fault_of after e))

-- some bytes were taken, a beginning of those that are known, and nothing else
abbrev pub TakesBeginning : Option (List ℕ) → Option (List ℕ) → Type 0
TakesBeginning before after = (b : List ℕ) × Consumes before after b

-- a call that reads one value, whose bytes begin at offset p, within a limit: whether the reader
-- can fail before its end, what it held before, what it is left with, what holds of the tree where
-- reading is one call of `value`, and the answer
pub record ReadsAsTypeFrom {T A E : Type 0} (can_fail : Bool) (p : ℕ) (l : Limit)
    (reading : Reading T A) (before after : Option (List ℕ)) (P : Result Tree (Error E) → Type 0)
    (r : Result T (Error E)) : Type 0 where
  -- where an item stands at the front: just it was taken, and the answer is what it gives; or it is
  -- refused as the item is
  pub ok : TakesGiven l reading.taken before after (result_map reading.content r)
  pub refused : RefusesGiven p l reading.taken before (left_at_failure can_fail after) (result_map reading.content r)
  pub memory : IfErr r (λ e. IsGrantedFault (fault_of (left_at_failure can_fail after) e) reading.needs_memory)
  -- refused or not
  pub taken : TakesBeginning before after
  pub value : IfSome reading.whole (λ tree. P (result_map (λ v. tree (reading.content v)) r))

-- the same of any reader
abbrev pub ReadsAsType : {T A E : Type 0} → ℕ → Limit → Reading T A → Option (List ℕ) →
    Option (List ℕ) → (Result Tree (Error E) → Type 0) → Result T (Error E) → Type 0
ReadsAsType p l reading before after P r = ReadsAsTypeFrom true p l reading before after P r

-- ---- from both

-- the answer of a source over a tree whose item is i, where there is no limit
abbrev pub AnswersTree : {A : Type 0} → Given A → Item → Result A TreeError → Type 0
AnswersTree taken i (Ok v) = outcome None (taken i) ≡ gives v
AnswersTree taken i (Err e) = IsErrorOf e (outcome None (taken i))

-- the answer of a reader over these bytes within a limit
abbrev pub AnswersBytes : {A E : Type 0} → Given A → ℕ → List ℕ → Option (List ℕ) → Result A (Error E) → Type 0
AnswersBytes taken l b after r = TakesGiven (Some l) taken (Some b) after r ×
    RefusesGiven 0 (Some l) taken (Some b) after r

-- refused for nesting, for want of memory, as too long or by the device
abbrev pub IsExcused : Fault → Type 0
IsExcused (of_kind k) = ⊥
IsExcused of_nesting = Unit {0}
IsExcused of_syntax = ⊥
IsExcused of_memory = Unit {0}
IsExcused of_device = Unit {0}
IsExcused of_end = ⊥
IsExcused of_length = Unit {0}

-- refused with this kind, or excused
abbrev pub IsSameKind : Kind → Fault → Type 0
IsSameKind k (of_kind j) = j ≡ k
IsSameKind k of_nesting = Unit {0}
IsSameKind k of_syntax = ⊥
IsSameKind k of_memory = Unit {0}
IsSameKind k of_device = Unit {0}
IsSameKind k of_end = ⊥
IsSameKind k of_length = Unit {0}

-- the same value, or both are refused with the same kind; the second, which leaves this of its
-- reader, may be refused for nesting, and either for want of memory
abbrev pub AreOneAnswer : {A E : Type 0} → Option (List ℕ) → Result A TreeError → Result A (Error E) → Type 0
AreOneAnswer after (Ok v) (Ok w) = v ≡ w
AreOneAnswer after (Ok v) (Err e) = IsExcused (fault_of after e)
AreOneAnswer after (Err (of_tree.Custom k)) (Ok w) = ⊥
AreOneAnswer after (Err (of_tree.Custom k)) (Err e) = IsSameKind k (fault_of after e)
AreOneAnswer after (Err of_tree.Memory) r = Unit {0}

-- what a tree gives, and what its encoding gives within a limit, are one answer
abbrev pub SourcesAgree : {A : Type 0} → Given A → Type 0
SourcesAgree {A} taken = (v : Tree) (l : ℕ) (after : Option (List ℕ)) (r : Result A TreeError)
    (q : Result A (Error IoError)) → IsProperTree v →
    AnswersTree taken (item_of v) r → AnswersBytes taken l (encoding v) after q → AreOneAnswer after r q
