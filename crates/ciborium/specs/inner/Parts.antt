-- What stands at the front of what is ahead, with l levels left.
use Rattle.std.specs.Prelude.{◌≡◌, ℕ, suc, ◌+◌, ◌<◌, ◌≤◌, ◌⊎◌, List, [], ◌∷◌, ◌++◌, length, Option, Some, None, Result}
use Rattle.std.specs.Prelude.{Ok, Err, Bool, true, false}
use Rattle.ciborium_ll.specs.{Bytes.{AreBytes, greatest_offset}, Decoding.left_of, Head.break_byte, Refusal.Refusal}
use Rattle.ciborium_ll.specs.{Refusal.{HeadRefuses, io, semantic}, declared.decoder.Decoder.Decoder}
use Rattle.ciborium_ll.specs.declared.{header.Header.Header, kind.Kind.TheVariants.{NotFolded, TooLarge}}
use Rattle.ciborium_value.specs.{Meaning.{simple_meaning, bignum_meaning, is_bignum_tag}, Refuses.Refuses}
use Rattle.ciborium_value.specs.{Spelling.{Spelling, any, deterministic, IsUnwanted}, Tree.Tree, View.tree_of}
use Rattle.ciborium_value.specs.{declared.tree.Value.Value, inner.{Frames.{TreeFrame, array, map}, ReadItems.ReadsItem}}
use Rattle.ciborium_value.specs.inner.Stack.{begun_frame}
use Rattle.ciborium.specs.{ValueAnswers.IsRefusedBy, declared.de.error.Error.{Error, TheVariants.Semantic}}
use Rattle.ciborium.specs.declared.de.{error.Error.TheVariants.{RecursionLimitExceeded, Memory}, front.Part.Part}
use Rattle.ciborium.specs.{declared.de.front.Part.TheVariants.{Whole, Begun, Ended}, inner.Around.IsUnfinished}
use Rattle.ciborium.specs.inner.{Rules.head_fault, ValuesInBytes.{IsAt, IsPulled, IsBreakAt, StandsAt}}
use Rattle.ciborium_ll.specs.declared.header.Header.TheVariants as header
use Rattle.ciborium_ll.specs.declared.kind.Kind.TheVariants as kinds
use Rattle.ciborium_value.specs.Tree as trees

-- how many places follow the first one, of so many in all (None: as many as come before a break)
abbrev pub IsBehind : Option ℕ → Option ℕ → Type 0
IsBehind (Some n) (Some k) = n ≡ suc k
IsBehind (Some n) None = ⊥
IsBehind None (Some k) = ⊥
IsBehind None None = Unit {0}

-- the head of an array or, if so, a map with this count (None: open), its tree where it has no
-- parts, and its frame before the first part
abbrev pub container_header : Bool → Option ℕ → Header
container_header false count = header.Array count
container_header true count = header.Map count

abbrev pub empty_container : Bool → Tree
empty_container false = trees.array trees.no_trees
empty_container true = trees.map trees.no_tree_pairs

abbrev pub begun_container : Bool → Option ℕ → TreeFrame
begun_container false behind = array [] behind
begun_container true behind = map [] behind None

-- what follows that head
abbrev pub IsContainerBegun : {E : Type 0} → Bool → Option ℕ → ℕ → Result Part (Error E) → Type 0
IsContainerBegun is_map count l (Ok (Whole v)) = (count ≡ Some 0) × (0 < l) × (tree_of v ≡ empty_container is_map)
IsContainerBegun is_map count l (Ok (Begun f)) = (0 < l) × (behind : Option ℕ) ×
    (begun_frame f ≡ begun_container is_map behind) × IsBehind count behind
IsContainerBegun is_map count l (Ok Ended) = ⊥
IsContainerBegun is_map count l (Err e) = (l ≡ 0) × (e ≡ RecursionLimitExceeded)

-- what a simple value at offset p is read as
abbrev pub IsSimpleRead : {E : Type 0} → ℕ → ℕ → Result Part (Error E) → Type 0
IsSimpleRead n p (Ok (Whole v)) = simple_meaning n ≡ Some (tree_of v)
IsSimpleRead n p (Ok part) = ⊥
IsSimpleRead n p (Err e) = (simple_meaning n ≡ None) × (e ≡ Semantic (Some p) kinds.Simple)

-- a container or tag that is unfinished at zs begins at ys
abbrev pub IsFrameBegun : Spelling → ℕ → List ℕ → ℕ → TreeFrame → List ℕ → ℕ → Type 0
IsFrameBegun spelling l ys q o zs r = (m : ℕ) × (l ≡ suc m) × IsUnfinished spelling o m ys q zs r

-- xs refuses so, and is no break that may end what is unfinished
abbrev pub RefusesPart : Spelling → List ℕ → ℕ → ℕ → Refusal → Type 0
RefusesPart spelling xs p l = λ r. Refuses spelling xs p (Some l) r × ¬ IsBreakAt xs p

-- a head was pulled where xs was ahead from offset p on, and is accepted; for the deterministic
-- spelling the decoder knows its size
abbrev pub IsHeadMeasured : {S W : Type 0} → Spelling → Decoder S W → ℕ → Type 0
IsHeadMeasured any d p = Unit {0}
IsHeadMeasured (deterministic order) d p = d.counter.count ≡ p + d.head_len

pub record IsHeadAccepted {S W : Type 0} (spelling : Spelling) (remaining : S → Option (List ℕ))
    (d : Decoder S W) (h : Header) (xs : List ℕ) (p : ℕ) : Type 0 where
  pub pulled : IsPulled remaining d h xs p
  pub right : head_fault spelling h d.head_len ≡ None
  pub sized : IsHeadMeasured spelling d p

-- the answer of a call that pulls a head
abbrev pub IsHeadRead : {S W E : Type 0} → (S → Option (List ℕ)) → Decoder S W → List ℕ → ℕ →
    Result Header (Error E) → Type 0
IsHeadRead remaining d xs p (Ok h) = IsPulled remaining d h xs p
IsHeadRead remaining d xs p (Err e) = IsRefusedBy (left_of remaining d) e (HeadRefuses xs p)

-- the answer of a call that reads a part
abbrev pub IsPartRead : {S W E : Type 0} →
    Spelling → (S → Option (List ℕ)) → Decoder S W → ℕ → List ℕ → ℕ → Result Part (Error E) → Type 0
IsPartRead spelling remaining d l xs p (Ok (Whole v)) =
    (zs : List ℕ) × (r : ℕ) × ReadsItem spelling (Some l) xs p (tree_of v) zs r × StandsAt spelling remaining d zs r
IsPartRead spelling remaining d l xs p (Ok (Begun f)) =
    (zs : List ℕ) × (r : ℕ) × IsFrameBegun spelling l xs p (begun_frame f) zs r × StandsAt spelling remaining d zs r
IsPartRead spelling remaining d l xs p (Ok Ended) =
    (zs : List ℕ) × (xs ≡ break_byte ∷ zs) × (p < greatest_offset) × StandsAt spelling remaining d zs (p + 1)
IsPartRead spelling remaining d l xs p (Err e) = IsRefusedBy (left_of remaining d) e (RefusesPart spelling xs p l)

-- a value that is whole
abbrev pub IsWhole : Part → Type 0
IsWhole (Whole v) = Unit {0}
IsWhole part = ⊥

-- a level is left for what was entered, and behind anything else no head is pushed
abbrev pub IsAtRest : Part → ℕ → Option (Header × ℕ) → Type 0
IsAtRest (Begun f) l pushed = 0 < l
IsAtRest part l pushed = pushed ≡ None

-- what the bytes over which a tag at offset p folds are read as
abbrev pub IsFolded : {E : Type 0} → ℕ → List ℕ → ℕ → Result Value (Error E) → Type 0
IsFolded t b p (Ok v) = bignum_meaning t b ≡ Some (tree_of v)
IsFolded t b p (Err e) = (e ≡ Memory) ⊎ ((bignum_meaning t b ≡ None) × (e ≡ Semantic (Some p) kinds.TooLarge))

-- the n bytes at the front of xs, over which a tag at offset p folds, are refused: they end early,
-- have another spelling, or their
-- number is too large
abbrev pub BignumRefuses : Spelling → ℕ → ℕ → ℕ → List ℕ → Refusal → Type 0
BignumRefuses spelling t n p xs e =
    ((length xs < n) × (e ≡ io)) ⊎ ((b : List ℕ) × (r : List ℕ) × (length b ≡ n) × AreBytes b × (xs ≡ b ++ r) ×
    ((IsUnwanted spelling b × (e ≡ semantic p NotFolded)) ⊎ ((bignum_meaning t b ≡ None) × (e ≡ semantic p TooLarge))))

-- the answer of a call that reads the n bytes over which a tag at offset at folds
abbrev pub IsBignumRead : {S W E : Type 0} →
    Spelling → (S → Option (List ℕ)) → Decoder S W → ℕ → ℕ → ℕ → List ℕ → ℕ → Result Value (Error E) → Type 0
IsBignumRead spelling remaining d t n at xs p (Ok v) = (b : List ℕ) × (r : List ℕ) × (length b ≡ n) × AreBytes b ×
    ¬ IsUnwanted spelling b × (bignum_meaning t b ≡ Some (tree_of v)) × (xs ≡ b ++ r) × IsAt remaining d r (p + n)
IsBignumRead spelling remaining d t n at xs p (Err e) = p + n ≤ greatest_offset →
    IsRefusedBy (left_of remaining d) e (BignumRefuses spelling t n at xs)

-- whether a tag folds over what has this header behind it, and over how many bytes
abbrev pub IsFolding : ℕ → Header → Option ℕ → Type 0
IsFolding t h None = (n : ℕ) → h ≡ header.Bytes (Some n) → is_bignum_tag t ≡ true → ¬ (n ≤ 16)
IsFolding t h (Some n) = (h ≡ header.Bytes (Some n)) × (is_bignum_tag t ≡ true) × (n ≤ 16)
