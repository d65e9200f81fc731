-- The levels of an item that is shown by its very heads.
use Rattle.std.proofs.Common.{◌≡◌, ◌≢◌, ℕ, suc, ◌+◌, ◌-◌, ◌/◌, ◌%◌, ◌<◌, ◌==◌, Bool, true, false, List, ◌∷◌, Option}
use Rattle.std.proofs.Common.{Some, None, option_map, if◌then◌else◌, refl, sym, ap, ◌∙◌, subst, arith, inl, inr}
use Rattle.std.proofs.lemmas.Bool.Decides.{eqb_tells}
use Rattle.ciborium_ll.specs.{ItemHeads.{HasRead, IsHeadRead, levels_of}, Levels.{behind_break, behind_bytes}}
use Rattle.ciborium_ll.specs.{Levels.{behind_head, behind_item, behind_text, incomplete}, Strings.string_header}
use Rattle.ciborium_ll.specs.declared.{header.Header.Header, item_heads.{ItemHead.ItemHead, ItemHeads.ItemHeads}}
use Rattle.ciborium_ll.specs.declared.{levels.Level.Level, strings.StringType.StringType}
use Rattle.cbor.specs.Exact.{IsBegun, behind_begun, chunk_level, open_level, part_count, parts_header}
use Rattle.ciborium_ll.specs.declared.header.Header.TheVariants as header
use Rattle.ciborium_ll.specs.declared.levels.Level.TheVariants as level

-- ---- the head of an item

as-bytes : (levels around : List Level) → behind_item levels ≡ Some around → behind_bytes levels ≡ behind_item levels
as-bytes (level.ByteChunks ∷ levels) around e = absurd (cc e)
as-bytes levels around e = refl

as-text : (levels around : List Level) → behind_item levels ≡ Some around → behind_text levels ≡ behind_item levels
as-text (level.TextChunks ∷ levels) around e = absurd (cc e)
as-text levels around e = refl

some-is : {A : Type 0} (o : Option A) (x y : A) → o ≡ Some x → o ≡ Some y → y ≡ x
some-is o x y e f = cc (e, f)

enters : (l : Level) (levels around more : List Level) → behind_item levels ≡ Some around →
    option_map (λ rest. l ∷ rest) (behind_item levels) ≡ Some more → more ≡ l ∷ around
enters l levels around more e f = some-is _ (l ∷ around) more (ap (option_map (λ rest. l ∷ rest)) e) f

begun : (h : Header) (levels around more : List Level) → h ≢ header.Break → behind_item levels ≡ Some around →
    behind_head h levels ≡ Some more → more ≡ behind_begun h around
begun (header.Bytes (Some n)) levels around more other e f = some-is _ around more (as-bytes levels around e ∙ e) f
begun (header.Bytes None) levels around more other e f = enters level.ByteChunks levels around more e f
begun (header.Text (Some n)) levels around more other e f = some-is _ around more (as-text levels around e ∙ e) f
begun (header.Text None) levels around more other e f = enters level.TextChunks levels around more e f
begun (header.Array (Some n)) levels around more other e f = enters (level.Items n) levels around more e f
begun (header.Array None) levels around more other e f = enters level.OpenItems levels around more e f
begun (header.Map (Some n)) levels around more other e f = enters (level.Items (n + n)) levels around more e f
begun (header.Map None) levels around more other e f = enters level.OpenKeys levels around more e f
begun (header.Tag n) levels around more other e f = enters (level.Items 1) levels around more e f
begun header.Break levels around more other e f = absurd (other refl)
begun _ levels around more other e f = some-is _ around more e f

-- a head that is no break was read where an item is due
pub head-begun : (old new : ItemHeads) (head : ItemHead) (levels around : List Level) → levels_of old ≡ levels →
    behind_item levels ≡ Some around → head.header ≢ header.Break → HasRead new × IsHeadRead old new head →
    IsBegun head.header new around
head-begun old new head levels around e due other (read, is) =
    let (more, f, g) = is.levels in
    g ∙ ap incomplete (begun head.header (levels_of old) around more other (ap behind_item e ∙ due) f)

-- no break was read in a level of so many items
pub no-break : (old new : ItemHeads) (head : ItemHead) (n : ℕ) (around : List Level) →
    levels_of old ≡ level.Items n ∷ around → HasRead new × IsHeadRead old new head → head.header ≢ header.Break
no-break old new head n around e (read, is) f =
    let (more, g, h) = is.levels in let never : behind_head header.Break (level.Items n ∷ around) ≡ Some more =
    subst (λ x. behind_head x (level.Items n ∷ around) ≡ Some more) f
    (subst (λ x. behind_head head.header x ≡ Some more) e g) in cc never

-- ---- parts of a string

pub chunk-open : (string : StringType) (around : List Level) →
    incomplete (chunk_level string ∷ around) ≡ chunk_level string ∷ around
chunk-open StringType.Bytes around = refl
chunk-open StringType.Text around = refl

no-item-due : (string : StringType) (around : List Level) → behind_item (chunk_level string ∷ around) ≡ None
no-item-due StringType.Bytes around = refl
no-item-due StringType.Text around = refl

none-enters : (l : Level) (o : Option (List Level)) (more : List Level) → o ≡ None →
    option_map (λ rest. l ∷ rest) o ≡ Some more → ⊥
none-enters l None more e f = cc f
none-enters l (Some x) more e f = cc e

-- what is no break there is a part of the string
chunk-head : (string : StringType) (h : Header) (around more : List Level) → h ≢ header.Break →
    behind_head h (chunk_level string ∷ around) ≡ Some more →
    ((n : ℕ) × (h ≡ string_header string n)) × (more ≡ chunk_level string ∷ around)
chunk-head StringType.Bytes (header.Bytes (Some n)) around more other e = ((n, refl), cc e)
chunk-head StringType.Text (header.Text (Some n)) around more other e = ((n, refl), cc e)
chunk-head StringType.Text (header.Bytes (Some n)) around more other e = absurd (cc e)
chunk-head StringType.Bytes (header.Text (Some n)) around more other e = absurd (cc e)
chunk-head string (header.Bytes None) around more other e =
    absurd (none-enters level.ByteChunks _ more (no-item-due string around) e)
chunk-head string (header.Text None) around more other e =
    absurd (none-enters level.TextChunks _ more (no-item-due string around) e)
chunk-head string (header.Array (Some n)) around more other e =
    absurd (none-enters (level.Items n) _ more (no-item-due string around) e)
chunk-head string (header.Array None) around more other e =
    absurd (none-enters level.OpenItems _ more (no-item-due string around) e)
chunk-head string (header.Map (Some n)) around more other e =
    absurd (none-enters (level.Items (n + n)) _ more (no-item-due string around) e)
chunk-head string (header.Map None) around more other e = absurd
    (none-enters level.OpenKeys _ more (no-item-due string around) e)
chunk-head string (header.Tag n) around more other e = absurd
    (none-enters (level.Items 1) _ more (no-item-due string around) e)
chunk-head string header.Break around more other e = absurd (other refl)
chunk-head string _ around more other e = absurd (cc (e, no-item-due string around))

pub chunk-read : (string : StringType) (old new : ItemHeads) (head : ItemHead) (around : List Level) →
    levels_of old ≡ chunk_level string ∷ around → head.header ≢ header.Break → HasRead new × IsHeadRead old new head →
    ((n : ℕ) × (head.header ≡ string_header string n)) × (levels_of new ≡ chunk_level string ∷ around)
chunk-read string old new head around e other (read, is) =
    let (more, f, g) = is.levels in
    let (type, same) = chunk-head string head.header around more other
    (subst (λ x. behind_head head.header x ≡ Some more) e f) in
    (type, g ∙ ap incomplete same ∙ chunk-open string around)

-- ---- parts of an open array or map

pub parts-open : (is_map : Bool) (n : ℕ) (around : List Level) →
    incomplete (open_level is_map n ∷ around) ≡ open_level is_map n ∷ around
parts-open false n around = refl
parts-open true n around = by (n % 2 == 1)
  where
    by : (b : Bool) → incomplete ((if b then level.OpenValues else level.OpenKeys) ∷ around)
        ≡ (if b then level.OpenValues else level.OpenKeys) ∷ around
    by true = refl
    by false = refl

-- behind an item one more stands there
pub part-due : (is_map : Bool) (n : ℕ) (around : List Level) →
    behind_item (open_level is_map n ∷ around) ≡ Some (open_level is_map (n + 1) ∷ around)
part-due false n around = refl
part-due true n around = elim (eqb_tells (n % 2) 1) [
  | inl (a, x) ↦ elim (eqb_tells ((n + 1) % 2) 1) [
    | inl (b, y) ↦ absurd (omega (arith, x, y))
    | inr (b, y) ↦ rw (a, b) refl
  ]
  | inr (a, x) ↦ elim (eqb_tells ((n + 1) % 2) 1) [
    | inl (b, y) ↦ rw (a, b) refl
    | inr (b, y) ↦ absurd (omega (arith, x, y))
  ]
]

-- a break ends it, behind a value where it is a map
pub parts-end : (is_map : Bool) (n : ℕ) (around more : List Level) →
    behind_break (open_level is_map n ∷ around) ≡ Some more →
    (around ≡ more) × (k : ℕ) × (n ≡ part_count is_map k)
parts-end false n around more e = (cc e, n, refl)
parts-end true n around more e = elim (eqb_tells (n % 2) 1) [
  | inl (a, x) ↦ absurd (cc (rw a at e))
  | inr (a, x) ↦ (cc (rw a at e), n / 2, omega (arith, x))
]

pub parts-break : (is_map : Bool) (n : ℕ) (old new : ItemHeads) (head : ItemHead) (around : List Level) →
    levels_of old ≡ open_level is_map n ∷ around → head.header ≡ header.Break → HasRead new × IsHeadRead old new head →
    (levels_of new ≡ incomplete around) × (k : ℕ) × (n ≡ part_count is_map k)
parts-break is_map n old new head around e f (read, is) =
    let (more, g, h) = is.levels in
    let (same, k, count) = parts-end is_map n around more
    (subst (λ x. behind_head x (open_level is_map n ∷ around) ≡ Some more) f
    (subst (λ x. behind_head head.header x ≡ Some more) e g)) in
    (h ∙ ap incomplete (sym same), k, count)

-- ---- items that are counted

pub counted-begun : (is_map : Bool) (n : ℕ) (heads : ItemHeads) (around : List Level) →
    IsBegun (parts_header is_map (Some n)) heads around →
    levels_of heads ≡ incomplete (level.Items (part_count is_map n) ∷ around)
counted-begun false n heads around e = e
counted-begun true n heads around e = e

pub open-begun : (is_map : Bool) (heads : ItemHeads) (around : List Level) →
    IsBegun (parts_header is_map None) heads around → levels_of heads ≡ open_level is_map 0 ∷ around
open-begun false heads around e = e
open-begun true heads around e = e

pub parts-due : (heads : ItemHeads) (count place : ℕ) (around : List Level) → place < count →
    levels_of heads ≡ incomplete (level.Items (count - place) ∷ around) →
    levels_of heads ≡ level.Items (suc (count - (place + 1))) ∷ around
parts-due heads count place around less e =
    let one : count - place ≡ suc (count - (place + 1)) = omega (arith, less) in
    subst (λ n. levels_of heads ≡ incomplete (level.Items n ∷ around)) one e
