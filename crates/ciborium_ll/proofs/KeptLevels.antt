-- The levels that are kept: those of a list from a place on.
use Rattle.std.proofs.Common.{◌≡◌, ℕ, zero, suc, ◌+◌, ◌-◌, ◌<◌, List, [], ◌∷◌, length, Some, refl, sym, ap, ◌∙◌, arith}
use Rattle.std.proofs.{Common.{drop, set}, lemmas.List.{drop-set, length-drop, length-set}}
use Rattle.ciborium_ll.specs.{Levels.{behind_head, incomplete, levels_by}, declared.header.Header.Header}
use Rattle.ciborium_ll.specs.declared.levels.{Level.{Level, TheVariants.Items}, Step.{Step, TheVariants.Within}}
use Rattle.ciborium_ll.specs.{declared.levels.Step.TheVariants.Enters, inner.KeptLevels.top_of}

-- the innermost level stands before the others
pub top-first : (k : ℕ) (kept : List Level) (level : Level) → top_of (drop k kept) ≡ Some level →
    drop k kept ≡ level ∷ drop (suc k) kept
top-first zero (x ∷ kept) level e = cc
top-first (suc k) (x ∷ kept) level e = top-first k kept level e
top-first u v level e = absurd cc

-- it is one of the list
pub top-within : (k : ℕ) (kept : List Level) (level : Level) → top_of (drop k kept) ≡ Some level → k < length kept
top-within k [] level e = absurd (none k e)
  where
    none : (n : ℕ) → ¬ (top_of (drop n []) ≡ Some level)
    none zero h = absurd cc
    none (suc n) h = absurd cc
top-within zero (x ∷ kept) level e = omega arith
top-within (suc k) (x ∷ kept) level e = let less = top-within k kept level e in omega (arith, less)

one-more : (n : ℕ) → suc n ≡ n + 1
one-more n = omega arith

-- a complete level goes
pub complete-gone : (k : ℕ) (kept : List Level) (n : ℕ) → top_of (drop k kept) ≡ Some (Items n) → n ≡ 0 →
    incomplete (drop (k + 1) kept) ≡ incomplete (drop k kept)
complete-gone k kept n e z =
    sym (ap incomplete (top-first k kept (Items n) e) ∙ ap (λ m. incomplete (Items m ∷ drop (suc k) kept)) z ∙
    ap (λ m. incomplete (drop m kept)) (one-more k))

-- ---- a head

-- what a head does to the levels of which the innermost stands at this place
abbrev pub IsStep : Header → ℕ → List Level → Step → Type 0
IsStep header k kept step = behind_head header (drop k kept) ≡ levels_by step (drop (k + 1) kept)

pub step-here : (header : Header) (k : ℕ) (kept : List Level) (level : Level) (step : Step) →
    top_of (drop k kept) ≡ Some level →
    ((around : List Level) → behind_head header (level ∷ around) ≡ levels_by step around) → IsStep header k kept step
step-here header k kept level step e f = ap (behind_head header)
    (top-first k kept level e ∙ ap (λ n. level ∷ drop n kept) (one-more k)) ∙ f (drop (k + 1) kept)

pub not-zero : (k : ℕ) → ¬ (k ≡ 0) → 0 < k
not-zero zero h = absurd (h refl)
not-zero (suc k) h = omega arith

-- the levels behind it, as they are kept
pub kept-within : (header : Header) (k : ℕ) (kept : List Level) (level : Level) → k < length kept →
    IsStep header k kept (Within level) → behind_head header (drop k kept) ≡ Some (drop k (set kept k level))
kept-within header k kept level less s = s ∙ ap Some (sym (drop-set kept k level less))

pub kept-entered : (header : Header) (k : ℕ) (kept : List Level) (level inner : Level) → k < length kept → 0 < k →
    IsStep header k kept (Enters level inner) →
    behind_head header (drop k kept) ≡ Some (drop (k - 1) (set (set kept k level) (k - 1) inner))
kept-entered header k kept level inner less some s =
    let behind : k - 1 + 1 ≡ k = omega (arith, some) in
    s ∙ ap Some (sym (drop-set (set kept k level) (k - 1) inner (omega (arith, less, some, length-set kept k level)) ∙
    ap (λ n. inner ∷ drop n (set kept k level)) behind ∙
    ap (λ (ls : List Level). inner ∷ ls) (drop-set kept k level less)))

-- one level more than there is room for
pub one-too-many : (header : Header) (k : ℕ) (kept : List Level) (level inner : Level) →
    k ≡ 0 → length kept ≡ 257 → k < length kept → IsStep header k kept (Enters level inner) → (more : List Level) ×
    (behind_head header (drop k kept) ≡ Some more) × (length (drop k kept) ≡ 257) × (length more ≡ 258)
one-too-many header k kept level inner z e less s = (
  inner ∷ level ∷ drop (k + 1) kept,
  s,
  omega (arith, z, e, length-drop k kept),
  omega (arith, z, e, less, length-drop (k + 1) kept),
)
