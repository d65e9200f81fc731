-- An input is read block by block, and its dump is written.
use Rattle.std.proofs.Common.{◌≡◌, ℕ, Bool, List, [], ◌++◌, take, Option, Some, None, refl, sym, ap, ◌∙◌, append-nil}
use Rattle.std.{proofs.lemmas.List.append_assoc, specs.Io.KnownBytes.{Consumes, IsAtEnd, Keeps}}
use Rattle.cbor.{proofs.AnsweredLines.still, specs.Streams.{IsDumpedBehind, dump_lines}}

-- of b these bytes were read, and the others are left
abbrev pub AreReadOf : List ℕ → List ℕ → Option (List ℕ) → Type 0
AreReadOf b bytes left = (rest : List ℕ) × (left ≡ Some rest) × (b ≡ bytes ++ rest)

-- a block more was read
pub block-read : (b bytes more s : List ℕ) (left next : Option (List ℕ)) → AreReadOf b bytes left →
    Consumes left next s → more ≡ bytes ++ s → AreReadOf b more next
block-read b bytes more s None next (rest, e, is) h same = absurd cc
block-read b bytes more s (Some xs) None (rest, e, is) h same = absurd h
block-read b bytes more s (Some xs) (Some ys) (rest, e, is) h same =
    let front : xs ≡ rest = cc in
    (ys, refl, rw same (is ∙ ap (λ (t : List ℕ). bytes ++ t) (sym front ∙ h) ∙ sym (append_assoc bytes s ys)))

-- a read gave nothing, and all were read
pub all-read : (b bytes buffer : List ℕ) (n : ℕ) (left next : Option (List ℕ)) → AreReadOf b bytes left →
    Consumes left next (take n buffer) → n ≡ 0 → IsAtEnd next → bytes ≡ b
all-read b bytes buffer n None next (rest, e, is) h zero end = absurd cc
all-read b bytes buffer n (Some xs) None (rest, e, is) h zero end = absurd h
all-read b bytes buffer n (Some xs) (Some ys) (rest, e, is) h zero end =
    let front : xs ≡ rest = cc in
    let none : xs ≡ [] = h ∙ (rw zero end) in
    sym (is ∙ ap (λ (t : List ℕ). bytes ++ t) (sym front ∙ none) ∙ append-nil bytes)

-- a dump stays where the output is flushed
pub dumped-still : (b w : List ℕ) (is_item : Bool) (held now : Option (List ℕ)) → Keeps held now →
    IsDumpedBehind b w is_item held → IsDumpedBehind b w is_item now
dumped-still b w is_item held now k (text, dump, e) = (text, dump, still held now (w ++ dump_lines is_item text) k e)
