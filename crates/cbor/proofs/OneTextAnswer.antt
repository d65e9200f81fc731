-- Each line has one answer by the deterministic form of its item, and one by its notation.
use Rattle.std.proofs.Common.{◌≡◌, ◌⊎◌, ℕ, List, [], ◌∷◌, length, inl, inr, Result, Ok, Err, is_err, MatchResult, false}
use Rattle.std.proofs.Common.{refl, sym, ap, ◌∙◌, subst, arith, append-nil}
use Rattle.hex.specs.{Hex.decode_of, declared.error.FromHexError.FromHexError}
use Rattle.ciborium_value.specs.{DeterministicForms.deterministic_form, Given.{Outcome, gives, refuses, nests}}
use Rattle.ciborium_value.specs.{Tree.Tree, declared.key_order.KeyOrder.KeyOrder}
use Rattle.ciborium_value.proofs.Forms.RefusedForms.{form_or_refused}
use Rattle.cbor.specs.declared.answer.LineRefusal.{LineRefusal}
use Rattle.cbor.specs.declared.answer.LineRefusal.TheVariants.{Hex, Trailing, Io, Syntax, Semantic, Nesting, TooLong}
use Rattle.cbor.specs.{declared.reading.Spelling.TheVariants.Any, Answer.{AreRefused, IsMeant, IsRefused, TellsRefusal}}
use Rattle.cbor.specs.{Answer.{refused_text, wants_memory}, Forms.{IsFormAnswer, formless_text}}
use Rattle.cbor.specs.{Laws.{IsFormAnswered, IsNotationAnswered, OneFormAnswer, OneNotationAnswer}, Line.tree_text}
use Rattle.cbor.specs.{Shown.notation_text, Spellings.{IsItem, RefusesItem}}
use Rattle.cbor.proofs.{JudgedAnswers.not-memory, JudgedLines.{refusal_is_answered, refused-by, refused_means_nothing}}
use Rattle.cbor.proofs.{OneLineAnswer.{decoded-bytes, one_answer}, SpelledItems.{HasItem, item-or-refused, one-tree}}
use Rattle.ciborium_ll.specs.Refusal as refusal
use Rattle.ciborium_ll.specs.declared.kind.Kind.TheVariants as kinds

-- the text of what a form is, or why there is none; nesting is no answer
abbrev form_text : Outcome Tree → List ℕ
form_text (gives u) = tree_text u
form_text (refuses k) = formless_text k
form_text nests = []

-- a line means one tree
one-meant-by : (d : Result (List ℕ) FromHexError) (limit : ℕ) (v w : Tree) →
    MatchResult d (λ b. IsItem Any b limit v) (λ _. ⊥) → MatchResult d (λ b. IsItem Any b limit w) (λ _. ⊥) → v ≡ w
one-meant-by (Ok b) limit v w p q = (one-tree Any b b [] [] limit v w p q refl).0
one-meant-by (Err e) limit v w p q = absurd p

one-meant : (line : List ℕ) (limit : ℕ) (v w : Tree) → IsMeant Any line limit v → IsMeant Any line limit w → v ≡ w
one-meant line limit v w p q = one-meant-by (decode_of line) limit v w p q

-- an answer is the text of a tree that the line means, or of a refusal
abbrev IsTextOrRefusal : (Tree → List ℕ) → List ℕ → ℕ → List ℕ → Type 0
IsTextOrRefusal text line limit answer =
    ((v : Tree) × IsMeant Any line limit v × (answer ≡ text v)) ⊎ TellsRefusal Any line limit answer

one-of : (text : Tree → List ℕ) (line : List ℕ) (limit : ℕ) (a b : List ℕ) →
    IsTextOrRefusal text line limit a → IsTextOrRefusal text line limit b → a ≡ b
one-of text line limit a b (inl (v, p, e)) (inl (w, q, f)) = e ∙ (ap text (one-meant line limit v w p q) ∙ sym f)
one-of text line limit a b (inl (v, p, e)) (inr (r, h, m, f)) =
    absurd (refused_means_nothing Any line limit r v (not-memory r m) h p)
one-of text line limit a b (inr (r, h, m, e)) (inl (v, p, f)) =
    absurd (refused_means_nothing Any line limit r v (not-memory r m) h p)
one-of text line limit a b (inr (r, h, m, e)) (inr (s, i, n, f)) =
    e ∙ (one_answer Any line limit (refused_text r) (refused_text s)
    (refusal_is_answered Any line limit r (not-memory r m) h) (refusal_is_answered Any line limit s (not-memory s n) i)
    ∙ sym f)

-- the text of a tree's form, or why there is none
abbrev tree_form_text : KeyOrder → Tree → List ℕ
tree_form_text order v = form_text (deterministic_form order v)

form-or-refusal : (order : KeyOrder) (line : List ℕ) (limit : ℕ) (answer : List ℕ) →
    IsFormAnswer order line limit answer → IsTextOrRefusal (tree_form_text order) line limit answer
form-or-refusal order line limit answer (inl (v, u, means, form, same)) = inl (v, means, same ∙ ap form_text (sym form))
form-or-refusal order line limit answer (inr (inl (v, k, means, none, same))) =
    inl (v, means, same ∙ ap form_text (sym none))
form-or-refusal order line limit answer (inr (inr h)) = inr h

pub one_form_answer : OneFormAnswer
one_form_answer order line limit a b p q =
    one-of (tree_form_text order) line limit a b (form-or-refusal order line limit a p)
    (form-or-refusal order line limit b q)

pub one_notation_answer : OneNotationAnswer
one_notation_answer layout line limit a b p q = one-of (notation_text layout) line limit a b p q

-- ---- each line means a tree or is refused

-- what refuses some bytes, as the program names it
named : (b : List ℕ) (limit : ℕ) (e : refusal.Refusal) → RefusesItem Any b limit e → (r : LineRefusal) ×
    (wants_memory r ≡ false) × AreRefused Any b limit r
named b limit refusal.io h = (Io, refl, h)
named b limit (refusal.syntax p) h = (Syntax p, refl, h)
named b limit refusal.too_long h = (TooLong, refl, h)
named b limit (refusal.semantic p k) h = (Semantic p k, refl, h)
named b limit refusal.recursion_limit_exceeded h = (Nesting, refl, h)

-- a line means a tree, or is refused
abbrev IsMeantOrRefused : List ℕ → ℕ → Type 0
IsMeantOrRefused line limit = ((v : Tree) × IsMeant Any line limit v) ⊎
    ((e : LineRefusal) × (wants_memory e ≡ false) × IsRefused Any line limit e)

meant-by : (line b : List ℕ) (limit : ℕ) (v : Tree) → decode_of line ≡ Ok b → IsItem Any b limit v →
    IsMeant Any line limit v
meant-by line b limit v d item = subst (λ (r : Result (List ℕ) FromHexError). MatchResult r (λ s. IsItem Any s limit v)
    (λ _. ⊥)) (sym d) item

begun : (line b : List ℕ) (limit : ℕ) → decode_of line ≡ Ok b → HasItem Any b limit → IsMeantOrRefused line limit
begun line b limit d (v, [], (s, item, e)) =
    let all : b ≡ s = e ∙ append-nil s in inl (
      v,
      meant-by line b limit v d
          (subst (λ (xs : List ℕ). IsItem Any xs limit v) (sym all) item),
    )
begun line b limit d (v, (x ∷ left), before) =
    inr (
      Trailing (length (x ∷ left)),
      refl,
      (b, d, (v, x ∷ left, before, omega arith, refl)),
    )

of-bytes : (line b : List ℕ) (limit : ℕ) → decode_of line ≡ Ok b → IsMeantOrRefused line limit
of-bytes line b limit d =
    elim (item-or-refused Any b limit (decoded-bytes line b d)) [
      | inl g ↦ begun line b limit d g
      | inr r ↦ (let (e, m, h) = named b limit r.0 r.1 in inr (e, m, refused-by Any line limit b e d h))
    ]

meant-or-refused : (line : List ℕ) (limit : ℕ) → IsMeantOrRefused line limit
meant-or-refused line limit = by (decode_of line) refl
  where
    by : (d : Result (List ℕ) FromHexError) → decode_of line ≡ d → IsMeantOrRefused line limit
    by (Ok b) d = of-bytes line b limit d
    by (Err x) d = inr (Hex, refl, ap is_err d)

formed-or-not : (order : KeyOrder) (line : List ℕ) (limit : ℕ) (v : Tree) → IsMeant Any line limit v →
    (answer : List ℕ) × IsFormAnswer order line limit answer
formed-or-not order line limit v means =
    elim (form_or_refused order v) [
      | inl g ↦ (tree_text g.0, inl (v, g.0, means, g.1, refl))
      | inr r ↦
          elim r [
            | inl e ↦ (formless_text kinds.DuplicateKey, inr (inl (v, kinds.DuplicateKey, means, e, refl)))
            | inr e ↦ (formless_text kinds.TooLarge, inr (inl (v, kinds.TooLarge, means, e, refl)))
          ]
    ]

pub is_form_answered : IsFormAnswered
is_form_answered order line limit =
    elim (meant-or-refused line limit) [
      | inl g ↦ formed-or-not order line limit g.0 g.1
      | inr r ↦ (refused_text r.0, inr (inr (r.0, r.2, r.1, refl)))
    ]

pub is_notation_answered : IsNotationAnswered
is_notation_answered layout line limit =
    elim (meant-or-refused line limit) [
      | inl g ↦ (notation_text layout g.0, inl (g.0, g.1, refl))
      | inr r ↦ (refused_text r.0, inr (r.0, r.2, r.1, refl))
    ]
