-- Each line has one answer.
use Rattle.std.proofs.Common.{◌≡◌, ℕ, ◌<◌, List, [], ◌∷◌, length, inl, inr, Result, Ok, Err, MatchResult, refl, sym, ap}
use Rattle.std.proofs.{Common.{◌∙◌, subst, arith, append-nil}, lemmas.List.Elements.All-from_get_or}
use Rattle.hex.{proofs.HexLemmas.decode_of-ok, specs.{Hex.decode_of, declared.error.FromHexError.FromHexError}}
use Rattle.ciborium_ll.specs.Bytes.{AreBytes}
use Rattle.ciborium_value.specs.Tree.{Tree}
use Rattle.cbor.{proofs.SpelledItems.{HasItem, item-or-refused, not-both, one-refusal, one-tree}, specs.Laws.IsAnswered}
use Rattle.cbor.specs.{Laws.OneAnswerToLine, Line.{HasAnswer, good, trailing, refused, tree_text, trailing_text}}
use Rattle.cbor.specs.{Line.{refusal_text, hex_text}, Spellings.{HasItemBefore, IsItem}}
use Rattle.cbor.specs.declared.reading.Spelling.{Spelling}

-- hex stands for bytes
pub decoded-bytes : (line b : List ℕ) → decode_of line ≡ Ok b → AreBytes b
decoded-bytes line b e = All-from_get_or (λ x. x < 256) b 0 (λ i h. (decode_of-ok line b e).3 i)

-- an item is at the front
begun : (spelling : Spelling) (b : List ℕ) (limit : ℕ) → HasItem spelling b limit → (answer : List ℕ) ×
    HasAnswer spelling b limit answer
begun spelling b limit (v, [], (s, item, e)) =
    let all : b ≡ s = e ∙ append-nil s in (
      tree_text v,
      good v (subst (λ (xs : List ℕ). IsItem spelling xs limit v) (sym all) item) refl,
    )
begun spelling b limit (v, (x ∷ left), before) = (
  trailing_text (length (x ∷ left)),
  trailing v (x ∷ left) before (omega arith) refl,
)

bytes-answered : (spelling : Spelling) (b : List ℕ) (limit : ℕ) → AreBytes b → (answer : List ℕ) ×
    HasAnswer spelling b limit answer
bytes-answered spelling b limit h =
    elim (item-or-refused spelling b limit h) [
      | inl g ↦ begun spelling b limit g
      | inr r ↦ (refusal_text r.0, refused r.0 r.1 refl)
    ]

answered-by : (spelling : Spelling) (d : Result (List ℕ) FromHexError) (limit : ℕ) →
    ((b : List ℕ) → d ≡ Ok b → AreBytes b) →
    (answer : List ℕ) × MatchResult d (λ b. HasAnswer spelling b limit answer) (λ _. answer ≡ hex_text)
answered-by spelling (Ok b) limit h = bytes-answered spelling b limit (h b refl)
answered-by spelling (Err e) limit h = (hex_text, refl)

pub is_answered : IsAnswered
is_answered spelling line limit = answered-by spelling (decode_of line) limit (λ b e. decoded-bytes line b e)

-- all of b is at its front
whole : (spelling : Spelling) (b : List ℕ) (limit : ℕ) (v : Tree) → IsItem spelling b limit v → HasItem spelling b limit
whole spelling b limit v item = (v, [], (b, item, sym (append-nil b)))

-- nothing stands behind all of b
none-behind : (spelling : Spelling) (b left : List ℕ) (limit : ℕ) (v w : Tree) →
    IsItem spelling b limit v → HasItemBefore spelling b limit w left → 0 < length left → ⊥
none-behind spelling b left limit v w item (s, other, e) more =
    let same = one-tree spelling b s [] left limit v w item other (append-nil b ∙ e) in
    let size : 0 ≡ length left = ap (λ (xs : List ℕ). length xs) same.1 in
    omega arith

-- what stands behind an item
one-rest : (spelling : Spelling) (b x y : List ℕ) (limit : ℕ) (v w : Tree) →
    HasItemBefore spelling b limit v x → HasItemBefore spelling b limit w y → x ≡ y
one-rest spelling b x y limit v w (s, p, e) (t, q, f) = (one-tree spelling s t x y limit v w p q (sym e ∙ f)).1

one-of-bytes : (spelling : Spelling) (b : List ℕ) (limit : ℕ) (x y : List ℕ) →
    AreBytes b → HasAnswer spelling b limit x → HasAnswer spelling b limit y → x ≡ y
one-of-bytes spelling b limit x y h (good v p e) (good w q f) = e ∙
    (ap tree_text (one-tree spelling b b [] [] limit v w p q refl).0 ∙ sym f)
one-of-bytes spelling b limit x y h (good v p e) (trailing w left q more f) =
    absurd (none-behind spelling b left limit v w p q more)
one-of-bytes spelling b limit x y h (good v p e) (refused u ref f) =
    absurd (not-both spelling b limit u h (whole spelling b limit v p) ref)
one-of-bytes spelling b limit x y h (trailing v left p more e) (good w q f) =
    absurd (none-behind spelling b left limit w v q p more)
one-of-bytes spelling b limit x y h (trailing v left p more e) (trailing w rest q also f) =
    e ∙ (ap (λ (z : List ℕ). trailing_text (length z)) (one-rest spelling b left rest limit v w p q) ∙ sym f)
one-of-bytes spelling b limit x y h (trailing v left p more e) (refused u ref f) =
    absurd (not-both spelling b limit u h (v, left, p) ref)
one-of-bytes spelling b limit x y h (refused t ref e) (good w q f) =
    absurd (not-both spelling b limit t h (whole spelling b limit w q) ref)
one-of-bytes spelling b limit x y h (refused t ref e) (trailing w left q more f) =
    absurd (not-both spelling b limit t h (w, left, q) ref)
one-of-bytes spelling b limit x y h (refused t ref e) (refused u fer f) = e ∙
    (ap refusal_text (one-refusal spelling b limit t u h ref fer) ∙ sym f)

one-by : (spelling : Spelling) (d : Result (List ℕ) FromHexError) (limit : ℕ) (x y : List ℕ) →
    ((b : List ℕ) → d ≡ Ok b → AreBytes b) → MatchResult d (λ b. HasAnswer spelling b limit x) (λ _. x ≡ hex_text) →
    MatchResult d (λ b. HasAnswer spelling b limit y) (λ _. y ≡ hex_text) → x ≡ y
one-by spelling (Ok b) limit x y h p q = one-of-bytes spelling b limit x y (h b refl) p q
one-by spelling (Err e) limit x y h p q = p ∙ sym q

pub one_answer : OneAnswerToLine
one_answer spelling line limit a b p q = one-by spelling (decode_of line) limit a b (λ s e. decoded-bytes line s e) p q
