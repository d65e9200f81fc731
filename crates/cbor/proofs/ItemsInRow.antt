-- One more item of a sequence is read, and its hex is put behind the text.
use Rattle.std.proofs.Common.{◌≡◌, ℕ, ◌+◌, List, [], ◌∷◌, ◌++◌, length, false, ◌==◌, refl, sym, subst, ap, ◌∙◌, arith}
use Rattle.std.proofs.{Common.{length-append, codes}, lemmas.{Bool.Decides.nat_tests, List.flat_map_more}}
use Rattle.ciborium_value.specs.Tree.{Tree}
use Rattle.cbor.{proofs.JudgedAnswers.item-refused, specs.Answer.{IsFrontRefused, refused_text, wants_memory}}
use Rattle.cbor.specs.Sequence.{AreItemsBefore, AreNoSequence, AreSequence, item_text, refused_item_text, sequence_text}
use Rattle.cbor.specs.{Spellings.HasItemBefore, declared.{answer.LineRefusal.LineRefusal, reading.Spelling.Spelling}}
use Rattle.cbor.specs.declared.reading.Spelling.TheVariants.{Any}

-- of b the rest is left: the items before it mean some trees, their hex is the text, and the next item has this number
abbrev pub IsSoFar : List ℕ → List ℕ → List ℕ → ℕ → Type 0
IsSoFar b rest text number = (trees : List Tree) × AreItemsBefore Any b 256 trees rest × (text ≡ sequence_text trees) ×
    (number ≡ length trees + 1)

-- one more item stands at the front of what was left
pub one-more-before : (spelling : Spelling) (limit : ℕ) (trees : List Tree) (b rest left : List ℕ) (v : Tree) →
    AreItemsBefore spelling b limit trees rest → HasItemBefore spelling rest limit v left →
    AreItemsBefore spelling b limit (trees ++ (v ∷ [])) left
one-more-before spelling limit [] b rest left v e item = (
  left,
  subst (λ (xs : List ℕ). HasItemBefore spelling xs limit v left) (sym e) item,
  refl,
)
one-more-before spelling limit (t ∷ ts) b rest left v (next, first, others) item =
    (next, first, one-more-before spelling limit ts next rest left v others item)

pub one-more-item : (b rest left text longer : List ℕ) (number : ℕ) (v : Tree) → IsSoFar b rest text number →
    HasItemBefore Any rest 256 v left → longer ≡ text ++ item_text v → IsSoFar b left longer (number + 1)
one-more-item b rest left text longer number v (trees, a, same, count) item e = (
  trees ++ (v ∷ []),
  one-more-before Any 256 trees b rest left v a item,
  e ∙ (ap (λ (t : List ℕ). t ++ item_text v) same ∙ flat_map_more item_text (codes "ok") trees v),
  (let more : length (trees ++ (v ∷ [])) ≡ length trees + 1 = length-append trees (v ∷ []) in
      omega (arith, more, count)),
)

-- the text of all items says that the bytes are a sequence
pub all-items : (b rest text : List ℕ) (number : ℕ) → IsSoFar b rest text number → rest ≡ [] → AreSequence b 256 text
all-items b rest text number (trees, a, same, count) none =
    (trees, subst (λ (r : List ℕ). AreItemsBefore Any b 256 trees r) none a, same)

-- and that of the first that is refused that they are none
pub first-refused : (b rest text answer : List ℕ) (number : ℕ) (e : LineRefusal) → IsSoFar b rest text number →
    false ≡ (length rest == 0) → IsFrontRefused Any rest 256 e →
    (wants_memory e ≡ false) × (answer ≡ refused_item_text number (refused_text e)) → AreNoSequence b 256 answer
first-refused b rest text answer number e (trees, a, same, count) more h is =
    item-refused b trees rest number e answer a (let some = sym more in grind (arith, nat_tests)) count h is
