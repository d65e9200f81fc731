-- What the text of a line says of it.
use Rattle.std.proofs.Common.{◌≡◌, ℕ, ◌+◌, ◌<◌, List, length, Bool, true, false, Result, Ok, Err, MatchResult, inl, inr}
use Rattle.std.{proofs.Common.{refl, sym, ap, ◌∙◌, subst}, specs.Bool.MatchBool}
use Rattle.hex.specs.{Hex.decode_of, declared.error.FromHexError.FromHexError}
use Rattle.ciborium_ll.specs.Refusal.{io, syntax, too_long, semantic, recursion_limit_exceeded}
use Rattle.ciborium_value.specs.Tree.{Tree}
use Rattle.cbor.{proofs.JudgedLines.{item-answer, refusal_is_answered}, specs.Answer.IsFrontRefused}
use Rattle.cbor.specs.{Answer.{refused_text, wants_memory}, Line.{IsLineAnswer, hex_text, refusal_text}}
use Rattle.cbor.specs.{Lines.AnswersLine, Sequence.{AreItemsBefore, AreNoSequence, AreSequence, HasSequenceAnswer}}
use Rattle.cbor.specs.{Sequence.{IsSequenceAnswer, refused_item_text}, Spellings.RefusesItem}
use Rattle.cbor.specs.declared.answer.LineRefusal.{LineRefusal, TheVariants.{Hex, Trailing, Io, Syntax, Semantic}}
use Rattle.cbor.specs.declared.answer.LineRefusal.TheVariants.{Nesting, TooLong, Memory}
use Rattle.cbor.specs.declared.reading.{Reading.TheVariants.{Item, Sequence}, Spelling.{Spelling, TheVariants.Any}}
use Rattle.ciborium_ll.specs.Refusal as faults

pub not-memory : (e : LineRefusal) → wants_memory e ≡ false → e ≡ Memory → ⊥
not-memory e m same = let no : true ≡ false = ap wants_memory (sym same) ∙ m in cc

-- ---- items

-- the encoding of a tree that a line means answers it, and so does the text that tells why it is refused
pub item-answers : (spelling : Spelling) (line : List ℕ) (limit : ℕ) (is_ok : Bool) (text : List ℕ) →
    AnswersLine (Item spelling limit) line is_ok text → IsLineAnswer spelling line limit text
item-answers spelling line limit true text (v, means, same) =
    item-answer spelling (decode_of line) limit v text means same
item-answers spelling line limit false text (e, h, m, same) = subst (λ (t : List ℕ). IsLineAnswer spelling line limit t)
    (sym same) (refusal_is_answered spelling line limit e (λ is. absurd (not-memory e m is)) h)

-- ---- sequences

-- what the front of some bytes is refused for
pub front-refusal : (spelling : Spelling) (rest : List ℕ) (limit : ℕ) (e : LineRefusal) → wants_memory e ≡ false →
    IsFrontRefused spelling rest limit e →
    (f : faults.Refusal) × RefusesItem spelling rest limit f × (refused_text e ≡ refusal_text f)
front-refusal spelling rest limit Hex m h = absurd h
front-refusal spelling rest limit (Trailing k) m h = absurd h
front-refusal spelling rest limit Io m h = (io, h, refl)
front-refusal spelling rest limit (Syntax p) m h = (syntax p, h, refl)
front-refusal spelling rest limit (Semantic p kind) m h = (semantic p kind, h, refl)
front-refusal spelling rest limit Nesting m h = (recursion_limit_exceeded, h, refl)
front-refusal spelling rest limit TooLong m h = (too_long, h, refl)
front-refusal spelling rest limit Memory m h = absurd cc

-- the text of the item that is refused behind some good ones answers the bytes
pub item-refused : (b : List ℕ) (trees : List Tree) (rest : List ℕ) (n : ℕ) (e : LineRefusal) (text : List ℕ) →
    AreItemsBefore Any b 256 trees rest → 0 < length rest → n ≡ length trees + 1 → IsFrontRefused Any rest 256 e →
    (wants_memory e ≡ false) × (text ≡ refused_item_text n (refused_text e)) → AreNoSequence b 256 text
item-refused b trees rest n e text a more count h (m, same) =
    let f = front-refusal Any rest 256 e m h in (
      trees,
      rest,
      f.0,
      a,
      more,
      f.1,
      same ∙ (ap (λ (k : ℕ). refused_item_text k (refused_text e)) count ∙
          ap (λ (t : List ℕ). refused_item_text (length trees + 1) t) f.2),
    )

-- what is told of the bytes of a line is told of it
pub of-bytes : (line b : List ℕ) (is_ok : Bool) (text : List ℕ) → decode_of line ≡ Ok b →
    MatchBool is_ok (AreSequence b 256 text) (AreNoSequence b 256 text) → AnswersLine Sequence line is_ok text
of-bytes line b true text d h = subst (λ (r : Result (List ℕ) FromHexError). MatchResult r
    (λ c. AreSequence c 256 text) (λ _. ⊥)) (sym d) h
of-bytes line b false text d h = subst (λ (r : Result (List ℕ) FromHexError). MatchResult r
    (λ c. AreNoSequence c 256 text) (λ _. text ≡ hex_text)) (sym d) h

sequence-by : (d : Result (List ℕ) FromHexError) (is_ok : Bool) (text : List ℕ) →
    MatchBool is_ok (MatchResult d (λ b. AreSequence b 256 text) (λ _. ⊥))
    (MatchResult d (λ b. AreNoSequence b 256 text) (λ _. text ≡ hex_text)) →
    MatchResult d (λ b. HasSequenceAnswer b 256 text) (λ _. text ≡ hex_text)
sequence-by (Ok b) true text h = inl h
sequence-by (Ok b) false text h = inr h
sequence-by (Err e) true text h = absurd h
sequence-by (Err e) false text h = h

-- what is told of a line is its answer
pub sequence-answers : (line : List ℕ) (is_ok : Bool) (text : List ℕ) → AnswersLine Sequence line is_ok text →
    IsSequenceAnswer line 256 text
sequence-answers line is_ok text h = sequence-by (decode_of line) is_ok text h
