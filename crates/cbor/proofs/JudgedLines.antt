-- What a line means, or why it is refused, and the text that answers it.
use Rattle.std.proofs.Common.{◌≡◌, ◌≢◌, ℕ, List, get_or, Result, Ok, Err, IsErr, MatchResult, refl, sym, ap, subst}
use Rattle.std.proofs.Common.{arith}
use Rattle.hex.specs.{Hex.decode_of, declared.error.FromHexError.FromHexError}
use Rattle.ciborium_ll.specs.Refusal.{io, syntax, too_long, semantic, recursion_limit_exceeded}
use Rattle.ciborium_value.specs.Tree.{Tree}
use Rattle.cbor.{proofs.OneLineAnswer.one_answer, specs.Answer.{AreRefused, IsFrontRefused, IsRefused}}
use Rattle.cbor.specs.{Answer.refused_text, Laws.{ItemIsAnswered, RefusalIsAnswered, RefusedMeansNothing}}
use Rattle.cbor.specs.Line.{HasAnswer, IsLineAnswer, good, hex_text, refused, trailing, trailing_text, tree_text}
use Rattle.cbor.specs.{Spellings.IsItem, declared.answer.LineRefusal.{LineRefusal, TheVariants.{Hex, Trailing, Io}}}
use Rattle.cbor.specs.declared.answer.LineRefusal.TheVariants.{Syntax, Semantic, Nesting, TooLong, Memory}
use Rattle.cbor.specs.declared.reading.Spelling.{Spelling}

-- what refuses the front of some bytes refuses them
pub front-refused : (spelling : Spelling) (b : List ℕ) (limit : ℕ) (e : LineRefusal) →
    IsFrontRefused spelling b limit e → AreRefused spelling b limit e
front-refused spelling b limit (Trailing n) h = absurd h
front-refused spelling b limit e h = h

-- what refuses the bytes of a line refuses the line
pub refused-by : (spelling : Spelling) (line : List ℕ) (limit : ℕ) (b : List ℕ) (e : LineRefusal) → decode_of line ≡
    Ok b → AreRefused spelling b limit e → IsRefused spelling line limit e
refused-by spelling line limit b Hex d h = absurd h
refused-by spelling line limit b Memory d h = tt
refused-by spelling line limit b e d h = (b, d, h)

pub item-answer : (spelling : Spelling) (d : Result (List ℕ) FromHexError) (limit : ℕ) (v : Tree) (answer : List ℕ) →
    MatchResult d (λ b. IsItem spelling b limit v) (λ _. ⊥) →
    answer ≡ tree_text v → MatchResult d (λ b. HasAnswer spelling b limit answer) (λ _. answer ≡ hex_text)
item-answer spelling (Ok b) limit v answer means same = good v means same
item-answer spelling (Err e) limit v answer means same = absurd means

pub item_is_answered : ItemIsAnswered
item_is_answered spelling line limit v means = item-answer spelling (decode_of line) limit v (tree_text v) means refl

bytes-answer : (spelling : Spelling) (b : List ℕ) (limit : ℕ) (e : LineRefusal) → e ≢ Memory →
    AreRefused spelling b limit e → HasAnswer spelling b limit (refused_text e)
bytes-answer spelling b limit Hex m h = absurd h
bytes-answer spelling b limit (Trailing n) m (v, left, before, more, same) =
    trailing v left before more (ap trailing_text same)
bytes-answer spelling b limit Io m h = refused io h refl
bytes-answer spelling b limit (Syntax p) m h = refused (syntax p) h refl
bytes-answer spelling b limit (Semantic p kind) m h = refused (semantic p kind) h refl
bytes-answer spelling b limit Nesting m h = refused recursion_limit_exceeded h refl
bytes-answer spelling b limit TooLong m h = refused too_long h refl
bytes-answer spelling b limit Memory m h = absurd (m refl)

hex-answer : (spelling : Spelling) (d : Result (List ℕ) FromHexError) (limit : ℕ) → IsErr d →
    MatchResult d (λ b. HasAnswer spelling b limit hex_text) (λ _. hex_text ≡ hex_text)
hex-answer spelling (Ok b) limit h = absurd cc
hex-answer spelling (Err e) limit h = refl

-- the answer to the bytes of a line answers it
of-bytes : (spelling : Spelling) (line b : List ℕ) (limit : ℕ) (answer : List ℕ) → decode_of line ≡ Ok b →
    HasAnswer spelling b limit answer → IsLineAnswer spelling line limit answer
of-bytes spelling line b limit answer d h = subst (λ (r : Result (List ℕ) FromHexError). MatchResult r
    (λ s. HasAnswer spelling s limit answer) (λ _. answer ≡ hex_text)) (sym d) h

pub refusal_is_answered : RefusalIsAnswered
refusal_is_answered spelling line limit Hex m h = hex-answer spelling (decode_of line) limit h
refusal_is_answered spelling line limit (Trailing n) m (b, d, h) =
    of-bytes spelling line b limit (refused_text (Trailing n)) d (bytes-answer spelling b limit (Trailing n) m h)
refusal_is_answered spelling line limit Io m (b, d, h) =
    of-bytes spelling line b limit (refused_text Io) d (bytes-answer spelling b limit Io m h)
refusal_is_answered spelling line limit (Syntax p) m (b, d, h) =
    of-bytes spelling line b limit (refused_text (Syntax p)) d (bytes-answer spelling b limit (Syntax p) m h)
refusal_is_answered spelling line limit (Semantic p kind) m (b, d, h) =
    of-bytes spelling line b limit (refused_text (Semantic p kind)) d
    (bytes-answer spelling b limit (Semantic p kind) m h)
refusal_is_answered spelling line limit Nesting m (b, d, h) =
    of-bytes spelling line b limit (refused_text Nesting) d (bytes-answer spelling b limit Nesting m h)
refusal_is_answered spelling line limit TooLong m (b, d, h) =
    of-bytes spelling line b limit (refused_text TooLong) d (bytes-answer spelling b limit TooLong m h)
refusal_is_answered spelling line limit Memory m h = absurd (m refl)

first : List ℕ → ℕ
first xs = get_or xs 0 0

-- no refusal has the text of a tree
other-text : (v : Tree) (e : LineRefusal) → tree_text v ≡ refused_text e → ⊥
unfolding first
other-text v Hex same = let f : 111 ≡ 104 = ap first same in omega (arith, f)
other-text v e same = let f : 111 ≡ first (refused_text e) = ap first same in omega (arith, f)

pub refused_means_nothing : RefusedMeansNothing
refused_means_nothing spelling line limit e v m h means =
    other-text v e (one_answer spelling line limit (tree_text v) (refused_text e)
    (item_is_answered spelling line limit v means) (refusal_is_answered spelling line limit e m h))
