-- Each line that is read as a sequence has one answer.
use Rattle.std.proofs.Common.{◌≡◌, ℕ, zero, suc, ◌+◌, ◌<◌, ◌≤◌, ◌⊎◌, List, [], ◌∷◌, ◌++◌, length, inl, inr, Result, Ok}
use Rattle.std.proofs.Common.{Err, MatchResult, refl, sym, ap, ◌∙◌, subst, arith, length-append}
use Rattle.std.proofs.lemmas.List.Elements.{All-tail}
use Rattle.hex.specs.{Hex.decode_of, declared.error.FromHexError.FromHexError}
use Rattle.ciborium_ll.specs.{Bytes.AreBytes, Refusal.{Refusal, io}}
use Rattle.ciborium_value.specs.{Refuses.no_head, Tree.Tree}
use Rattle.cbor.specs.{declared.reading.Spelling.TheVariants.Any, Laws.{IsSequenceAnswered, OneSequenceAnswer}}
use Rattle.cbor.specs.{Line.{hex_text, refusal_text}, Sequence.{AreItemsBefore, HasSequenceAnswer, refused_item_text}}
use Rattle.cbor.specs.{Sequence.sequence_text, Spellings.{HasItemBefore, IsItem, RefusesItem}}
use Rattle.cbor.proofs.{OneLineAnswer.decoded-bytes, SpelledItems.{item-or-refused, not-both, one-refusal, one-tree}}

-- where nothing is left no item stands
nothing : (limit : ℕ) → RefusesItem Any [] limit io
nothing limit = no_head refl

behind-bytes : (s left : List ℕ) → AreBytes (s ++ left) → AreBytes left
behind-bytes [] left h = h
behind-bytes (x ∷ s) left h = behind-bytes s left (All-tail (λ y. y < 256) x (s ++ left) h)

-- bytes stand behind an item of bytes
bytes-left : (b left : List ℕ) (limit : ℕ) (v : Tree) → AreBytes b → HasItemBefore Any b limit v left → AreBytes left
bytes-left b left limit v h (s, item, split) = behind-bytes s left (subst AreBytes split h)

bytes-behind : (trees : List Tree) (b rest : List ℕ) (limit : ℕ) → AreBytes b → AreItemsBefore Any b limit trees rest →
    AreBytes rest
bytes-behind [] b rest limit h e = subst AreBytes e h
bytes-behind (v ∷ vs) b rest limit h (left, item, more) =
    bytes-behind vs left rest limit (bytes-left b left limit v h item) more

-- items in a row end where the next is refused
one-row : (ts us : List Tree) (b r q : List ℕ) (limit : ℕ) (e f : Refusal) → AreBytes b →
    AreItemsBefore Any b limit ts r →
    AreItemsBefore Any b limit us q → RefusesItem Any r limit e → RefusesItem Any q limit f → (ts ≡ us) × (r ≡ q)
one-row [] [] b r q limit e f h m n p s = (refl, sym m ∙ n)
one-row [] (w ∷ us) b r q limit e f h m (left, item, more) p s =
    absurd (not-both Any b limit e h (w, left, item) (subst (λ (xs : List ℕ). RefusesItem Any xs limit e) (sym m) p))
one-row (v ∷ ts) [] b r q limit e f h (left, item, more) n p s =
    absurd (not-both Any b limit f h (v, left, item) (subst (λ (xs : List ℕ). RefusesItem Any xs limit f) (sym n) s))
one-row (v ∷ ts) (w ∷ us) b r q limit e f h (x, (s, i, split), m) (y, (t, j, other), n) p k =
    let same = one-tree Any s t x y limit v w i j (sym split ∙ other) in
    let rest = one-row ts us x r q limit e f (bytes-left b x limit v h (s, i, split)) m
    (subst (λ (zs : List ℕ). AreItemsBefore Any zs limit us q) (sym same.1) n) p k in
    (ap (λ (u : Tree). u ∷ ts) same.0 ∙ ap (λ (vs : List Tree). w ∷ vs) rest.0, rest.1)

not-empty : (xs : List ℕ) → [] ≡ xs → 0 < length xs → ⊥
not-empty xs e more = let size : 0 ≡ length xs = ap (λ (ys : List ℕ). length ys) e in omega (arith, size, more)

one-of-bytes : (b : List ℕ) (limit : ℕ) (x y : List ℕ) → AreBytes b → HasSequenceAnswer b limit x →
    HasSequenceAnswer b limit y → x ≡ y
one-of-bytes b limit x y h (inl (ts, m, e)) (inl (us, n, f)) =
    let same = one-row ts us b [] [] limit io io h m n (nothing limit) (nothing limit) in e ∙
    (ap sequence_text same.0 ∙ sym f)
one-of-bytes b limit x y h (inl (ts, m, e)) (inr (us, rest, u, n, more, r, f)) =
    absurd (not-empty rest (one-row ts us b [] rest limit io u h m n (nothing limit) r).1 more)
one-of-bytes b limit x y h (inr (ts, rest, u, m, more, r, e)) (inl (us, n, f)) =
    absurd (not-empty rest (one-row us ts b [] rest limit io u h n m (nothing limit) r).1 more)
one-of-bytes b limit x y h (inr (ts, rest, u, m, more, r, e)) (inr (us, left, v, n, also, s, f)) =
    let same = one-row ts us b rest left limit u v h m n r s in
    let reason =
    one-refusal Any rest limit u v (bytes-behind ts b rest limit h m) r
    (subst (λ (zs : List ℕ). RefusesItem Any zs limit v) (sym same.1) s) in
    e ∙ (ap (λ (vs : List Tree). refused_item_text (length vs + 1) (refusal_text u)) same.0
    ∙ (ap (λ (k : Refusal). refused_item_text (length us + 1) (refusal_text k)) reason ∙ sym f))

-- an item is some bytes
less-left : (b left s : List ℕ) (limit : ℕ) (v : Tree) → IsItem Any s limit v → b ≡ s ++ left → length left < length b
less-left b left [] limit v item split = absurd (not-both Any [] limit io (λ i d below. absurd (omega arith))
    (v, [], ([], item, refl)) (nothing limit))
less-left b left (x ∷ s) limit v item split =
    let size : length b ≡ length (x ∷ s) + length left = ap (λ (ys : List ℕ). length ys) split ∙
    length-append (x ∷ s) left in
    let one : length (x ∷ s) ≡ suc (length s) = refl in
    omega (arith, size, one)

-- the items at the front, and what is left where they end
abbrev Ends : List ℕ → ℕ → Type 0
Ends rest limit = (rest ≡ []) ⊎ ((0 < length rest) × (e : Refusal) × RefusesItem Any rest limit e)

found : (n : ℕ) (b : List ℕ) (limit : ℕ) → length b ≤ n → AreBytes b →
    (trees : List Tree) × (rest : List ℕ) × AreItemsBefore Any b limit trees rest × Ends rest limit
found n [] limit below h = ([], [], refl, inl refl)
found zero (x ∷ b) limit below h = absurd (omega arith)
found (suc n) (x ∷ b) limit below h =
    elim (item-or-refused Any (x ∷ b) limit h) [
      | inl (v, left, before) ↦
          (let shorter = less-left (x ∷ b) left before.0 limit v before.1 before.2 in
          let rest = found n left limit (omega (arith, shorter, below)) (bytes-left (x ∷ b) left limit v h before)
          in
          (v ∷ rest.0, rest.1, (left, before, rest.2), rest.3))
      | inr r ↦ ([], x ∷ b, refl, inr (omega arith, r.0, r.1))
    ]

bytes-answered : (b : List ℕ) (limit : ℕ) → AreBytes b → (answer : List ℕ) × HasSequenceAnswer b limit answer
bytes-answered b limit h =
    let f = found (length b) b limit (omega arith) h in
    elim f.3 [
      | inl e ↦ (sequence_text f.0, inl (f.0, subst (λ (r : List ℕ). AreItemsBefore Any b limit f.0 r) e f.2, refl))
      | inr r ↦ (refused_item_text (length f.0 + 1) (refusal_text r.1), inr (f.0, f.1, r.1, f.2, r.0, r.2, refl))
    ]

answered-by : (d : Result (List ℕ) FromHexError) (limit : ℕ) → ((b : List ℕ) → d ≡ Ok b → AreBytes b) →
    (answer : List ℕ) × MatchResult d (λ b. HasSequenceAnswer b limit answer) (λ _. answer ≡ hex_text)
answered-by (Ok b) limit h = bytes-answered b limit (h b refl)
answered-by (Err e) limit h = (hex_text, refl)

pub is_sequence_answered : IsSequenceAnswered
is_sequence_answered line limit = answered-by (decode_of line) limit (λ b e. decoded-bytes line b e)

one-by : (d : Result (List ℕ) FromHexError) (limit : ℕ) (x y : List ℕ) →
    ((b : List ℕ) → d ≡ Ok b → AreBytes b) → MatchResult d (λ b. HasSequenceAnswer b limit x) (λ _. x ≡ hex_text) →
    MatchResult d (λ b. HasSequenceAnswer b limit y) (λ _. y ≡ hex_text) → x ≡ y
one-by (Ok b) limit x y h p q = one-of-bytes b limit x y (h b refl) p q
one-by (Err e) limit x y h p q = p ∙ sym q

pub one_sequence_answer : OneSequenceAnswer
one_sequence_answer line limit a b p q = one-by (decode_of line) limit a b (λ s e. decoded-bytes line s e) p q
