-- The encodings of lists of values round an index.
use Rattle.std.proofs.Common.{◌≡◌, ℕ, suc, ◌+◌, ◌≤◌, List, ◌++◌, length, take, drop, refl, sym, ap, ◌∙◌, append_assoc}
use Rattle.std.proofs.Common.{length-append, arith}
use Rattle.ciborium_value.{proofs.Trees.Elements.{At, here, behind}, specs.{Encoding.encoding, View.tree_of}}
use Rattle.ciborium_value.specs.{declared.tree.Value.Value, inner.EncodedLists.{encodings, pair_encodings}}

-- the encodings round the one at an index
pub encodings-around : {i : ℕ} {vs : List Value} {v : Value} → At i vs v →
    encodings vs ≡ encodings (take i vs) ++ (encoding (tree_of v) ++ encodings (drop (suc i) vs))
encodings-around here = refl
encodings-around (behind {y = y} a) = ap (λ l. encoding (tree_of y) ++ l) (encodings-around a) ∙
    sym (append_assoc (encoding (tree_of y)) _ _)

-- the encodings round the pair at an index
pub pair_encodings-around : {i : ℕ} {ps : List (Value × Value)} {p : Value × Value} → At i ps p →
    pair_encodings ps ≡ pair_encodings (take i ps) ++
    (encoding (tree_of p.0) ++ (encoding (tree_of p.1) ++ pair_encodings (drop (suc i) ps)))
pair_encodings-around here = refl
pair_encodings-around (behind {y = y} a) =
    let key = encoding (tree_of y.0) in
    let mapped = encoding (tree_of y.1) in
    ap (λ l. key ++ (mapped ++ l)) (pair_encodings-around a) ∙ ap (λ l. key ++ l) (sym (append_assoc mapped _ _)) ∙
    sym (append_assoc key _ _)

-- one more encoding
pub encodings-more-length : {i : ℕ} {vs : List Value} {v : Value} → At i vs v →
    length (encodings (take (suc i) vs)) ≡ length (encodings (take i vs)) + length (encoding (tree_of v))
encodings-more-length here = simp length-append (omega arith)
encodings-more-length (behind a) = let more = encodings-more-length a in simp length-append (omega (arith, more))

-- one more pair
pub pair_encodings-more-length : {i : ℕ} {ps : List (Value × Value)} {p : Value × Value} → At i ps p →
    length (pair_encodings (take (suc i) ps)) ≡ length (pair_encodings (take i ps)) +
    (length (encoding (tree_of p.0)) + length (encoding (tree_of p.1)))
pair_encodings-more-length here = simp length-append (omega arith)
pair_encodings-more-length (behind a) =
    let more = pair_encodings-more-length a in simp length-append (omega (arith, more))

-- up to the next value there are no more bytes than in all
pub encodings-next-length : {i : ℕ} {vs : List Value} {v : Value} → At i vs v →
    length (encodings (take i vs)) + length (encoding (tree_of v)) ≤ length (encodings vs)
encodings-next-length here = simp length-append (omega arith)
encodings-next-length (behind a) = let next = encodings-next-length a in simp length-append (omega (arith, next))

-- up to the next pair there are no more bytes than in all
pub pair_encodings-next-length : {i : ℕ} {ps : List (Value × Value)} {p : Value × Value} → At i ps p →
    length (pair_encodings (take i ps)) + (length (encoding (tree_of p.0)) + length (encoding (tree_of p.1))) ≤
    length (pair_encodings ps)
pair_encodings-next-length here = simp length-append (omega arith)
pair_encodings-next-length (behind a) =
    let next = pair_encodings-next-length a in simp length-append (omega (arith, next))
