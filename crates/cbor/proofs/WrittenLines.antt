-- One more line is written.
use Rattle.std.proofs.Common.{◌≡◌, ℕ, ◌<◌, ◌+◌, List, [], ◌∷◌, ◌++◌, length, get_or, map, take, flat_map, Option, Some}
use Rattle.std.proofs.{Common.{Result, Ok, Err, OnOk, sym, ap, ◌∙◌}, lemmas.List.{append_assoc, flat_map_more}}
use Rattle.std.proofs.lemmas.List.{map_more}
use Rattle.hex.specs.Hex.{encode_lower}
use Rattle.ciborium_value.specs.{Encoding.encoding, Tree.Tree, View.tree_of, declared.tree.Value.Value}
use Rattle.cbor.specs.SortedLines.{hex_line}

-- the lines of the values up to i are held behind w, and then that of the value at i
pub one-more-written : (held once now : Option (List ℕ)) (w text feed : List ℕ) (vs : List Value) (i : ℕ) (v : Value) →
    held ≡ Some (w ++ flat_map hex_line (map tree_of (take i vs))) →
    ((ys : List ℕ) → held ≡ Some ys → once ≡ Some (ys ++ text)) →
    ((ys : List ℕ) → once ≡ Some ys → now ≡ Some (ys ++ feed)) → text ≡ encode_lower (encoding (tree_of v)) →
    feed ≡ 10 ∷ [] → i < length vs → v ≡ get_or vs i v →
    now ≡ Some (w ++ flat_map hex_line (map tree_of (take (i + 1) vs)))
one-more-written held once now w text feed vs i v e first second digits same below at =
    let before = w ++ flat_map hex_line (map tree_of (take i vs)) in
    let more : map tree_of (take (i + 1) vs) ≡ map tree_of (take i vs) ++ (tree_of v ∷ []) =
    map_more tree_of vs i v below ∙ ap (λ (u : Value). map tree_of (take i vs) ++ (tree_of u ∷ [])) (sym at) in
    let line : text ++ feed ≡ hex_line (tree_of v) = ap (λ (f : List ℕ). text ++ f) same ∙
    ap (λ (t : List ℕ). t ++ (10 ∷ [])) digits in
    second (before ++ text) (first before e)
    ∙ ap Some (append_assoc before text feed ∙ ap (λ (s : List ℕ). before ++ s) line ∙
    flat_map_more hex_line w (map tree_of (take i vs)) (tree_of v)
    ∙ ap (λ (ts : List Tree). w ++ flat_map hex_line ts) (sym more))

-- the lines that wait are written
pub sent-lines : {T E : Type 0} (vs : List Value) (w : List ℕ) (held now : Option (List ℕ)) (r : Result T E) →
    OnOk r (held ≡ Some (w ++ flat_map hex_line (map tree_of vs))) → ((ys : List ℕ) → held ≡ Some ys → now ≡ Some ys) →
    OnOk r (now ≡ Some (w ++ flat_map hex_line (map tree_of vs)))
sent-lines vs w held now (Ok v) e keeps = keeps (w ++ flat_map hex_line (map tree_of vs)) e
sent-lines vs w held now (Err x) e keeps = tt
