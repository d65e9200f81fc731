-- Lists of copies have the trees of what was copied.
use Rattle.std.proofs.Common.{◌≡◌, List, [], ◌∷◌, refl}
use Rattle.std.specs.List.{AllZip}
use Rattle.ciborium_value.specs.{ValueLists.{tree_pairs_of, trees_of}, View.tree_of, declared.tree.Value.Value}

abbrev pub IsCopied : Value → Value → Type 0
IsCopied v w = tree_of w ≡ tree_of v

abbrev pub ArePairsCopied : Value × Value → Value × Value → Type 0
ArePairsCopied p q = IsCopied p.0 q.0 × IsCopied p.1 q.1

pub trees_copied : (vs ws : List Value) → AllZip IsCopied vs ws → trees_of ws ≡ trees_of vs
trees_copied [] [] h = refl
trees_copied [] (w ∷ ws) h = absurd h
trees_copied (v ∷ vs) [] h = absurd h
trees_copied (v ∷ vs) (w ∷ ws) h = rw (h.0, trees_copied vs ws h.1) refl

pub tree_pairs_copied : (ps qs : List (Value × Value)) → AllZip ArePairsCopied ps qs →
    tree_pairs_of qs ≡ tree_pairs_of ps
tree_pairs_copied [] [] h = refl
tree_pairs_copied [] (q ∷ qs) h = absurd h
tree_pairs_copied (p ∷ ps) [] h = absurd h
tree_pairs_copied (p ∷ ps) (q ∷ qs) h = rw (h.0.0, h.0.1, tree_pairs_copied ps qs h.1) refl
