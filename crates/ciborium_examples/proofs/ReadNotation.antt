-- What is printed of a value is read as that value.
use Rattle.std.proofs.Common.{◌≡◌, ℕ, List, IfErr, IfOk, Ok, Err, Result, sym}
use Rattle.ciborium.specs.{Denotes.{Denotes, DenotesWithin, MayRefuse}, Tree.Tree, View.tree_of}
use Rattle.ciborium_value.specs.{declared.from_notation.error.NotationError.NotationError, declared.tree.Value.Value}

pub same_read : (r : Result Value NotationError) (t : List ℕ) (v : Tree) → Denotes t v →
    IfOk r (λ x. (w : Tree) → Denotes t w → w ≡ tree_of x) → IfOk r (λ x. tree_of x ≡ v)
same_read (Ok x) t v d only = sym (only v d)
same_read (Err e) t v d only = tt

pub may_refuse : (r : Result Value NotationError) (t : List ℕ) (l : ℕ) (v : Tree) (limit : ℕ) → DenotesWithin l t v →
    IfErr r (λ e. (m : ℕ) (w : Tree) → DenotesWithin m t w → MayRefuse limit e m) → IfErr r (λ e. MayRefuse limit e l)
may_refuse (Ok x) t l v limit d refused = tt
may_refuse (Err e) t l v limit d refused = refused l v d
