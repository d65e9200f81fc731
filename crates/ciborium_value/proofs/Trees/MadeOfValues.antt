-- What is made of the values of a list, one by one: the parts of a type that holds itself, whose values are trees of
-- one shape.
use Rattle.std.proofs.Common.{◌≡◌, ℕ, zero, suc, ◌+◌, ◌<◌, Bool, true, false, ◌&&◌, List, [], ◌∷◌, ◌++◌, length, map}
use Rattle.std.proofs.{Common.{take, get_or, sym, ap, ◌∙◌, add-one, arith}, lemmas.List.map-append}
use Rattle.ciborium_value.{proofs.Trees.Elements.{at, one_more}, specs.{Tree.{Tree, Trees}, ValueLists.trees_of}}
use Rattle.ciborium_value.specs.{View.tree_of, declared.tree.Value.Value, lemmas.Descriptions.both}
use Rattle.ciborium_ll.proofs.UsableHeads.{and_false}
use Rattle.std.specs.Cmp.Derive.{both_true}
use Rattle.ciborium_value.specs.Tree as trees

-- one part more was made, of the next value
pub one_made : {T : Type 0} (f : T → Tree) (i : ℕ) (vs : List Value) (v : Value) (ts us : List T) (t : T) →
    i < length vs → v ≡ get_or vs i v →
    map f ts ≡ map tree_of (take i vs) → us ≡ ts ++ t ∷ [] → f t ≡ tree_of v → map f us ≡ map tree_of (take (i + 1) vs)
one_made f i vs v ts us t h e before more same =
    rw (add-one, one_more (at h e), more) (simp map-append (cc (before, same)))

-- a test of trees, and of lists of trees: each passes it
module _ (is : Tree → Bool) (are : Trees → Bool) (none : are trees.no_trees ≡ true)
    (each : (v : Tree) (vs : Trees) → are (trees.tree v vs) ≡ (is v && are vs)) where
  right-append : (vs : List Value) (v : Value) → are (trees_of vs) ≡ true → is (tree_of v) ≡ true →
      are (trees_of (vs ++ v ∷ [])) ≡ true
  right-append [] v h k = each (tree_of v) trees.no_trees ∙ both_true k none
  right-append (w ∷ ws) v h k =
      let parts = both (is (tree_of w)) (are (trees_of ws)) (sym (each (tree_of w) (trees_of ws)) ∙ h) in
      each (tree_of w) (trees_of (ws ++ v ∷ [])) ∙ both_true parts.0 (right-append ws v parts.1 k)

  -- the next value passes it
  pub one_right : (i : ℕ) (vs : List Value) (v : Value) → i < length vs → v ≡ get_or vs i v →
      are (trees_of (take i vs)) ≡ true → is (tree_of v) ≡ true → are (trees_of (take (i + 1) vs)) ≡ true
  one_right i vs v h e before right = rw (add-one, one_more (at h e)) (right-append (take i vs) v before right)

  -- one value that does not is enough
  pub one_wrong : (i : ℕ) (vs : List Value) (v : Value) → i < length vs → v ≡ get_or vs i v → is (tree_of v) ≡ false →
      are (trees_of vs) ≡ false
  one_wrong i [] v h e wrong = absurd (omega (arith, h))
  one_wrong zero (w ∷ ws) v h e wrong = each (tree_of w) (trees_of ws) ∙
      ap (λ t. t && are (trees_of ws)) (ap (λ x. is (tree_of x)) (sym e) ∙ wrong)
  one_wrong (suc i) (w ∷ ws) v h e wrong = each (tree_of w) (trees_of ws) ∙
      and_false (is (tree_of w)) (are (trees_of ws)) (one_wrong i ws v (omega (arith, h)) e wrong)
