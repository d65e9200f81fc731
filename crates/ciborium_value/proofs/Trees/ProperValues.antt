-- A value that a program holds is proper: what its fields' types give.
use Rattle.std.proofs.Common.{◌≡◌, ℕ, suc, ◌^◌, ◌<◌, List, length, take, String, string_bytes}
use Rattle.std.proofs.{Common.{Vec, Global, sym, ap, ◌∙◌, subst, arith}, lemmas.Str.IsUtf8-string_bytes}
use Rattle.ciborium_ll.specs.{Bytes.AreBytes, ProperItems.IsProperBytes}
use Rattle.ciborium_value.proofs.Trees.{Elements.{At, here, behind}, Views.{tree_of-Bytes, tree_of-Text}}
use Rattle.ciborium_value.specs.{ProperTrees.{AreProperTrees, AreProperTreePairs, IsProperTree}, ValueLists.trees_of}
use Rattle.ciborium_value.specs.{ValueLists.tree_pairs_of, View.tree_of, declared.tree.Value.Value}
use Rattle.ciborium_value.specs.declared.tree.Value as value

-- ---- lists

-- one more proper tree
pub AreProperTrees-more : {i : ℕ} {vs : List Value} {v : Value} → At i vs v → AreProperTrees (trees_of (take i vs)) →
    IsProperTree (tree_of v) → AreProperTrees (trees_of (take (suc i) vs))
AreProperTrees-more here before proper = (proper, tt)
AreProperTrees-more (behind a) before proper = (before.0, AreProperTrees-more a before.1 proper)

-- one more pair of proper trees
pub AreProperTreePairs-more : {i : ℕ} {ps : List (Value × Value)} {p : Value × Value} → At i ps p →
    AreProperTreePairs (tree_pairs_of (take i ps)) → IsProperTree (tree_of p.0) → IsProperTree (tree_of p.1) →
    AreProperTreePairs (tree_pairs_of (take (suc i) ps))
AreProperTreePairs-more here before key mapped = (key, mapped, tt)
AreProperTreePairs-more (behind a) before key mapped = (
  before.0,
  before.1,
  AreProperTreePairs-more a before.2 key mapped,
)

-- ---- each variant with a length

-- a payload as it is passed on
are_proper : (b xs : List ℕ) → b ≡ xs → AreBytes b → length b < 2 ^ 64 → IsProperBytes xs
are_proper b xs e bytes short = subst IsProperBytes e (bytes, omega arith)

pub is_proper-Bytes : (w : Value) (v : Vec ℕ Global) (b : List ℕ) → w ≡ value.Bytes v → b ≡ v.items → AreBytes b →
    length b < 2 ^ 64 → IsProperTree (tree_of w)
is_proper-Bytes w v b is payload bytes short =
    subst IsProperTree (sym (ap tree_of is ∙ tree_of-Bytes v)) (are_proper b v.items payload bytes short)

pub is_proper-Text : (w : Value) (s : String Global) (b : List ℕ) → w ≡ value.Text s → b ≡ string_bytes s → AreBytes b →
    length b < 2 ^ 64 → IsProperTree (tree_of w)
is_proper-Text w s b is payload bytes short = subst IsProperTree (sym (ap tree_of is ∙ tree_of-Text s))
    (IsUtf8-string_bytes s, are_proper b (string_bytes s) payload bytes short)
