-- Lists of values that are their own forms.
use Rattle.std.proofs.Common.{◌≡◌, ℕ, suc, List, take, true, false, Bool}
use Rattle.std.proofs.Common.{IsTrue, ◌↔◌, sym, ◌∙◌}
use Rattle.ciborium_value.{proofs.Trees.Elements.{At, here, behind}, specs.ValueLists.{trees_of, tree_pairs_of}}
use Rattle.ciborium_value.specs.{View.tree_of, declared.{key_order.KeyOrder.KeyOrder, tree.Value.Value}}
use Rattle.ciborium_value.specs.inner.OwnForms.{IsFormed, AreFormed, PairsAreFormed}

-- ---- tests

pub failed : {P : Type 0} (b : Bool) → IsTrue b ↔ P → b ≡ false → ¬ P
failed b h e p = let yes : b ≡ true = h.1 p in absurd (let no : true ≡ false = sym yes ∙ e in cc)

-- ---- the items of an array

pub AreFormed-more : (o : KeyOrder) {i : ℕ} {vs : List Value} {v : Value} → At i vs v →
    AreFormed o (trees_of (take i vs)) → IsFormed o (tree_of v) → AreFormed o (trees_of (take (suc i) vs))
AreFormed-more o here before formed = (formed, tt)
AreFormed-more o (behind a) before formed = (before.0, AreFormed-more o a before.1 formed)

pub formed_at : (o : KeyOrder) {i : ℕ} {vs : List Value} {v : Value} → At i vs v → AreFormed o (trees_of vs) →
    IsFormed o (tree_of v)
formed_at o here all = all.0
formed_at o (behind a) all = formed_at o a all.1

-- ---- the pairs of a map

pub PairsAreFormed-more : (o : KeyOrder) {i : ℕ} {ps : List (Value × Value)} {p : Value × Value} → At i ps p →
    PairsAreFormed o (tree_pairs_of (take i ps)) → IsFormed o (tree_of p.0) → IsFormed o (tree_of p.1) →
    PairsAreFormed o (tree_pairs_of (take (suc i) ps))
PairsAreFormed-more o here before key mapped = (key, mapped, tt)
PairsAreFormed-more o (behind a) before key mapped = (
  before.0,
  before.1,
  PairsAreFormed-more o a before.2 key mapped,
)

pub pair_formed_at : (o : KeyOrder) {i : ℕ} {ps : List (Value × Value)} {p : Value × Value} → At i ps p →
    PairsAreFormed o (tree_pairs_of ps) → IsFormed o (tree_of p.0) × IsFormed o (tree_of p.1)
pair_formed_at o here all = (all.0, all.1)
pair_formed_at o (behind a) all = pair_formed_at o a all.2
