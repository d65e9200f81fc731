-- What the deterministic spelling accepts: the encoding of a deterministic tree.
use Rattle.std.proofs.Common.{◌≡◌, ℕ, ◌+◌, ◌≤◌, List, length, is_some, sym, ap, ◌∙◌, subst, arith}
use Rattle.ciborium_ll.{proofs.UniqueSpelling.one_item, specs.{Bytes.greatest_offset, Spells.Spells}}
use Rattle.ciborium_value.proofs.GoodItems.{GoodBytes.item_bytes, ProperMeanings.proper_meaning}
use Rattle.ciborium_value.proofs.Writing.Written.{written_spells, IsProperItem-item_of}
use Rattle.ciborium_value.specs.{DeterministicTrees.IsDeterministic, Encoding.item_of, Meaning.meaning, Nesting.nesting}
use Rattle.ciborium_value.specs.{Nesting.{Limit, IsWithin}, Spelling.{any, deterministic, IsReadAs}}
use Rattle.ciborium_value.specs.{Tree.Tree, declared.key_order.KeyOrder.KeyOrder, laws.RefusalLaws.DeterministicReading}

-- what a spelling accepts is read in any
pub anyway : (spelling s p l v : _) → IsReadAs spelling s p l v → IsReadAs any s p l v
anyway spelling s p l v h = (h.0, h.1, h.2, h.3, h.4, tt)

pub accepted : (order : KeyOrder) (s : List ℕ) (p : ℕ) (l : Limit) (v : Tree) → IsDeterministic order s v →
    IsWithin l (nesting (item_of v)) → p + length s ≤ greatest_offset → IsReadAs (deterministic order) s p l v
accepted order s p l v (bytes, tree) nests fits = (
  item_of v,
  subst (λ b. Spells b (item_of v)) (sym bytes) (written_spells (item_of v) (IsProperItem-item_of v tree.proper)),
  tree.folds,
  nests,
  fits,
  (bytes, tree.rises),
)

pub deterministic_tree : (order s p l v : _) → IsReadAs (deterministic order) s p l v →
    IsDeterministic order s v × IsWithin l (nesting (item_of v)) × (p + length s ≤ greatest_offset)
deterministic_tree order s p l v (i, spelled, means, nests, fits, (bytes, rises)) =
    let proper = proper_meaning i s v spelled (item_bytes i s spelled (ap is_some means)) (omega (arith, fits)) means in
    let same : i ≡ item_of v = one_item s i (item_of v) spelled
    (subst (λ b. Spells b (item_of v)) (sym bytes) (written_spells (item_of v) (IsProperItem-item_of v proper))) in (
      (
        bytes,
        record { proper = proper; folds = sym (ap meaning same) ∙ means; rises = rises },
      ),
      subst (λ j. IsWithin l (nesting j)) same nests,
      fits,
    )

-- such an encoding spells the item of its tree
pub written-item : (order s p l v : _) → IsReadAs (deterministic order) s p l v → Spells s (item_of v)
written-item order s p l v h =
    let c = deterministic_tree order s p l v h in
    subst (λ b. Spells b (item_of v)) (sym c.0.0) (written_spells (item_of v) (IsProperItem-item_of v c.0.1.proper))

pub deterministic_reading : DeterministicReading
deterministic_reading order s p l v = (deterministic_tree order s p l v, λ h. accepted order s p l v h.0 h.1 h.2)
