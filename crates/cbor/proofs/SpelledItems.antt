-- What holds of items and of what refuses them, however items may be spelled.
use Rattle.std.proofs.Common.{◌≡◌, ℕ, ◌⊎◌, List, ◌++◌, Some, inl, inr}
use Rattle.ciborium_ll.specs.{Bytes.AreBytes, Refusal.Refusal}
use Rattle.ciborium_value.specs.Tree.{Tree}
use Rattle.ciborium_value.proofs.GoodItems.Outcome.{good_or_refused, never_both, one_reading, one_refusal}
use Rattle.cbor.specs.{declared.reading.Spelling.Spelling, Spellings.{HasItemBefore, IsItem, RefusesItem, spelling_of}}

-- an item is at the front
abbrev pub HasItem : Spelling → List ℕ → ℕ → Type 0
HasItem spelling b limit = (v : Tree) × (left : List ℕ) × HasItemBefore spelling b limit v left

pub item-or-refused : (spelling : Spelling) (b : List ℕ) (limit : ℕ) → AreBytes b →
    HasItem spelling b limit ⊎ ((e : Refusal) × RefusesItem spelling b limit e)
item-or-refused spelling b limit h =
    elim (good_or_refused (spelling_of spelling) b 0 (Some limit) h) [
      | inl g ↦ inl (g.1, g.2, (g.0, g.3, g.4))
      | inr r ↦ inr r
    ]

pub not-both : (spelling : Spelling) (b : List ℕ) (limit : ℕ) (e : Refusal) → AreBytes b → HasItem spelling b limit →
    RefusesItem spelling b limit e → ⊥
not-both spelling b limit e h (v, left, (s, d, split)) r =
    never_both (spelling_of spelling) b 0 (Some limit) e h (s, v, left, d, split) r

pub one-refusal : (spelling : Spelling) (b : List ℕ) (limit : ℕ) (e f : Refusal) → AreBytes b →
    RefusesItem spelling b limit e → RefusesItem spelling b limit f → e ≡ f
one-refusal spelling b limit e f h p q = one_refusal (spelling_of spelling) b 0 (Some limit) e f h p q

pub one-tree : (spelling : Spelling) (s t x y : List ℕ) (limit : ℕ) (v w : Tree) → IsItem spelling s limit v →
    IsItem spelling t limit w → s ++ x ≡ t ++ y → (v ≡ w) × (x ≡ y)
one-tree spelling s t x y limit v w p q e =
    let same = one_reading (spelling_of spelling) s t x y 0 (Some limit) v w p q e in (same.0, same.2)
