-- Sequences of items: no bytes are two of them.
use Rattle.std.proofs.Common.{◌≡◌, ℕ, List, [], ◌∷◌, ◌++◌, inl, refl, sym, ap, ◌∙◌, subst, arith}
use Rattle.ciborium_ll.specs.{Item.Item, Spells.{Spells, SpellsItems}}
use Rattle.ciborium_ll.proofs.{UniqueSpelling.{none_begins_another, one_at_front}, FirstHeads.nothing-in}
use Rattle.ciborium.specs.ItemSequences.{OneSequence}
use Rattle.ciborium_ll.specs.Item as items

apart : (x : ℕ) → x ∷ [] ≡ [] → ⊥
apart x e = cc

-- an item has a byte at least: no item begins another
no-item : (i : Item) → Spells [] i → ⊥
no-item i h = apart 224 (none_begins_another [] (224 ∷ []) i (items.simple 0) h (inl (omega arith, refl)))

pub never-empty : (b s r : List ℕ) (i : Item) → Spells s i → b ≡ [] → b ≡ s ++ r → ⊥
never-empty b s r i spelled none e = no-item i (subst (λ z. Spells z i) (nothing-in s r (sym none ∙ e)) spelled)

pub one_sequence : OneSequence
one_sequence b items.no_items items.no_items h k = refl
one_sequence b items.no_items (items.item j js) h (t, u, sp, more, e) = absurd (never-empty b t u j sp h e)
one_sequence b (items.item i is) items.no_items (s, r, sp, more, e) k = absurd (never-empty b s r i sp k e)
one_sequence b (items.item i is) (items.item j js) (s, r, sp, more, e) (t, u, sq, rest, f) =
    let one = one_at_front s t r u i j sp sq (sym e ∙ f) in
    let same : is ≡ js = one_sequence r is js more (subst (λ z. SpellsItems z js) (sym one.1) rest) in
    ap (λ k. items.item k is) one.2 ∙ ap (items.item j) same
