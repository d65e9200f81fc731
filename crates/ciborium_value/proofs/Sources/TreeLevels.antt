-- Names, tags and variants of a tree.
use Rattle.std.proofs.Common.{◌≡◌, ℕ, Bool, true, false, List, [], ◌∷◌, length, Vec, Global, Option, Some, None, refl}
use Rattle.std.proofs.{Common.{sym, ap, ◌∙◌, subst, ◌==◌}, lemmas.Str.{IsUtf8-from_is_utf8, is_utf8-from_IsUtf8}}
use Rattle.std.specs.{Str.{is_utf8, IsUtf8}, Borrow.Bor}
use Rattle.ciborium_ll.specs.Item.{Item}
use Rattle.ciborium_value.{proofs.Trees.Views.{tree_of-Bytes, tree_of-Map}, specs.Ahead.{Rest, entry, past}}
use Rattle.ciborium_value.specs.{Encoding.{item_of, pairs_of}, Given.{gives, refuses, given_name, bare_name, lone_pair}}
use Rattle.ciborium_value.specs.Given.{given_variant, bare_variant, outcome, settled, untagged}
use Rattle.ciborium_value.specs.{TreeAnswers.value_item, ValueLists.tree_pairs_of, View.tree_of}
use Rattle.ciborium_value.specs.declared.{deserialized.TreeSource.TreeSource, tree.Value.Value}
use Rattle.ciborium_value.specs.inner.TreeSources.{IsTreeAhead, IsDueValue, IsPending, pending_due}
use Rattle.ciborium_ll.specs.declared.kind.Kind.TheVariants as kinds
use Rattle.ciborium_value.specs.declared.tree.Value as value

-- ---- names

-- the name that a byte string is, behind the tags of an item
pub name_of_bytes : (v : Value) (bs : Vec ℕ Global) (i : Item) (b : List ℕ) → v ≡ value.Bytes bs →
    value_item v ≡ untagged i → b ≡ bs.items → IsUtf8 b → outcome None (given_name i) ≡ gives b
name_of_bytes v bs i b is h e u =
    let t = is_utf8-from_IsUtf8 b u in
    ap (λ j. settled (bare_name j)) (sym h ∙ ap item_of (ap tree_of is ∙ tree_of-Bytes bs)) ∙ (rw (sym e, t) refl)

pub utf8_not : (b : List ℕ) → (IsUtf8 b → ⊥) → (t : Bool) → is_utf8 b ≡ t → is_utf8 b ≡ false
utf8_not b n true e = absurd (n (IsUtf8-from_is_utf8 b e))
utf8_not b n false e = e

pub no_name_of_bytes : (v : Value) (bs : Vec ℕ Global) (i : Item) (b : List ℕ) → v ≡ value.Bytes bs →
    value_item v ≡ untagged i → b ≡ bs.items → (IsUtf8 b → ⊥) → outcome None (given_name i) ≡ refuses kinds.Name
no_name_of_bytes v bs i b is h e n =
    let t = utf8_not b n (is_utf8 b) refl in
    ap (λ j. settled (bare_name j)) (sym h ∙ ap item_of (ap tree_of is ∙ tree_of-Bytes bs)) ∙ (rw (sym e, t) refl)

-- ---- variants

pub more_pairs : (ps : List (Value × Value)) (p : Value × Value) (rest : List (Value × Value)) → ps ≡ p ∷ rest →
    (length rest == 0) ≡ false → outcome None (lone_pair (pairs_of (tree_pairs_of ps))) ≡ refuses kinds.Variant
more_pairs ps p [] e n = absurd (let k = n in cc)
more_pairs ps p (q ∷ qs) e n = rw e refl

-- a map, behind the tags of an item, is a variant as its lone pair is
pub variant_of_map : (v : Value) (ps : Vec (Value × Value) Global) (qs : List (Value × Value)) (i : Item) →
    v ≡ value.Map ps → value_item v ≡ untagged i → qs ≡ ps.items →
    outcome None (given_variant i) ≡ outcome None (lone_pair (pairs_of (tree_pairs_of qs)))
variant_of_map v ps qs i is h e =
    ap (λ j. outcome None (bare_variant j)) (sym h ∙ ap item_of (ap tree_of is ∙ tree_of-Map ps)) ∙ (rw (sym e) refl)

-- ---- what is due

pub due_is_ahead : (new : TreeSource) (due : Option (Bor Value)) (f : Rest) → IsDueValue due f →
    new.ahead ≡ pending_due due → IsTreeAhead new (past f)
due_is_ahead new None (entry v span ps f) h e = elim h [ ]
due_is_ahead new (Some w) (entry v span ps f) h e = subst (λ o. IsPending o v × Unit {0}) (sym e) (h, tt)
due_is_ahead new due u h e = tt
