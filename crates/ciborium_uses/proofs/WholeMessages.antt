-- A message that was read is whole; what is whole is read again; and no bytes are two messages.
use Rattle.std.proofs.Common.{◌≡◌, ◌≤◌, refl, sym, subst, ◌∙◌, arith, ℕ, List, Ok, Some}
use Rattle.ciborium.specs.{Encoding.item_of, Folded.folded, Nesting.nesting, Spells.Spells, Tree.Tree, View.tree_of}
use Rattle.ciborium.specs.Writes.{IsWrittenAs}
use Rattle.ciborium_value.proofs.FoldedTrees.Nests.{meaning_nests}
use Rattle.ciborium_uses.proofs.KeptLabels.{kept, one-header, one-map, one-value, read-back, spelled}
use Rattle.ciborium_uses.specs.Envelopes.{AreAlike, AreClaimBytes, AreHeaders, AreLabels, IsHeader, IsMessage, IsWhole}
use Rattle.ciborium_uses.specs.Envelopes.{OneEnvelope, SpelledIsRead, message_of, message_tree, shortest_bytes}
use Rattle.ciborium_uses.specs.{Envelopes.wrapped_tree, declared.envelopes.Envelope.Envelope}
use Rattle.ciborium_uses.specs.declared.envelopes.wrapping.Wrapping.{Wrapping, TheVariants.{Bare, Signed, Token}}

-- ---- what was read

fewer : (w : Wrapping) (p c s : List ℕ) (u m : Tree) → nesting (item_of m) ≤ nesting (item_of u) →
    nesting (item_of (wrapped_tree w (message_tree p u c s))) ≤ 256 →
    nesting (item_of (wrapped_tree w (message_tree p m c s))) ≤ 256
fewer Bare p c s u m h fits = omega (arith, h, fits)
fewer Signed p c s u m h fits = omega (arith, h, fits)
fewer Token p c s u m h fits = omega (arith, h, fits)

pub whole : (w : Wrapping) (t : Tree) (e : Envelope) → nesting (item_of (wrapped_tree w t)) ≤ 256 → IsMessage t e →
    IsWhole w e
whole w t e fits h = record {
  message = record {
    unprotected_tree = tree_of e.unprotected;
    parts = refl;
    unprotected = kept h.unprotected_tree (tree_of e.unprotected) h.unprotected;
    header = h.header;
    headers = h.headers;
    claims = h.claims;
  };
  nests = fewer w _ _ _ h.unprotected_tree (tree_of e.unprotected)
      (meaning_nests (item_of h.unprotected_tree) _ h.unprotected.folds)
      (subst (λ t. nesting (item_of (wrapped_tree w t)) ≤ 256) h.parts fits);
}

-- ---- what is written

folds : (w : Wrapping) (p c s : List ℕ) (m : Tree) → folded m ≡ Some m →
    folded (wrapped_tree w (message_tree p m c s)) ≡ Some (wrapped_tree w (message_tree p m c s))
folds Bare p c s m h = rw h refl
folds Signed p c s m h = rw h refl
folds Token p c s m h = rw h refl

-- the bytes that are written of a tree under tags
pub spelled-under : (w v : Wrapping) (bs : List ℕ) (t : Tree) → w ≡ v →
    IsWrittenAs bs (Ok (item_of (wrapped_tree v t))) → Spells bs (item_of (wrapped_tree w t))
spelled-under w v bs t same h =
    spelled bs _ (subst (λ v. IsWrittenAs bs (Ok (item_of (wrapped_tree v t)))) (sym same) h)

pub spelled-is-read : SpelledIsRead
spelled-is-read bs w e h s = record {
  tree = message_of e;
  item = read-back bs _ (folds w _ _ _ (tree_of e.unprotected)
      (kept h.message.unprotected_tree (tree_of e.unprotected) h.message.unprotected).folds) h.nests s;
  message = h.message;
}

-- ---- no bytes are two

alike : (t u : Tree) (e f : Envelope) → t ≡ u → IsMessage t e → IsMessage u f → AreAlike e f
alike t u e f same a b =
    let parts : message_tree e.protected.0.items a.unprotected_tree e.payload.0.items e.signature.0.items
    ≡ message_tree f.protected.0.items b.unprotected_tree f.payload.0.items f.signature.0.items =
    sym a.parts ∙ same ∙ b.parts in
    let protected : e.protected.0.items ≡ f.protected.0.items = cc in
    let payload : e.payload.0.items ≡ f.payload.0.items = cc in
    let folds = a.unprotected.folds in
    let others = b.unprotected.folds in
    let claims = subst (λ bs. AreClaimBytes bs e.claims) payload a.claims in
    let map : claims.map ≡ b.claims.map = one-map _ _ _ claims.labels b.claims.labels in
    let every = claims.claims_at.every in
    let another = b.claims.claims_at.every in record {
      protected = protected;
      unprotected = cc;
      payload = payload;
      signature = cc;
      header = one-header _ _ _ (subst (λ bs. IsHeader bs (tree_of e.header)) protected a.header) b.header;
      claims = cc;
    }

-- the headers of what was read are those of the message
pub same-headers : (t : Tree) (p c s : List ℕ) (u m n : Tree) (v : Envelope) → t ≡ message_tree p u c s →
    AreLabels u n → IsHeader p m → IsMessage t v → AreHeaders m n
same-headers t p c s u m n v is labels header h =
    let parts : message_tree v.protected.0.items h.unprotected_tree v.payload.0.items v.signature.0.items
    ≡ message_tree p u c s = sym h.parts ∙ is in
    let protected : v.protected.0.items ≡ p = cc in
    let folds = h.unprotected.folds in
    let others = labels.folds in
    let unprotected : tree_of v.unprotected ≡ n = cc in
    let map = one-header p _ m (subst (λ bs. IsHeader bs (tree_of v.header)) protected h.header) header in
    subst (λ n. AreHeaders m n) unprotected (subst (λ m. AreHeaders m (tree_of v.unprotected)) map h.headers)

one-wrapping : (w v : Wrapping) (t u : Tree) (e f : Envelope) → wrapped_tree w t ≡ wrapped_tree v u → IsMessage t e →
    IsMessage u f → (w ≡ v) × (t ≡ u)
one-wrapping Bare Bare t u e f same a b = (refl, same)
one-wrapping Signed Signed t u e f same a b = (refl, cc)
one-wrapping Token Token t u e f same a b = (refl, cc)
one-wrapping w v t u e f same a b = let here = a.parts in let there = b.parts in absurd cc

pub one-envelope : OneEnvelope
one-envelope bs w v e f a b =
    let (wrapping, tree) = one-wrapping w v a.tree b.tree e f (one-value bs _ _ a.item b.item) a.message b.message in
    (wrapping, alike a.tree b.tree e f tree a.message b.message)

-- envelopes that are alike have the same shortest bytes
pub alike-shortest : (w v : Wrapping) (e f : Envelope) → (w ≡ v) × AreAlike e f →
    shortest_bytes w e ≡ shortest_bytes v f
alike-shortest w v e f (same, alike) =
    rw (same, alike.protected, alike.unprotected, alike.payload, alike.signature) refl
