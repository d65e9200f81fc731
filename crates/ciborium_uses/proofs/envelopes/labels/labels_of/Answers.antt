use Rattle.std.proofs.Common.{◌≡◌, ◌∙◌, IsTrue, ap, rules, subst, sym}
use Rattle.ciborium.specs.{Given.gives, ValueLists.tree_pairs_of, View.tree_of}
use Rattle.ciborium_uses.proofs.KeptLabels.{folds-to, for-memory, gives-folded, kept}
use Rattle.ciborium_uses.specs.Envelopes.{are_labels, entries_in, entries_of, is_label_map, once_each}
use Rattle.ciborium_uses.proofs.envelopes.labels.labels_of.Goals as goal

pub returns-in-Err-clause-refused : goal.returns-in-Err-clause-refused
returns-in-Err-clause-refused c m h = c.refusal_of.ensures
    (for-memory c.in-Err.error _ m c.in-Err.ensures.refused (gives-folded (tree_of c.args.map.now) m h.folds))

pub returns-in-Ok-deserialized-clause-ok : goal.returns-in-Ok-deserialized-clause-ok
returns-in-Ok-deserialized-clause-ok c =
    let labels : IsTrue (are_labels (tree_pairs_of c.in-Some.pairs.now.items)) = search rules in
    let given = c.in-Ok-deserialized.ensures.ok in record {
      labels = subst (λ t. IsTrue (is_label_map t)) (sym c.in-Some.ensures.tree) labels;
      folds = folds-to (tree_of c.args.map.now) (tree_of c.in-Ok.map) c.in-Ok.ensures.ok;
      once = given ∙ ap gives (sym (ap entries_in given));
    }

pub returns-in-Ok-deserialized-clause-kept : goal.returns-in-Ok-deserialized-clause-kept
returns-in-Ok-deserialized-clause-kept c = kept (tree_of c.args.map.now) _ (returns-in-Ok-deserialized-clause-ok c)

pub returns-in-Err-deserialized-clause-refused : goal.returns-in-Err-deserialized-clause-refused
returns-in-Err-deserialized-clause-refused c m h =
    let folds = folds-to (tree_of c.args.map.now) (tree_of c.in-Ok.map) c.in-Ok.ensures.ok in
    let others = h.folds in
    let same : m ≡ tree_of c.in-Ok.map = cc in
    c.refusal_of-in-Err-deserialized.ensures (for-memory c.in-Err-deserialized.error _ _
    c.in-Err-deserialized.ensures.refused (subst (λ m. once_each m ≡ gives (entries_of m)) same h.once))
