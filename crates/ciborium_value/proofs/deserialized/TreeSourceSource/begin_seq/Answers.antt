-- The items of the array are ahead.
use Rattle.std.proofs.Common.{◌≡◌, sym, ap, ◌∙◌, subst}
use Rattle.ciborium_value.{proofs.Sources.TreeReading.{begun, seq_of}, specs.{Ahead.counted, Given.given_seq}}
use Rattle.ciborium_value.specs.{Given.untagged, TreeAnswers.value_item, inner.TreeSources.IsPending}
use Rattle.ciborium_value.proofs.deserialized.TreeSourceSource.begin_seq.Goals as goal

pub returns-in-Array-clause-ok : goal.returns-in-Array-clause-ok
returns-in-Array-clause-ok c l i f st =
    let here : value_item c.in-Whole.value.now ≡ i = subst (λ o. IsPending o i) (sym c.in-Whole.ensures.ahead) st.1.0 in
    begun given_seq counted value_item c.in-Array.values.items _ c.deref.ensures.value _ _ c.take-due.ensures.value l i
    f st.0 st.1.1 (seq_of c.skip_tags.result.now c.in-Array.values i c.in-Array.is
    (c.skip_tags.ensures.item ∙ ap untagged here))
