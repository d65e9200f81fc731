use Rattle.ciborium_examples.proofs.slice_callers.is_item.Goals as goal

pub returns-in_default-error : goal.returns-in_default-error
returns-in_default-error c = record {
  yes = λ h. absurd cc;
  no = λ h t read. c.in_default-error.not-Memory (c.in-Err.ensures.refused t read);
}
