use Rattle.ciborium_value.proofs.Forms.AlikeForms.{alike_have_one_form, form_is_alike, one_form_where_alike}
use Rattle.ciborium_value.proofs.Forms.{OwnForms.{accepted_where_own_form, form_is_its_own}, ProperForms.form_is_proper}
use Rattle.ciborium_value.proofs.Forms.RefusedForms.{form_or_refused, refused_by_duplicates}
use Rattle.ciborium_value.proofs.tree_laws.deterministic_forms.Goals as goal

pub returns : goal.returns
returns c = record {
  own = form_is_its_own;
  accepted = accepted_where_own_form;
  one_form = alike_have_one_form;
  alike = one_form_where_alike;
  itself = form_is_alike;
  proper = form_is_proper;
  refused = refused_by_duplicates;
  reasons = form_or_refused;
}
