use Rattle.ciborium.proofs.ReadBack.FormRoundTrips as forms
use Rattle.ciborium.proofs.laws.form_is_read_back.Goals as goal

pub returns : goal.returns
returns c = forms.form_is_read_back
