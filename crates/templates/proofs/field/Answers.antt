use Rattle.templates.proofs.Fields.{field_put}
use Rattle.templates.proofs.field.Goals as goal

pub returns : goal.returns
returns c = record { put = field_put _ _ _ _ _ _ _ _ c.form_of-form.ensures c.digit-tens.ensures.0 c.digit-ones.ensures.0 c.value.ensures.put; upper_bound = c.value.ensures.upper_bound }
