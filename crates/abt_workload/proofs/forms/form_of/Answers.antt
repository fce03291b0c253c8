use Rattle.std.proofs.Common.{◌∙◌}
use Rattle.abt_workload.proofs.Groups.{form-of-words}
use Rattle.abt_workload.proofs.forms.form_of.Goals as goal

pub returns-in-Some-forms_of : goal.returns-in-Some-forms_of
returns-in-Some-forms_of c = c.form_behind.ensures ∙ form-of-words c.args.format c.args.words.now c.in-Some.word.now c.in-Some.rest.now _ c.in-Some.ensures.cases.0 c.in-Some-forms_of.ensures
