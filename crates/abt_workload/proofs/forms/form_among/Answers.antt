use Rattle.std.proofs.Common.{◌≡◌, Bool, List, ap, find}
use Rattle.abt_machine.specs.declared.grammar.Form.{Form}
use Rattle.abt_machine.specs.Forms.{forms}
use Rattle.abt_workload.proofs.forms.form_among.Goals as goal

same : (test : Form → Bool) (xs : List Form) → xs ≡ forms → find test xs ≡ find test forms
same test xs e = ap (find test) e

pub loop-form-init : goal.loop-form-init
loop-form-init c = same _ _ c.forms-form-items.ensures
