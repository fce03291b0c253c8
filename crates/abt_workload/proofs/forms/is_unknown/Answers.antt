use Rattle.std.proofs.Common.{◌≡◌, Bool, List, ap, not}
use Rattle.std.specs.List.{list_any}
use Rattle.abt_machine.specs.declared.grammar.Form.{Form}
use Rattle.abt_machine.specs.Forms.{forms}
use Rattle.abt_workload.proofs.forms.is_unknown.Goals as goal

same : (test : Form → Bool) (xs : List Form) → xs ≡ forms → not (list_any test xs) ≡ not (list_any test forms)
same test xs e = ap (λ (fs : List Form). not (list_any test fs)) e

pub loop-form-init : goal.loop-form-init
loop-form-init c = same _ _ c.forms-form-items.ensures
