use Rattle.std.proofs.Common.{◌∙◌, sym}
use Rattle.abt_workload.proofs.Groups.{forms-headed}
use Rattle.abt_workload.proofs.forms.forms_of.Goals as goal

pub returns-then-is : goal.returns-then-is
returns-then-is c = forms-headed _ _ _ c.forms.ensures (sym c.is.ensures ∙ c.if-is.true) (c.heads_of-head-items.ensures c.loop-head.head-index _ c.loop-head-test.true)
