use Rattle.std.proofs.Common.{◌∙◌}
use Rattle.abt_plans.proofs.Sites.{step-calls}
use Rattle.abt_plans.proofs.plans.step_site.Goals as goal

pub returns : goal.returns
returns c = c.site.ensures ∙ step-calls c.args.w.now c.args.s.0 c.args.u.0 c.args.at c.in_ok-op.op c.planned.result c.in_ok-op.ensures c.planned.ensures
