use Rattle.abt_model.proofs.Starting.{model-starts}
use Rattle.abt_model.proofs.model.Model.start.Goals as goal

pub returns : goal.returns
returns c = model-starts c.args.w.now c.in_ok-lanes.lanes.items c.in_ok-objects.objects c.in_ok-lanes.ensures c.in_ok-objects.ensures
