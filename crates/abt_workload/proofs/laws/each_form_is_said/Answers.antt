use Rattle.std.proofs.Common.{refl}
use Rattle.abt_workload.proofs.laws.each_form_is_said.Goals as goal

pub returns : goal.returns
returns c = refl
