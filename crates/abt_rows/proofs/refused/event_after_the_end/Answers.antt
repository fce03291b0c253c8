use Rattle.std.proofs.Common.{[], ◌∷◌, length, refl, ap}
use Rattle.abt_machine.specs.declared.events.Cause.TheVariants as cause
use Rattle.abt_machine.specs.declared.events.Code.TheVariants as code
use Rattle.abt_machine.specs.declared.events.What.TheVariants as what
use Rattle.abt_machine.specs.Numbers.{unit_no}
use Rattle.abt_rows.proofs.Deciding.{apart, holds}
use Rattle.abt_rows.proofs.refused.event_after_the_end.Goals as goal

pub returns : goal.returns
returns c h =
    holds (apart 1 0) refl (ap length (h.ends_last (what.Step (unit_no 0) 0 code.Ok ∷ []) (what.Look (unit_no 0) ∷ []) (what.End (unit_no 0) cause.Done) cause.Done refl refl))
