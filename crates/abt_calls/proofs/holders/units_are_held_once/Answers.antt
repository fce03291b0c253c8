use Rattle.abt_calls.proofs.HeldOnce.{units-are-held-once}
use Rattle.abt_calls.proofs.holders.units_are_held_once.Goals as goal

pub returns : goal.returns
returns c = units-are-held-once
