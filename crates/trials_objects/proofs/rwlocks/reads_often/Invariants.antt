use Rattle.abt_unit.specs.Units.{IsFree}
use Rattle.trials_objects.proofs.rwlocks.reads_often.Given as goal

-- the unit that reads is at hand
abbrev pub invariant-loop : goal.invariant-loop
invariant-loop g l = IsFree l.reader.value
