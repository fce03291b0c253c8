use Rattle.abt_booth.specs.Holders.{HasTurn}
use Rattle.booth_caller.specs.Counters.{Adds}
use Rattle.trials_booth.proofs.holders.add_in_a_turn.Given as goal

abbrev pub invariant-loop : goal.invariant-loop
invariant-loop g l = HasTurn Adds l.fn.booth l.holder
