use Rattle.abt_booth.specs.Holders.{IsHolderOf, Rests}
use Rattle.trials_booth.proofs.holders.take_turns.Given as goal

abbrev pub invariant-loop : goal.invariant-loop
invariant-loop g l = IsHolderOf l.fn.booth l.holder × Rests l.holder
