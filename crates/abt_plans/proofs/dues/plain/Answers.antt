-- The pools of a scheduler unit's scheduler are declared.
use Rattle.abt_plans.proofs.Listed.{listed-there}
use Rattle.abt_plans.proofs.dues.plain.Goals as goal

pub takes_all-requires-clause-pools : goal.takes_all-requires-clause-pools
takes_all-requires-clause-pools c = listed-there c.args.w.now _ c.sched.result.now c.items.result.now c.requires.valid c.sched.ensures c.items.ensures
