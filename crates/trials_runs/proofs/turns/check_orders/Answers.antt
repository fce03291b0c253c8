use Rattle.std.proofs.Common.{◌<◌}
use Rattle.abt_machine.specs.declared.operations.Rule.TheVariants as rule
use Rattle.abt_machine.proofs.Declared.{rule-valid}
use Rattle.trials_runs.proofs.turns.check_orders.Goals as goal

pub returns : goal.returns
returns c g k e =
    let few : k < 2 = rule-valid c.args.w.now g (rule.User k) c.known.ensures e in few
