use Rattle.abt_machine.specs.declared.operations.Rule.TheVariants as rule
use Rattle.abt_machine.proofs.Declared.{rule-valid}
use Rattle.trials_runs.proofs.rounds.tried.Goals as goal

pub returns-clause-stored : goal.returns-clause-stored
returns-clause-stored g c = λ k named. rule-valid c.args.w.now c.new.result.number (rule.User k) c.known.ensures named
