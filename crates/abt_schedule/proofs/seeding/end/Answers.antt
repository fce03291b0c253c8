-- What is left of a run that stopped.
use Rattle.std.proofs.Common.{◌∙◌, ap}
use Rattle.abt_machine.specs.Outcomes.{steps_in}
use Rattle.abt_schedule.specs.declared.scheduled.Scheduled.{Scheduled}
use Rattle.abt_schedule.proofs.Stopping.{leaves-seeded}
use Rattle.abt_schedule.proofs.seeding.end.Goals as goal

pub returns : goal.returns
returns c Z seed stored is stopped =
    let left : Scheduled = record { journal = c.new.result; steps = c.count_steps-steps.result; picture = c.in_ok-picture.picture; outcome = c.args.outcome } in
    leaves-seeded c.args.w.now Z seed c.args.course left c.requires.valid stored is stopped c.new.ensures (c.count_steps-steps.ensures ∙ ap steps_in c.deref.ensures.value) c.in_ok-picture.ensures.shown c.in_ok-picture.ensures.words
