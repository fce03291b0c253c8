-- What is left of what was reached.
use Rattle.std.proofs.Common.{◌∙◌, List, ap}
use Rattle.abt_machine.specs.declared.events.Event.{Event}
use Rattle.abt_machine.specs.Outcomes.{steps_in}
use Rattle.abt_machine.specs.Stored.{Stored}
use Rattle.abt_model.specs.Stored.{stored_with}
use Rattle.abt_schedule.proofs.Stopping.{reached-picture}
use Rattle.abt_schedule.proofs.following.leave.Goals as goal

pub returns : goal.returns
returns g c =
    let W = c.args.w.now in
    let Z : Stored = stored_with c.args.z.now (g.P.Work.returns c.args.work.now) in
    let J : List Event = c.args.journal.now in
    record {
      pictured = reached-picture W Z J c.in_ok-reached.reached c.in_ok-picture.picture c.known.ensures c.in_ok-reached.ensures c.in_ok-picture.ensures.shown c.in_ok-picture.ensures.words;
      counted = c.count_steps-steps.ensures ∙ ap steps_in c.items.ensures;
      ended = c.outcome-end.ensures Z J c.in_ok-reached.ensures;
    }
