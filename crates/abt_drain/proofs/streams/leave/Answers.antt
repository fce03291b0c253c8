-- What streams leave together.
use Rattle.std.proofs.Common.{◌∙◌, ap}
use Rattle.abt_drain.specs.Ends.{steps_left}
use Rattle.abt_drain.proofs.Kept.{has-journal}
use Rattle.abt_drain.proofs.streams.leave.Goals as goal

pub returns : goal.returns
returns c =
    let has = has-journal c.args.streams.items c.in_ok-logs.parts.items c.in_ok-steps.steps c.requires.logs c.in_ok-logs.ensures.parts (c.in_ok-steps.ensures ∙ ap steps_left c.deref.ensures.value) c.args.keeps c.in_ok-logs.logs.items c.in_ok-journal.journal c.in_ok-logs.ensures.logs c.in_ok-journal.ensures in
    record { events = has.events; merges = has.merges; kept = has.kept; steps = has.steps_are; have = c.in_ok-logs.ensures.parts }
