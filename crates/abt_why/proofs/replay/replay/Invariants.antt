use Rattle.std.proofs.Common.{take}
use Rattle.abt_model.specs.Stored.{stored_with}
use Rattle.abt_why.specs.Replays.{HasFollowed}
use Rattle.abt_why.proofs.replay.replay.Given as goal

abbrev pub invariant-loop-event : goal.invariant-loop-event
invariant-loop-event g l = HasFollowed l.w (stored_with l.z (g.P.Work.returns l.work)) (take l.event-index l.journal) l.model
