use Rattle.std.proofs.Common.{take}
use Rattle.abt_model.specs.Stored.{stored_with}
use Rattle.abt_schedule.specs.Reaching.{IsReached}
use Rattle.abt_schedule.proofs.following.follow.Given as goal

abbrev pub invariant-loop-event : goal.invariant-loop-event
invariant-loop-event g l = IsReached l.w (stored_with l.z (g.P.Work.returns l.work)) (take l.event-index l.journal) l.reached
