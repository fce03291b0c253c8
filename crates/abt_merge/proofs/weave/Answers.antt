-- Each turn of the loop appends a run.
use Rattle.std.proofs.Common.{set, arith}
use Rattle.abt_merge.proofs.Woven.{Turned, turned}
use Rattle.abt_merge.proofs.weave.Goals as goal
use Rattle.abt_merge.proofs.weave.Goals.{After-take_run}

turned-here : (c : After-take_run) → Turned c.args.logs.now c.loop-next.rests.items (set c.loop-next.rests.items c.in-Some.first.1 c.take_run.result)
    c.loop-next.events.items c.take_run.new.events.items c.first_but-bound.result
turned-here c =
    turned c.args.logs.now c.requires.logs c.loop-next.rests.items c.deref-in-Some.result.now c.deref-in-Some.ensures.value c.loop-next.events.items c.loop-next.next c.first_but-bound.result
    c.in-Some.first c.in-Some.is c.loop-next.invariant.0 c.first_but-bound.ensures c.last_before.result c.last_before.ensures c.index.result.now c.take_run.result c.index.ensures
    c.take_run.ensures.taken.0 c.take_run.ensures.taken.2 c.take_run.new.events.items c.take_run.ensures.taken.1

pub loop-next-smaller : goal.loop-next-smaller
loop-next-smaller c = (turned-here (goal.at.loop-next-smaller c).After-take_run).fewer

pub loop-next-preserved : goal.loop-next-preserved
loop-next-preserved c =
    let t = turned-here (goal.at.loop-next-preserved c).After-take_run in
    (t.woven, omega (arith, t.as_many, c.loop-next.invariant.1, c.take_run.ensures.capacity, c.loop-next.events.ok.0, c.take_run.new.events.ok.0))
