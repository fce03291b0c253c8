use Rattle.std.proofs.Common.{◌∙◌, ◌-◌, ◌+◌, ◌++◌, ap₂, length, option_map}
use Rattle.abt_why.specs.Cycles.{cycle_from, way_to}
use Rattle.abt_why.proofs.Walking.{comes-again, goes-on}
use Rattle.abt_why.proofs.cycles.cycle_from.Goals as goal

pub returns-then-v-u-2 : goal.returns-then-v-u-2
returns-then-v-u-2 c =
    comes-again c.args.awaited.now c.args.u c.in-Some.v (length c.args.awaited.now) c.loop.counter c.loop.units.items c.loop.next (cycle_from c.args.awaited.now c.args.u)
    c.in-Some.is c.loop-test.true c.if-v-u.false c.if-v-u-2.true c.loop.invariant

pub loop-preserved : goal.loop-preserved
loop-preserved c =
    let a = c.args.awaited.now in
    let left = length a - (c.loop.counter + 1) in
    ap₂ (λ units next. option_map (λ vs. units ++ vs) (way_to a c.args.u left next)) c.in_ok-push-2.ensures.items c.waits_for-next-in-loop.ensures
    ∙ goes-on a c.args.u c.in-Some.v (length a) c.loop.counter c.loop.units.items c.loop.next (cycle_from a c.args.u)
    c.in-Some.is c.loop-test.true c.if-v-u.false c.if-v-u-2.false c.loop.invariant
