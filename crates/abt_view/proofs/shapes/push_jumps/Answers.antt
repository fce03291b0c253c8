use Rattle.abt_view.specs.Shapes.{jump_text}
use Rattle.abt_view.proofs.Ranges.{one-further}
use Rattle.abt_view.proofs.shapes.push_jumps.Goals as goal

pub loop-jump-preserved : goal.loop-jump-preserved
loop-jump-preserved c =
    one-further (jump_text c.args.since) c.args.out.now.items c.loop-jump.out.items c.push_jump.new.out.items c.args.jumps.now c.loop-jump.jump-index _ c.loop-jump-test.true c.loop-jump.invariant c.in_ok-push_jump.ensures
