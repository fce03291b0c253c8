use Rattle.abt_explore.proofs.Ending.{one-end-more}
use Rattle.abt_explore.proofs.texts.explored_text.Goals as goal

pub loop-at-preserved : goal.loop-at-preserved
loop-at-preserved c =
    one-end-more c.args.w.now c.args.ends.now c.loop-at.at c.index-ends-at.result c.loop-at.out.items c.push_end.new.out.items _ c.loop-at-test.true c.index-ends-at.is c.loop-at.invariant c.in_ok-push_end.ensures
