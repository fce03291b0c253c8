use Rattle.abt_lives.proofs.Lines.{one-more}
use Rattle.abt_lives.proofs.waves.push_waves.Goals as goal

pub loop-i-preserved : goal.loop-i-preserved
loop-i-preserved c = one-more c.args.waves.now c.loop-i.i c.index-waves-i.result _ c.loop-i.out.items c.push_wave.new.out.items c.loop-i-test.true c.index-waves-i.is c.loop-i.invariant c.in_ok-push_wave.ensures
