use Rattle.std.proofs.Common.{refl}
use Rattle.abt_view.specs.Picture.{tick_text}
use Rattle.abt_view.proofs.Ranges.{one-more}
use Rattle.abt_view.proofs.pictures.push_ticks.Goals as goal

pub loop-t-preserved : goal.loop-t-preserved
loop-t-preserved c = one-more tick_text _ c.loop-t.out.items c.push_tick.new.out.items _ c.loop-t.t _ refl c.loop-t.invariant c.in_ok-push_tick.ensures
