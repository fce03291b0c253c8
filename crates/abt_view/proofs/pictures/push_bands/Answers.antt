use Rattle.std.proofs.Common.{arith}
use Rattle.abt_view.specs.Picture.{band_text}
use Rattle.abt_view.proofs.Ranges.{one-more}
use Rattle.abt_view.proofs.pictures.push_bands.Goals as goal

pub loop-n-preserved : goal.loop-n-preserved
loop-n-preserved c =
    one-more (band_text c.args.names.now c.args.pieces.now c.args.journal.now) _ c.loop-n.out.items c.push_band.new.out.items 0 c.loop-n.n _ (omega arith) c.loop-n.invariant c.in_ok-push_band.ensures
