use Rattle.abt_view.proofs.Joining.{six}
use Rattle.abt_view.proofs.pictures.push_band.Goals as goal

pub returns : goal.returns
returns c =
    six _ _ _ _ _ _ _ _ _ _ _ _ _ c.in_ok-push_axis.ensures (rw (c.at-band.ensures, c.requires.frames) at c.in_ok-push_frames.ensures) (rw (c.at-band.ensures, c.requires.bars) at c.in_ok-push_bars.ensures)
    (rw c.at-band.ensures at c.in_ok-push_marks.ensures) (rw (c.at-band.ensures, c.requires.arrows) at c.in_ok-push_arrows.ensures) c.in_ok-extend_from_slice.ensures.items
