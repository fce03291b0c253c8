use Rattle.abt_view.proofs.Joining.{four}
use Rattle.abt_view.proofs.shapes.push_quiet.Goals as goal

pub returns : goal.returns
returns c = four _ _ _ _ _ _ _ _ _ c.in_ok-push_spot.ensures c.in_ok-push_spot-2.ensures c.in_ok-push_line.ensures c.in_ok-extend_from_slice.ensures.items
