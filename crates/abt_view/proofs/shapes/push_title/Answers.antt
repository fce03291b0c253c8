use Rattle.abt_view.proofs.Joining.{three}
use Rattle.abt_view.proofs.shapes.push_title.Goals as goal

pub returns : goal.returns
returns c = three _ _ _ _ _ _ _ c.in_ok-extend_from_slice.ensures.items (rw c.items.ensures at c.in_ok-push_named_lines.ensures) c.in_ok-extend_from_slice-2.ensures.items
