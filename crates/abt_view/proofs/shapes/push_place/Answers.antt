use Rattle.abt_view.proofs.Joining.{three}
use Rattle.abt_shell.proofs.Calls.{if-ok}
use Rattle.abt_view.proofs.shapes.push_place.Goals as goal

pub returns : goal.returns
returns c =
    if-ok c.push_around-3.result _ _
    (λ _ last. three _ _ _ _ _ _ _ (rw c.from.ensures at c.in_ok-push_around.ensures) c.in_ok-push_around-2.ensures (rw c.lane_top.ensures at last)) c.push_around-3.ensures
