use Rattle.abt_view.proofs.Joining.{five}
use Rattle.abt_shell.proofs.Calls.{if-ok}
use Rattle.abt_view.proofs.shapes.push_line.Goals as goal

pub returns : goal.returns
returns c =
    if-ok c.push_around.result _ _
    (λ _ last. five _ _ _ _ _ _ _ _ _ _ _ c.in_ok-push_point.ensures c.in_ok-push_point-2.ensures c.in_ok-push_point-3.ensures c.in_ok-push_point-4.ensures
    (rw c.from.ensures at last)) c.push_around.ensures
