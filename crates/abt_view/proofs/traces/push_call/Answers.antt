use Rattle.abt_view.proofs.Joining.{three}
use Rattle.abt_shell.proofs.Calls.{if-ok}
use Rattle.abt_view.proofs.traces.push_call.Goals as goal

pub returns : goal.returns
returns c =
    if-ok c.push_around-2.result _ _
    (λ _ last. three _ _ _ _ _ _ _ (rw c.spot_at.ensures at c.in_ok-push_item.ensures) (rw c.from.ensures at c.in_ok-push_around.ensures) last) c.push_around-2.ensures
