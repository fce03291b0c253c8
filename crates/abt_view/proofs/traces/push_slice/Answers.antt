use Rattle.abt_view.proofs.Joining.{four}
use Rattle.abt_shell.proofs.Calls.{if-ok}
use Rattle.abt_view.proofs.traces.push_slice.Goals as goal

pub returns : goal.returns
returns c =
    if-ok c.push_unit_end.result _ _
    (λ _ last. four _ _ _ _ _ _ _ _ _ (rw c.from.ensures at c.in_ok-push_around.ensures) c.in_ok-push_around-2.ensures
    (rw c.saturating_sub-length.ensures at c.in_ok-push_around-3.ensures) last) c.push_unit_end.ensures
