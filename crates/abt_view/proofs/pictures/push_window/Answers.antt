use Rattle.abt_view.proofs.Joining.{four}
use Rattle.abt_shell.proofs.Calls.{if-ok}
use Rattle.abt_view.proofs.pictures.push_window.Goals as goal

pub returns : goal.returns
returns c =
    if-ok c.push_around-4.result _ _
    (λ _ last. four _ _ _ _ _ _ _ _ _ c.in_ok-push_around.ensures c.in_ok-push_around-2.ensures c.in_ok-push_around-3.ensures last) c.push_around-4.ensures
