use Rattle.abt_view.proofs.Joining.{three}
use Rattle.abt_shell.proofs.Calls.{if-ok}
use Rattle.abt_view.proofs.pictures.push_axis.Goals as goal

pub returns : goal.returns
returns c =
    if-ok c.push_columns_in.result _ _
    (λ _ last. three _ _ _ _ _ _ _ (rw (c.band_height.ensures.height, c.count_streams.ensures) at c.in_ok-push_window.ensures) (rw c.greatest_stamp-last.ensures at c.in_ok-push_ticks_in.ensures)
    (rw c.greatest_stamp-last.ensures at last)) c.push_columns_in.ensures
