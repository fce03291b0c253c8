use Rattle.abt_view.proofs.Joining.{four}
use Rattle.abt_shell.proofs.Calls.{if-ok}
use Rattle.abt_view.proofs.pictures.push_head.Goals as goal

pub returns : goal.returns
returns c =
    if-ok c.push_names.result _ _
    (λ _ last. four _ _ _ _ _ _ _ _ _ (rw (c.picture_width.ensures, c.picture_height.ensures) at c.in_ok-push_size.ensures) c.in_ok-extend_from_slice.ensures.items c.in_ok-push_counts.ensures
    (rw c.count_streams.ensures at last)) c.push_names.ensures
