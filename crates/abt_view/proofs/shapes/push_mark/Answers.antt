use Rattle.abt_view.proofs.Joining.{three}
use Rattle.abt_shell.proofs.Calls.{if-ok}
use Rattle.abt_view.proofs.shapes.push_mark.Goals as goal

pub returns : goal.returns
returns c =
    if-ok c.push_mark_place.result _ _
    (λ _ last. three _ _ _ _ _ _ _ c.in_ok-extend_from_slice.ensures.items (rw c.word.ensures at c.in_ok-extend_from_slice-2.ensures.items) (rw c.spot_at.ensures at last)) c.push_mark_place.ensures
