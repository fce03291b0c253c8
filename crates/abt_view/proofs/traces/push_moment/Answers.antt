use Rattle.abt_view.proofs.Joining.{six}
use Rattle.abt_view.proofs.traces.push_moment.Goals as goal

pub returns : goal.returns
returns c =
    six _ _ _ _ _ _ _ _ _ _ _ _ _ (rw c.spot_at.ensures at c.in_ok-push_item.ensures) c.in_ok-extend_from_slice.ensures.items (rw c.word.ensures at c.in_ok-extend_from_slice-2.ensures.items)
    c.in_ok-extend_from_slice-3.ensures.items c.in_ok-push_args.ensures c.in_ok-extend_from_slice-4.ensures.items
