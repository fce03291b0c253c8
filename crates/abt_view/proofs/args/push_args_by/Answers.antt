use Rattle.abt_view.proofs.Joining.{six}
use Rattle.abt_view.proofs.args.push_args_by.Goals as goal

pub returns : goal.returns
returns c =
    rw c.in-Some.is
    (six _ _ _ _ _ _ _ _ _ _ _ _ _ (rw c.from.ensures at c.in_ok-push_around.ensures) (rw c.in_ok-operation.ensures at c.in_ok-push_operation.ensures)
    (rw c.op_of.ensures at c.in_ok-push_object_of.ensures) c.in_ok-push_outcome.ensures c.in_ok-push_output_of.ensures c.in_ok-extend_from_slice.ensures.items)
