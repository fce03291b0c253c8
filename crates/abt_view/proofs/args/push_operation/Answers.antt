use Rattle.abt_view.proofs.Joining.{three}
use Rattle.abt_view.proofs.args.push_operation.Goals as goal

pub returns-in_ok-extend_from_slice-in-Some-2 : goal.returns-in_ok-extend_from_slice-in-Some-2
returns-in_ok-extend_from_slice-in-Some-2 c =
    rw c.in-Some.is (three _ _ _ _ _ _ _ c.in_ok-extend_from_slice-in-Some.ensures.items (rw c.deref.ensures.value at c.in_ok-push_json-in-Some.ensures) c.in_ok-extend_from_slice-in-Some-2.ensures.items)
