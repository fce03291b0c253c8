use Rattle.std.proofs.Common.{◌≡◌, OnOk, map, subst}
use Rattle.abt_machine.specs.Declaring.{Above}
use Rattle.abt_machine.specs.Faults.{values}
use Rattle.abt_workload.proofs.Operating.{operated}
use Rattle.abt_workload.proofs.draft.Draft.add_operation.Goals as goal

pub returns : goal.returns
returns c =
    let P : Above → Type 0 = λ a. OnOk c.add_op.result (c.add_op.new.self ≡ a) in
    subst P (operated c.args.self.now c.add_said.new.self c.args.op c.op_with.result c.said_count-said.result c.value.result c.value-2.result (map (λ w. w.now) c.args.words.now) (values c.args.numbers.now) c.in_ok-add_said.ensures c.said_count-said.ensures c.value.ensures c.value-2.ensures c.op_with.ensures) c.add_op.ensures
