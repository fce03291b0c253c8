use Rattle.std.proofs.Common.{◌<◌, ◌+◌, ◌^◌, arith}
use Rattle.abt_machine.specs.Operations.{said_by}
use Rattle.abt_workload.proofs.Validity.{all-flat}
use Rattle.abt_workload.proofs.declare.list_later.Goals as goal

pub op_later-requires : goal.op_later-requires
op_later-requires c = all-flat said_by (λ w. w + c.args.n < 2 ^ 32) c.args.ops.now c.requires c.loop-op.op-index _ (omega arith)
