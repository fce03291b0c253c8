use Rattle.std.proofs.Common.{◌≡◌, length, take}
use Rattle.abt_machine.specs.Workloads.{all_ops}
use Rattle.abt_workload.proofs.writing.op_count.Given as goal

abbrev pub invariant-loop-u : goal.invariant-loop-u
invariant-loop-u l = l.all ≡ length (all_ops (take l.u l.w.units))
