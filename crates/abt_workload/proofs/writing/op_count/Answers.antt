use Rattle.std.proofs.Common.{◌+◌, ap, arith, length}
use Rattle.abt_workload.proofs.WritingLines.{ops-more, ops-within}
use Rattle.abt_workload.proofs.writing.op_count.Goals as goal

pub overflow_add-all : goal.overflow_add-all
overflow_add-all c =
    let more = ops-more c.args.w.now.units c.loop-u.u c.unit.result.now c.unit.ensures in
    let within = ops-within c.args.w.now.units (c.loop-u.u + 1) in
    let here = ap length c.ops.ensures in
    let few = c.requires.few_ops in
    omega (arith, more, within, here, few, c.loop-u.invariant)

pub loop-u-preserved : goal.loop-u-preserved
loop-u-preserved c =
    let more = ops-more c.args.w.now.units c.loop-u.u c.unit.result.now c.unit.ensures in
    let here = ap length c.ops.ensures in
    omega (arith, more, here, c.loop-u.invariant)
