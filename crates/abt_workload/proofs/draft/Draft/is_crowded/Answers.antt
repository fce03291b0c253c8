use Rattle.std.proofs.Common.{◌≡◌, ◌+◌, ◌*◌, ◌∙◌, ℕ, ap, length, nat_lt}
use Rattle.abt_machine.specs.Declaring.{Above, units_of}
use Rattle.abt_machine.specs.Limits.{operation_limit}
use Rattle.abt_machine.specs.Workloads.{all_ops}
use Rattle.abt_workload.specs.Declarable.{op_count}
use Rattle.abt_workload.proofs.Copies.{crowd}
use Rattle.abt_workload.proofs.draft.Draft.is_crowded.Goals as goal

pub returns : goal.returns
returns c =
    let a : Above = c.args.self.now in
    let n = c.args.n in
    let view = ap (λ (b : Above). length (all_ops b.units) + b.copies * (op_count b.last + n)) c.self.view_is in
    let all : c.all_ops-all.result ≡ length (all_ops (units_of a)) + a.copies * n = (rw (c.ops.ensures, c.last_ops.ensures) at c.all_ops-all.ensures) ∙ (view ∙ crowd a n) in
    let most = c.operation_limit.ensures ∙ ap (λ (b : Above). operation_limit b.format) c.self.view_is in
    ap (λ (m : ℕ). nat_lt m c.all_ops-all.result) most ∙ ap (nat_lt (operation_limit a.format)) all
