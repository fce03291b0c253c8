use Rattle.std.proofs.Common.{ap, arith, length}
use Rattle.abt_machine.specs.Declaring.{Above}
use Rattle.abt_workload.specs.Declarable.{last_count}
use Rattle.abt_workload.proofs.Copies.{units-length}
use Rattle.abt_workload.proofs.draft.Draft.declared_units.Goals as goal

pub returns : goal.returns
returns c =
    let all = units-length c.args.self.now in
    let above = ap (λ (a : Above). length a.units) c.self.view_is in
    let last = ap (λ (a : Above). last_count a.copies a.last) c.self.view_is in
    let parts = ap length c.parts.ensures in
    omega (arith, all, above, last, parts, c.last_count.ensures)
