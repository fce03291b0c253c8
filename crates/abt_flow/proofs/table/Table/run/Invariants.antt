use Rattle.std.proofs.Common.{◌≡◌, ◌-◌}
use Rattle.abt_bounds.specs.Laws.{ops_in}
use Rattle.abt_machine.specs.declared.workload.Parts.{Parts}
use Rattle.abt_flow.specs.declared.table.Table.{Table}
use Rattle.abt_flow.specs.Flow.{Functions}
use Rattle.abt_flow.specs.Tables.{UnitRuns, executed, runs_left}
use Rattle.std.proofs.Common.{ℕ}
use Rattle.abt_flow.proofs.table.Table.run.Given as goal

pub record Goes (W : Parts) (R : Functions) (u : ℕ) (old new : Table) : Type 0 where
  pub runs : UnitRuns W R u new
  pub left : runs_left new ≡ runs_left old

abbrev pub invariant-steps : goal.invariant-steps
invariant-steps g l = Goes l.w (g.P.Work.returns l.work) l.u.0 l.initial.self l.self

abbrev pub decreases-steps : goal.decreases-steps
decreases-steps g l = ops_in l.w - executed l.self.units.items
