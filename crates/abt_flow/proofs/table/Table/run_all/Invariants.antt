use Rattle.abt_flow.specs.Tables.{AllRun, runs_left}
use Rattle.abt_flow.proofs.table.Table.run_all.Given as goal

abbrev pub invariant-loop-u : goal.invariant-loop-u
invariant-loop-u g l = AllRun l.w (g.P.Work.returns l.work) l.self

abbrev pub decreases-loop-u : goal.decreases-loop-u
decreases-loop-u g l = runs_left l.self
