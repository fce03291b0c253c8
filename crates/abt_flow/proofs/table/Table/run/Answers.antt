use Rattle.std.proofs.Common.{◌≡◌, ◌+◌, ◌≤◌, arith, subst}
use Rattle.std.specs.Prelude.{MatchBool}
use Rattle.abt_bounds.specs.Laws.{ops_in}
use Rattle.abt_flow.specs.Tables.{Rests, executed}
use Rattle.abt_flow.proofs.Stuck.{executed-within}
use Rattle.abt_flow.proofs.table.Table.run.Goals as goal

pub steps-smaller : goal.steps-smaller
steps-smaller g c =
    let more : executed c.step.new.self.units.items ≡ executed c.steps.self.units.items + 1 =
    subst (λ b. MatchBool b (executed c.step.new.self.units.items ≡ executed c.steps.self.units.items + 1)
    (Rests c.args.w.now (g.P.Work.returns c.args.work.now) c.step.new.self.units.items c.step.new.self.values.items c.args.u.0)) c.if-not-branch.false c.in_ok-step.ensures.more in
    let few : executed c.step.new.self.units.items ≤ ops_in c.args.w.now = executed-within c.args.w.now
    (g.P.Work.returns c.args.work.now) c.step.new.self.units.items c.step.new.self.values.items c.in_ok-step.ensures.runs.follows in
    omega arith
