use Rattle.std.proofs.Common.{◌<◌, List, arith, length, subst, ◌∙◌}
use Rattle.std.proofs.lemmas.Option.{slice_get_within}
use Rattle.abt_flow.specs.declared.memory.Progress.{Progress}
use Rattle.abt_flow.specs.Tables.{AllRest, IsDone, IsStuck}
use Rattle.abt_flow.proofs.Stuck.{all-done, no-flow}
use Rattle.abt_flow.proofs.finding.find_flow.Goals as goal

pub returns-then-not-is_done : goal.returns-then-not-is_done
returns-then-not-is_done g c rows flow =
    let stuck = c.if-not-is_done.ensures in
    let rest : AllRest c.args.w.now (g.P.Work.returns c.args.work.now) c.run_all.new.self = c.in_ok-run_all.ensures in
    let here : IsStuck c.args.w.now c.run_all.new.self.units.items stuck.0 = subst (λ (us : List Progress). IsStuck c.args.w.now us stuck.0) c.deref.ensures.value stuck.1 in
    no-flow c.args.w.now (g.P.Work.returns c.args.work.now) c.known.ensures c.requires.confluent c.run_all.new.self.units.items c.run_all.new.self.values.items
    rest.0 rest.1 stuck.0 here.1.0 here.0 here.1.1 here.1.2 rows flow

pub returns : goal.returns
returns g c =
    let rest : AllRest c.args.w.now (g.P.Work.returns c.args.work.now) c.run_all.new.self = c.in_ok-run_all.ensures in
    all-done c.args.w.now (g.P.Work.returns c.args.work.now) c.run_all.new.self.units.items c.run_all.new.self.values.items rest.0
    (λ u p at. (let here : IsDone c.args.w.now c.run_all.new.self.units.items u = subst (λ (us : List Progress). IsDone c.args.w.now us u) c.deref.ensures.value
    (c.if-not-is_done.ensures u (let l : u < length c.run_all.new.self.units.items = slice_get_within c.run_all.new.self.units.items u p at in let e = rest.0.all in omega arith)) in here p at))
    c.new.result (c.new.ensures ∙ c.in_ok-rows.ensures)
