use Rattle.std.proofs.Common.{[], subst, sym, arith}
use Rattle.abt_machine.specs.Stored.{CallsStored}
use Rattle.abt_report.specs.Pictures.{IsPictureOf}
use Rattle.abt_graph.proofs.Confluence.{CallsStored-graph}
use Rattle.abt_graph.proofs.Shown.{shown-each, shown-values}
use Rattle.abt_graph.proofs.answers.run_graph.Goals as goal

pub run_streams-requires-clause-calls : goal.run_streams-requires-clause-calls
run_streams-requires-clause-calls g c = λ lifetimes outlive.
    subst (λ V. CallsStored V (g.W.Work.count c.args.work.now)) (sym c.in_ok-w.ensures)
    (CallsStored-graph c.args.streams c.args.nodes.now (record { orders = []; returns = g.W.Work.returns c.args.work.now }) (g.W.Work.count c.args.work.now) c.requires.functions)

pub numbers-requires : goal.numbers-requires
numbers-requires g c =
    let run = c.in_ok-run.ensures.run in
    shown-each c.args.streams (g.W.Work.count c.args.work.now) c.requires.streams.0 c.requires.streams.1 c.args.nodes.now c.requires.graph (g.W.Work.returns c.args.work.now) c.requires.functions
    c.in_ok-w.w c.in_ok-w.ensures _ 1048576 (omega arith) run.events c.in_ok-run.run'.outcome c.orderly_finish.ensures run.holds.0 c.items.result.now (subst (IsPictureOf c.in_ok-w.w run.events) (sym c.items.ensures) run.pictured)

pub returns : goal.returns
returns g c =
    let run = c.in_ok-run.ensures.run in
    shown-values c.args.streams (g.W.Work.count c.args.work.now) c.requires.streams.0 c.requires.streams.1 c.args.nodes.now c.requires.graph (g.W.Work.returns c.args.work.now) c.requires.functions
    c.in_ok-w.w c.in_ok-w.ensures _ 1048576 (omega arith) run.events c.in_ok-run.run'.outcome c.orderly_finish.ensures run.holds.0 c.items.result.now (subst (IsPictureOf c.in_ok-w.w run.events) (sym c.items.ensures) run.pictured)
    c.in_ok-numbers.field-0.items c.in_ok-numbers.ensures
