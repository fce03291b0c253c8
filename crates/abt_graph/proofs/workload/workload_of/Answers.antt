use Rattle.std.proofs.Common.{◌≡◌, IfOk, subst, sym, ◌∙◌}
use Rattle.abt_machine.specs.declared.workload.Parts.{Parts}
use Rattle.abt_machine.specs.Valid.{IsValid}
use Rattle.abt_graph.proofs.GraphParts.{IsValid-graph, parts-graph}
use Rattle.abt_graph.proofs.workload.workload_of.Goals as goal

pub new-requires-8 : goal.new-requires-8
new-requires-8 c =
    subst IsValid (sym (parts-graph c.args.streams c.args.nodes.now c.new.result c.new-2.result c.new-3.result c.new-4.result c.new-5.result c.new-7.result
    (c.new.ensures ∙ c.in_ok-deques.ensures) (c.new-2.ensures ∙ c.in_ok-scheds.ensures) (c.new-3.ensures ∙ c.in_ok-mains.ensures)
    (c.new-4.ensures ∙ c.in_ok-eventuals.ensures) (c.new-5.ensures ∙ c.in_ok-units.ensures) (c.new-7.ensures ∙ c.new-6.ensures.items)))
    (IsValid-graph c.args.streams c.args.nodes.now c.requires.streams.0 c.requires.streams.1 c.requires.graph)

pub returns : goal.returns
returns c =
    subst (λ (parts : Parts). IfOk c.new-8.result (λ w. w ≡ parts)) (parts-graph c.args.streams c.args.nodes.now c.new.result c.new-2.result c.new-3.result c.new-4.result c.new-5.result c.new-7.result
    (c.new.ensures ∙ c.in_ok-deques.ensures) (c.new-2.ensures ∙ c.in_ok-scheds.ensures) (c.new-3.ensures ∙ c.in_ok-mains.ensures)
    (c.new-4.ensures ∙ c.in_ok-eventuals.ensures) (c.new-5.ensures ∙ c.in_ok-units.ensures) (c.new-7.ensures ∙ c.new-6.ensures.items))
    c.new-8.ensures
