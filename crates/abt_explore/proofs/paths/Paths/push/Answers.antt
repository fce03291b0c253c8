-- A node more.
use Rattle.std.proofs.Common.{◌≡◌, ◌∙◌, ◌+◌, ◌≤◌, ◌<◌, List, ap, arith, length, subst, sym}
use Rattle.abt_machine.specs.declared.events.Event.{Event}
use Rattle.abt_explore.specs.declared.paths.Node.{Node}
use Rattle.abt_explore.specs.Paths.{GoOnFromEarlier, journals_of, with_node}
use Rattle.abt_explore.proofs.Growing.{earlier-more, tree-long, tree-more}
use Rattle.abt_explore.proofs.paths.Paths.push.Goals as goal

pub invariant_of-self-2 : goal.invariant_of-self-2
invariant_of-self-2 c =
    let nodes : List Node = c.self.inside.nodes.items in
    let node : Node = record { parent = c.args.parent; event = c.args.event } in
    let long : length (journals_of nodes) ≡ 1 + length nodes = tree-long nodes in
    let below : c.args.parent < length (journals_of nodes) = subst (λ (js : List (List Event)). c.args.parent < length js) (sym c.self.view_is) c.requires in
    let low : c.args.parent ≤ length nodes = omega arith in
    subst GoOnFromEarlier (sym c.in_ok-push.ensures.items) (earlier-more nodes node low c.self.invariant)

pub returns-clause-number : goal.returns-clause-number
returns-clause-number c =
    let nodes : List Node = c.self.inside.nodes.items in
    let long : length (journals_of nodes) ≡ 1 + length nodes = tree-long nodes in
    let same : length (journals_of nodes) ≡ length c.args.self.now = ap (λ (js : List (List Event)). length js) c.self.view_is in
    omega (arith, c.in_ok-number.ensures)

pub returns-clause-pushed : goal.returns-clause-pushed
returns-clause-pushed c =
    let node : Node = record { parent = c.args.parent; event = c.args.event } in
    ap journals_of c.in_ok-push.ensures.items ∙ (tree-more c.self.inside.nodes.items node ∙ ap (λ (js : List (List Event)). with_node js node) c.self.view_is)
