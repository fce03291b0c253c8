-- The way from a node to the root.
use Rattle.std.proofs.Common.{◌≡◌, ◌∙◌, ◌+◌, ◌<◌, List, [], ◌∷◌, ◌++◌, ap, append_assoc, arith, get_or, length, reverse, subst, sym}
use Rattle.std.proofs.lemmas.List.{reverse-append}
use Rattle.abt_machine.specs.declared.events.Event.{Event}
use Rattle.abt_explore.specs.declared.paths.Node.{Node}
use Rattle.abt_explore.specs.Paths.{journals_of}
use Rattle.abt_explore.proofs.Growing.{tree-long, tree-root, tree-step}
use Rattle.abt_explore.proofs.paths.Paths.journal.Goals as goal

pub index-node-requires : goal.index-node-requires
index-node-requires c =
    let nodes : List Node = c.self.inside.nodes.items in
    let long : length (journals_of nodes) ≡ 1 + length nodes = tree-long nodes in
    let below : c.loop-at.at < length (journals_of nodes) = subst (λ (js : List (List Event)). c.loop-at.at < length js) (sym c.self.view_is) c.loop-at.invariant.below in
    omega arith

pub loop-at-smaller : goal.loop-at-smaller
loop-at-smaller c =
    (tree-step c.self.inside.nodes.items c.args.self.now c.loop-at.at c.index-node.result.now c.self.invariant c.self.view_is c.loop-at-test.true c.loop-at.invariant.below c.index-node.ensures).0

pub loop-at-preserved : goal.loop-at-preserved
loop-at-preserved c =
    let js = c.args.self.now in
    let node : Node = c.index-node.result.now in
    let done : List Event = c.loop-at.events.items in
    let step = tree-step c.self.inside.nodes.items js c.loop-at.at node c.self.invariant c.self.view_is c.loop-at-test.true c.loop-at.invariant.below c.index-node.ensures in
    let up : node.parent < c.loop-at.at = step.0 in
    let below : c.loop-at.at < length js = c.loop-at.invariant.below in
    record {
      below = omega arith;
      so_far =
          c.loop-at.invariant.so_far
          ∙ (ap (λ (J : List Event). J ++ reverse done) step.1
          ∙ (append_assoc (get_or js node.parent []) (node.event ∷ []) (reverse done)
          ∙ ap (λ (J : List Event). get_or js node.parent [] ++ J) (sym (ap (λ (J : List Event). reverse J) c.in_ok-push.ensures.items ∙ reverse-append done (node.event ∷ [])))));
    }

pub returns : goal.returns
returns c =
    let at_root : c.loop-at.at ≡ 0 = omega arith in
    let js = c.args.self.now in
    let none : get_or js c.loop-at.at [] ≡ [] = ap (λ i. get_or js i []) at_root ∙ subst (λ (x : List (List Event)). get_or x 0 [] ≡ []) c.self.view_is (tree-root c.self.inside.nodes.items) in
    c.reverse.ensures.items ∙ sym (c.loop-at.invariant.so_far ∙ ap (λ (J : List Event). J ++ reverse c.loop-at.events.items) none)
