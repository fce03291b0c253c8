-- The journals of the nodes of a tree.
use Rattle.std.specs.Prelude.{ℕ, ◌≡◌, ◌≤◌, List, [], ◌∷◌, ◌++◌, Some, fold, get_or, slice_get}
use Rattle.abt_machine.specs.declared.events.Event.{Event}
use Rattle.abt_explore.specs.declared.paths.Node.{Node}

-- the journals with one more, of a node that goes on from its parent
abbrev pub with_node : List (List Event) → Node → List (List Event)
with_node journals node = journals ++ (get_or journals node.parent [] ++ node.event ∷ []) ∷ []

-- the journals of the root and of these nodes, by number
abbrev pub journals_of : List Node → List (List Event)
journals_of nodes = fold with_node ([] ∷ []) nodes

-- each node goes on from the root or from an earlier node
abbrev pub GoOnFromEarlier : List Node → Type 0
GoOnFromEarlier nodes = (k : ℕ) (node : Node) → slice_get nodes k ≡ Some node → node.parent ≤ k
