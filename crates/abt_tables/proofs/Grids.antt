-- The nodes of grids.
use Rattle.std.proofs.Common.{◌≡◌, ◌*◌, ℕ, All, refl}
use Rattle.std.specs.List.{range_with_len}
use Rattle.std.proofs.lemmas.List.Elements.{All-map}
use Rattle.abt_graph.specs.Shapes.{cell_of, wavefront_nodes}
use Rattle.abt_graph.specs.declared.nodes.Node.{Node}

-- each calls the same function
pub grid-calls : (lines columns f : ℕ) → All (λ (node : Node). node.function ≡ f) (wavefront_nodes lines columns f)
grid-calls lines columns f = All-map (λ (node : Node). node.function ≡ f) (cell_of columns f) (range_with_len 0 (lines * columns)) (λ i d below. refl)
