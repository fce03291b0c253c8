use Rattle.std.proofs.Common.{◌≡◌, map, take}
use Rattle.abt_graph.specs.Rows.{number_rows}
use Rattle.abt_graph.specs.Pictured.{output_of}
use Rattle.abt_graph.proofs.answers.numbers.Given as goal

abbrev pub invariant-loop-row : goal.invariant-loop-row
invariant-loop-row l = number_rows l.numbers.items ≡ map output_of (take l.row-index l.rows)
