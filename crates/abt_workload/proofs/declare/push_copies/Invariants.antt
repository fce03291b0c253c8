use Rattle.std.proofs.Common.{◌≡◌, ◌++◌, take}
use Rattle.abt_workload.proofs.declare.push_copies.Given as goal

abbrev pub invariant-loop-text : goal.invariant-loop-text
invariant-loop-text l = l.words.items ≡ l.fn.words.items ++ take l.text-index l.said
