use Rattle.std.proofs.Common.{◌≡◌, drop}
use Rattle.abt_machine.specs.Spelling.{has_control}
use Rattle.abt_workload.proofs.text.bytes_have_control.Given as goal

abbrev pub invariant-loop-b : goal.invariant-loop-b
invariant-loop-b l = has_control (drop l.b-index l.line) ≡ has_control l.line
