use Rattle.std.proofs.Common.{◌≡◌, flat_map, take}
use Rattle.abt_machine.specs.Words.{ended, numbered}
use Rattle.abt_report.specs.Outputs.{output_line}
use Rattle.abt_report.proofs.outputs.outputs_text.Given as goal

abbrev pub invariant-loop-u : goal.invariant-loop-u
invariant-loop-u l = l.out.items ≡ flat_map ended (numbered (output_line l.w) (take l.u l.outputs))
