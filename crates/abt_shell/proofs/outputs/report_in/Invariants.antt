use Rattle.std.proofs.Common.{◌≡◌, ◌≤◌, length}
use Rattle.abt_shell.specs.Outputs.{report_from, report_part}
use Rattle.abt_shell.proofs.outputs.report_in.Given as goal

abbrev pub invariant-loop-byte : goal.invariant-loop-byte
invariant-loop-byte l = record { same : report_from l.begins l.rest ≡ report_part l.text; few : length l.rest ≤ length l.text }

abbrev pub decreases-loop-byte : goal.decreases-loop-byte
decreases-loop-byte l = length l.rest
