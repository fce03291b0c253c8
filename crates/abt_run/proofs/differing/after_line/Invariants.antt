use Rattle.std.proofs.Common.{◌≡◌, ◌≤◌, length}
use Rattle.abt_run.specs.Differing.{after_line}
use Rattle.abt_run.proofs.differing.after_line.Given as goal

abbrev pub invariant-loop-byte : goal.invariant-loop-byte
invariant-loop-byte l = record { same : after_line l.rest ≡ after_line l.text; few : length l.rest ≤ length l.text }

abbrev pub decreases-loop-byte : goal.decreases-loop-byte
decreases-loop-byte l = length l.rest
