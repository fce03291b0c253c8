use Rattle.std.proofs.Common.{◌≡◌, ◌≤◌, ◌+◌, length, take, drop}
use Rattle.abt_machine.specs.Grammar.{declared_by}
use Rattle.abt_machine.specs.Spelling.{lines_of}
use Rattle.abt_workload.proofs.Seen.{IsFaultless}
use Rattle.abt_workload.proofs.reading.read_lines.Given as goal

abbrev pub invariant-loop-rest : goal.invariant-loop-rest
invariant-loop-rest l = record {
  left : drop l.line (lines_of l.bytes) ≡ lines_of l.rest;
  declared : l.draft ≡ declared_by (take l.line (lines_of l.bytes));
  least : IsFaultless (lines_of l.bytes) l.line;
  within : l.line ≤ length (lines_of l.bytes);
  counted : l.line + length l.rest ≤ length l.bytes;
}

abbrev pub decreases-loop-rest : goal.decreases-loop-rest
decreases-loop-rest l = length l.rest
