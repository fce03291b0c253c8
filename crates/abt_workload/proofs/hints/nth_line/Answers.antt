use Rattle.std.proofs.Common.{◌∙◌, sym}
use Rattle.abt_machine.specs.Spelling.{lines_of}
use Rattle.abt_workload.proofs.LineNumbers.{line-none}
use Rattle.abt_workload.proofs.Seen.{lines-none}
use Rattle.abt_workload.proofs.hints.nth_line.Goals as goal

pub returns : goal.returns
returns c = sym (c.loop-rest.invariant ∙ line-none (lines_of c.loop-rest.rest.now) c.loop-rest.above (lines-none c.loop-rest.rest.now (sym c.loop-rest-test.ensures)))
