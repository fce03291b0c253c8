use Rattle.std.proofs.Common.{◌∙◌, ap, sym}
use Rattle.abt_machine.specs.Grammar.{format_of}
use Rattle.abt_workload.proofs.Seen.{lines-none}
use Rattle.abt_workload.proofs.text.format_of.Goals as goal

pub returns : goal.returns
returns c = sym (ap format_of (lines-none c.loop-rest.rest.now (sym c.is_empty.ensures ∙ c.loop-rest-test.false))) ∙ c.loop-rest.invariant
