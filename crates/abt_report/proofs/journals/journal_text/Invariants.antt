use Rattle.std.proofs.Common.{◌≡◌, take}
use Rattle.abt_machine.specs.Texts.{journal_text}
use Rattle.abt_report.proofs.journals.journal_text.Given as goal

abbrev pub invariant-loop-event : goal.invariant-loop-event
invariant-loop-event l = l.out.items ≡ journal_text (take l.event-index l.events)
