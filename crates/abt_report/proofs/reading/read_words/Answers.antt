use Rattle.abt_report.proofs.JournalTexts.{no-event-line}
use Rattle.abt_report.proofs.reading.read_words.Goals as goal

pub returns-then-not-branch : goal.returns-then-not-branch
returns-then-not-branch c =
    no-event-line c.args.text.now c.in-Some.line.now c.in-Some.more.now c.in-Some.ensures.0 c.in-Some.ensures.1 (rw c.if-not-branch.true at c.in_ok-read_event.ensures)
