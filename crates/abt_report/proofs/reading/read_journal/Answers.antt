use Rattle.std.proofs.Common.{arith, rules, ◌<◌, length}
use Rattle.abt_report.specs.Journals.{event_line}
use Rattle.abt_report.proofs.JournalTexts.{bad, fewer-left, one-line-more}
use Rattle.abt_report.proofs.reading.read_journal.Goals as goal

pub returns-in_default-clause-cause : goal.returns-in_default-clause-cause
returns-in_default-clause-cause c =
    let some : 0 < length c.loop-rest.rest.now = search rules in
    bad c.args.bytes.now c.loop-rest.rest.now c.loop-rest.line c.loop-rest.events.items c.loop-rest.invariant.stands some (rw c.in_default.is at c.in_ok-more.ensures)

pub loop-rest-preserved : goal.loop-rest-preserved
loop-rest-preserved c =
    let read = rw c.in-Some.is at c.in_ok-more.ensures in
    let fewer = fewer-left (event_line read.0) c.in-Some.more.now c.loop-rest.rest.now read.2 in
    record {
      stands = rw read.3 (one-line-more c.args.bytes.now c.loop-rest.rest.now c.in-Some.more.now c.loop-rest.line c.loop-rest.events.items read.0 c.loop-rest.invariant.stands read.2 read.1);
      few = omega (arith, fewer, c.loop-rest.invariant.few);
    }
