use Rattle.abt_report.proofs.Joining.{tally-built}
use Rattle.abt_report.proofs.reports.push_tally.Goals as goal

pub returns : goal.returns
returns c =
    rw (← c.tally.view_is)
    (tally-built c.args.out.now.items c.args.units _ c.args.steps _ _ _ _ _ _ _ _ _ _ _
    c.in_ok-extend_from_slice.ensures.items c.in_ok-push_numbered.ensures c.in_ok-push_numbered-2.ensures c.in_ok-push_numbered-3.ensures
    c.in_ok-push_numbered-4.ensures c.in_ok-push_numbered-5.ensures c.in_ok-push_numbered-6.ensures c.in_ok-push_numbered-7.ensures
    c.in_ok-push_numbered-8.ensures c.in_ok-push_numbered-9.ensures c.in_ok-end_line.ensures)
