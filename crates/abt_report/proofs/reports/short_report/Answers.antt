use Rattle.std.proofs.Common.{◌≡◌, get_or, refl}
use Rattle.abt_report.proofs.Numbering.{short-built}
use Rattle.abt_report.proofs.reports.short_report.Goals as goal

pub returns : goal.returns
returns c =
    let row : c.index-items-0.result ≡ get_or c.args.picture.now 0 c.index-items-0.result = rw (← c.items.ensures) c.index-items-0.is in
    short-built c.args.w.now c.args.picture.now c.index-items-0.result c.args.steps c.args.outcome c.push_unit.new.out.items c.push_end.new.out.items c.requires.unit row
    (rw (c.in_ok-push_unit.ensures, c.new-out.ensures.items) refl) (rw c.items-2.ensures at c.in_ok-push_end.ensures)
