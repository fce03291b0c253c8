use Rattle.abt_why.proofs.Listing.{listed-by}
use Rattle.abt_why.proofs.finding.main_lists.Goals as goal

pub returns : goal.returns
returns c = listed-by c.args.w.now c.args.s.0 c.args.p.0 c.main.result c.sched.result.now c.items.result.now c.lists.result c.main.ensures c.sched.ensures c.items.ensures c.lists.ensures
