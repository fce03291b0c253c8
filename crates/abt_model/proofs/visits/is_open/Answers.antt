use Rattle.std.proofs.Common.{true, sym, ◌∙◌}
use Rattle.abt_model.proofs.Visiting.{is-closed, is_open-by}
use Rattle.abt_model.proofs.visits.is_open.Goals as goal

pub returns-then-lists : goal.returns-then-lists
returns-then-lists c = is_open-by c.args.pools.now c.args.seen.now c.args.p.0 true c.lists-then-lists.result (sym c.if-lists.true ∙ c.lists.ensures) c.lists-then-lists.ensures

pub returns-else-lists : goal.returns-else-lists
returns-else-lists c = is-closed c.args.pools.now c.args.seen.now c.args.p.0 c.lists.result c.if-lists.false c.lists.ensures
