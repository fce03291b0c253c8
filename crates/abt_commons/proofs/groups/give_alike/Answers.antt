use Rattle.std.proofs.Common.{sym, ◌∙◌}
use Rattle.abt_commons.specs.Groups.{rows_in}
use Rattle.abt_commons.proofs.Giving.{none-alike}
use Rattle.abt_commons.proofs.groups.give_alike.Goals as goal

pub returns-then-is_empty : goal.returns-then-is_empty
returns-then-is_empty c = none-alike (rows_in c.args.groups.now.items) c.args.shown c.args.units.units (sym c.is_empty.ensures.empty ∙ c.if-is_empty.true)
