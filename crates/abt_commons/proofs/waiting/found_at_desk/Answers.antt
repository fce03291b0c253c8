-- The desk's own unit, or a joiner.
use Rattle.std.proofs.Common.{◌∙◌, ap₂}
use Rattle.abt_commons.proofs.Rows.{desk_found, found-at-desk}
use Rattle.abt_commons.proofs.waiting.found_at_desk.Goals as goal

pub returns-in-Some-joiner : goal.returns-in-Some-joiner
returns-in-Some-joiner c =
    found-at-desk c.args.u.0 c.args.desk.now.phase c.args.v c.args.desk.now.joiners ∙ ap₂ (desk_found c.args.u.0 c.args.v) c.in-None.ensures c.in-Some-joiner.ensures

pub returns-in-None-joiner : goal.returns-in-None-joiner
returns-in-None-joiner c =
    found-at-desk c.args.u.0 c.args.desk.now.phase c.args.v c.args.desk.now.joiners ∙ ap₂ (desk_found c.args.u.0 c.args.v) c.in-None.ensures c.in-None-joiner.ensures
