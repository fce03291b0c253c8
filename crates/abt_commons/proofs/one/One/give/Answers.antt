-- What the object holds fits.
use Rattle.std.proofs.Common.{subst}
use Rattle.std.specs.List.{All}
use Rattle.abt_commons.specs.Groups.{FitsRow, rows_by}
use Rattle.abt_commons.specs.Held.{OneValue}
use Rattle.abt_commons.specs.Kinds.{object_in}
use Rattle.abt_commons.proofs.Giving.{by-fit}
use Rattle.abt_commons.proofs.one.One.give.Goals as goal

pub returns-in-Some-clause-fits : goal.returns-in-Some-clause-fits
returns-in-Some-clause-fits c =
    let s = c.self.inside in
    subst (λ (one : OneValue). All (FitsRow one.workload) (rows_by one.workload c.args.site one.object)) c.self.view_is (by-fit s.w.now c.args.site (object_in s.shared.value) c.self.invariant.0)
