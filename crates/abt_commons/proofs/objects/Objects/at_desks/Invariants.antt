-- The unit is at none of the desks before.
use Rattle.std.proofs.Common.{◌≡◌, ◌<◌, length, None}
use Rattle.std.specs.List.{find}
use Rattle.abt_machine.specs.declared.events.Site.TheVariants as site
use Rattle.abt_machine.specs.declared.numbers.UnitNo.{UnitNo}
use Rattle.abt_commons.specs.Reading.{is_row_of, rows_at_site}
use Rattle.abt_commons.proofs.objects.Objects.at_desks.Given as goal

abbrev pub invariant-loop-v : goal.invariant-loop-v
invariant-loop-v l = ((q : UnitNo) → q.0 < l.v → find (is_row_of l.u.0) (rows_at_site l.self (site.Desk q)) ≡ None) × (l.v-end ≡ length l.self.workload.units)
