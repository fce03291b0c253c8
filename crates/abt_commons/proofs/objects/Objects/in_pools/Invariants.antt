-- The unit is in none of the pools before.
use Rattle.std.proofs.Common.{◌≡◌, ◌<◌, length, None}
use Rattle.std.specs.List.{find}
use Rattle.abt_machine.specs.declared.events.Site.TheVariants as site
use Rattle.abt_machine.specs.declared.numbers.PoolNo.{PoolNo}
use Rattle.abt_commons.specs.Reading.{is_row_of, rows_at_site}
use Rattle.abt_commons.proofs.objects.Objects.in_pools.Given as goal

abbrev pub invariant-loop-p : goal.invariant-loop-p
invariant-loop-p l = ((q : PoolNo) → q.0 < l.p → find (is_row_of l.u.0) (rows_at_site l.self (site.Pool q)) ≡ None) × (l.p-end ≡ length l.self.workload.pools)
