use Rattle.std.proofs.Common.{◌<◌, refl, arith, inr}
use Rattle.abt_machine.specs.declared.events.Site.TheVariants as site
use Rattle.abt_machine.specs.Numbers.{pool_no}
use Rattle.abt_rows.proofs.refused.stamps_that_stay_at_a_pool.Goals as goal

pub returns : goal.returns
returns c W h = let order : 1 < 1 = h.1.1.0 (inr (site.Pool (pool_no 0), refl, refl)) in absurd (omega arith)
