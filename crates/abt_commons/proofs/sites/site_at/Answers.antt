-- There are few things.
use Rattle.std.proofs.Common.{arith}
use Rattle.abt_commons.proofs.sites.site_at.Goals as goal

pub overflow_cast-number : goal.overflow_cast-number
overflow_cast-number c = (let few = c.known.ensures.few_objects in omega (arith, c.requires, few, c.pools-pools.ensures, c.units.ensures))
