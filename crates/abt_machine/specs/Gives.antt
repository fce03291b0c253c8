-- What an object answers, and what it is afterwards, by its kind.
use Rattle.std.specs.Prelude.{◌≡◌}
use Rattle.abt_machine.specs.Values.{Object, PoolIs, DeskIs, MonitorIs, EventualIs, FutureIs, BarrierIs, RwLockIs, NotHere, PoolValue, DeskValue, MonitorValue, EventualValue, FutureValue, BarrierValue, RwLockValue}
use Rattle.abt_machine.specs.Acts.{Act, Answer}
use Rattle.abt_machine.specs.Pools.{PoolGives}
use Rattle.abt_machine.specs.Desks.{DeskGives}
use Rattle.abt_machine.specs.Monitors.{MonitorGives}
use Rattle.abt_machine.specs.Eventuals.{EventualGives}
use Rattle.abt_machine.specs.Futures.{FutureGives}
use Rattle.abt_machine.specs.Barriers.{BarrierGives}
use Rattle.abt_machine.specs.RwLocks.{RwLockGives}

-- the answer of an object of any kind to an act, and the object afterwards
abbrev pub SiteGives : Object → Act → Answer → Object → Type 0
SiteGives (PoolIs old) act answer new = (after : PoolValue) × (new ≡ PoolIs after) × PoolGives old act answer after
SiteGives (DeskIs old) act answer new = (after : DeskValue) × (new ≡ DeskIs after) × DeskGives old act answer after
SiteGives (MonitorIs old) act answer new = (after : MonitorValue) × (new ≡ MonitorIs after) × MonitorGives old act answer after
SiteGives (EventualIs old) act answer new = (after : EventualValue) × (new ≡ EventualIs after) × EventualGives old act answer after
SiteGives (FutureIs old) act answer new = (after : FutureValue) × (new ≡ FutureIs after) × FutureGives old act answer after
SiteGives (BarrierIs old) act answer new = (after : BarrierValue) × (new ≡ BarrierIs after) × BarrierGives old act answer after
SiteGives (RwLockIs old) act answer new = (after : RwLockValue) × (new ≡ RwLockIs after) × RwLockGives old act answer after
SiteGives NotHere act answer new = ⊥
