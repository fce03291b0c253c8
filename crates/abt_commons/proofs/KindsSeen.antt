-- What an object is, by what may be asked of it.
use Rattle.std.proofs.Common.{ℕ}
use Rattle.abt_machine.specs.Acts.{Look, Remove, Signal}
use Rattle.abt_machine.specs.Values.{Object, PoolIs, DeskIs, MonitorIs}
use Rattle.abt_calls.specs.Allowed.{Allows}
use Rattle.abt_commons.specs.Reading.{HasCondition, IsDesk, IsPool}

pub pool-seen : (o : Object) → Allows o (Remove 0) → IsPool o
pool-seen (PoolIs pool) may = may
pool-seen _ may = absurd may

pub desk-seen : (o : Object) → Allows o Look → IsDesk o
desk-seen (DeskIs desk) may = may
desk-seen _ may = absurd may

pub condition-seen : (k : ℕ) (o : Object) → Allows o (Signal k) → HasCondition k o
condition-seen k (MonitorIs m) may = may
condition-seen k _ may = absurd may
