-- What may be asked of an object stays so.
use Rattle.std.proofs.Common.{◌≡◌, sym, ap, subst}
use Rattle.abt_machine.specs.declared.events.Code.TheVariants as code
use Rattle.abt_machine.specs.Values.{PoolIs, MonitorIs, NotHere, PoolValue}
use Rattle.abt_machine.specs.Acts.{Act, Put, Take, Remove, Answer, Given, Rested, Miss, Coded}
use Rattle.abt_machine.specs.Pools.{PoolGives}
use Rattle.abt_monitor.proofs.Conditions.{monitors-keep-their-conditions}
use Rattle.abt_calls.specs.Allowed.{PoolAllows, MonitorAllows, Allows, AllowedStays}

-- no act changes a pool's kind
kind-stays : (old : PoolValue) (act : Act) (answer : Answer) (new : PoolValue) → PoolGives old act answer new → new.kind ≡ old.kind
kind-stays old (Put o) Rested new gives = ap (λ pool. pool.kind) gives
kind-stays old (Take d) (Given o) new gives = gives.2
kind-stays old (Take d) Miss new gives = ap (λ pool. pool.kind) gives.2
kind-stays old (Remove u) (Given o) new gives = ap (λ pool. pool.kind) gives.1
kind-stays old (Remove u) (Coded code.Absent) new gives = ap (λ pool. pool.kind) gives.1
kind-stays old act answer new gives = absurd gives

pub allowed-stays : AllowedStays
allowed-stays (PoolIs old) act answer new other gives allowed =
    subst (λ m. Allows m other) (sym gives.1) (subst (λ kind. PoolAllows kind other) (sym (kind-stays old act answer gives.0 gives.2)) allowed)
allowed-stays (MonitorIs old) act answer new other gives allowed =
    subst (λ m. Allows m other) (sym gives.1) (subst (λ n. MonitorAllows n other) (sym (monitors-keep-their-conditions old act answer gives.0 gives.2)) allowed)
allowed-stays NotHere act answer new other gives allowed = absurd gives
allowed-stays _ act answer new other gives allowed = subst (λ m. Allows m other) (sym gives.1) allowed
