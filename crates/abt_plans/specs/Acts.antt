-- Acts by what becomes of the unit in hand.
use Rattle.abt_machine.specs.Acts.{Act, Answer}
use Rattle.abt_machine.specs.Acts as asks
use Rattle.abt_machine.specs.Plans.{Effect, to_caller, to_condition, to_giver, to_yielder}
use Rattle.abt_machine.specs.Values.{Owned}
use Rattle.abt_plans.specs.declared.acts.Asking.{Asking}
use Rattle.abt_plans.specs.declared.acts.Asking.TheVariants as asking
use Rattle.abt_plans.specs.declared.acts.Giving.{Giving}
use Rattle.abt_plans.specs.declared.acts.Giving.TheVariants as giving

-- the act that does not take the unit with it
abbrev pub asked : Asking → Act
asked (asking.Remove v) = asks.Remove v.0
asked (asking.Create p) = asks.Create p.0
asked asking.AskCancel = asks.AskCancel
asked (asking.AskMigrate p) = asks.AskMigrate p.0
asked asking.Resume = asks.Resume
asked (asking.Revive p) = asks.Revive p.0
asked (asking.SetMigratable allowed) = asks.SetMigratable allowed
asked (asking.TryLock u) = asks.TryLock u.0
asked (asking.Unlock u) = asks.Unlock u.0
asked (asking.Load u) = asks.Load u.0
asked (asking.Store u n) = asks.Store u.0 n
asked (asking.Signal k) = asks.Signal k
asked (asking.Broadcast k) = asks.Broadcast k
asked (asking.Fill n) = asks.Fill n
asked asking.Reset = asks.Reset
asked asking.Test = asks.Test
asked (asking.RwUnlock u) = asks.RwUnlock u.0

-- what the answer to such an act brings to the unit: it yields to one that it takes out of a pool
abbrev pub told : Asking → Owned → Answer → Effect
told (asking.Remove v) = to_yielder
told a = to_caller

-- the act that takes the unit with it
abbrev pub given : Giving → Owned → Act
given giving.Suspend o = asks.Suspend o
given giving.Join o = asks.Join o
given giving.Lock o = asks.Lock o
given (giving.Wait k) o = asks.Wait k o
given giving.Await o = asks.Await o
given giving.Arrive o = asks.Arrive o
given giving.ReadLock o = asks.ReadLock o
given giving.WriteLock o = asks.WriteLock o

-- what the answer to such an act brings: a unit that went to a condition does not come back at once
abbrev pub brought : Giving → Answer → Effect
brought (giving.Wait k) = to_condition
brought g = to_giver
