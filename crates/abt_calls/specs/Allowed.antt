-- Which acts may be asked of an object of a kind, whatever it holds.
use Rattle.std.specs.Prelude.{ℕ, ◌≡◌, ◌<◌, ⊤, length}
use Rattle.abt_machine.specs.declared.operations.Kind.{Kind}
use Rattle.abt_machine.specs.Values.{Object, PoolIs, DeskIs, MonitorIs, EventualIs, FutureIs, BarrierIs, RwLockIs, NotHere}
use Rattle.abt_machine.specs.Acts.{Act, Put, Take, Remove, Create, End, Join, AskCancel, AskMigrate, Look, Suspend, Resume, Revive, SetMigratable, Lock, TryLock, Unlock, Load, Store, Wait, Signal, Broadcast, Await, Fill, Reset, Test, Arrive, ReadLock, WriteLock, RwUnlock, Answer}
use Rattle.abt_machine.specs.Pools.{HasSide}
use Rattle.abt_machine.specs.Gives.{SiteGives}

-- of a pool of that kind
abbrev pub PoolAllows : Kind → Act → Type 0
PoolAllows kind (Put o) = ⊤
PoolAllows kind (Take d) = HasSide kind d
PoolAllows kind (Remove u) = ⊤
PoolAllows kind act = ⊥

-- of a desk
abbrev pub DeskAllows : Act → Type 0
DeskAllows (Create p) = ⊤
DeskAllows (End o cause) = ⊤
DeskAllows (Join o) = ⊤
DeskAllows AskCancel = ⊤
DeskAllows (AskMigrate p) = ⊤
DeskAllows Look = ⊤
DeskAllows (Suspend o) = ⊤
DeskAllows Resume = ⊤
DeskAllows (Revive p) = ⊤
DeskAllows (SetMigratable allowed) = ⊤
DeskAllows act = ⊥

-- of a monitor with that many conditions
abbrev pub MonitorAllows : ℕ → Act → Type 0
MonitorAllows conditions (Lock o) = ⊤
MonitorAllows conditions (TryLock u) = ⊤
MonitorAllows conditions (Unlock u) = ⊤
MonitorAllows conditions (Load u) = ⊤
MonitorAllows conditions (Store u n) = ⊤
MonitorAllows conditions (Wait k o) = k < conditions
MonitorAllows conditions (Signal k) = k < conditions
MonitorAllows conditions (Broadcast k) = k < conditions
MonitorAllows conditions act = ⊥

-- of an eventual, and of a future
abbrev pub EventualAllows : Act → Type 0
EventualAllows (Await o) = ⊤
EventualAllows (Fill n) = ⊤
EventualAllows Reset = ⊤
EventualAllows Test = ⊤
EventualAllows act = ⊥

-- of a barrier
abbrev pub BarrierAllows : Act → Type 0
BarrierAllows (Arrive o) = ⊤
BarrierAllows act = ⊥

-- of a reader-writer lock
abbrev pub RwLockAllows : Act → Type 0
RwLockAllows (ReadLock o) = ⊤
RwLockAllows (WriteLock o) = ⊤
RwLockAllows (RwUnlock u) = ⊤
RwLockAllows (Load u) = ⊤
RwLockAllows (Store u n) = ⊤
RwLockAllows act = ⊥

-- the act may be asked of the object
abbrev pub Allows : Object → Act → Type 0
Allows (PoolIs pool) act = PoolAllows pool.kind act
Allows (DeskIs desk) act = DeskAllows act
Allows (MonitorIs m) act = MonitorAllows (length m.conds) act
Allows (EventualIs e) act = EventualAllows act
Allows (FutureIs f) act = EventualAllows act
Allows (BarrierIs b) act = BarrierAllows act
Allows (RwLockIs l) act = RwLockAllows act
Allows NotHere act = ⊥

-- no act changes what may be asked
abbrev pub AllowedStays : Type 0
AllowedStays = (old : Object) (act : Act) (answer : Answer) (new : Object) (other : Act) → SiteGives old act answer new → Allows old other → Allows new other

-- an act that may be asked is answered
abbrev pub AllowedIsAnswered : Type 0
AllowedIsAnswered = (old : Object) (act : Act) → Allows old act → (answer : Answer) × (new : Object) × SiteGives old act answer new

-- an object answers an act in one way
abbrev pub OneAnswer : Type 0
OneAnswer =
    (old : Object) (act : Act) (a b : Answer) (m n : Object) → SiteGives old act a m → SiteGives old act b n → (a ≡ b) × (m ≡ n)
