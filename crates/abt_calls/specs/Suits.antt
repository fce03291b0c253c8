-- Which answers an act may get.
use Rattle.std.specs.Prelude.{ℕ, ◌≡◌, ⊤}
use Rattle.abt_machine.specs.declared.events.Code.TheVariants as code
use Rattle.abt_machine.specs.Values.{Object}
use Rattle.abt_machine.specs.Acts.{Act, Put, Take, Remove, Create, End, Join, AskCancel, AskMigrate, Look, Suspend, Resume, Revive, SetMigratable, Lock, TryLock, Unlock, Load, Store, Wait, Signal, Broadcast, Await, Fill, Reset, Test, Arrive, ReadLock, WriteLock, RwUnlock, Answer, Given, Through, Woke, Rested, Miss, Number, Asks, Coded, Back, received}
use Rattle.abt_machine.specs.Gives.{SiteGives}

-- the act may get the answer; a unit that comes straight back is the one that came
abbrev pub Suits : Act → Answer → Type 0
Suits (Put o) Rested = ⊤
Suits (Take d) (Given o) = ⊤
Suits (Take d) Miss = ⊤
Suits (Remove u) (Given o) = o.number ≡ u
Suits (Remove u) (Coded code.Absent) = ⊤
Suits (Create p) (Given o) = ⊤
Suits (Create p) (Coded code.Exists) = ⊤
Suits (End o cause) (Woke os) = ⊤
Suits (Join o) (Given b) = b ≡ o
Suits (Join o) Rested = ⊤
Suits AskCancel (Coded code.Ok) = ⊤
Suits AskCancel (Coded code.UnitState) = ⊤
Suits (AskMigrate p) (Coded code.Ok) = ⊤
Suits (AskMigrate p) (Coded code.UnitState) = ⊤
Suits (AskMigrate p) (Coded code.NotMigratable) = ⊤
Suits Look (Asks cancel migrate) = ⊤
Suits (Suspend o) Rested = ⊤
Suits Resume (Given o) = ⊤
Suits Resume (Coded code.UnitState) = ⊤
Suits (Revive p) (Given o) = ⊤
Suits (Revive p) (Coded code.UnitState) = ⊤
Suits (SetMigratable allowed) (Coded code.Ok) = ⊤
Suits (SetMigratable allowed) (Coded code.NotMigratable) = ⊤
Suits (Lock o) (Given b) = b ≡ o
Suits (Lock o) Rested = ⊤
Suits (TryLock u) (Coded code.Ok) = ⊤
Suits (TryLock u) (Coded code.MutexLocked) = ⊤
Suits (Unlock u) (Given b) = ⊤
Suits (Unlock u) Rested = ⊤
Suits (Unlock u) (Coded code.NotOwner) = ⊤
Suits (Load u) (Number n) = ⊤
Suits (Load u) (Coded code.NotOwner) = ⊤
Suits (Load u) (Coded code.NotHolder) = ⊤
Suits (Store u n) (Coded code.Ok) = ⊤
Suits (Store u n) (Coded code.NotOwner) = ⊤
Suits (Store u n) (Coded code.NotHolder) = ⊤
Suits (Wait k o) (Given b) = ⊤
Suits (Wait k o) Rested = ⊤
Suits (Wait k o) (Back b code.NotOwner) = b ≡ o
Suits (Signal k) (Given b) = ⊤
Suits (Signal k) Rested = ⊤
Suits (Broadcast k) (Given b) = ⊤
Suits (Broadcast k) Rested = ⊤
-- with the value in its accumulator
Suits (Await o) (Given b) = (n : ℕ) × (b ≡ received n o)
Suits (Await o) Rested = ⊤
Suits (Fill n) (Woke os) = ⊤
Suits (Fill n) (Coded code.EventualSet) = ⊤
Suits (Fill n) (Coded code.FutureFull) = ⊤
Suits Reset Rested = ⊤
Suits Test (Number n) = ⊤
Suits (Arrive o) (Through b os) = b ≡ o
Suits (Arrive o) Rested = ⊤
Suits (ReadLock o) (Given b) = b ≡ o
Suits (ReadLock o) Rested = ⊤
Suits (ReadLock o) (Back b code.RwHeld) = b ≡ o
Suits (ReadLock o) (Back b code.RwFull) = b ≡ o
Suits (WriteLock o) (Given b) = b ≡ o
Suits (WriteLock o) Rested = ⊤
Suits (WriteLock o) (Back b code.RwHeld) = b ≡ o
Suits (RwUnlock u) (Woke os) = ⊤
Suits (RwUnlock u) (Coded code.NotHolder) = ⊤
Suits act answer = ⊥

-- an object answers an act by what the act may get
abbrev pub AnswersSuit : Type 0
AnswersSuit = (old : Object) (act : Act) (answer : Answer) (new : Object) → SiteGives old act answer new → Suits act answer
