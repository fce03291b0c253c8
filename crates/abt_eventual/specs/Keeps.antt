-- What eventuals and futures keep.
use Rattle.std.specs.Prelude.{◌≡◌, ◌<◌, ◌≤◌, [], IsSome, IsTrue}
use Rattle.abt_machine.specs.Acts.{Act, Answer}
use Rattle.abt_machine.specs.Eventuals.{EventualGives}
use Rattle.abt_machine.specs.Futures.{FutureGives, is_ready}
use Rattle.abt_machine.specs.Values.{EventualValue, FutureValue}
use Rattle.abt_chain.specs.Keeping.{Contents, KeepsWhatFits, only_units}

-- what an eventual holds
abbrev pub contents_of_eventual : EventualValue → Contents
contents_of_eventual e = only_units e.waiters

abbrev pub EventualsKeepWhatFits : Type 0
EventualsKeepWhatFits = KeepsWhatFits contents_of_eventual EventualGives

-- what a future holds
abbrev pub contents_of_future : FutureValue → Contents
contents_of_future f = only_units f.waiters

abbrev pub FuturesKeepWhatFits : Type 0
FuturesKeepWhatFits = KeepsWhatFits contents_of_future FutureGives

-- if the eventual is ready, nobody waits for it
abbrev pub IsServed : EventualValue → Type 0
IsServed e = IsSome e.value → e.waiters ≡ []

-- no call leaves a waiter at a ready eventual
abbrev pub ReadyEventualsHaveNoWaiters : Type 0
ReadyEventualsHaveNoWaiters =
    (old : EventualValue) (act : Act) (answer : Answer) (new : EventualValue) → EventualGives old act answer new → IsServed old → IsServed new

-- a future has a compartment, no more are filled than it has, and if it is ready nobody waits for it
pub record IsSoundFuture (f : FutureValue) : Type 0 where
  pub some : 0 < f.size
  pub filled : f.filled ≤ f.size
  pub served : IsTrue (is_ready f) → f.waiters ≡ []

-- the future keeps what it was made with, and is sound if it was
pub record StaysSound (old new : FutureValue) : Type 0 where
  pub size : new.size ≡ old.size
  pub combine : new.combine ≡ old.combine
  pub sound : IsSoundFuture old → IsSoundFuture new

abbrev pub FuturesStaySound : Type 0
FuturesStaySound =
    (old : FutureValue) (act : Act) (answer : Answer) (new : FutureValue) → FutureGives old act answer new → StaysSound old new
