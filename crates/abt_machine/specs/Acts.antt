-- What a stream asks of an object, and the answers.
use Rattle.std.specs.Prelude.{ℕ, Bool, List, Option}
use Rattle.abt_machine.specs.declared.events.Cause.{Cause}
use Rattle.abt_machine.specs.declared.events.Code.{Code}
use Rattle.abt_machine.specs.declared.operations.Side.{Side}
use Rattle.abt_machine.specs.State.{Carried}
use Rattle.abt_machine.specs.Carrying.{advanced, with_acc, newborn}
use Rattle.abt_machine.specs.Values.{Owned}

pub data Act : Type 0 where
  -- of a pool
  Put : Owned → Act
  Take : Side → Act
  Remove : ℕ → Act
  -- of a desk: a life that begins in a pool, an end, a join, the requests and the look at them, a suspension and its end,
  -- another life, and whether the unit may migrate
  Create : ℕ → Act
  End : Owned → Cause → Act
  Join : Owned → Act
  AskCancel : Act
  AskMigrate : ℕ → Act
  Look : Act
  Suspend : Owned → Act
  Resume : Act
  Revive : ℕ → Act
  SetMigratable : Bool → Act
  -- of a monitor: the unit, or its number and, for a store, the number to store; a condition by its place among the monitor's
  Lock : Owned → Act
  TryLock : ℕ → Act
  Unlock : ℕ → Act
  Load : ℕ → Act
  Store : ℕ → ℕ → Act
  Wait : ℕ → Owned → Act
  Signal : ℕ → Act
  Broadcast : ℕ → Act
  -- of an eventual or a future
  Await : Owned → Act
  Fill : ℕ → Act
  Reset : Act
  Test : Act
  -- of a barrier
  Arrive : Owned → Act
  -- of a reader-writer lock, as are a load and a store
  ReadLock : Owned → Act
  WriteLock : Owned → Act
  RwUnlock : ℕ → Act

pub data Answer : Type 0 where
  -- a unit comes out
  Given : Owned → Answer
  -- the unit that arrived goes through, and these waited for it
  Through : Owned → List Owned → Answer
  -- these come out
  Woke : List Owned → Answer
  -- nothing comes out
  Rested : Answer
  -- there is no unit to take
  Miss : Answer
  Number : ℕ → Answer
  -- a cancel request, and the pool of a migrate request
  Asks : Bool → Option ℕ → Answer
  -- how it went, if no unit came with the act
  Coded : Code → Answer
  -- the unit that came with the act is refused
  Back : Owned → Code → Answer

-- What objects and steps do to a unit.

abbrev pub carrying : (Carried → Carried) → Owned → Owned
carrying f o = record o { carried = f o.carried }

-- after its step
abbrev pub moved : Owned → Owned
moved o = carrying advanced o

-- with this value in its accumulator
abbrev pub received : ℕ → Owned → Owned
received n o = carrying (with_acc n) o

-- at the beginning of a life, with home p
abbrev pub reborn : ℕ → Owned → Owned
reborn p o = carrying (newborn p) o
