-- What contracts see of the parts of a reader-writer lock.
use Rattle.std.specs.Prelude.{ℕ, ◌≡◌, List, [], Option, None, Some, Box}
use Rattle.std.specs.declared.alloc.Global.{Global}
use Rattle.abt_machine.specs.declared.events.Wish.{Wish}
use Rattle.abt_machine.specs.State.{RwLock}
use Rattle.abt_machine.specs.Values.{Owned, RwLockValue}
use Rattle.abt_unit.specs.Units.{IsFree, UnitValue}

-- who writes, and how often each unit reads
pub record HoldersValue : Type 0 where
  pub writer : Option ℕ
  pub counts : List ℕ

-- who waits in order, and what each unit wanted when it last came to wait
pub record WaitersValue : Type 0 where
  pub wishes : List Wish
  pub units : List Owned

-- the lock of these holders
abbrev pub held_by : HoldersValue → List Wish → ℕ → RwLock
held_by holders wishes n = record { writer = holders.writer; counts = holders.counts; wishes = wishes; number = n }

-- the lock of these holders, with these waiters
abbrev pub lock_of : HoldersValue → WaitersValue → ℕ → RwLockValue
lock_of holders waiters n = record { lock = held_by holders waiters.wishes n; waiters = waiters.units }

-- the first waiter is no part of a list of its own, and without it there are no others
abbrev pub AreInLine : Option (Box UnitValue Global) → List Owned → Type 0
AreInLine None others = others ≡ []
AreInLine (Some unit) others = IsFree unit.value
