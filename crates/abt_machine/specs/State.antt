-- What a state of the machine has: total maps from the numbers of units, pools, objects and streams.
use Rattle.std.specs.Prelude.{ℕ, Bool, List, Option}
use Rattle.abt_machine.specs.declared.events.Piece.{Piece}
use Rattle.abt_machine.specs.declared.events.Place.{Place}
use Rattle.abt_machine.specs.declared.events.Wish.{Wish}

-- what a unit carries with it wherever it goes
pub record Carried : Type 0 where
  pub position : ℕ
  pub acc : ℕ
  pub keys : List ℕ
  pub home : ℕ
  pub output : List Piece

-- what a unit's desk knows, wherever the unit is: which life it is in, and the requests that wait for its next look
pub record Desk : Type 0 where
  pub life : ℕ
  pub cancel : Bool
  pub migrate : Option ℕ
  pub migratable : Bool

pub record Mutex : Type 0 where
  pub owner : Option ℕ
  pub number : ℕ

-- how many compartments are filled, and what the future's rule makes of their values so far
pub record Future : Type 0 where
  pub filled : ℕ
  pub value : ℕ

-- a reader-writer lock: who writes, how many times each unit reads, what each unit wanted when it last came to wait, and the number
pub record RwLock : Type 0 where
  pub writer : Option ℕ
  pub counts : List ℕ
  pub wishes : List Wish
  pub number : ℕ

-- a scheduler that runs: its round, the pools that gave a miss in this round, and whether its last round ended empty
pub record Frame : Type 0 where
  pub sched : ℕ
  pub round : ℕ
  pub seen : List ℕ
  pub empty : Bool

-- what is to become of the unit in hand: plain, asked to cancel, a scheduler unit that has left, or a thread that has ended itself
pub data Mark : Type 0 where
  Plain : Mark
  Asked : Mark
  Left : Mark
  Exited : Mark

-- the top frame, and those below it from above, the main scheduler's the last
pub record Stream : Type 0 where
  pub mark : Mark
  pub top : Frame
  pub below : List Frame

pub record State : Type 0 where
  pub place : ℕ → Place
  pub carried : ℕ → Carried
  pub desk : ℕ → Desk
  -- the next ticket of a pool, of a unit's joiners, and of an object's waiters
  pub pool_next : ℕ → ℕ
  pub join_next : ℕ → ℕ
  pub object_next : ℕ → ℕ
  pub mutex : ℕ → Mutex
  pub eventual : ℕ → Option ℕ
  pub future : ℕ → Future
  pub rwlock : ℕ → RwLock
  pub stream : ℕ → Stream
