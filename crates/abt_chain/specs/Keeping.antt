-- What an act, an answer and an object have of units and of pools, and what objects keep of both.
use Rattle.std.specs.Prelude.{ℕ, ◌<◌, List, [], ◌∷◌, Option, None, Some, length}
use Rattle.std.specs.List.{All}
use Rattle.abt_machine.specs.declared.workload.Parts.{Parts}
use Rattle.abt_machine.specs.Acts.{Act, Put, Take, Remove, Create, End, Join, AskCancel, AskMigrate, Look, Suspend, Resume, Revive, SetMigratable, Lock, TryLock, Unlock, Load, Store, Wait, Signal, Broadcast, Await, Fill, Reset, Test, Arrive, ReadLock, WriteLock, RwUnlock, Answer, Given, Through, Woke, Rested, Miss, Number, Asks, Coded, Back, received, reborn}
use Rattle.abt_machine.specs.Values.{Owned}
use Rattle.abt_unit.specs.Fits.{Fits}

-- units, and numbers of pools: homes that are to be given to units
pub record Contents : Type 0 where
  pub units : List Owned
  pub pools : List ℕ

abbrev pub no_contents : Contents
no_contents = record { units = []; pools = [] }

abbrev pub only_unit : Owned → Contents
only_unit o = record { units = o ∷ []; pools = [] }

abbrev pub only_units : List Owned → Contents
only_units os = record { units = os; pools = [] }

abbrev pub only_pool : ℕ → Contents
only_pool p = record { units = []; pools = p ∷ [] }

abbrev pub pools_in : Option ℕ → List ℕ
pools_in None = []
pools_in (Some p) = p ∷ []

-- what comes in with an act
abbrev pub contents_asked : Act → Contents
contents_asked (Put o) = only_unit o
contents_asked (Take d) = no_contents
contents_asked (Remove u) = no_contents
contents_asked (Create p) = only_pool p
contents_asked (End o c) = only_unit o
contents_asked (Join o) = only_unit o
contents_asked AskCancel = no_contents
contents_asked (AskMigrate p) = only_pool p
contents_asked Look = no_contents
contents_asked (Suspend o) = only_unit o
contents_asked Resume = no_contents
contents_asked (Revive p) = only_pool p
contents_asked (SetMigratable b) = no_contents
contents_asked (Lock o) = only_unit o
contents_asked (TryLock u) = no_contents
contents_asked (Unlock u) = no_contents
contents_asked (Load u) = no_contents
contents_asked (Store u n) = no_contents
contents_asked (Wait k o) = only_unit o
contents_asked (Signal k) = no_contents
contents_asked (Broadcast k) = no_contents
contents_asked (Await o) = only_unit o
contents_asked (Fill n) = no_contents
contents_asked Reset = no_contents
contents_asked Test = no_contents
contents_asked (Arrive o) = only_unit o
contents_asked (ReadLock o) = only_unit o
contents_asked (WriteLock o) = only_unit o
contents_asked (RwUnlock u) = no_contents

-- what comes out with an answer
abbrev pub contents_answered : Answer → Contents
contents_answered (Given o) = only_unit o
contents_answered (Through o os) = only_units (o ∷ os)
contents_answered (Woke os) = only_units os
contents_answered Rested = no_contents
contents_answered Miss = no_contents
contents_answered (Number n) = no_contents
contents_answered (Asks cancel migrate) = record { units = []; pools = pools_in migrate }
contents_answered (Coded c) = no_contents
contents_answered (Back o c) = only_unit o

-- each unit has a fact, and so has each pool
abbrev pub Have : (Owned → Type 0) → (ℕ → Type 0) → Contents → Type 0
Have F D contents = All F contents.units × All D contents.pools

-- what an object does to a unit keeps the fact: it hands it a value, and it begins a life with a home that is allowed
pub record LastsWith (D : ℕ → Type 0) (F : Owned → Type 0) : Type 0 where
  pub received : (o : Owned) (n : ℕ) → F o → F (received n o)
  pub reborn : (o : Owned) (p : ℕ) → F o → D p → F (reborn p o)

-- objects of one kind, by what they hold and what they answer: if the facts are true of what they hold and of what comes
-- in, they are true of what comes out and of what is held afterwards
abbrev pub Keeps : (Owned → Type 0) → (ℕ → Type 0) → {Value : Type 0} → (Value → Contents) → (Value → Act → Answer → Value → Type 0) → Type 0
Keeps F D {Value = Value} held Gives =
    (old : Value) (act : Act) (answer : Answer) (new : Value) → Gives old act answer new
    → Have F D (held old) → Have F D (contents_asked act) → Have F D (contents_answered answer) × Have F D (held new)

-- the pool is declared
abbrev pub IsPoolOf : Parts → ℕ → Type 0
IsPoolOf W p = p < length W.pools

-- the objects keep what fits a workload: units that fit it, and pools that it declares
abbrev pub KeepsWhatFits : {Value : Type 0} → (Value → Contents) → (Value → Act → Answer → Value → Type 0) → Type 0
KeepsWhatFits held Gives = (W : Parts) → Keeps (Fits W) (IsPoolOf W) held Gives
