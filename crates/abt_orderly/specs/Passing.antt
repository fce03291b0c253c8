-- Operations that are done in an order in which each comes behind what it needs. The end of a unit counts as one operation more, behind the last one.
use Rattle.std.specs.Prelude.{Vec, ℕ, suc, ◌≡◌, ◌≢◌, ◌<◌, ◌≤◌, ◌+◌, ◌-◌, ◌*◌, ◌⊎◌, Bool, List, [], length, sum_by, Option, Some, None, slice_get, slice_index_or, slice_set, Contains}
use Rattle.std.specs.declared.alloc.Global.{Global}
use Rattle.abt_machine.specs.declared.numbers.UnitNo.{UnitNo}
use Rattle.abt_machine.specs.declared.workload.Parts.{Parts}
use Rattle.abt_machine.specs.Lives.{count_up}
use Rattle.abt_machine.specs.Numbers.{unit_no}
use Rattle.abt_flow.specs.Finishing.{op_count}
use Rattle.abt_flow.specs.Flow.{IsReached}
use Rattle.abt_orderly.specs.declared.passing.Passing.{Passing}
use Rattle.abt_orderly.specs.declared.scanning.Standing.{Standing}
use Rattle.abt_orderly.specs.declared.scanning.Standing.TheVariants as standing
use Rattle.abt_orderly.specs.Listing.{IsMarked}
use Rattle.abt_orderly.specs.Needs.{creates_at, meets_at, need_at, needs_in}

-- What is done.

-- how many operations of unit u are done
abbrev pub done_at : List ℕ → ℕ → ℕ
done_at done u = slice_index_or done u 0

abbrev pub IsDone : List ℕ → ℕ → ℕ → Type 0
IsDone done u k = k < done_at done u

-- the next operation of unit u is done
abbrev pub one_more : List ℕ → ℕ → List ℕ
one_more done u = slice_set done u (done_at done u + 1)

-- need i is met by an operation of a reached unit that is done
abbrev pub HasMet : Parts → List ℕ → ℕ → Type 0
HasMet W done i = (v : ℕ) × (j : ℕ) × IsReached W v × (meets_at W v j ≡ Some i) × IsDone done v j

-- the operations that are done have ranks below a bound, and each has come behind what it needs
pub record Ordered (W : Parts) (done : List ℕ) (rank : ℕ → ℕ → ℕ) (bound : ℕ) : Type 0 where
  pub past : (u k : ℕ) → IsDone done u k → rank u k < bound
  pub rises : (u k : ℕ) → IsDone done u (suc k) → rank u k < rank u (suc k)
  pub creates : (u k t : ℕ) → creates_at W u k ≡ Some (unit_no t) → IsDone done t 0 → IsDone done u k × (rank u k < rank t 0)
  pub needs : (u k i : ℕ) → need_at W u k ≡ Some i → IsDone done u k → (h : HasMet W done i) × (rank h.0 h.1 < rank u k)

abbrev pub HasOrder : Parts → List ℕ → Type 0
HasOrder W done = (rank : ℕ → ℕ → ℕ) × (bound : ℕ) × Ordered W done rank bound

-- Where units stand.

-- each operation that creates unit u is done
abbrev pub IsBorn : Parts → List ℕ → ℕ → Type 0
IsBorn W done u = (v j : ℕ) → creates_at W v j ≡ Some (unit_no u) → IsDone done v j

abbrev pub Stands : Parts → List ℕ → ℕ → Standing → Type 0
Stands W done u standing.Unborn = (v : ℕ) × (j : ℕ) × (creates_at W v j ≡ Some (unit_no u)) × (IsDone done v j → ⊥)
Stands W done u standing.Reached = IsBorn W done u × IsReached W u
Stands W done u standing.Unreached = IsBorn W done u × (IsReached W u → ⊥)

-- each unit stands where a list says
pub record AreStanding (W : Parts) (done : List ℕ) (standing : List Standing) : Type 0 where
  pub all : length standing ≡ length W.units
  pub each : (u : ℕ) (s : Standing) → slice_get standing u ≡ Some s → Stands W done u s

-- What is met, and who waits.

-- the needs that are marked are those that are met
pub record AreMet (W : Parts) (done : List ℕ) (met : List Bool) : Type 0 where
  pub all : length met ≡ needs_in W
  pub only : (i : ℕ) → IsMarked met i → HasMet W done i
  pub every : (i : ℕ) → HasMet W done i → IsMarked met i

abbrev pub items_from : Option (Vec UnitNo Global) → List UnitNo
items_from None = []
items_from (Some us) = us.items

-- the units in the list of need i
abbrev pub waiters : List (Vec UnitNo Global) → ℕ → List UnitNo
waiters waiting i = items_from (slice_get waiting i)

-- there is a list for each need, of units
pub record AreLists (W : Parts) (waiting : List (Vec UnitNo Global)) : Type 0 where
  pub all : length waiting ≡ needs_in W
  pub declared : (i : ℕ) (u : UnitNo) → Contains (waiters waiting i) u → u.0 < length W.units

-- each unit is in the lists of those of its needs that aren't met
abbrev pub Wait : Parts → List Bool → List (Vec UnitNo Global) → Type 0
Wait W met waiting = (u k i : ℕ) → need_at W u k ≡ Some i → (IsMarked met i → ⊥) → Contains (waiters waiting i) (unit_no u)

-- operation k of unit u, if it has one there, can't be done
abbrev pub Halts : Parts → List Bool → ℕ → ℕ → Standing → Type 0
Halts W met u k s = (op_count W u < k) ⊎ ((s ≡ standing.Unborn) ⊎ ((i : ℕ) × (need_at W u k ≡ Some i) × (IsMarked met i → ⊥)))

-- unit u rests: its next operation can't be done
abbrev pub Rests : Parts → Passing → ℕ → Type 0
Rests W p u = Halts W p.met.items u (done_at p.done.items u) (slice_index_or p.standing.items u standing.Unborn)

-- the next operation of unit u can be done
pub record MayPass (W : Parts) (p : Passing) (u : ℕ) : Type 0 where
  pub there : done_at p.done.items u ≤ op_count W u
  pub born : slice_index_or p.standing.items u standing.Unborn ≢ standing.Unborn
  pub met : (i : ℕ) → need_at W u (done_at p.done.items u) ≡ Some i → IsMarked p.met.items i

-- the next operation of unit u meets need i
abbrev pub MeetsNeed : Parts → Passing → ℕ → ℕ → Type 0
MeetsNeed W p u i = IsReached W u × (meets_at W u (done_at p.done.items u) ≡ Some i)

-- it meets no need
abbrev pub MeetsNone : Parts → Passing → ℕ → Type 0
MeetsNone W p u = (i : ℕ) → IsReached W u → meets_at W u (done_at p.done.items u) ≡ Some i → ⊥

-- unit v is to be looked at, or it rests
abbrev pub IsSeen : Parts → Passing → ℕ → Type 0
IsSeen W p v = Contains p.ready.items (unit_no v) ⊎ Rests W p v

-- all units but u are
abbrev pub OthersSeen : Parts → Passing → ℕ → Type 0
OthersSeen W p u = (v : ℕ) → v < length W.units → v ≢ u → IsSeen W p v

abbrev pub AllSeen : Parts → Passing → Type 0
AllSeen W p = (v : ℕ) → v < length W.units → IsSeen W p v

abbrev pub AreUnits : Parts → List UnitNo → Type 0
AreUnits W us = (u : UnitNo) → Contains us u → u.0 < length W.units

-- so many operations of each unit are done, in an order in which each came behind what it needs, and what is kept beside them agrees with that
pub record Passes (W : Parts) (p : Passing) : Type 0 where
  pub all : length p.done.items ≡ length W.units
  pub within : (u : ℕ) → done_at p.done.items u ≤ op_count W u + 1
  pub order : HasOrder W p.done.items
  pub standing : AreStanding W p.done.items p.standing.items
  pub met : AreMet W p.done.items p.met.items
  pub lists : AreLists W p.waiting.items
  pub waits : Wait W p.met.items p.waiting.items
  pub ready : AreUnits W p.ready.items

-- and no operation more can be done
pub record AllRest (W : Parts) (p : Passing) : Type 0 where
  pub passes : Passes W p
  pub rest : (v : ℕ) → v < length W.units → Rests W p v

-- no more can be done than what is to be looked at
pub record AllPass (W : Parts) (p : Passing) : Type 0 where
  pub passes : Passes W p
  pub seen : AllSeen W p

-- every operation is done, and so is the end of each unit
abbrev pub IsOver : Parts → Passing → Type 0
IsOver W p = (u : ℕ) → u < length W.units → op_count W u < done_at p.done.items u

-- How much is left.

-- how many operations there are, with the end of each unit
abbrev pub points_in : Parts → ℕ
points_in W = sum_by (λ u. op_count W u + 1) (count_up (length W.units))

-- how many are done
abbrev pub points_done : List ℕ → ℕ
points_done done = sum_by (λ k. k) done

-- how many units are in lists
abbrev pub listed_in : Passing → ℕ
listed_in p = length p.ready.items + sum_by (λ (us : Vec UnitNo Global). length us.items) p.waiting.items

-- an operation that is done may leave one more unit in lists than there were, beside its own
abbrev pub work_left : Parts → Passing → ℕ
work_left W p = 2 * (points_in W - points_done p.done.items) + listed_in p

-- From one operation to the next.

-- what the next operation of unit u meets is met
pub record Meets (W : Parts) (u : ℕ) (old new : Passing) : Type 0 where
  pub done : new.done.items ≡ old.done.items
  pub standing : new.standing.items ≡ old.standing.items
  pub met : AreMet W (one_more old.done.items u) new.met.items
  pub lists : AreLists W new.waiting.items
  pub waits : Wait W new.met.items new.waiting.items
  pub ready : AreUnits W new.ready.items
  pub others : OthersSeen W new u
  pub left : listed_in new ≡ listed_in old

-- the unit that the next operation of unit u creates is born
pub record Creates (W : Parts) (u : ℕ) (old new : Passing) : Type 0 where
  pub done : new.done.items ≡ old.done.items
  pub met : new.met.items ≡ old.met.items
  pub waiting : new.waiting.items ≡ old.waiting.items
  pub standing : AreStanding W (one_more old.done.items u) new.standing.items
  pub ready : AreUnits W new.ready.items
  pub others : OthersSeen W new u
  pub left : listed_in new ≤ listed_in old + 1

-- a unit was looked at
pub record Looks (W : Parts) (old new : Passing) : Type 0 where
  pub all : AllPass W new
  pub left : work_left W new ≤ work_left W old

-- unit u is not to be looked at any more, unless it is in the list once more
pub record Takes (W : Parts) (old new : Passing) (u : UnitNo) : Type 0 where
  pub unit : u.0 < length W.units
  pub passes : Passes W new
  pub others : OthersSeen W new u.0
  pub left : work_left W new < work_left W old
