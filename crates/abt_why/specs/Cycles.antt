-- Cycles: units each of which waits for the next one alone, and the last for the first. A unit that joins another waits for that one alone, and
-- so does one at a mutex for the owner, and one at a reader-writer lock for its only holder. Whoever ends any other wait is no single unit.
use Rattle.std.specs.Prelude.{ℕ, zero, suc, nat_lt, ◌==◌, if◌then◌else◌, List, [], ◌∷◌, length, map, Option, Some, None, option_map, slice_get}
use Rattle.std.specs.List.{filter_map, range_with_len}
use Rattle.std.specs.Option.{option_flatten}
use Rattle.abt_machine.specs.declared.workload.Parts.{Parts}
use Rattle.abt_machine.specs.State.{State}
use Rattle.abt_why.specs.declared.waits.Awaited.{Awaited}
use Rattle.abt_why.specs.declared.waits.Holders.{Holders}
use Rattle.abt_why.specs.declared.waits.Holders.TheVariants as held
use Rattle.abt_why.specs.declared.waits.Wait.{Wait}
use Rattle.abt_why.specs.declared.waits.Wait.TheVariants as wait
use Rattle.abt_why.specs.Waits.{waits_in}

abbrev pub number_of : Awaited → ℕ
number_of a = a.unit.0

-- the only holder
abbrev pub only_holder : Holders → Option ℕ
only_holder (held.Writer a) = Some (number_of a)
only_holder (held.Reader a) = Some (number_of a)
only_holder (held.Readers units) = None

-- the one unit for which a unit waits, if there is one
abbrev pub waited_for : Wait → Option ℕ
waited_for (wait.Join a) = Some (number_of a)
waited_for (wait.Mutex x owner) = option_map number_of owner
waited_for (wait.RwLock x wish holders) = only_holder holders
waited_for w = None

-- unit u waits for that unit alone, by the list of whom each unit waits for alone
abbrev pub waits_for : List (Option ℕ) → ℕ → Option ℕ
waits_for awaited u = option_flatten (slice_get awaited u)

-- the units from this one on, each of which waits for the next, and the last for u: at most n, and none below u
abbrev pub way_to : List (Option ℕ) → ℕ → ℕ → Option ℕ → Option (List ℕ)
way_to awaited u n None = None
way_to awaited u zero (Some v) = None
way_to awaited u (suc n) (Some v) =
    if nat_lt v u then None else if v == u then Some [] else option_map (λ vs. v ∷ vs) (way_to awaited u n (waits_for awaited v))

-- the cycle on which u is the least unit
abbrev pub cycle_from : List (Option ℕ) → ℕ → Option (List ℕ)
cycle_from awaited u = option_map (λ vs. u ∷ vs) (way_to awaited u (length awaited) (waits_for awaited u))

-- all cycles, each from its least unit on, in order of these
abbrev pub cycles_by : List (Option ℕ) → List (List ℕ)
cycles_by awaited = filter_map (cycle_from awaited) (range_with_len 0 (length awaited))

-- the cycles of a state
abbrev pub cycles_in : Parts → State → List (List ℕ)
cycles_in W S = cycles_by (map waited_for (waits_in W S))
