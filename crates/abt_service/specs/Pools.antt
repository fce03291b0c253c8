-- In which order pools serve. W is a workload and Z what is stored beside it; each law supposes that W is valid and that each user scheduler's order is stored.
use Rattle.std.specs.Prelude.{ℕ, ◌≡◌, ◌≤◌, ◌==◌, ◌⊎◌, if◌then◌else◌, Bool, true, false, not, List, [], ◌∷◌, ◌++◌, count_by, filter, length, Option, Some, Contains}
use Rattle.abt_machine.specs.declared.events.Code.{Code}
use Rattle.abt_machine.specs.declared.events.Code.TheVariants as code
use Rattle.abt_machine.specs.declared.events.Event.{Event}
use Rattle.abt_machine.specs.declared.events.What.{What}
use Rattle.abt_machine.specs.declared.events.What.TheVariants as what
use Rattle.abt_machine.specs.declared.numbers.PoolNo.{PoolNo}
use Rattle.abt_machine.specs.declared.numbers.UnitNo.{UnitNo}
use Rattle.abt_machine.specs.declared.operations.Kind.TheVariants as kind
use Rattle.abt_machine.specs.declared.operations.Op.{Op}
use Rattle.abt_machine.specs.declared.operations.Op.TheVariants as op
use Rattle.abt_machine.specs.Stored.{Stored}
use Rattle.abt_machine.specs.declared.workload.Parts.{Parts}
use Rattle.abt_machine.specs.Events.{After, May}
use Rattle.abt_machine.specs.Lines.{InPool, standing}
use Rattle.abt_machine.specs.Rounds.{OrdersStored}
use Rattle.abt_machine.specs.Runs.{Run, last_state}
use Rattle.abt_machine.specs.Sound.{Sound}
use Rattle.abt_machine.specs.State.{State}
use Rattle.abt_machine.specs.Valid.{IsValid}
use Rattle.abt_machine.specs.Workloads.{kind_of, op_at}

-- who stands in pool p, in order of arrival
abbrev pub pooled : Parts → State → ℕ → List ℕ
pooled W S p = standing W S (InPool p)

-- an operation, with its code, by which a unit yields to u
abbrev pub yields_to : ℕ → Option Op → Code → Bool
yields_to u (Some (op.YieldTo v p)) code.Ok = v.0 == u
yields_to u _ _ = false

-- by this event u leaves its pool: a stream takes it, or a unit yields to it
abbrev pub is_taken : Parts → ℕ → What → Bool
is_taken W u (what.Take p v) = v.0 == u
is_taken W u (what.Step v k c) = yields_to u (op_at W v.0 k) c
is_taken W u _ = false

-- in a journal u leaves its pool
abbrev pub taken_in : Parts → ℕ → List Event → Bool
taken_in W u [] = false
taken_in W u (e ∷ es) = if is_taken W u e.what then true else taken_in W u es

-- by this event a stream takes a unit from pool p
abbrev pub takes_from : ℕ → What → Bool
takes_from p (what.Take q v) = q.0 == p
takes_from p _ = false

-- how many units streams take from pool p in a journal
abbrev pub takes : ℕ → List Event → ℕ
takes p J = count_by (λ (e : Event). takes_from p e.what) J

-- by every event who is not taken stands on in its order, and whoever comes stands behind the others
abbrev pub EventsKeepPools : Parts → Stored → Type 0
EventsKeepPools W Z = IsValid W → OrdersStored W Z.orders → (S T : State) (e : Event) (p : ℕ) → Sound W Z S → After W Z S e T →
    (us : List ℕ) × (pooled W T p ≡ filter (λ u. not (is_taken W u e.what)) (pooled W S p) ++ us)

-- so it is along a run
abbrev pub PooledKeepOrder : Parts → Stored → Type 0
PooledKeepOrder W Z = IsValid W → OrdersStored W Z.orders → (J K : List Event) (p : ℕ) → Run W Z (J ++ K) →
    (us : List ℕ) × (pooled W (last_state W (J ++ K)) p ≡ filter (λ u. not (taken_in W u K)) (pooled W (last_state W J) p) ++ us)

-- as long as unit u stands in a FIFO pool, a stream takes from it only u itself and those that stood before u: nobody who comes later comes before
abbrev pub TakenInOrder : Parts → Stored → Type 0
TakenInOrder W Z = IsValid W → OrdersStored W Z.orders → (J K : List Event) (s u : ℕ) (xs ys : List ℕ) (p : PoolNo) (v : UnitNo) → kind_of W p.0 ≡ kind.Fifo → Run W Z (J ++ K) →
    pooled W (last_state W J) p.0 ≡ xs ++ u ∷ ys → taken_in W u K ≡ false → May W Z (last_state W (J ++ K)) s (what.Take p v) → (v.0 ≡ u) ⊎ Contains xs v.0

-- and no more than stood before u: a unit behind k others is the one of take k + 1 at the latest
abbrev pub FewAreBefore : Parts → Stored → Type 0
FewAreBefore W Z = IsValid W → OrdersStored W Z.orders → (J K : List Event) (p u : ℕ) (xs ys : List ℕ) → kind_of W p ≡ kind.Fifo → Run W Z (J ++ K) →
    pooled W (last_state W J) p ≡ xs ++ u ∷ ys → taken_in W u K ≡ false → takes p K ≤ length xs
