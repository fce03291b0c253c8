-- Whether an operation goes through, or why it is refused: the first code that holds.
use Rattle.std.specs.Prelude.{ℕ, ◌==◌, if◌then◌else◌, Bool, true, false, not, is_none, nat_lt, Option, Some, None}
use Rattle.abt_machine.specs.declared.events.Code.{Code}
use Rattle.abt_machine.specs.declared.events.Code.TheVariants as code
use Rattle.abt_machine.specs.declared.events.Place.{Place}
use Rattle.abt_machine.specs.declared.events.Place.TheVariants as place
use Rattle.abt_machine.specs.declared.events.Spot.TheVariants as spot
use Rattle.abt_machine.specs.declared.operations.Op.{Op}
use Rattle.abt_machine.specs.declared.operations.Op.TheVariants as op
use Rattle.abt_machine.specs.declared.workload.Parts.{Parts}
use Rattle.abt_machine.specs.Workloads.{body_at, is_sched, mutex_of, size_of}
use Rattle.abt_machine.specs.Access.{may_reach}
use Rattle.abt_machine.specs.Fronts.{is_some_of}
use Rattle.abt_machine.specs.Holders.{count_of, holds, read_limit, writes}
use Rattle.abt_machine.specs.State.{State}

abbrev pub is_unborn : Place → Bool
is_unborn place.Unborn = true
is_unborn _ = false

abbrev pub is_ended : Place → Bool
is_ended (place.Ended c) = true
is_ended _ = false

-- neither unborn nor ended
abbrev pub is_alive : Place → Bool
is_alive place.Unborn = false
is_alive (place.Ended c) = false
is_alive _ = true

abbrev pub is_suspended : Place → Bool
is_suspended (place.Blocked spot.Suspended t) = true
is_suspended _ = false

abbrev pub is_in_pool : ℕ → Place → Bool
is_in_pool p (place.Pool q t) = q.0 == p
is_in_pool p _ = false

abbrev pub owned_by : State → ℕ → ℕ → Bool
owned_by S u x = is_some_of u (S.mutex x).owner

-- all compartments of a future are filled
abbrev pub is_full : Parts → State → ℕ → Bool
is_full W S x = (S.future x).filled == size_of W x

-- the code if the test fails, else what follows
abbrev pub unless : Bool → Code → Code → Code
unless test c rest = if test then rest else c

-- the code of an operation of unit u, if the stream may reach the pool that it names
abbrev pub reached_code : Parts → State → ℕ → Op → Code
reached_code W S u (op.Set n) = code.Ok
reached_code W S u (op.Add n) = code.Ok
reached_code W S u (op.Say w) = code.Ok
reached_code W S u op.Print = code.Ok
reached_code W S u (op.KeySet k) = code.Ok
reached_code W S u (op.KeyGet k) = code.Ok
reached_code W S u op.Yield = code.Ok
reached_code W S u (op.YieldTo v p) = unless (is_in_pool p.0 (S.place v.0)) code.Absent code.Ok
reached_code W S u op.Suspend = code.Ok
reached_code W S u op.Exit = code.Ok
reached_code W S u (op.Resume v) = unless (is_suspended (S.place v.0)) code.UnitState code.Ok
reached_code W S u (op.Create v p) = unless (is_unborn (S.place v.0)) code.Exists code.Ok
reached_code W S u (op.Join v) = code.Ok
reached_code W S u (op.Cancel v) = unless (is_alive (S.place v.0)) code.UnitState code.Ok
reached_code W S u (op.Migrate v p) = unless (is_alive (S.place v.0)) code.UnitState (unless (S.desk v.0).migratable code.NotMigratable code.Ok)
reached_code W S u (op.MigrateTo v r) = unless (is_alive (S.place v.0)) code.UnitState (unless (S.desk v.0).migratable code.NotMigratable code.Ok)
reached_code W S u (op.Migratable v b) = unless (not (is_sched (body_at W v.0))) code.NotMigratable code.Ok
reached_code W S u (op.Revive v p) = unless (is_ended (S.place v.0)) code.UnitState code.Ok
reached_code W S u (op.Lock x) = code.Ok
reached_code W S u (op.TryLock x) = unless (is_none (S.mutex x.0).owner) code.MutexLocked code.Ok
reached_code W S u (op.Unlock x) = unless (owned_by S u x.0) code.NotOwner code.Ok
reached_code W S u (op.Load x) = unless (owned_by S u x.0) code.NotOwner code.Ok
reached_code W S u (op.Store x) = unless (owned_by S u x.0) code.NotOwner code.Ok
reached_code W S u (op.CondWait x) = unless (owned_by S u (mutex_of W x.0)) code.NotOwner code.Ok
reached_code W S u (op.Signal x) = code.Ok
reached_code W S u (op.Broadcast x) = code.Ok
reached_code W S u (op.EvWait x) = code.Ok
reached_code W S u (op.EvSet x) = unless (is_none (S.eventual x.0)) code.EventualSet code.Ok
reached_code W S u (op.EvReset x) = code.Ok
reached_code W S u (op.EvTest x) = code.Ok
reached_code W S u (op.FuWait x) = code.Ok
reached_code W S u (op.FuSet x) = unless (not (is_full W S x.0)) code.FutureFull code.Ok
reached_code W S u (op.FuReset x) = code.Ok
reached_code W S u (op.FuTest x) = code.Ok
reached_code W S u (op.BarWait x) = code.Ok
reached_code W S u (op.ReadLock x) = unless (not (writes u (S.rwlock x.0))) code.RwHeld (unless (nat_lt (count_of u (S.rwlock x.0)) read_limit) code.RwFull code.Ok)
reached_code W S u (op.WriteLock x) = unless (not (holds u (S.rwlock x.0))) code.RwHeld code.Ok
reached_code W S u (op.RwUnlock x) = unless (holds u (S.rwlock x.0)) code.NotHolder code.Ok
reached_code W S u (op.RwLoad x) = unless (holds u (S.rwlock x.0)) code.NotHolder code.Ok
reached_code W S u (op.RwStore x) = unless (writes u (S.rwlock x.0)) code.NotHolder code.Ok
reached_code W S u (op.Calc c k) = code.Ok
reached_code W S u (op.Call f) = code.Ok

-- the code of an operation of unit u in the hand of stream s
abbrev pub code_of : Parts → State → ℕ → ℕ → Op → Code
code_of W S s u a = unless (may_reach W s a) code.PoolAccess (reached_code W S u a)

abbrev pub code_at : Parts → State → ℕ → ℕ → Option Op → Code
code_at W S s u None = code.Ok
code_at W S s u (Some o) = code_of W S s u o
