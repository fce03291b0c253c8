-- What each unit waits for in a state.
use Rattle.std.specs.Prelude.{ℕ, if◌then◌else◌, Bool, ◌==◌, List, [], ◌∷◌, length, map, Option, Some, None, option_map}
use Rattle.std.specs.List.{filter, list_any, range_with_len}
use Rattle.abt_machine.specs.declared.events.Shown.{Shown}
use Rattle.abt_machine.specs.declared.events.Shown.TheVariants as shows
use Rattle.abt_machine.specs.declared.events.Wish.{Wish}
use Rattle.abt_machine.specs.declared.events.Wish.TheVariants as wish
use Rattle.abt_machine.specs.declared.numbers.ObjectNo.{ObjectNo}
use Rattle.abt_machine.specs.declared.numbers.UnitNo.{UnitNo}
use Rattle.abt_machine.specs.declared.operations.Thing.{Thing}
use Rattle.abt_machine.specs.declared.operations.Thing.TheVariants as thing
use Rattle.abt_machine.specs.declared.workload.Parts.{Parts}
use Rattle.abt_machine.specs.Holders.{reads}
use Rattle.abt_machine.specs.Lines.{Waiting, standing}
use Rattle.abt_machine.specs.Numbers.{unit_no}
use Rattle.abt_machine.specs.RwLocks.{wants_to_read}
use Rattle.abt_machine.specs.State.{RwLock, State}
use Rattle.abt_machine.specs.Texts.{shown}
use Rattle.abt_machine.specs.Workloads.{main_of, pools_of, thing_at}
use Rattle.abt_why.specs.declared.waits.Awaited.{Awaited}
use Rattle.abt_why.specs.declared.waits.Holders.{Holders}
use Rattle.abt_why.specs.declared.waits.Holders.TheVariants as held
use Rattle.abt_why.specs.declared.waits.Wait.{Wait}
use Rattle.abt_why.specs.declared.waits.Wait.TheVariants as wait

-- unit v, for which another waits, and where it is
abbrev pub awaited : State → ℕ → Awaited
awaited S v = record { unit = unit_no v; shown = shown (S.place v) }

-- what unit u wants that waits at the lock
abbrev pub wish_of : RwLock → ℕ → Wish
wish_of lock u = if wants_to_read lock.wishes u then wish.Read else wish.Write

-- the units that read, in order of number
abbrev pub readers_of : Parts → RwLock → List UnitNo
readers_of W lock = map unit_no (filter (λ v. reads v lock) (range_with_len 0 (length W.units)))

-- who holds a lock that these units read; where a unit of that number is, this says
abbrev pub readers_as : (ℕ → Awaited) → List UnitNo → Holders
readers_as where_is (v ∷ []) = held.Reader (where_is v.0)
readers_as where_is vs = held.Readers vs

-- who holds a lock that this unit writes, if there is one, or that these read
abbrev pub holders_as : (ℕ → Awaited) → Option ℕ → List UnitNo → Holders
holders_as where_is (Some v) readers = held.Writer (where_is v)
holders_as where_is None readers = readers_as where_is readers

-- the main scheduler of stream s lists pool p
abbrev pub main_lists : Parts → ℕ → ℕ → Bool
main_lists W p s = list_any (λ q. q == p) (pools_of W (main_of W s))

-- a main scheduler lists pool p
abbrev pub is_listed : Parts → ℕ → Bool
is_listed W p = list_any (main_lists W p) (range_with_len 0 W.streams)

-- what unit u waits for at object x, which is this thing
abbrev pub wait_at : Parts → State → ℕ → ObjectNo → Option Thing → Wait
wait_at W S u x None = wait.Nothing
wait_at W S u x (Some thing.Mutex) = wait.Mutex x (option_map (awaited S) (S.mutex x.0).owner)
wait_at W S u x (Some (thing.Cond m)) = wait.Condition x m
wait_at W S u x (Some thing.Eventual) = wait.Eventual x
wait_at W S u x (Some (thing.Future n c)) = wait.Future x (S.future x.0).filled n
wait_at W S u x (Some (thing.Barrier n)) = wait.Barrier x (length (standing W S (Waiting x.0))) n
wait_at W S u x (Some thing.RwLock) =
    wait.RwLock x (wish_of (S.rwlock x.0) u) (holders_as (awaited S) (S.rwlock x.0).writer (readers_of W (S.rwlock x.0)))

-- what unit u waits for, which is there
abbrev pub wait_where : Parts → State → ℕ → Shown → Wait
wait_where W S u shows.Unborn = wait.Nothing
wait_where W S u (shows.Pool p) = wait.Pool p (is_listed W p.0)
wait_where W S u (shows.Stream s) = wait.Stream s
wait_where W S u shows.Suspended = wait.Resume
wait_where W S u (shows.Join v) = wait.Join (awaited S v.0)
wait_where W S u (shows.Object x) = wait_at W S u x (thing_at W x.0)
wait_where W S u (shows.Ended c) = wait.Nothing

-- what unit u waits for
abbrev pub wait_of : Parts → State → ℕ → Wait
wait_of W S u = wait_where W S u (shown (S.place u))

-- what each unit waits for, in order of number
abbrev pub waits_in : Parts → State → List Wait
waits_in W S = map (wait_of W S) (range_with_len 0 (length W.units))
