-- What each unit waits for, by a picture of the units and what objects hold.
use Rattle.std.specs.Prelude.{ℕ, List, length, map, Option, Some, None, option_map, slice_get}
use Rattle.std.specs.List.{range_with_len}
use Rattle.abt_machine.specs.declared.events.Shown.{Shown}
use Rattle.abt_machine.specs.declared.events.Shown.TheVariants as shows
use Rattle.abt_machine.specs.declared.numbers.ObjectNo.{ObjectNo}
use Rattle.abt_machine.specs.declared.operations.Thing.{Thing}
use Rattle.abt_machine.specs.declared.operations.Thing.TheVariants as thing
use Rattle.abt_machine.specs.declared.workload.Parts.{Parts}
use Rattle.abt_machine.specs.Numbers.{unit_no}
use Rattle.abt_machine.specs.Values.{Object, MonitorIs, EventualIs, FutureIs, BarrierIs, RwLockIs}
use Rattle.abt_machine.specs.Workloads.{thing_at}
use Rattle.abt_report.specs.declared.pictures.Row.{Row}
use Rattle.abt_why.specs.declared.waits.Awaited.{Awaited}
use Rattle.abt_why.specs.declared.waits.Wait.{Wait}
use Rattle.abt_why.specs.declared.waits.Wait.TheVariants as wait
use Rattle.abt_why.specs.Waits.{holders_as, is_listed, readers_of, wish_of}

-- where a row shows its unit
abbrev pub shown_by : Option Row → Shown
shown_by None = shows.Unborn
shown_by (Some row) = row.shown

-- where the picture shows unit v
abbrev pub shown_in : List Row → ℕ → Shown
shown_in rows v = shown_by (slice_get rows v)

-- unit v, for which another waits, and where the picture shows it
abbrev pub awaited_in : List Row → ℕ → Awaited
awaited_in rows v = record { unit = unit_no v; shown = shown_in rows v }

-- what unit u waits for at object x, which holds this
abbrev pub wait_by : Parts → List Row → ℕ → ObjectNo → Option Object → Wait
wait_by W rows u x (Some (MonitorIs m)) = wait.Mutex x (option_map (awaited_in rows) m.owner)
wait_by W rows u x (Some (EventualIs e)) = wait.Eventual x
wait_by W rows u x (Some (FutureIs f)) = wait.Future x f.filled f.size
wait_by W rows u x (Some (BarrierIs b)) = wait.Barrier x (length b.waiters) b.size
wait_by W rows u x (Some (RwLockIs l)) = wait.RwLock x (wish_of l.lock u) (holders_as (awaited_in rows) l.lock.writer (readers_of W l.lock))
wait_by W rows u x o = wait.Nothing

-- the same by the thing that object x is, and what it holds; a condition holds nothing of its own
abbrev pub wait_as : Parts → List Row → ℕ → ObjectNo → Option Thing → Option Object → Wait
wait_as W rows u x None o = wait.Nothing
wait_as W rows u x (Some (thing.Cond m)) o = wait.Condition x m
wait_as W rows u x t o = wait_by W rows u x o

-- what unit u waits for, which is shown there
abbrev pub wait_shown : Parts → List Object → List Row → ℕ → Shown → Wait
wait_shown W slots rows u shows.Unborn = wait.Nothing
wait_shown W slots rows u (shows.Pool p) = wait.Pool p (is_listed W p.0)
wait_shown W slots rows u (shows.Stream s) = wait.Stream s
wait_shown W slots rows u shows.Suspended = wait.Resume
wait_shown W slots rows u (shows.Join v) = wait.Join (awaited_in rows v.0)
wait_shown W slots rows u (shows.Object x) = wait_as W rows u x (thing_at W x.0) (slice_get slots x.0)
wait_shown W slots rows u (shows.Ended c) = wait.Nothing

-- what each unit waits for, in order of number
abbrev pub waits_held : Parts → List Object → List Row → List Wait
waits_held W slots rows = map (λ u. wait_shown W slots rows u (shown_in rows u)) (range_with_len 0 (length W.units))
