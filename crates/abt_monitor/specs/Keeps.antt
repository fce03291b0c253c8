-- What monitors keep.
use Rattle.std.specs.Prelude.{◌≡◌, [], ◌++◌, None, length}
use Rattle.std.specs.List.{flat_map}
use Rattle.abt_machine.specs.Acts.{Act, Answer}
use Rattle.abt_machine.specs.Monitors.{MonitorGives}
use Rattle.abt_machine.specs.Values.{MonitorValue}
use Rattle.abt_chain.specs.Keeping.{Contents, KeepsWhatFits, only_units}

-- what a monitor holds: who waits for the mutex, and who waits at each of the conditions
abbrev pub contents_of_monitor : MonitorValue → Contents
contents_of_monitor m = only_units (m.waiters ++ flat_map (λ waiters. waiters) m.conds)

abbrev pub MonitorsKeepWhatFits : Type 0
MonitorsKeepWhatFits = KeepsWhatFits contents_of_monitor MonitorGives

-- no call makes or removes a condition
abbrev pub MonitorsKeepTheirConditions : Type 0
MonitorsKeepTheirConditions =
    (old : MonitorValue) (act : Act) (answer : Answer) (new : MonitorValue) → MonitorGives old act answer new → length new.conds ≡ length old.conds

-- if the mutex is free, nobody waits for it
abbrev pub IsServed : MonitorValue → Type 0
IsServed m = m.owner ≡ None → m.waiters ≡ []

-- no call leaves a waiter at a free mutex
abbrev pub FreeMutexesHaveNoWaiters : Type 0
FreeMutexesHaveNoWaiters =
    (old : MonitorValue) (act : Act) (answer : Answer) (new : MonitorValue) → MonitorGives old act answer new → IsServed old → IsServed new
