-- Who waits at a monitor.
use Rattle.std.specs.Prelude.{ℕ, List, Option, None, Some}
use Rattle.abt_machine.specs.Monitors.{at_condition, with_condition}
use Rattle.abt_machine.specs.Values.{MonitorValue, Owned}

-- those that wait for the mutex, or at the condition that is given
abbrev pub waiters_of : Option ℕ → MonitorValue → List Owned
waiters_of None m = m.waiters
waiters_of (Some cond) m = at_condition cond m

-- the monitor with these in their place
abbrev pub with_waiters : Option ℕ → List Owned → MonitorValue → MonitorValue
with_waiters None os m = record m { waiters = os }
with_waiters (Some cond) os m = with_condition cond os m
