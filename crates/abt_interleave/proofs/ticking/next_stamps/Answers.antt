-- The next stamp.
use Rattle.abt_interleave.proofs.Ticks.{lasts-are-clocks, next-is-late, next-follows-clock}
use Rattle.abt_interleave.proofs.ticking.next_stamps.Goals as goal

pub returns-clause-lasts : goal.returns-clause-lasts
returns-clause-lasts g c = lasts-are-clocks g.M.AnyMachine.machine

pub returns-clause-late : goal.returns-clause-late
returns-clause-late g c = next-is-late g.M.AnyMachine.machine

pub returns-clause-follows : goal.returns-clause-follows
returns-clause-follows g c = next-follows-clock g.M.AnyMachine.machine
