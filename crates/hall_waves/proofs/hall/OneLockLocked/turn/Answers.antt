-- A turn over a hall is one over its lock.
use Rattle.std.proofs.Common.{subst}
use Rattle.abt_booth.specs.Seats.{opening_of}
use Rattle.abt_commons.specs.Halls.{HallValue, the_lock}
use Rattle.abt_stream.specs.Heeding.{Heeds}
use Rattle.abt_stream.specs.Turned.{Turned}
use Rattle.abt_waves.specs.Locks.{Moves}
use Rattle.hall_waves.specs.HallLocks.{locks_of_hall}
use Rattle.hall_waves.proofs.hall.OneLockLocked.turn.Goals as goal

pub returns-clause-turned : goal.returns-clause-turned
returns-clause-turned g c = λ Z fits stored. subst (λ (h : HallValue). Turned (Heeds (Moves (locks_of_hall h) the_lock) (opening_of h.booth).workload) c.args.w.now Z c.args.stream.now c.args.pass.now c.noted_turn.result c.noted_turn.new.stream c.noted_turn.new.pass)
    c.self.view_is (c.noted_turn.ensures.turned Z fits stored)
