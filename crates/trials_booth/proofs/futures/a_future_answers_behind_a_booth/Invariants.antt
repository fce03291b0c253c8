use Rattle.abt_booth.specs.Seats.{IsSeatOf}
use Rattle.trials_booth.proofs.futures.a_future_answers_behind_a_booth.Given as goal

abbrev pub invariant-loop-act : goal.invariant-loop-act
invariant-loop-act g l = IsSeatOf l.booth l.seat
