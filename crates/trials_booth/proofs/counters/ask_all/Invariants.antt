use Rattle.std.proofs.Common.{◌≡◌}
use Rattle.abt_booth.specs.Seats.{number_of, IsSeatOf}
use Rattle.trials_booth.proofs.counters.ask_all.Given as goal

abbrev pub invariant-loop-at : goal.invariant-loop-at
invariant-loop-at g l = record {
  seat : IsSeatOf l.fn.booth l.seat;
  number : number_of l.seat ≡ number_of l.initial.seat;
}
