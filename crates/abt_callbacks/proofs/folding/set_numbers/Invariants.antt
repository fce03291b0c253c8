use Rattle.std.proofs.Common.{◌≡◌, ◌≤◌}
use Rattle.abt_booth.specs.Seats.{number_of, seen_of, IsSeatOf}
use Rattle.booth_caller.specs.Calling.{AsksMore}
use Rattle.abt_callbacks.specs.Runs.{sets_of}
use Rattle.abt_callbacks.proofs.folding.set_numbers.Given as goal

abbrev pub invariant-loop-below : goal.invariant-loop-below
invariant-loop-below g l = record {
  seat : IsSeatOf l.fn.booth l.seat;
  bound : l.below ≤ l.n;
  number : number_of l.seat ≡ number_of l.initial.seat;
  asked : AsksMore (number_of l.initial.seat) (sets_of l.workers l.below l.worker) (seen_of l.initial.seat) (seen_of l.seat);
}
