use Rattle.std.proofs.Common.{◌≡◌, replicate}
use Rattle.abt_booth.specs.Seats.{number_of, seen_of, IsSeatOf}
use Rattle.booth_caller.specs.Calling.{AsksMore}
use Rattle.booth_caller.proofs.counter.add.Given as goal

abbrev pub invariant-loop : goal.invariant-loop
invariant-loop g l = record {
  seat : IsSeatOf l.fn.booth l.seat;
  number : number_of l.seat ≡ number_of l.initial.seat;
  asked : AsksMore (number_of l.initial.seat) (replicate l.counter 1) (seen_of l.initial.seat) (seen_of l.seat);
}
