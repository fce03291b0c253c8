use Rattle.std.proofs.Common.{◌≡◌, ◌++◌, length, map}
use Rattle.std.specs.List.{All}
use Rattle.abt_booth.specs.Seats.{known_of, gathered_of, IsSeatOf, AreGatheredOf}
use Rattle.abt_booth.proofs.booth.Booth.close.Given as goal

abbrev pub invariant-loop-seat : goal.invariant-loop-seat
invariant-loop-seat g l = record {
  left : All (IsSeatOf l.self) l.seats.items;
  gathered : AreGatheredOf l.self l.gathered;
  known : map known_of l.seats.items ++ gathered_of l.gathered ≡ map known_of l.fn.seats.items;
}

abbrev pub decreases-loop-seat : goal.decreases-loop-seat
decreases-loop-seat g l = length l.seats.items
