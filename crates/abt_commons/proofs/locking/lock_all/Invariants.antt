-- The objects that left the room are behind locks.
use Rattle.std.proofs.Common.{◌≡◌, ◌+◌, ◌≤◌, ◌++◌, map, reverse, length, vec_capacity, vec_len}
use Rattle.std.specs.List.{All}
use Rattle.abt_booth.specs.Seats.{opening_of, seats_of}
use Rattle.abt_commons.specs.Locking.{AreDealt}
use Rattle.abt_commons.proofs.locking.lock_all.Given as goal

abbrev pub invariant-loop-one : goal.invariant-loop-one
invariant-loop-one l = record {
  dealt : AreDealt l.booths.items (length l.room.items) l.streams l.passes;
  seated : All (λ booth. seats_of booth ≡ l.streams) l.booths.items;
  objects : map opening_of l.booths.items ++ reverse l.room.items ≡ map opening_of l.initial.booths.items ++ reverse l.initial.room.items;
  room : vec_capacity l.room ≡ vec_capacity l.initial.room;
  place : length l.booths.items + length l.room.items ≤ vec_capacity l.booths;
}

abbrev pub decreases-loop-one : goal.decreases-loop-one
decreases-loop-one l = vec_len l.room
