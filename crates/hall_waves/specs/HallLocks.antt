-- The one lock of a hall, as the streams of a wave see it.
use Rattle.std.specs.Prelude.{ℕ, max, List, [], ◌∷◌}
use Rattle.abt_booth.specs.declared.booth.Seat.{Seat}
use Rattle.abt_booth.specs.declared.object.Object.{Ghosts}
use Rattle.abt_booth.specs.Seats.{number_of, opening_of, seats_of, seen_of}
use Rattle.abt_commons.specs.declared.acts.Ask.{Ask}
use Rattle.abt_commons.specs.declared.acts.Answer.{Answer}
use Rattle.abt_commons.specs.Halls.{HallValue, hall_line}
use Rattle.abt_commons.specs.Held.{ObjectsValue}
use Rattle.abt_waves.specs.Locks.{LocksValue}

-- the greatest of some clocks, 0 if there is none
abbrev pub greatest : List ℕ → ℕ
greatest [] = 0
greatest (clock ∷ clocks) = max clock (greatest clocks)

-- the clock that is carried to the lock
abbrev pub clock_of_hall : ObjectsValue → Unit {0} → ℕ
clock_of_hall held l = greatest held.clocks

module _ {g : Ghosts ObjectsValue Ask Answer} where
  abbrev pub locks_of_hall : HallValue → LocksValue (Unit {0}) (Seat ObjectsValue Ask Answer g)
  locks_of_hall hall = record {
    objects = opening_of hall.booth;
    streams = seats_of hall.booth;
    carried = λ l. hall.clock;
    number = number_of;
    sights = λ pass l. hall_line (opening_of hall.booth).workload (seen_of pass);
  }
