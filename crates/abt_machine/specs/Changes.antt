-- What an event changes: new values at some numbers of each part of the state. Of two values at one number the later one counts.
use Rattle.std.specs.Prelude.{ℕ, suc, List, [], ◌∷◌, Option}
use Rattle.abt_machine.specs.declared.events.Place.{Place}
use Rattle.abt_machine.specs.declared.events.Place.TheVariants as place
use Rattle.abt_machine.specs.declared.events.Spot.TheVariants as spot
use Rattle.abt_machine.specs.declared.workload.Parts.{Parts}
use Rattle.abt_machine.specs.Numbers.{stream_no, object_no}
use Rattle.abt_machine.specs.Maps.{put_all}
use Rattle.abt_machine.specs.Lines.{tray_end}
use Rattle.abt_machine.specs.Carrying.{advanced}
use Rattle.abt_machine.specs.State.{State, Stream, Carried, Desk, Mutex, Future, RwLock}

pub record Change : Type 0 where
  pub moves : List (ℕ × Place)
  pub carried : List (ℕ × Carried)
  pub desks : List (ℕ × Desk)
  pub pool_next : List (ℕ × ℕ)
  pub join_next : List (ℕ × ℕ)
  pub object_next : List (ℕ × ℕ)
  pub mutexes : List (ℕ × Mutex)
  pub eventuals : List (ℕ × Option ℕ)
  pub futures : List (ℕ × Future)
  pub rwlocks : List (ℕ × RwLock)
  pub streams : List (ℕ × Stream)

abbrev pub no_change : Change
no_change = record { moves = []; carried = []; desks = []; pool_next = []; join_next = []; object_next = []; mutexes = []; eventuals = []; futures = []; rwlocks = []; streams = [] }

abbrev pub changed : State → Change → State
changed S c = record {
  place = put_all S.place c.moves;
  carried = put_all S.carried c.carried;
  desk = put_all S.desk c.desks;
  pool_next = put_all S.pool_next c.pool_next;
  join_next = put_all S.join_next c.join_next;
  object_next = put_all S.object_next c.object_next;
  mutex = put_all S.mutex c.mutexes;
  eventual = put_all S.eventual c.eventuals;
  future = put_all S.future c.futures;
  rwlock = put_all S.rwlock c.rwlocks;
  stream = put_all S.stream c.streams;
}

-- these units to the tray of s, in order, with numbers from i
abbrev pub tray_moves : ℕ → ℕ → List ℕ → List (ℕ × Place)
tray_moves s i [] = []
tray_moves s i (u ∷ us) = (u, place.Tray (stream_no s) i) ∷ tray_moves s (suc i) us

-- these units to the end of the tray of s, in order
abbrev pub to_tray : Parts → State → ℕ → List ℕ → List (ℕ × Place)
to_tray W S s us = tray_moves s (tray_end W S s) us

-- these units behind those that wait at object x, in order, with tickets from t
abbrev pub waiting_moves : ℕ → ℕ → List ℕ → List (ℕ × Place)
waiting_moves x t [] = []
waiting_moves x t (u ∷ us) = (u, place.Blocked (spot.Object (object_no x)) t) ∷ waiting_moves x (suc t) us

-- unit u goes on to its next operation, with this to carry
abbrev pub goes_with : ℕ → Carried → Change
goes_with u c = record no_change { carried = (u, advanced c) ∷ [] }

-- unit u goes on to its next operation
abbrev pub goes_on : State → ℕ → Change
goes_on S u = goes_with u (S.carried u)
