-- Lines: where units stand in an order.
use Rattle.std.specs.Prelude.{ℕ, suc, ◌==◌, if◌then◌else◌, List, length, Option, Some, None}
use Rattle.abt_machine.specs.declared.events.Place.{Place}
use Rattle.abt_machine.specs.declared.events.Place.TheVariants as place
use Rattle.abt_machine.specs.declared.events.Spot.TheVariants as spot
use Rattle.abt_machine.specs.declared.workload.Parts.{Parts}
use Rattle.abt_machine.specs.Queues.{queue, first, last}
use Rattle.abt_machine.specs.State.{State}

-- the units in a pool, in a stream's tray, hand, Next and frames, those that join a unit, and those that wait at an object
pub data Line : Type 0 where
  InPool : ℕ → Line
  InTray : ℕ → Line
  InHand : ℕ → Line
  InNext : ℕ → Line
  InFrames : ℕ → Line
  Joining : ℕ → Line
  Waiting : ℕ → Line

abbrev pub if_same : ℕ → ℕ → ℕ → Option ℕ
if_same a b t = if a == b then Some t else None

-- the ticket that a place has in a line, if it is in that line
abbrev pub ticket_in : Line → Place → Option ℕ
ticket_in (InPool p) (place.Pool q t) = if_same q.0 p t
ticket_in (InTray s) (place.Tray r t) = if_same r.0 s t
ticket_in (InHand s) (place.Hand r) = if_same r.0 s 0
ticket_in (InNext s) (place.Next r) = if_same r.0 s 0
ticket_in (InFrames s) (place.Frame r d) = if_same r.0 s d
ticket_in (Joining v) (place.Blocked (spot.Join w) t) = if_same w.0 v t
ticket_in (Waiting x) (place.Blocked (spot.Object y) t) = if_same y.0 x t
ticket_in _ _ = None

-- who stands in a line, in order of rising ticket
abbrev pub standing : Parts → State → Line → List ℕ
standing W S l = queue (λ u. ticket_in l (S.place u)) (length W.units)

-- the unit in hand, and the unit that was taken and not yet looked at
abbrev pub hand : Parts → State → ℕ → Option ℕ
hand W S s = first (standing W S (InHand s))

abbrev pub next : Parts → State → ℕ → Option ℕ
next W S s = first (standing W S (InNext s))

abbrev pub end_of : Option ℕ → ℕ
end_of None = 0
end_of (Some t) = suc t

abbrev pub end_from : State → Line → Option ℕ → ℕ
end_from S l None = 0
end_from S l (Some u) = end_of (ticket_in l (S.place u))

-- one more than the greatest number of a tray, 0 if it is empty
abbrev pub tray_end : Parts → State → ℕ → ℕ
tray_end W S s = end_from S (InTray s) (last (standing W S (InTray s)))
