-- The three numbers that bound a run in which nobody waits.
use Rattle.std.specs.Prelude.{ℕ, ◌≡◌, ◌<◌, ◌+◌, ◌-◌, ◌≢◌, true, not, List, [], ◌∷◌, length, count_by, sum_by, Option, Some, None}
use Rattle.abt_machine.specs.declared.events.Event.{Event}
use Rattle.abt_machine.specs.declared.events.Place.{Place}
use Rattle.abt_machine.specs.declared.events.Place.TheVariants as place
use Rattle.abt_machine.specs.declared.events.Spot.TheVariants as spot
use Rattle.abt_machine.specs.declared.events.What.{What}
use Rattle.abt_machine.specs.declared.events.What.TheVariants as what
use Rattle.abt_machine.specs.declared.workload.Parts.{Parts}
use Rattle.abt_machine.specs.State.{State, Stream, Frame, Mark, Plain, Asked, Left, Exited}
use Rattle.abt_machine.specs.Sound.{frames_of}
use Rattle.abt_machine.specs.Outcomes.{steps_of}
use Rattle.abt_machine.specs.Lives.{count_up}

-- the steps that are left to all streams after a journal, if each may make n
abbrev pub steps_left : Parts → ℕ → List Event → ℕ
steps_left W n J = sum_by (λ s. n - steps_of s J) (count_up W.streams)

-- how far a unit in a hand with this mark is from its end
abbrev pub hand_weight : Mark → ℕ
hand_weight Plain = 3
hand_weight Asked = 3
hand_weight Left = 1
hand_weight Exited = 3

-- how far a unit at this place is from its end
abbrev pub place_weight : State → Place → ℕ
place_weight S place.Unborn = 0
place_weight S (place.Pool p t) = 5
place_weight S (place.Hand s) = hand_weight (S.stream s.0).mark
place_weight S (place.Next s) = 4
place_weight S (place.Tray s t) = 6
place_weight S (place.Frame s d) = 2
place_weight S (place.Blocked spot.Suspended t) = 0
place_weight S (place.Blocked (spot.Join v) t) = 6
place_weight S (place.Blocked (spot.Object x) t) = 0
place_weight S (place.Ended c) = 0

-- a request to migrate adds the weight of the way by the tray
abbrev pub request_weight : Option ℕ → ℕ
request_weight None = 0
request_weight (Some p) = 3

abbrev pub unit_weight : State → ℕ → ℕ
unit_weight S u = place_weight S (S.place u) + request_weight (S.desk u).migrate

-- the sum of the units' weights
abbrev pub state_weight : Parts → State → ℕ
state_weight W S = sum_by (unit_weight S) (count_up (length W.units))

-- the frames but the last, which is the main scheduler's
abbrev pub stacked : List Frame → List Frame
stacked [] = []
stacked (f ∷ []) = []
stacked (f ∷ g ∷ fs) = f ∷ stacked (g ∷ fs)

-- the stacked frames of a stream whose last round did not end empty
abbrev pub open_frames_of : Stream → ℕ
open_frames_of own = count_by (λ (f : Frame). not f.empty) (stacked (frames_of own))

abbrev pub open_frames : Parts → State → ℕ
open_frames W S = sum_by (λ s. open_frames_of (S.stream s)) (count_up W.streams)

-- the round of a stacked frame of stream s ended empty
abbrev pub EndsStacked : ℕ → State → Type 0
EndsStacked s T = ((T.stream s).below ≢ []) × ((T.stream s).top.empty ≡ true)

-- by an event of stream s from S to T the second number falls, or for a miss stays; the third falls if a stacked frame's round ends empty, and stays at every other miss
abbrev pub FallsBy : Parts → ℕ → What → State → State → Type 0
FallsBy W s (what.Miss p) S T = (state_weight W T ≡ state_weight W S) × (EndsStacked s T → open_frames W T < open_frames W S) × ((EndsStacked s T → ⊥) → open_frames W T ≡ open_frames W S)
FallsBy W s (what.Step u k c) S T = Unit {0}
FallsBy W s (what.Call u k n) S T = Unit {0}
FallsBy W s (what.Take p u) S T = state_weight W T < state_weight W S
FallsBy W s (what.Look u) S T = state_weight W T < state_weight W S
FallsBy W s (what.Put u p) S T = state_weight W T < state_weight W S
FallsBy W s (what.End u c) S T = state_weight W T < state_weight W S
FallsBy W s (what.Enter u) S T = state_weight W T < state_weight W S
FallsBy W s (what.Leave u) S T = state_weight W T < state_weight W S
