-- The weights of units, and how they change.
use Rattle.std.proofs.Common.{◌≡◌, ◌≢◌, ℕ, suc, ◌<◌, List, [], ◌∷◌, length, refl, sym, ◌∙◌, ap, subst, arith, inl, inr}
use Rattle.std.proofs.lemmas.Bool.{cases_eq}
use Rattle.abt_machine.specs.declared.events.Place.{Place}
use Rattle.abt_machine.specs.declared.events.Place.TheVariants as place
use Rattle.abt_machine.specs.declared.events.Spot.TheVariants as spot
use Rattle.abt_machine.specs.declared.numbers.StreamNo.{StreamNo}
use Rattle.abt_machine.specs.declared.workload.Parts.{Parts}
use Rattle.abt_machine.specs.Numbers.{stream_no}
use Rattle.abt_machine.specs.Maps.{put_at, put_all}
use Rattle.abt_machine.specs.State.{State, Desk}
use Rattle.abt_machine.specs.Lines.{Line, InPool, InTray, InHand, InNext, InFrames, Joining, Waiting}
use Rattle.abt_machine.specs.Changes.{tray_moves}
use Rattle.abt_laws.specs.Measure.{hand_weight, place_weight, request_weight, unit_weight, state_weight}
use Rattle.abt_laws.proofs.Places.{place_in}
use Rattle.abt_laws.proofs.Standing.{StandsIn}
use Rattle.abt_laws.proofs.Lists.{EachOf, EachOf-then}
use Rattle.abt_laws.proofs.Maps.{put_at-other, put_at-same}
use Rattle.abt_laws.proofs.Sums.{sum_up-falls-at}

-- Who stands in a line.

-- the weight of a unit that stands in a line
abbrev pub line_weight : State → Line → ℕ
line_weight S (InPool p) = 5
line_weight S (InTray s) = 6
line_weight S (InHand s) = hand_weight (S.stream s).mark
line_weight S (InNext s) = 4
line_weight S (InFrames s) = 2
line_weight S (Joining v) = 6
line_weight S (Waiting x) = 0

place_in-weight : (S : State) (l : Line) (t : ℕ) → place_weight S (place_in l t) ≡ line_weight S l
place_in-weight S (InPool p) t = refl
place_in-weight S _ t = refl

pub stands-weight : (W : Parts) (S : State) (l : Line) (u : ℕ) → StandsIn W S l u → place_weight S (S.place u) ≡ line_weight S l
stands-weight W S l u stands = ap (place_weight S) stands.at ∙ place_in-weight S l stands.ticket

-- Units that stay.

-- a place weighs the same if the mark of the hand that it may be is the same
pub place_weight-kept : (S T : State) (at : Place) → ((r : StreamNo) → at ≡ place.Hand r → (T.stream r.0).mark ≡ (S.stream r.0).mark) → place_weight T at ≡ place_weight S at
place_weight-kept S T (place.Hand r) marks = ap hand_weight (marks r refl)
place_weight-kept S T (place.Blocked spot.Suspended t) marks = refl
place_weight-kept S T (place.Blocked (spot.Join v) t) marks = refl
place_weight-kept S T (place.Blocked (spot.Object x) t) marks = refl
place_weight-kept S T _ marks = refl

pub unit_weight-kept : (S T : State) (v : ℕ) → T.place v ≡ S.place v → T.desk v ≡ S.desk v → ((r : StreamNo) → S.place v ≡ place.Hand r → (T.stream r.0).mark ≡ (S.stream r.0).mark) → unit_weight T v ≡ unit_weight S v
unit_weight-kept S T v stays desk marks =
    let places : place_weight T (T.place v) ≡ place_weight S (S.place v) = ap (place_weight T) stays ∙ place_weight-kept S T (S.place v) marks in
    let requests : request_weight (T.desk v).migrate ≡ request_weight (S.desk v).migrate = ap (λ (d : Desk). request_weight d.migrate) desk in
    omega arith

-- the weight falls if that of one unit does, and every other keeps its own
pub weight-falls : (W : Parts) (S T : State) (u : ℕ) → u < length W.units → unit_weight T u < unit_weight S u → ((v : ℕ) → v ≢ u → unit_weight T v ≡ unit_weight S v) → state_weight W T < state_weight W S
weight-falls W S T u declared less others = sum_up-falls-at (unit_weight T) (unit_weight S) (length W.units) u declared less others

-- Units that go to a tray.

put_at-weight : (S : State) (f : ℕ → Place) (u : ℕ) (to : Place) → place_weight S to ≡ place_weight S (f u) → (v : ℕ) → place_weight S (put_at f u to v) ≡ place_weight S (f v)
put_at-weight S f u to same v =
    elim (cases_eq v u) [
      | inl here ↦ subst (λ w. place_weight S (put_at f u to w) ≡ place_weight S (f w)) (sym here) (ap (place_weight S) (put_at-same f u to) ∙ same)
      | inr other ↦ ap (place_weight S) (put_at-other f u to v other)
    ]

-- units that join weigh as much as in a tray
pub tray_moves-weight : (S : State) (s i : ℕ) (us : List ℕ) (f : ℕ → Place) → EachOf (λ v. place_weight S (f v) ≡ 6) us → (v : ℕ) → place_weight S (put_all f (tray_moves s i us) v) ≡ place_weight S (f v)
tray_moves-weight S s i [] f six v = refl
tray_moves-weight S s i (w ∷ ws) f six v =
    let moved : (x : ℕ) → place_weight S (put_at f w (place.Tray (stream_no s) i) x) ≡ place_weight S (f x) = put_at-weight S f w (place.Tray (stream_no s) i) (sym six.0) in
    tray_moves-weight S s (suc i) ws (put_at f w (place.Tray (stream_no s) i)) (EachOf-then (λ x. place_weight S (f x) ≡ 6) _ ws (λ x e. moved x ∙ e) six.1) v ∙ moved v
