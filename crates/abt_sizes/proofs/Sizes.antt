-- How many events other than misses a unit may still have before its next step.
use Rattle.std.proofs.Common.{◌≡◌, ◌≢◌, ℕ, zero, suc, ◌<◌, ◌≤◌, ◌+◌, ◌*◌, Bool, true, false, length, Option, Some, None, refl, sym, ◌∙◌, ap, subst, arith, inl, inr}
use Rattle.std.proofs.lemmas.Bool.{cases_eq}
use Rattle.abt_machine.specs.declared.events.Place.{Place}
use Rattle.abt_machine.specs.declared.events.Place.TheVariants as place
use Rattle.abt_machine.specs.declared.numbers.StreamNo.{StreamNo}
use Rattle.abt_machine.specs.declared.workload.Parts.{Parts}
use Rattle.abt_machine.specs.State.{Asked, Desk, Exited, Left, Mark, Plain, State}
use Rattle.abt_machine.specs.Workloads.{body_at, is_sched}
use Rattle.abt_laws.specs.Measure.{request_weight}
use Rattle.abt_laws.proofs.Sums.{sum_up, sum_up-falls-at, sum_up-rises, sum_up-suc}
use Rattle.abt_bounds.proofs.Counting.{one_if}

-- a scheduler unit's entry and leave
abbrev pub extra : Bool → ℕ
extra true = 2
extra false = 0

-- a unit in a hand with this mark
abbrev pub hand_size : Bool → Mark → ℕ
hand_size false m = 1
hand_size true Plain = 3
hand_size true Asked = 3
hand_size true Left = 1
hand_size true Exited = 3

-- a unit at this place, with these marks of the streams; whether it is a scheduler comes first
abbrev pub place_size : Bool → (ℕ → Mark) → Place → ℕ
place_size b marks place.Unborn = 0
place_size b marks (place.Pool p t) = 3 + extra b
place_size b marks (place.Hand s) = hand_size b (marks s.0)
place_size b marks (place.Next s) = 2 + extra b
place_size b marks (place.Tray s t) = 4 + extra b
place_size b marks (place.Frame s d) = 2
place_size b marks (place.Blocked x t) = 4 + extra b
place_size b marks (place.Ended c) = 0

abbrev pub marks_of : State → ℕ → Mark
marks_of S s = (S.stream s).mark

-- whether a unit is a scheduler
abbrev pub sched_at : Parts → ℕ → Bool
sched_at W u = is_sched (body_at W u)

-- a request to migrate adds the way by the tray
abbrev pub unit_size : Parts → State → ℕ → ℕ
unit_size W S u = place_size (sched_at W u) (marks_of S) (S.place u) + request_weight (S.desk u).migrate

-- of all units
abbrev pub state_size : Parts → State → ℕ
state_size W S = sum_up (unit_size W S) (length W.units)

pub extra-most : (b : Bool) → extra b ≤ 2
extra-most true = omega arith
extra-most false = omega arith

pub extra-twice : (b : Bool) → extra b ≡ 2 * one_if b
extra-twice true = refl
extra-twice false = refl

pub hand-some : (b : Bool) (m : Mark) → 0 < hand_size b m
hand-some false m = omega arith
hand-some true Plain = omega arith
hand-some true Asked = omega arith
hand-some true Left = omega arith
hand-some true Exited = omega arith

pub hand-most : (b : Bool) (m : Mark) → hand_size b m ≤ 1 + extra b
hand-most false m = omega arith
hand-most true Plain = omega arith
hand-most true Asked = omega arith
hand-most true Left = omega arith
hand-most true Exited = omega arith

pub left-size : (b : Bool) → hand_size b Left ≡ 1
left-size true = refl
left-size false = refl

pub request-most : (o : Option ℕ) → request_weight o ≤ 3
request-most None = omega arith
request-most (Some p) = omega arith

-- Units that stay.

pub place_size-kept : (b : Bool) (old new : ℕ → Mark) (at : Place) → ((r : StreamNo) → at ≡ place.Hand r → new r.0 ≡ old r.0) → place_size b new at ≡ place_size b old at
place_size-kept b old new (place.Hand r) marks = ap (hand_size b) (marks r refl)
place_size-kept b old new _ marks = refl

pub unit_size-kept : (W : Parts) (S T : State) (v : ℕ) → T.place v ≡ S.place v → T.desk v ≡ S.desk v → ((r : StreamNo) → S.place v ≡ place.Hand r → marks_of T r.0 ≡ marks_of S r.0) → unit_size W T v ≡ unit_size W S v
unit_size-kept W S T v stays desk marks =
    let places : place_size (sched_at W v) (marks_of T) (T.place v) ≡ place_size (sched_at W v) (marks_of S) (S.place v) =
    ap (place_size (sched_at W v) (marks_of T)) stays ∙ place_size-kept (sched_at W v) (marks_of S) (marks_of T) (S.place v) marks in
    let requests : request_weight (T.desk v).migrate ≡ request_weight (S.desk v).migrate = ap (λ (d : Desk). request_weight d.migrate) desk in omega arith

-- All units.

-- one has less, and each other as much
pub size-falls : (W : Parts) (S T : State) (u : ℕ) → u < length W.units → unit_size W T u < unit_size W S u → ((v : ℕ) → v ≢ u → unit_size W T v ≡ unit_size W S v) → state_size W T < state_size W S
size-falls W S T u declared less others = sum_up-falls-at (unit_size W T) (unit_size W S) (length W.units) u declared less others

sum-grows : (f g : ℕ → ℕ) (k u n : ℕ) → g u ≤ f u + k → ((v : ℕ) → v ≢ u → g v ≤ f v) → sum_up g n ≤ sum_up f n + k
sum-grows f g k u zero own others = omega arith
sum-grows f g k u (suc n) own others =
    elim (cases_eq n u) [
      | inl same ↦
          let rest : sum_up g n ≤ sum_up f n = sum_up-rises g f n (λ v l. others v (λ e. (let x : v ≡ n = subst (λ w. v ≡ w) (sym same) e in absurd (omega arith)))) in
          let now : g n ≤ f n + k = subst (λ w. g w ≤ f w + k) (sym same) own in omega (arith, sum_up-suc f n, sum_up-suc g n)
      | inr other ↦
          let now : g n ≤ f n = others n other in
          let rest : sum_up g n ≤ sum_up f n + k = sum-grows f g k u n own others in omega (arith, sum_up-suc f n, sum_up-suc g n)
    ]

-- one has at most so many more, and each other at most as much
pub size-grows : (W : Parts) (S T : State) (k u : ℕ) → unit_size W T u ≤ unit_size W S u + k → ((v : ℕ) → v ≢ u → unit_size W T v ≤ unit_size W S v) → state_size W T ≤ state_size W S + k
size-grows W S T k u own others = sum-grows (unit_size W S) (unit_size W T) k u (length W.units) own others

pub size-kept : (W : Parts) (S T : State) → ((v : ℕ) → unit_size W T v ≡ unit_size W S v) → state_size W T ≤ state_size W S
size-kept W S T same = sum_up-rises (unit_size W T) (unit_size W S) (length W.units) (λ v l. (let e : unit_size W T v ≡ unit_size W S v = same v in omega arith))
