-- Bounds of the units' weight and of the number of open frames.
use Rattle.std.proofs.Common.{◌≡◌, ℕ, zero, suc, ◌<◌, ◌≤◌, ◌+◌, ◌*◌, ◌==◌, ◌&&◌, ◌||◌, cond, nat_lt, Bool, true, false, List, [], ◌∷◌, length, Option, Some, None, refl, ap, ◌∙◌, arith}
use Rattle.std.specs.Prelude.{not, count_by}
use Rattle.std.proofs.lemmas.Bool.Decides.{nat_tests}
use Rattle.std.proofs.lemmas.List.Sums.{sum_by-cons}
use Rattle.abt_machine.specs.declared.events.Place.{Place}
use Rattle.abt_machine.specs.declared.events.Place.TheVariants as place
use Rattle.abt_machine.specs.declared.events.Spot.TheVariants as spot
use Rattle.abt_machine.specs.declared.grammar.Format.TheVariants as format
use Rattle.abt_machine.specs.Stored.{Stored}
use Rattle.abt_machine.specs.declared.workload.Parts.{Parts}
use Rattle.abt_machine.specs.Limits.{unit_limit}
use Rattle.abt_machine.specs.Numbers.{stream_no}
use Rattle.abt_machine.specs.State.{State, Frame, Mark, Plain, Asked, Left, Exited}
use Rattle.abt_machine.specs.Sound.{Sound}
use Rattle.abt_laws.specs.Measure.{hand_weight, open_frames, open_frames_of, place_weight, request_weight, stacked, unit_weight, state_weight}
use Rattle.abt_laws.proofs.Standing.{is-declared}
use Rattle.abt_laws.proofs.Sums.{sum_up, sum_up-falls, sum_up-most, sum_up-rises, sum_up-suc}
use Rattle.abt_outcomes.specs.Laws.{NumbersAreBounded}

-- The weight.

hand-most : (m : Mark) → hand_weight m ≤ 3
hand-most Plain = omega arith
hand-most Asked = omega arith
hand-most Left = omega arith
hand-most Exited = omega arith

place-most : (S : State) (at : Place) → place_weight S at ≤ 6
place-most S place.Unborn = omega arith
place-most S (place.Pool p t) = omega arith
place-most S (place.Hand s) = (let h : hand_weight (S.stream s.0).mark ≤ 3 = hand-most (S.stream s.0).mark in omega arith)
place-most S (place.Next s) = omega arith
place-most S (place.Tray s t) = omega arith
place-most S (place.Frame s d) = omega arith
place-most S (place.Blocked spot.Suspended t) = omega arith
place-most S (place.Blocked (spot.Join v) t) = omega arith
place-most S (place.Blocked (spot.Object x) t) = omega arith
place-most S (place.Ended c) = omega arith

request-most : (o : Option ℕ) → request_weight o ≤ 3
request-most None = omega arith
request-most (Some p) = omega arith

unit-most : (S : State) (u : ℕ) → unit_weight S u ≤ 9
unit-most S u =
    let a : place_weight S (S.place u) ≤ 6 = place-most S (S.place u) in
    let b : request_weight (S.desk u).migrate ≤ 3 = request-most (S.desk u).migrate in omega arith

weight-most : (W : Parts) (S : State) → state_weight W S ≤ length W.units * 9
weight-most W S = sum_up-most (unit_weight S) 9 (length W.units) (unit-most S)

-- Stacked frames hold units.

-- the place is a frame of a stream below n, or one of the first k of stream n
abbrev is_held : ℕ → ℕ → Place → Bool
is_held n k (place.Frame r d) = nat_lt r.0 n || ((r.0 == n) && nat_lt d k)
is_held n k _ = false

abbrev held : ℕ → ℕ → Place → ℕ
held n k at = cond (is_held n k at) 1 0

truth-rises : (b c : Bool) → (b ≡ true → c ≡ true) → cond {A = ℕ} b 1 0 ≤ cond {A = ℕ} c 1 0
truth-rises true c h = (let e : cond {A = ℕ} c 1 0 ≡ 1 = ap (λ b. cond {A = ℕ} b 1 0) (h refl) in omega arith)
truth-rises false c h = omega arith

truth-one : (b : Bool) → cond {A = ℕ} b 1 0 ≤ 1
truth-one true = omega arith
truth-one false = omega arith

frame-more : (r d n k : ℕ) → (nat_lt r n || ((r == n) && nat_lt d k)) ≡ true → (nat_lt r n || ((r == n) && nat_lt d (suc k))) ≡ true
frame-more r d n k h = grind (arith, nat_tests)

frame-next : (r d n k : ℕ) → (nat_lt r n || ((r == n) && nat_lt d k)) ≡ true → (nat_lt r (suc n) || ((r == suc n) && nat_lt d 0)) ≡ true
frame-next r d n k h = grind (arith, nat_tests)

frame-not : (n k : ℕ) → (nat_lt n n || ((n == n) && nat_lt k k)) ≡ false
frame-not n k = grind (arith, nat_tests)

frame-now : (n k : ℕ) → (nat_lt n n || ((n == n) && nat_lt k (suc k))) ≡ true
frame-now n k = grind (arith, nat_tests)

held-more : (n k : ℕ) (at : Place) → is_held n k at ≡ true → is_held n (suc k) at ≡ true
held-more n k (place.Frame r d) h = frame-more r.0 d n k h
held-more n k _ h = h

held-next : (n k : ℕ) (at : Place) → is_held n k at ≡ true → is_held (suc n) 0 at ≡ true
held-next n k (place.Frame r d) h = frame-next r.0 d n k h
held-next n k _ h = h

-- how many units are held so
abbrev total : Parts → State → ℕ → ℕ → ℕ
total W S n k = sum_up (λ u. held n k (S.place u)) (length W.units)

-- each further frame holds one more
one-stream : (W : Parts) (Z : Stored) (S : State) (n base k : ℕ) → Sound W Z S → k ≤ length (S.stream n).below → base ≤ total W S n 0 → base + k ≤ total W S n k
one-stream W Z S n base zero sound l h = omega arith
one-stream W Z S n base (suc k) sound l h =
    let rest : base + k ≤ total W S n k = one-stream W Z S n base k sound (omega arith) h in
    let has : (u : ℕ) × (S.place u ≡ place.Frame (stream_no n) k) = sound.frames_hold n k l in
    let declared : has.0 < length W.units = is-declared W S sound.undeclared has.0 (place.Frame (stream_no n) k) has.1 (λ e. cc) in
    let was : held n k (S.place has.0) ≡ 0 = ap (held n k) has.1 ∙ ap (λ b. cond {A = ℕ} b 1 0) (frame-not n k) in
    let now : held n (suc k) (S.place has.0) ≡ 1 = ap (held n (suc k)) has.1 ∙ ap (λ b. cond {A = ℕ} b 1 0) (frame-now n k) in
    let less : total W S n k < total W S n (suc k) =
    sum_up-falls (λ u. held n k (S.place u)) (λ u. held n (suc k) (S.place u)) (length W.units) has.0 declared (omega arith)
    (λ u _. truth-rises (is_held n k (S.place u)) (is_held n (suc k) (S.place u)) (held-more n k (S.place u))) in omega arith

all-streams : (W : Parts) (Z : Stored) (S : State) (n : ℕ) → Sound W Z S → sum_up (λ s. length (S.stream s).below) n ≤ total W S n 0
all-streams W Z S zero sound = omega arith
all-streams W Z S (suc n) sound =
    let base : ℕ = sum_up (λ s. length (S.stream s).below) n in
    let k : ℕ = length (S.stream n).below in
    let rest : base + k ≤ total W S n k = one-stream W Z S n base k sound (omega arith) (all-streams W Z S n sound) in
    let next : total W S n k ≤ total W S (suc n) 0 =
    sum_up-rises (λ u. held n k (S.place u)) (λ u. held (suc n) 0 (S.place u)) (length W.units)
    (λ u _. truth-rises (is_held n k (S.place u)) (is_held (suc n) 0 (S.place u)) (held-next n k (S.place u))) in
    omega (arith, sum_up-suc (λ s. length (S.stream s).below) n)

frames-most : (W : Parts) (Z : Stored) (S : State) → Sound W Z S → sum_up (λ s. length (S.stream s).below) W.streams ≤ length W.units
frames-most W Z S sound =
    let a : sum_up (λ s. length (S.stream s).below) W.streams ≤ total W S W.streams 0 = all-streams W Z S W.streams sound in
    let b : total W S W.streams 0 ≤ length W.units * 1 =
    sum_up-most (λ u. held W.streams 0 (S.place u)) 1 (length W.units) (λ u. truth-one (is_held W.streams 0 (S.place u))) in omega arith

-- Open frames are stacked.

open-most : (f : Frame) (fs : List Frame) → count_by (λ (g : Frame). not g.empty) (stacked (f ∷ fs)) ≤ length fs
open-most f [] = omega arith
open-most f (g ∷ fs) =
    let rest : count_by (λ (g : Frame). not g.empty) (stacked (g ∷ fs)) ≤ length fs = open-most g fs in
    let one : cond {A = ℕ} (not f.empty) 1 0 ≤ 1 = truth-one (not f.empty) in
    omega (arith, sum_by-cons (λ (g : Frame). cond {A = ℕ} (not g.empty) 1 0) f (stacked (g ∷ fs)))

open_frames-most : (W : Parts) (Z : Stored) (S : State) → Sound W Z S → open_frames W S ≤ length W.units
open_frames-most W Z S sound =
    let a : open_frames W S ≤ sum_up (λ s. length (S.stream s).below) W.streams =
    sum_up-rises (λ s. open_frames_of (S.stream s)) (λ s. length (S.stream s).below) W.streams (λ s _. open-most (S.stream s).top (S.stream s).below) in
    let b : sum_up (λ s. length (S.stream s).below) W.streams ≤ length W.units = frames-most W Z S sound in omega arith

pub numbers-are-bounded : (W : Parts) (Z : Stored) → NumbersAreBounded W Z
numbers-are-bounded W Z valid S sound =
    let few : length W.units ≤ unit_limit format.Three = valid.few_units in
    let a : state_weight W S ≤ length W.units * 9 = weight-most W S in
    let b : open_frames W S ≤ length W.units = open_frames-most W Z S sound in (omega arith, omega arith)
