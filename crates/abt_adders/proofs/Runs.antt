-- What every run of the adders is worth.
use Rattle.std.proofs.Common.{◌≡◌, ℕ, zero, suc, ◌<◌, ◌≤◌, ◌+◌, ◌*◌, if◌then◌else◌, List, [], ◌∷◌, length, Option, Some, None, refl, sym, ◌∙◌, ap, subst, arith, inl, inr}
use Rattle.std.specs.Prelude.{IsSome}
use Rattle.std.proofs.lemmas.Bool.{cases_lt, true≢false}
use Rattle.std.proofs.lemmas.List.Sums.{sum_by-cons}
use Rattle.abt_machine.specs.declared.events.Cause.TheVariants as cause
use Rattle.abt_machine.specs.declared.events.Event.{Event}
use Rattle.abt_machine.specs.declared.events.Outcome.TheVariants as outcome
use Rattle.abt_machine.specs.declared.events.Place.{Place}
use Rattle.abt_machine.specs.declared.events.Place.TheVariants as place
use Rattle.abt_machine.specs.declared.events.Spot.TheVariants as spot
use Rattle.abt_machine.specs.declared.events.What.{What}
use Rattle.abt_machine.specs.declared.events.What.TheVariants as what
use Rattle.abt_machine.specs.declared.operations.Op.TheVariants as op
use Rattle.abt_machine.specs.Events.{after}
use Rattle.abt_machine.specs.Limits.{adder_limit}
use Rattle.abt_machine.specs.Lines.{InHand, InNext, InPool, InTray, Line, standing, ticket_in}
use Rattle.abt_machine.specs.Outcomes.{AllEnded, IsOver, Quiet, is_step, steps_in}
use Rattle.abt_machine.specs.Runs.{Run, RunFrom, last_state, state_after}
use Rattle.abt_machine.specs.Sound.{HasNotEnded, HoldsUp, IsPlaced, Sound}
use Rattle.abt_machine.specs.Start.{start, start_place}
use Rattle.abt_machine.specs.State.{Carried, Frame, Mutex, State}
use Rattle.abt_machine.specs.Stored.{Stored}
use Rattle.abt_machine.specs.Workloads.{thing_at}
use Rattle.abt_laws.proofs.Lists.{Among}
use Rattle.abt_laws.proofs.Options.{none≢some}
use Rattle.abt_laws.proofs.Places.{same-self}
use Rattle.abt_laws.proofs.RunParts.{last_state-sound}
use Rattle.abt_laws.proofs.SoundRuns.{runs-are-sound}
use Rattle.abt_laws.proofs.Standing.{among-standing}
use Rattle.abt_laws.proofs.Sums.{sum_up, sum_up-none}
use Rattle.abt_bounds.specs.Laws.{HasNoRevive, ops_in, ops_of_unit}
use Rattle.abt_bounds.proofs.Budgets.{steps-bound-budgets}
use Rattle.abt_generate.specs.Generated.{generated}
use Rattle.abt_generate.proofs.GeneratedParts.{IsValid-generated}
use Rattle.abt_adders.specs.Laws.{AdderRuns, AddersAreNotStuck, AddersFinish, adder_steps}
use Rattle.abt_adders.proofs.Causes.{IsDone, runs-done}
use Rattle.abt_adders.proofs.Events.{event-adds, steps_after}
use Rattle.abt_adders.proofs.Going.{Adds, stages}
use Rattle.abt_adders.proofs.Programs.{adder-count, first-count, orders-stored, simple, some-stream, start-adder, start-first, unit-count, visits}
use Rattle.abt_adders.proofs.Stages.{Absent, Active, AdderAt, FirstAt, Joins, Mine, Over, Sleeps, Stage, Waits, all_steps, stage, stored}
use Rattle.abt_adders.proofs.Sums.{sum-first}

-- The start.

starts : (n : ℕ) → Adds n 0 (start (generated n))
starts n = record {
  adding = record {
    first = subst (λ o. FirstAt n ((start (generated n)).mutex 0) ((start (generated n)).carried 0) (stage (start_place (generated n) 0 o))) (sym (start-first n)) (inl (omega arith, (λ e. none≢some e), refl));
    adders = λ v some most.
        subst (λ o. AdderAt 0 ((start (generated n)).mutex 0) v ((start (generated n)).carried v) (stage (start_place (generated n) v o))) (sym (start-adder n v some most)) (some, refl, (λ e. none≢some e));
    joined = λ v some most l none. absurd (omega arith);
    owned = λ v e. absurd (none≢some e);
    silent = λ v some. refl;
    number = sym (sum_up-none (λ v. stored v 0) (suc n) (λ v l. refl));
    steps = sym (sum_up-none (λ v. 0) (suc n) (λ v l. refl));
  };
  calm = record { asks = λ u. (refl, refl); marks = λ s. tt };
}

-- Along a run.

count-on : (t n : ℕ) (w : What) → steps_after t w + n ≡ t + ((if is_step w then 1 else 0) + n)
count-on t n (what.Step u k c) = omega arith
count-on t n (what.Call u k a) = omega arith
count-on t n (what.Miss p) = omega arith
count-on t n (what.Take p u) = omega arith
count-on t n (what.Look u) = omega arith
count-on t n (what.Put u p) = omega arith
count-on t n (what.End u c) = omega arith
count-on t n (what.Enter u) = omega arith
count-on t n (what.Leave u) = omega arith

module _ (n : ℕ) (few : n ≤ adder_limit) (Z : Stored) where
  adds-along : (t : ℕ) (S : State) (es : List Event) → Adds n t S → RunFrom (generated n) Z S es → Adds n (t + steps_in es) (state_after (generated n) S es)
  adds-along t S [] adds run = subst (λ k. Adds n k S) (let e : t ≡ t + 0 = omega arith in e) adds
  adds-along t S (e ∷ es) adds run =
      subst (λ k. Adds n k (state_after (generated n) (after (generated n) S e.stream.0 e.what) es))
      (count-on t (steps_in es) e.what ∙ ap (λ k. t + k) (sym (sum_by-cons (λ (x : Event). if is_step x.what then 1 else 0) e es)))
      (adds-along (steps_after t e.what) (after (generated n) S e.stream.0 e.what) es (event-adds n few Z t S adds e.stream.0 e.what run.1) run.2)

  runs-add : (J : List Event) → Run (generated n) Z J → Adds n (steps_in J) (last_state (generated n) J)
  runs-add J run = subst (λ k. Adds n k (last_state (generated n) J)) (let e : 0 + steps_in J ≡ steps_in J = omega arith in e) (adds-along 0 (start (generated n)) J (starts n) run)

-- Once all have ended.

-- unit 0 has made all its operations
first-over : (n : ℕ) (m : Mutex) (c : Carried) (pl : Place) → IsOver pl → FirstAt n m c (stage pl) → FirstAt n m c Over
first-over n m c place.Unborn over h = absurd h
first-over n m c (place.Ended e) over h = h
first-over n m c _ over h = absurd over

-- so has each adder
adder-over : (p v : ℕ) (m : Mutex) (c : Carried) (pl : Place) → IsOver pl → v ≤ p → AdderAt p m v c (stage pl) → c.position ≡ 6
adder-over p v m c place.Unborn over l h = let early : p < v = h.0 in absurd (omega arith)
adder-over p v m c (place.Ended e) over l h = h.1
adder-over p v m c _ over l h = absurd over

-- so each was done
over-done : (pl : Place) → IsOver pl → (pl ≡ place.Unborn → ⊥) → IsDone pl → pl ≡ place.Ended cause.Done
over-done place.Unborn over born done = absurd (born refl)
over-done (place.Ended c) over born done = ap place.Ended done
over-done _ over born done = absurd over

first-born : (n : ℕ) (m : Mutex) (c : Carried) (pl : Place) → FirstAt n m c (stage pl) → pl ≡ place.Unborn → ⊥
first-born n m c pl h e = subst (λ x. FirstAt n m c (stage x)) e h

adder-born : (p v : ℕ) (m : Mutex) (c : Carried) (pl : Place) → v ≤ p → AdderAt p m v c (stage pl) → pl ≡ place.Unborn → ⊥
adder-born p v m c pl l h e = let early : p < v = (subst (λ x. AdderAt p m v c (stage x)) e h).0 in absurd (omega arith)

module _ (n t : ℕ) (S : State) (adds : Adds n t S) where
  born : (v : ℕ) → v ≤ n → v ≤ (S.carried 0).position → S.place v ≡ place.Unborn → ⊥
  born zero most l e = first-born n (S.mutex 0) (S.carried 0) (S.place 0) adds.adding.first e
  born (suc v) most l e = adder-born (S.carried 0).position (suc v) (S.mutex 0) (S.carried (suc v)) (S.place (suc v)) l (adds.adding.adders (suc v) (omega arith) most) e

pub adder-runs : (n : ℕ) (Z : Stored) → AdderRuns n Z
adder-runs n Z few J run ended =
    let S : State = last_state (generated n) J in
    let adds : Adds n (steps_in J) S = runs-add n few Z J run in
    let first : FirstAt n (S.mutex 0) (S.carried 0) Over = first-over n (S.mutex 0) (S.carried 0) (S.place 0) (ended 0) adds.adding.first in
    let all : (S.carried 0).position ≡ n + n + 4 = first.0 in
    let six : all_steps n S.carried ≡ (S.carried 0).position + n * 6 =
    sum-first (λ v. (S.carried v).position) 6 n (λ v some most. adder-over (S.carried 0).position v (S.mutex 0) (S.carried v) (S.place v) (ended v) (omega arith) (adds.adding.adders v some most)) in
    let count : steps_in J ≡ all_steps n S.carried = adds.adding.steps in
    record {
      steps = omega arith;
      sum = first.2;
      silent = adds.adding.silent;
      done = λ u most.
          over-done (S.place u) (ended u) (born n (steps_in J) S adds u most (omega arith)) (runs-done n few Z u (omega (arith, unit-count n)) J (starts n) run);
    }

-- If nothing is left to do.

-- who owns the mutex goes on
first-owns : (n : ℕ) (m : Mutex) (c : Carried) (a : Stage) → Mine m 0 → FirstAt n m c a → a ≡ Active
first-owns n m c Absent mine h = absurd h
first-owns n m c Active mine h = refl
first-owns n m c Sleeps mine h = absurd h
first-owns n m c (Joins v) mine h = absurd (h.3 mine)
first-owns n m c (Waits x) mine h = absurd (h.2 mine)
first-owns n m c Over mine h = absurd (h.1 mine)

adder-owns : (p v : ℕ) (m : Mutex) (c : Carried) (a : Stage) → Mine m v → AdderAt p m v c a → a ≡ Active
adder-owns p v m c Absent mine h = absurd (h.2 mine)
adder-owns p v m c Active mine h = refl
adder-owns p v m c Sleeps mine h = absurd h
adder-owns p v m c (Joins w) mine h = absurd h
adder-owns p v m c (Waits x) mine h = absurd (h.3 mine)
adder-owns p v m c Over mine h = absurd (h.2 mine)

-- the mutex holds up
mutex-held : (n : ℕ) (S : State) (x : ℕ) → x ≡ 0 → HoldsUp (generated n) S x (thing_at (generated n) x) → IsSome (S.mutex 0).owner
unfolding generated
mutex-held n S zero e h = h
mutex-held n S (suc x) e h = absurd (omega arith)

module _ (n : ℕ) (Z : Stored) (t : ℕ) (S : State) (sound : Sound (generated n) Z S) (adds : Adds n t S) (quiet : Quiet (generated n) S) where
  nowhere : (l : Line) (u k : ℕ) → standing (generated n) S l ≡ [] → ticket_in l (S.place u) ≡ Some k → ⊥
  nowhere l u k none at = subst (Among u) none (among-standing (generated n) S sound.undeclared l u k at)

  -- nobody goes on
  none-goes : (u : ℕ) (pl : Place) → S.place u ≡ pl → IsPlaced (generated n) S u pl → stage pl ≡ Active → ⊥
  none-goes u (place.Pool p t) at placed on = nowhere (InPool p.0) u t (quiet.pools 0 p.0 (some-stream n) (visits n p.0 placed.0)) (ap (ticket_in (InPool p.0)) at ∙ same-self p.0 t)
  none-goes u (place.Hand s) at placed on = nowhere (InHand s.0) u 0 (quiet.hands s.0 placed.0) (ap (ticket_in (InHand s.0)) at ∙ same-self s.0 0)
  none-goes u (place.Next s) at placed on = nowhere (InNext s.0) u 0 (quiet.nexts s.0 placed.0) (ap (ticket_in (InNext s.0)) at ∙ same-self s.0 0)
  none-goes u (place.Tray s t) at placed on = nowhere (InTray s.0) u t (quiet.trays s.0 placed.0) (ap (ticket_in (InTray s.0)) at ∙ same-self s.0 t)
  none-goes u (place.Frame s d) at placed on = let none : d < 0 = subst (λ (fs : List Frame). d < length fs) (quiet.frames s.0 placed.0) placed.1 in omega arith
  none-goes u (place.Blocked spot.Suspended t) at placed on = cc
  none-goes u (place.Blocked (spot.Join v) t) at placed on = cc
  none-goes u (place.Blocked (spot.Object x) t) at placed on = cc
  none-goes u (place.Ended c) at placed on = cc
  none-goes u place.Unborn at placed on = cc

  resting : (u : ℕ) → stages S u ≡ Active → ⊥
  resting u on = none-goes u (S.place u) refl (sound.placed u) on

  owner-rests : (v : ℕ) → Mine (S.mutex 0) v → stages S v ≡ Active
  owner-rests zero mine = first-owns n (S.mutex 0) (S.carried 0) (stages S 0) mine adds.adding.first
  owner-rests (suc v) mine = adder-owns (S.carried 0).position (suc v) (S.mutex 0) (S.carried (suc v)) (stages S (suc v)) mine (adds.adding.adders (suc v) (omega arith) (adds.adding.owned (suc v) mine))

  -- the mutex is free
  none-owns : (o : Option ℕ) → (S.mutex 0).owner ≡ o → IsSome o → ⊥
  none-owns None e h = cc
  none-owns (Some v) e h = resting v (owner-rests v e)

  -- so nobody waits for it
  none-waits : (x : ℕ) → x ≡ 0 → HoldsUp (generated n) S x (thing_at (generated n) x) → ⊥
  none-waits x e h = none-owns (S.mutex 0).owner refl (mutex-held n S x e h)

  adder-ends : (v : ℕ) → 0 < v → v ≤ n → (pl : Place) → S.place v ≡ pl → IsPlaced (generated n) S v pl → AdderAt (S.carried 0).position (S.mutex 0) v (S.carried v) (stage pl) → IsOver pl
  adder-ends v some most place.Unborn at placed h = tt
  adder-ends v some most (place.Ended c) at placed h = tt
  adder-ends v some most (place.Blocked spot.Suspended t) at placed h = h
  adder-ends v some most (place.Blocked (spot.Join w) t) at placed h = h
  adder-ends v some most (place.Blocked (spot.Object x) t) at placed h = none-waits x.0 h.1 placed.1
  adder-ends v some most pl at placed h = absurd (none-goes v pl at placed refl)

  -- whom unit 0 joins has ended
  joined-ended : (v : ℕ) → (pl : Place) → S.place v ≡ pl → IsOver pl → v ≤ (S.carried 0).position → HasNotEnded pl → AdderAt (S.carried 0).position (S.mutex 0) v (S.carried v) (stage pl) → ⊥
  joined-ended v place.Unborn at over l alive h = let early : (S.carried 0).position < v = h.0 in omega arith
  joined-ended v (place.Ended c) at over l alive h = true≢false alive
  joined-ended v _ at over l alive h = over

  first-ends : (pl : Place) → S.place 0 ≡ pl → IsPlaced (generated n) S 0 pl → FirstAt n (S.mutex 0) (S.carried 0) (stage pl) → IsOver pl
  first-ends place.Unborn at placed h = tt
  first-ends (place.Ended c) at placed h = tt
  first-ends (place.Blocked spot.Suspended t) at placed h = h
  first-ends (place.Blocked (spot.Join v) t) at placed h =
      let adder : AdderAt (S.carried 0).position (S.mutex 0) v.0 (S.carried v.0) (stages S v.0) = adds.adding.adders v.0 h.0 h.1 in
      let position : (S.carried 0).position ≡ n + v.0 = h.2 in
      joined-ended v.0 (S.place v.0) refl (adder-ends v.0 h.0 h.1 (S.place v.0) refl (sound.placed v.0) adder) (omega arith) placed.2 adder
  first-ends (place.Blocked (spot.Object x) t) at placed h = none-waits x.0 h.0 placed.1
  first-ends pl at placed h = absurd (none-goes 0 pl at placed refl)

  all-ended : AllEnded S
  all-ended u =
      elim (cases_lt n u) [
        | inl beyond ↦ subst IsOver (sym (sound.undeclared u (omega (arith, unit-count n)))) tt
        | inr most ↦ elim (cases_lt 0 u) [
          | inl some ↦ adder-ends u some most (S.place u) refl (sound.placed u) (adds.adding.adders u some most)
          | inr none ↦ (let e : u ≡ 0 = omega arith in subst (λ v. IsOver (S.place v)) (sym e) (first-ends (S.place 0) refl (sound.placed 0) adds.adding.first))
        ]
      ]

pub adders-are-not-stuck : (n : ℕ) (Z : Stored) → AddersAreNotStuck n Z
adders-are-not-stuck n Z few J run quiet =
    all-ended n Z (steps_in J) (last_state (generated n) J) (last_state-sound (generated n) Z J (runs-are-sound (generated n) Z) (IsValid-generated n few) (orders-stored n Z.orders) run) (runs-add n few Z J run) quiet

-- With enough steps.

no-revive : (n : ℕ) → HasNoRevive (generated n)
no-revive n u k v p is = simple n u k (op.Revive v p) is

-- the operations are as many as the steps
ops-count : (n : ℕ) → ops_in (generated n) ≡ adder_steps n
ops-count n =
    let six : sum_up (ops_of_unit (generated n)) (suc n) ≡ ops_of_unit (generated n) 0 + n * 6 = sum-first (ops_of_unit (generated n)) 6 n (λ v some most. adder-count n v some most) in
    ap (sum_up (ops_of_unit (generated n))) (unit-count n) ∙ (six ∙ (let first : ops_of_unit (generated n) 0 ≡ n + n + 4 = first-count n in omega arith))

pub adders-finish : (n : ℕ) (Z : Stored) → AddersFinish n Z
adders-finish n Z few m J outcome.Finished enough run ends = refl
adders-finish n Z few m J outcome.Stuck enough run ends = absurd (ends.1 (adders-are-not-stuck n Z few J run ends.0))
adders-finish n Z few m J (outcome.Budget s) enough run ends =
    absurd (steps-bound-budgets (generated n) Z (IsValid-generated n few) (orders-stored n Z.orders) (no-revive n) m s.0 J (omega (arith, ops-count n)) run ends.0)
