-- Rotations, one more, and what a run leaves.
use Rattle.std.proofs.Common.{◌≡◌, ◌∙◌, ℕ, suc, ◌+◌, ◌*◌, ◌⊎◌, Bool, Option, None, Some, true, false, List, ap, arith, inl, inr, length, subst, sym}
use Rattle.abt_machine.specs.declared.events.Event.{Event}
use Rattle.abt_machine.specs.declared.events.Outcome.{Outcome}
use Rattle.abt_machine.specs.declared.events.Outcome.TheVariants as outcome
use Rattle.abt_machine.specs.Stored.{Stored}
use Rattle.abt_machine.specs.declared.workload.Parts.{Parts}
use Rattle.abt_machine.specs.Lives.{count_up}
use Rattle.abt_machine.specs.Outcomes.{EndsAs, Quiet, Spent, steps_in}
use Rattle.abt_machine.specs.Rounds.{OrdersStored, generator_at}
use Rattle.abt_machine.specs.Runs.{Run, last_state}
use Rattle.abt_machine.specs.Valid.{IsValid}
use Rattle.abt_drain.specs.Looks.{EndsWith}
use Rattle.abt_drain.specs.Runs.{IsRunOf}
use Rattle.abt_explore.proofs.Counting.{counted-stamped}
use Rattle.abt_flow.proofs.Outputs.{outputs-are-flow}
use Rattle.abt_laws.proofs.LifeOver.{ends-are-the-journals}
use Rattle.abt_laws.proofs.LifeRuns.{runs-live}
use Rattle.abt_laws.proofs.SoundRuns.{runs-are-sound}
use Rattle.abt_model.specs.Pictures.{SaysWords, ShowsUnits}
use Rattle.abt_model.proofs.Saying.{runs-say-own-words}
use Rattle.abt_report.specs.declared.pictures.Row.{Row}
use Rattle.abt_report.specs.Pictures.{IsPictureOf}
use Rattle.abt_schedule.specs.declared.course.Course.{Course}
use Rattle.abt_schedule.specs.declared.reached.Reached.{Reached}
use Rattle.abt_schedule.specs.declared.scheduled.Scheduled.{Scheduled}
use Rattle.abt_schedule.specs.Courses.{HasStepped, HaveTurned, IsCourse}
use Rattle.abt_schedule.specs.Drawing.{drawn, streams_of_rotation, words_of_rotation}
use Rattle.abt_schedule.specs.Reaching.{IsReached}
use Rattle.abt_schedule.specs.Runs.{HasStopped, LeavesSeeded}
use Rattle.abt_schedule.specs.Seeds.{AreDrawnRotations, IsSeeded}
use Rattle.abt_schedule.proofs.Drawn.{order-drawn, words-more}
use Rattle.rand_pcg.specs.Lcg.{Lcg}

-- what is over by an outcome
over-by : (W : Parts) (n : ℕ) (J : List Event) (o : Outcome) → EndsAs W n J o → Quiet W (last_state W J) ⊎ ((s : ℕ) × Spent W n J s)
over-by W n J outcome.Finished ends = inl ends.0
over-by W n J outcome.Stuck ends = inl ends.0
over-by W n J (outcome.Budget s) ends = inr (s.0, ends.0)

module _ (W : Parts) (seed n many : ℕ) (J K : List Event) (rotations : AreDrawnRotations W seed n many J) (stepped : Bool) (turned : HaveTurned W n (streams_of_rotation W seed many) J stepped K) where
  -- after a step the run goes on
  goes-on-stepped : stepped ≡ true → AreDrawnRotations W seed n (suc many) K
  goes-on-stepped is = (J, turned.0, turned.1, rotations, turned.2, λ stops. (let step : HasStepped true turned.0 = subst (λ b. HasStepped b turned.0) is turned.3 in step stops.no_step))

  -- and where something is left to do and no stream is spent
  goes-on-none : EndsWith W n K None → AreDrawnRotations W seed n (suc many) K
  goes-on-none none = (
    J,
    turned.0,
    turned.1,
    rotations,
    turned.2,
    λ stops. elim (subst (λ xs. Quiet W (last_state W xs) ⊎ ((s : ℕ) × Spent W n xs s)) (sym turned.1) stops.over) [
      | inl quiet ↦ none.0 quiet
      | inr spent ↦ none.1 spent.0 spent.1
    ],
  )

  -- else it stops
  has-stopped : stepped ≡ false → (o : Outcome) → EndsAs W n K o → HasStopped W seed n K o
  has-stopped is o ends = record {
    many = many;
    before = J;
    last = turned.0;
    all = turned.1;
    rotations = rotations;
    turns = turned.2;
    stops = record {
      no_step = subst (λ b. HasStepped b turned.0) is turned.3;
      over = subst (λ xs. Quiet W (last_state W xs) ⊎ ((s : ℕ) × Spent W n xs s)) turned.1 (over-by W n K o ends);
    };
    ended = ends;
  }

-- A rotation in the order that was drawn for it.

module _ (W : Parts) (seed n k m i : ℕ) (words new : Lcg) (order : List ℕ) (J K : List Event) (stepped : Bool) (before : AreDrawnRotations W seed n k J × (words ≡ words_of_rotation W seed k)) (many : i ≡ W.streams)
    (draws : order ≡ drawn i words (count_up i)) (same : m ≡ n) (turned : HaveTurned W m order J stepped K) where
  turned-drawn : HaveTurned W n (streams_of_rotation W seed k) J stepped K
  turned-drawn = subst (λ j. HaveTurned W j (streams_of_rotation W seed k) J stepped K) same (subst (λ xs. HaveTurned W m xs J stepped K) (order-drawn W seed k i words order many before.1 draws) turned)

  one-more : AreDrawnRotations W seed n (suc k) K → new ≡ generator_at seed (length W.scheds) (k * W.streams + i) → AreDrawnRotations W seed n (k + 1) K × (new ≡ words_of_rotation W seed (k + 1))
  one-more rotations drew = let more : suc k ≡ k + 1 = omega arith in (subst (λ j. AreDrawnRotations W seed n j K) more rotations, words-more W seed k i new many drew)

  -- a step was made in it
  pub rotated-stepped : stepped ≡ true → new ≡ generator_at seed (length W.scheds) (k * W.streams + i) → AreDrawnRotations W seed n (k + 1) K × (new ≡ words_of_rotation W seed (k + 1))
  rotated-stepped is drew = one-more (goes-on-stepped W seed n k J K before.0 stepped turned-drawn is) drew

  -- something is left to do, and no stream is spent
  pub rotated-none : (ended : Option Outcome) → ended ≡ None → EndsWith W m K ended → new ≡ generator_at seed (length W.scheds) (k * W.streams + i) → AreDrawnRotations W seed n (k + 1) K × (new ≡ words_of_rotation W seed (k + 1))
  rotated-none ended is ends drew =
      one-more (goes-on-none W seed n k J K before.0 stepped turned-drawn (subst (λ (o : Option Outcome). EndsWith W n K o) is (subst (λ j. EndsWith W j K ended) same ends))) drew

  -- it is the last
  pub rotated-last : stepped ≡ false → (ended : Option Outcome) (o : Outcome) → ended ≡ Some o → EndsWith W m K ended → HasStopped W seed n K o
  rotated-last is ended o some ends = has-stopped W seed n k J K before.0 stepped turned-drawn is o (subst (λ (x : Option Outcome). EndsWith W n K x) some (subst (λ j. EndsWith W j K ended) same ends))

-- What is left.

-- the picture of what was reached
pub reached-picture : (W : Parts) (Z : Stored) (J : List Event) (reached : Reached) (rows : List Row) → IsValid W → IsReached W Z J reached → ShowsUnits W reached.model rows → SaysWords W reached.model rows → IsPictureOf W J rows
reached-picture W Z J reached rows valid is shows words = record {
  shown = shows Z (last_state W J) is.state.sound is.stands;
  words = words (last_state W J) is.stands (runs-say-own-words W Z valid J is.run);
}

-- what a run leaves that stopped
pub leaves-seeded : (W : Parts) (Z : Stored) (seed : ℕ) (course : Course) (left : Scheduled) → IsValid W → OrdersStored W Z.orders → IsCourse W Z course → HasStopped W seed course.steps course.events.items left.outcome
    → left.journal ≡ course.events.items → left.steps ≡ steps_in course.events.items → ShowsUnits W course.reached.model left.picture → SaysWords W course.reached.model left.picture → LeavesSeeded W Z seed course.steps left
leaves-seeded W Z seed course left valid stored is stopped same steps shows words = record {
  run = subst (λ xs. IsRunOf W Z course.steps xs left.outcome) (sym same) (record {
    run = run;
    stamped = counted-stamped W J is.counted;
    sound = λ i. runs-are-sound W Z valid stored J i run;
    lives = runs-live W Z (runs-are-sound W Z) valid stored J run;
    ends = ends-are-the-journals W Z (runs-are-sound W Z) valid stored J run;
    within = is.within;
    ended = stopped.ended;
    flow = λ finished confluent one. outputs-are-flow W Z valid stored confluent one J run (subst (EndsAs W course.steps J) finished stopped.ended).1;
  });
  seeded = subst (IsSeeded W seed course.steps) (sym same) (record {
    many = stopped.many;
    before = stopped.before;
    last = stopped.last;
    all = stopped.all;
    rotations = stopped.rotations;
    turns = stopped.turns;
    stops = stopped.stops;
    counted = is.counted;
  });
  pictured = subst (λ xs. IsPictureOf W xs left.picture) (sym same) (reached-picture W Z J course.reached left.picture valid is.reached shows words);
  counted = steps ∙ ap steps_in (sym same);
} where
  J : List Event
  J = course.events.items

  run : Run W Z J
  run = is.reached.run
