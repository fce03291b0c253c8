-- After a rotation: the run goes on with less left to do, or it has stopped.
use Rattle.std.proofs.Common.{◌≡◌, ℕ, suc, ◌<◌, ◌⊎◌, inl, inr, Bool, true, false, List, ◌++◌, Option, Some, None, slice_get, refl, sym, ◌∙◌, ap, subst}
use mathlib.Core.Path.{fun_ext}
use Rattle.std.proofs.lemmas.Bool.{cases_Bool}
use Rattle.abt_machine.specs.declared.events.Event.{Event}
use Rattle.abt_machine.specs.declared.events.Outcome.{Outcome}
use Rattle.abt_machine.specs.declared.events.Outcome.TheVariants as outcome
use Rattle.abt_machine.specs.Stored.{Stored}
use Rattle.abt_machine.specs.declared.workload.Parts.{Parts}
use Rattle.abt_machine.specs.Outcomes.{EndsAs, Quiet, Spent, steps_in}
use Rattle.abt_machine.specs.Rounds.{OrdersStored}
use Rattle.abt_machine.specs.Runs.{last_state}
use Rattle.abt_machine.specs.Valid.{IsValid}
use Rattle.abt_outcomes.specs.Values.{LooksAs}
use Rattle.abt_outcomes.proofs.Outcomes.{outcome-seen}
use Rattle.abt_outcomes.proofs.Seen.{quiet-seen, spent-seen}
use Rattle.abt_simulation.specs.Journals.{MergesTo}
use Rattle.abt_stream.specs.Streams.{StreamValue}
use Rattle.abt_drain.specs.Crews.{CrewValue, HaveStopped, IsCrew, log_from, moment_in, moment_of}
use Rattle.abt_drain.specs.Looks.{EndedWith, parts_held, steps_from, steps_made}
use Rattle.abt_drain.specs.InRotation.{IsMadeInRotation, StopsBy, events_by}
use Rattle.abt_drain.specs.Moments.{LeadTo, Moment, made_at}
use Rattle.abt_drain.specs.Rotations.{HaveRotated, HaveTurned, IsAwake, HasSeenNone, IsQuietIn, IsSpentIn, work_at}
use Rattle.abt_commons.specs.Held.{ObjectsValue, object_at}
use Rattle.abt_drain.proofs.Alone.{busy-awake}
use Rattle.abt_drain.proofs.Rotating.{rounds-lower, steps-lower}
use Rattle.abt_drain.proofs.Turning.{by-join}

-- the steps of a stream are those in its log
pub made-same : (o : Option StreamValue) → steps_from o ≡ steps_in (log_from o)
made-same None = refl
made-same (Some stream) = refl

-- how the run ended, by the moment
pub looks-at : (W : Parts) (n : ℕ) (streams : List StreamValue) (objects : ObjectsValue) (o : Outcome) → EndedWith W n streams objects (Some o)
    → LooksAs W n (parts_held W streams) (object_at objects) (made_at (moment_of W streams objects)) o
looks-at W n streams objects o ended =
    subst (λ made. LooksAs W n (parts_held W streams) (object_at objects) made o) (fun_ext {f = steps_made streams} {g = made_at (moment_of W streams objects)} (λ s. made-same (slice_get streams s))) ended

-- Rotations.

-- a journal that ended, whichever way, left nothing to do or a stream spent
ended-over : (W : Parts) (n : ℕ) (J : List Event) (o : Outcome) → EndsAs W n J o → Quiet W (last_state W J) ⊎ ((s : ℕ) × Spent W n J s)
ended-over W n J outcome.Finished ended = inl ended.0
ended-over W n J outcome.Stuck ended = inl ended.0
ended-over W n J (outcome.Budget s) ended = inr (s.0, ended.0)

module _ (W : Parts) (Z : Stored) (n : ℕ) (old new : Moment) (stepped : Bool) (turned : HaveTurned W Z n W.streams old stepped new) (rotated : HaveRotated W Z n old) where
  led : LeadTo W Z (rotated.events ++ turned.events) new
  led = turned.lead rotated.events rotated.lead

  same-logs : (s : ℕ) → events_by s (rotated.events ++ turned.events) ≡ new.logs s
  same-logs s = by-join s rotated.events turned.events ∙ (ap (λ log. log ++ events_by s turned.events) (rotated.logs s) ∙ sym (turned.logged s))

  -- one rotation more
  pub rotated-more : (StopsBy W n rotated.events turned.events → ⊥) → HaveRotated W Z n new
  rotated-more goes_on = record {
    many = suc rotated.many;
    events = rotated.events ++ turned.events;
    lead = led;
    logs = same-logs;
    rotations = (rotated.events, turned.events, refl, rotated.rotations, turned.turns rotated.events rotated.lead, goes_on);
  }

  -- the run goes on after a rotation with a step, and after one that leaves something to do and no stream spent
  pub goes-on : (stepped ≡ true) ⊎ ((IsQuietIn W new → ⊥) × ((s : ℕ) → IsSpentIn W n new s → ⊥)) → StopsBy W n rotated.events turned.events → ⊥
  goes-on how stops = elim how [
    | inl step ↦ turned.step step stops.no_step
    | inr busy ↦ elim stops.over [
      | inl quiet ↦ busy.0 ((quiet-seen W (last_state W (rotated.events ++ turned.events)) new.parts new.objects led.stand).0 quiet)
      | inr spent ↦ busy.1 spent.0 ((spent-seen W n spent.0 (rotated.events ++ turned.events) new.parts new.objects (made_at new) led.stand led.made).0 spent.1)
    ]
  ]

  -- it stopped: the journal of all logs was made in rotation
  pub made-in-rotation : IsValid W → OrdersStored W Z.orders → stepped ≡ false → (o : Outcome) → LooksAs W n new.parts new.objects (made_at new) o → (J : List Event) → MergesTo new.logs J → IsMadeInRotation W Z n J
  made-in-rotation valid stored idle o looks J merged = record {
    many = rotated.many;
    before = rotated.events;
    last = turned.events;
    run = led.run;
    same = λ s. same-logs s ∙ sym (merged.each s);
    rotations = rotated.rotations;
    turns = turned.turns rotated.events rotated.lead;
    stops = record {
      no_step = turned.no_step idle;
      over = (
          let seen = outcome-seen W Z valid stored n (rotated.events ++ turned.events) o new.parts new.objects (made_at new) led.run led.stand led.made in
          ended-over W n (rotated.events ++ turned.events) o (seen.1 looks));
    };
  }

-- Crews.

module _ (W : Parts) (Z : Stored) (n : ℕ) (crew next : CrewValue) (before : IsCrew W Z n crew) (after : IsCrew W Z n next) (stepped : Bool)
    (turned : HaveTurned W Z n W.streams (moment_in W crew) stepped (moment_in W next)) where
  -- no stream is spent
  unspent : EndedWith W n next.streams next.objects None → (s : ℕ) → IsSpentIn W n (moment_in W next) s → ⊥
  unspent goes s spent = goes.steps s (spent.0, made-same (slice_get next.streams s) ∙ spent.1, spent.2)

  not-stepped : EndedWith W n next.streams next.objects None → stepped ≡ false → ((s : ℕ) → s < W.streams → HasSeenNone (moment_in W crew) s) → work_at W n (moment_in W next) < work_at W n (moment_in W crew)
  not-stepped goes idle fresh = rounds-lower W Z before.valid before.stored n (moment_in W crew) (moment_in W next) before.reached after.reached stepped turned fresh idle goes.busy (unspent goes)

  -- less is left to do
  pub goes-on-less : (stepped ≡ true) ⊎ EndedWith W n next.streams next.objects None → ((s : ℕ) → s < W.streams → HasSeenNone (moment_in W crew) s) → work_at W n (moment_in W next) < work_at W n (moment_in W crew)
  goes-on-less how fresh = elim how [
    | inl step ↦ steps-lower W Z before.valid before.stored n (moment_in W crew) (moment_in W next) before.reached after.reached stepped turned step
    | inr goes ↦ elim (cases_Bool stepped) [
      | inl step ↦ steps-lower W Z before.valid before.stored n (moment_in W crew) (moment_in W next) before.reached after.reached stepped turned step
      | inr idle ↦ not-stepped goes idle fresh
    ]
  ]

  -- an only stream is awake
  pub goes-on-awake : (stepped ≡ true) ⊎ EndedWith W n next.streams next.objects None → (stepped ≡ true → IsAwake W (moment_in W next)) → IsAwake W (moment_in W next)
  goes-on-awake how awake = elim how [
    | inl step ↦ awake step
    | inr goes ↦ busy-awake W Z after.valid after.stored n (moment_in W next) after.reached goes.busy
  ]

  -- it made one rotation more
  pub goes-on-rotated : (stepped ≡ true) ⊎ EndedWith W n next.streams next.objects None → HaveRotated W Z n (moment_in W crew) → HaveRotated W Z n (moment_in W next)
  goes-on-rotated how rotated = rotated-more W Z n (moment_in W crew) (moment_in W next) stepped turned rotated
      (goes-on W Z n (moment_in W crew) (moment_in W next) stepped turned rotated (elim how [ inl step ↦ inl step | inr goes ↦ inr (goes.busy, unspent goes) ]))

  -- the run has stopped
  pub has-stopped : HaveRotated W Z n (moment_in W crew) → (o : Outcome) → (stepped ≡ false) × EndedWith W n next.streams next.objects (Some o) → HaveStopped W Z n (moment_in W next) o
  has-stopped rotated o end = record {
    before = moment_in W crew;
    rotated = rotated;
    turned = subst (λ b. HaveTurned W Z n W.streams (moment_in W crew) b (moment_in W next)) end.0 turned;
    looks = looks-at W n next.streams next.objects o end.1;
  }
