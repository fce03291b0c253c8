-- How a run ended.
use Rattle.std.specs.Prelude.{ℕ, ◌≡◌, ◌<◌, ◌==◌, ◌&&◌, Bool, true, false, List, [], count_by, Contains}
use Rattle.abt_machine.specs.declared.events.Event.{Event}
use Rattle.abt_machine.specs.declared.events.Outcome.{Outcome}
use Rattle.abt_machine.specs.declared.events.Outcome.TheVariants as outcome
use Rattle.abt_machine.specs.declared.events.Place.{Place}
use Rattle.abt_machine.specs.declared.events.Place.TheVariants as place
use Rattle.abt_machine.specs.declared.events.What.{What}
use Rattle.abt_machine.specs.declared.events.What.TheVariants as what
use Rattle.abt_machine.specs.declared.workload.Parts.{Parts}
use Rattle.abt_machine.specs.Workloads.{pools_of, main_of}
use Rattle.abt_machine.specs.State.{State}
use Rattle.abt_machine.specs.Lines.{standing, InPool, InTray, InHand, InNext}
use Rattle.abt_machine.specs.Next.{due, StepDue}
use Rattle.abt_machine.specs.Runs.{last_state}

-- no stream has a unit or a stacked frame, and the pools that main schedulers list are empty
pub record Quiet (W : Parts) (S : State) : Type 0 where
  pub trays : (s : ℕ) → s < W.streams → standing W S (InTray s) ≡ []
  pub nexts : (s : ℕ) → s < W.streams → standing W S (InNext s) ≡ []
  pub hands : (s : ℕ) → s < W.streams → standing W S (InHand s) ≡ []
  pub frames : (s : ℕ) → s < W.streams → (S.stream s).below ≡ []
  pub pools : (s p : ℕ) → s < W.streams → Contains (pools_of W (main_of W s)) p → standing W S (InPool p) ≡ []

-- unborn or ended
abbrev pub IsOver : Place → Type 0
IsOver place.Unborn = Unit {0}
IsOver (place.Ended c) = Unit {0}
IsOver _ = ⊥

-- every unit is unborn or ended
abbrev pub AllEnded : State → Type 0
AllEnded S = (u : ℕ) → IsOver (S.place u)

abbrev pub is_step : What → Bool
is_step (what.Step u k c) = true
is_step (what.Call u k n) = true
is_step _ = false

-- the number of steps in a journal, and of those that stream s made
abbrev pub steps_in : List Event → ℕ
steps_in J = count_by (λ (e : Event). is_step e.what) J

abbrev pub steps_of : ℕ → List Event → ℕ
steps_of s J = count_by (λ (e : Event). is_step e.what && (e.stream.0 == s)) J

-- stream s has made its n steps, and would make another
abbrev pub Spent : Parts → ℕ → List Event → ℕ → Type 0
Spent W n J s = (s < W.streams) × (steps_of s J ≡ n) × (due W (last_state W J) s ≡ StepDue)

-- how a journal ended when each stream may make n steps: quiet with every unit ended; quiet with some unit that isn't; or by the least stream that is spent
abbrev pub EndsAs : Parts → ℕ → List Event → Outcome → Type 0
EndsAs W n J outcome.Finished = Quiet W (last_state W J) × AllEnded (last_state W J)
EndsAs W n J outcome.Stuck = Quiet W (last_state W J) × (AllEnded (last_state W J) → ⊥)
EndsAs W n J (outcome.Budget s) = Spent W n J s.0 × ((r : ℕ) → r < s.0 → Spent W n J r → ⊥)
