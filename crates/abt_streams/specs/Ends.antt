-- How a run on lives ended.
use Rattle.std.specs.Prelude.{ℕ, ◌≡◌, ◌<◌, List, [], Contains}
use Rattle.abt_machine.specs.declared.events.Event.{Event}
use Rattle.abt_machine.specs.declared.events.Outcome.{Outcome}
use Rattle.abt_machine.specs.declared.events.Outcome.TheVariants as outcome
use Rattle.abt_machine.specs.declared.workload.Parts.{Parts}
use Rattle.abt_machine.specs.Lines.{InHand, InNext, InPool, InTray, standing}
use Rattle.abt_machine.specs.Outcomes.{AllEnded, Spent}
use Rattle.abt_machine.specs.Runs.{last_state}
use Rattle.abt_machine.specs.State.{State}
use Rattle.abt_machine.specs.Workloads.{main_of, pools_of}
use Rattle.abt_streams.specs.declared.life.Life.{Life}
use Rattle.abt_streams.specs.Living.{IsLive}

-- no stream has a unit or a stacked frame, and the pools that main schedulers of live streams list are empty
pub record QuietOn (W : Parts) (lives : List Life) (S : State) : Type 0 where
  pub trays : (s : ℕ) → s < W.streams → standing W S (InTray s) ≡ []
  pub nexts : (s : ℕ) → s < W.streams → standing W S (InNext s) ≡ []
  pub hands : (s : ℕ) → s < W.streams → standing W S (InHand s) ≡ []
  pub frames : (s : ℕ) → s < W.streams → (S.stream s).below ≡ []
  pub pools : (s p : ℕ) → s < W.streams → IsLive lives S s → Contains (pools_of W (main_of W s)) p → standing W S (InPool p) ≡ []

-- how a journal ended when each stream may make n steps: quiet on these lives with every unit ended; quiet with some unit that
-- isn't; or by the least stream that is spent
abbrev pub EndsOn : Parts → List Life → ℕ → List Event → Outcome → Type 0
EndsOn W lives n J outcome.Finished = QuietOn W lives (last_state W J) × AllEnded (last_state W J)
EndsOn W lives n J outcome.Stuck = QuietOn W lives (last_state W J) × (AllEnded (last_state W J) → ⊥)
EndsOn W lives n J (outcome.Budget s) = Spent W n J s.0 × ((r : ℕ) → r < s.0 → Spent W n J r → ⊥)
