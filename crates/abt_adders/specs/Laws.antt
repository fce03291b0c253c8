-- What the workload of n adders is worth, whatever the schedule. Z is what is stored beside it.
use Rattle.std.specs.Prelude.{ℕ, suc, ◌≡◌, ◌<◌, ◌≤◌, ◌+◌, ◌*◌, ◌/◌, List, [], ◌∷◌}
use Rattle.abt_machine.specs.declared.events.Cause.TheVariants as cause
use Rattle.abt_machine.specs.declared.events.Event.{Event}
use Rattle.abt_machine.specs.declared.events.Outcome.{Outcome}
use Rattle.abt_machine.specs.declared.events.Outcome.TheVariants as outcome
use Rattle.abt_machine.specs.declared.events.Piece.TheVariants as piece
use Rattle.abt_machine.specs.declared.events.Place.TheVariants as place
use Rattle.abt_machine.specs.Limits.{adder_limit}
use Rattle.abt_machine.specs.Outcomes.{AllEnded, EndsAs, Quiet, steps_in}
use Rattle.abt_machine.specs.Runs.{Run, last_state}
use Rattle.abt_machine.specs.Stored.{Stored}
use Rattle.abt_generate.specs.Generated.{generated}

-- the sum of the numbers 1 to n
abbrev pub sum_to : ℕ → ℕ
sum_to n = n * suc n / 2

-- unit 0 creates and joins each adder and has four operations more, and each adder has six
abbrev pub adder_steps : ℕ → ℕ
adder_steps n = 8 * n + 4

-- a run of n adders is worth this
pub record IsWorth (n : ℕ) (J : List Event) : Type 0 where
  pub steps : steps_in J ≡ adder_steps n
  -- unit 0 has put out the sum
  pub sum : ((last_state (generated n) J).carried 0).output ≡ piece.Number (sum_to n) ∷ []
  -- no other unit has put out anything
  pub silent : (v : ℕ) → 0 < v → ((last_state (generated n) J).carried v).output ≡ []
  -- each unit was done: none was asked to end, kept out of a pool, or ended itself
  pub done : (u : ℕ) → u ≤ n → (last_state (generated n) J).place u ≡ place.Ended cause.Done

-- once every unit has ended
abbrev pub AdderRuns : ℕ → Stored → Type 0
AdderRuns n Z = n ≤ adder_limit → (J : List Event) → Run (generated n) Z J → AllEnded (last_state (generated n) J) → IsWorth n J

-- if nothing is left to do, every unit is unborn or ended
abbrev pub AddersAreNotStuck : ℕ → Stored → Type 0
AddersAreNotStuck n Z = n ≤ adder_limit → (J : List Event) → Run (generated n) Z J → Quiet (generated n) (last_state (generated n) J) → AllEnded (last_state (generated n) J)

-- a run that ended has finished, if each stream may make as many steps as there are operations
abbrev pub AddersFinish : ℕ → Stored → Type 0
AddersFinish n Z = n ≤ adder_limit → (m : ℕ) (J : List Event) (o : Outcome) → adder_steps n ≤ m → Run (generated n) Z J → EndsAs (generated n) m J o → o ≡ outcome.Finished
