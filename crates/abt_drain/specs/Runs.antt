-- The run that all streams make.
use Rattle.std.specs.Prelude.{ℕ, ◌≡◌, ◌<◌, ◌≤◌, ◌↔◌, List, [], ◌∷◌, length}
use Rattle.abt_machine.specs.declared.events.Cause.{Cause}
use Rattle.abt_machine.specs.declared.events.Event.{Event}
use Rattle.abt_machine.specs.declared.events.Outcome.{Outcome}
use Rattle.abt_machine.specs.declared.events.Outcome.TheVariants as outcome
use Rattle.abt_machine.specs.Stored.{Stored}
use Rattle.abt_machine.specs.declared.workload.Parts.{Parts}
use Rattle.abt_machine.specs.Lives.{LivesOf, ends_in, last_life, life_events}
use Rattle.abt_machine.specs.Outcomes.{AllEnded, EndsAs}
use Rattle.abt_machine.specs.Runs.{Run, last_state, state_at}
use Rattle.abt_machine.specs.Sound.{Sound}
use Rattle.abt_machine.specs.Stamps.{Stamped, Lamport}
use Rattle.abt_bounds.specs.Laws.{HasNoFree, HasNoFreeCall}
use Rattle.abt_flow.specs.Confluent.{Confluent}
use Rattle.abt_flow.specs.Flow.{IsFlow}
use Rattle.abt_flow.specs.Laws.{outputs}
use Rattle.abt_outcomes.specs.OneStream.{GoesToItsStop, IsOnlyRun}
use Rattle.abt_outcomes.specs.Rotations.{IsWithin}

-- in the last state every unit is unborn or ended exactly if each life that a unit began has one end in the journal
abbrev pub HasItsEnds : Parts → List Event → Type 0
HasItsEnds W J = AllEnded (last_state W J) ↔ ((u l : ℕ) → u < length W.units → 0 < l → l ≤ last_life W J u → (c : Cause) × (ends_in (life_events W J u l) ≡ c ∷ []))

-- the journal is a run of the workload whose streams may make n steps each, stamped, through sound states, with lives as LivesOf says, and it
-- ended so; if it finished, W is confluent and no function that it calls is free, the units put out what its flow says
pub record IsRunOf (W : Parts) (Z : Stored) (n : ℕ) (J : List Event) (o : Outcome) : Type 0 where
  pub run : Run W Z J
  pub stamped : Stamped W J
  pub sound : (i : ℕ) → Sound W Z (state_at W J i)
  pub lives : LivesOf W J
  pub ends : HasItsEnds W J
  pub within : IsWithin W n J
  pub ended : EndsAs W n J o
  pub flow : o ≡ outcome.Finished → Confluent W → HasNoFreeCall W Z → IsFlow W Z.returns (outputs W (last_state W J))

-- the same with Lamport's stamps; with one stream it goes to its stop, and if no order and no function is free there is no other such run
pub record HasRun (W : Parts) (Z : Stored) (n : ℕ) (J : List Event) (o : Outcome) : Type 0 where
  pub run : Run W Z J
  pub stamped : Stamped W J
  pub lamport : Lamport W J
  pub sound : (i : ℕ) → Sound W Z (state_at W J i)
  pub lives : LivesOf W J
  pub ends : HasItsEnds W J
  pub within : IsWithin W n J
  pub ended : EndsAs W n J o
  pub flow : o ≡ outcome.Finished → Confluent W → HasNoFreeCall W Z → IsFlow W Z.returns (outputs W (last_state W J))
  pub stops : W.streams ≡ 1 → GoesToItsStop W n J
  pub only : W.streams ≡ 1 → HasNoFree W Z → IsOnlyRun W Z n J
