-- The waves of a run, and what is said about runs on lives.
use Rattle.std.specs.Prelude.{ℕ, ◌≡◌, ◌≢◌, ◌<◌, ◌≤◌, ◌+◌, ◌↔◌, List, [], ◌∷◌, ◌++◌, length, All, Contains}
use Rattle.abt_machine.specs.declared.events.Cause.{Cause}
use Rattle.abt_machine.specs.declared.events.Event.{Event}
use Rattle.abt_machine.specs.declared.events.Outcome.{Outcome}
use Rattle.abt_machine.specs.declared.events.Outcome.TheVariants as outcome
use Rattle.abt_machine.specs.Stored.{Stored}
use Rattle.abt_machine.specs.declared.workload.Parts.{Parts}
use Rattle.abt_machine.specs.Lives.{LivesOf, ends_in, last_life, life_events}
use Rattle.abt_machine.specs.Outcomes.{AllEnded}
use Rattle.abt_machine.specs.Runs.{Run, last_state, state_after, state_at}
use Rattle.abt_machine.specs.Sound.{Sound}
use Rattle.abt_machine.specs.Stamps.{LamportFrom}
use Rattle.abt_machine.specs.Start.{start}
use Rattle.abt_machine.specs.State.{State}
use Rattle.abt_bounds.specs.Laws.{HasNoFreeCall}
use Rattle.abt_flow.specs.Confluent.{Confluent}
use Rattle.abt_flow.specs.Flow.{IsFlow}
use Rattle.abt_flow.specs.Laws.{outputs}
use Rattle.abt_interleave.specs.Logs.{InOrder, IsSooner}
use Rattle.abt_outcomes.specs.Rotations.{IsWithin}
use Rattle.abt_streams.specs.declared.life.Life.{Life}
use Rattle.abt_streams.specs.declared.wave.Wave.{Wave}
use Rattle.abt_streams.specs.Ends.{EndsOn}
use Rattle.abt_streams.specs.Living.{live_streams}

-- a wave that starts after n events, in state S, with these events: its streams are those that live in S, each event is of one of
-- them, and they are in order of stamp, and those of equal stamp in order of stream
pub record IsWaveOf (W : Parts) (lives : List Life) (S : State) (n : ℕ) (wave : Wave) (es : List Event) : Type 0 where
  pub from : wave.from ≡ n
  pub streams : wave.streams ≡ live_streams W lives S
  pub own : All (λ e. Contains wave.streams e.stream.0) es
  pub in_order : InOrder (λ (e f : Event). IsSooner e.stamp e.stream.0 f.stamp f.stream.0) es

-- the events from state S on, after n events, are those of these waves, one after the other
abbrev pub AreWaves : Parts → List Life → State → ℕ → List Wave → List Event → Type 0
AreWaves W lives S n [] J = J ≡ []
AreWaves W lives S n (wave ∷ waves) J =
    (es : List Event) × (rest : List Event) × (J ≡ es ++ rest) × IsWaveOf W lives S n wave es × AreWaves W lives (state_after W S es) (n + length es) waves rest

-- the journal is a run of the workload on these lives, whose streams may make n steps each; each stamp is one more than the greatest
-- earlier stamp of its stream and of its object, 0 if there is none; it was made in these waves, of which there is at least one, and it
-- ended so. Every unit is unborn or ended exactly if each life that a unit began has its one end in the journal. If it finished, W is
-- confluent and no function that it calls is free, the units put out what its flow says
pub record HasRunOn (W : Parts) (Z : Stored) (n : ℕ) (lives : List Life) (J : List Event) (waves : List Wave) (o : Outcome) : Type 0 where
  pub run : Run W Z J
  pub sound : (i : ℕ) → Sound W Z (state_at W J i)
  pub lives_are : LivesOf W J
  pub lamport : LamportFrom W [] J
  pub within : IsWithin W n J
  pub some_wave : waves ≢ []
  pub waves_are : AreWaves W lives (start W) 0 waves J
  pub ended : EndsOn W lives n J o
  pub ends : AllEnded (last_state W J) ↔ ((u l : ℕ) → u < length W.units → 0 < l → l ≤ last_life W J u → (c : Cause) × (ends_in (life_events W J u l) ≡ c ∷ []))
  pub flow : o ≡ outcome.Finished → Confluent W → HasNoFreeCall W Z → IsFlow W Z.returns (outputs W (last_state W J))
