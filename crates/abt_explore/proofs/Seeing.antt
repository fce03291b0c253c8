-- Each run leads to what some model shows, if the models are closed under the events that may come.
use Rattle.std.proofs.Common.{ℕ, ◌<◌, List, [], ◌∷◌, refl, subst}
use Rattle.abt_machine.specs.declared.events.Event.{Event}
use Rattle.abt_machine.specs.declared.events.What.{What}
use Rattle.abt_machine.specs.Stored.{Stored}
use Rattle.abt_machine.specs.declared.workload.Parts.{Parts}
use Rattle.abt_machine.specs.Valid.{IsValid}
use Rattle.abt_machine.specs.Rounds.{OrdersStored}
use Rattle.abt_machine.specs.State.{State}
use Rattle.abt_machine.specs.Start.{start}
use Rattle.abt_machine.specs.Events.{May, after}
use Rattle.abt_machine.specs.Runs.{Run, RunFrom, last_state, state_after}
use Rattle.abt_machine.specs.Sound.{Sound}
use Rattle.abt_laws.proofs.SoundRuns.{events-keep-sound}
use Rattle.abt_laws.proofs.SoundStart.{start-is-sound}
use Rattle.abt_model.specs.Models.{ModelValue, StandsFor}
use Rattle.abt_explore.specs.Laws.{AreClosed, SeesState}
use Rattle.abt_explore.specs.Orders.{KeepsOrder}
use Rattle.abt_explore.specs.Unnumbered.{unnumbered_state}
use Rattle.abt_explore.proofs.SameChanges.{after-same}
use Rattle.abt_explore.proofs.SameEvents.{may-forgotten}
use Rattle.abt_explore.proofs.SameSound.{after-forgotten}

module _ (W : Parts) (Z : Stored) (valid : IsValid W) (stored : OrdersStored W Z.orders) (keeps : KeepsOrder W Z.orders) (IsSeen : ModelValue → Type 0) (closed : AreClosed W Z IsSeen) where
  -- one event more
  seen-after : (S : State) (s : ℕ) (w : What) → Sound W Z S → s < W.streams → May W Z S s w → SeesState W IsSeen S → SeesState W IsSeen (after W S s w)
  seen-after S s w sound declared may seen =
      subst (λ (T : State). (model : ModelValue) × IsSeen model × StandsFor W T model) (after-same W S s w)
      (closed (unnumbered_state S) seen.0 s w (after-forgotten W Z keeps S sound) seen.2 seen.1 declared (may-forgotten W Z keeps S s w may))

  -- and more
  seen-from : (S : State) (J : List Event) → Sound W Z S → RunFrom W Z S J → SeesState W IsSeen S → SeesState W IsSeen (state_after W S J)
  seen-from S [] sound run seen = seen
  seen-from S (e ∷ es) sound run seen =
      let T : State = after W S e.stream.0 e.what in
      seen-from T es (events-keep-sound W Z valid stored S T e sound (run.0, run.1, refl)) run.2 (seen-after S e.stream.0 e.what sound run.0 run.1 seen)

  -- from the start
  pub seen-along : SeesState W IsSeen (start W) → (J : List Event) → Run W Z J → SeesState W IsSeen (last_state W J)
  seen-along seen J run = seen-from (start W) J (start-is-sound W Z valid stored) run seen
