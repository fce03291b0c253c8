-- What is reached by real runs.
use Rattle.std.proofs.Common.{◌<◌, ℕ, List, [], ◌∷◌, ◌++◌, arith, sym, subst}
use Rattle.abt_machine.specs.declared.events.Event.{Event}
use Rattle.abt_machine.specs.declared.events.What.{What}
use Rattle.abt_machine.specs.Stored.{Stored}
use Rattle.abt_machine.specs.declared.workload.Parts.{Parts}
use Rattle.abt_machine.specs.Valid.{IsValid}
use Rattle.abt_machine.specs.Rounds.{OrdersStored}
use Rattle.abt_machine.specs.State.{State}
use Rattle.abt_machine.specs.Start.{start}
use Rattle.abt_machine.specs.Events.{after}
use Rattle.abt_machine.specs.Runs.{last_state}
use Rattle.abt_laws.proofs.RunParts.{last_state-sound, run-push, state_after-append}
use Rattle.abt_laws.proofs.SoundRuns.{runs-are-sound}
use Rattle.abt_model.specs.Models.{IsAfter, IsDone, ModelValue, StandsFor}
use Rattle.abt_explore.specs.Laws.{IsReachedBy, next_event}
use Rattle.abt_explore.specs.Orders.{KeepsOrder}
use Rattle.abt_model.specs.Keys.{unnumbered_model}
use Rattle.abt_explore.specs.Unnumbered.{unnumbered_state}
use Rattle.abt_explore.proofs.Counting.{counts-push}
use Rattle.abt_explore.proofs.SameChanges.{after-same}
use Rattle.abt_explore.proofs.SameEvents.{may-numbered}
use Rattle.abt_explore.proofs.SameSound.{after-forgotten}
use Rattle.abt_explore.proofs.SameValues.{stands-forgotten}

module _ (W : Parts) (Z : Stored) (keeps : KeepsOrder W Z.orders) (J : List Event) (model : ModelValue) (reached : IsReachedBy W Z J model) where
  -- the last state without the numbers of rounds
  abbrev bare : State
  bare = unnumbered_state (last_state W J)

  -- events can have led to it
  pub reached-after : IsValid W → OrdersStored W Z.orders → IsAfter W Z 0 bare
  reached-after valid stored = after-forgotten W Z keeps (last_state W J) (last_state-sound W Z J (runs-are-sound W Z) valid stored reached.run)

  -- what is done there is done after the run
  pub done-reached : (new : ModelValue) (s : ℕ) (w : What) → s < W.streams → IsDone W Z 0 bare s w new → IsReachedBy W Z (J ++ next_event J s w ∷ []) (unnumbered_model new)
  done-reached new s w declared done =
      let e : Event = next_event J s w in
      record {
        run = run-push W Z (start W) J e reached.run declared (may-numbered W Z keeps (last_state W J) s w done.may);
        counted = counts-push 1 J e reached.counted (omega arith);
        shows = subst (λ (T : State). StandsFor W (unnumbered_state T) (unnumbered_model new)) (sym (state_after-append W (start W) J (e ∷ [])))
            (subst (λ (T : State). StandsFor W T (unnumbered_model new)) (after-same W (last_state W J) s w) (stands-forgotten W (after W bare s w) new done.stands));
      }
