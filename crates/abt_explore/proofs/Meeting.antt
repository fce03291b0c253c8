-- Each run after which nothing is left to do leads to what some model shows, if the models are closed to ends.
use Rattle.std.proofs.Common.{◌≡◌, ◌<◌, ℕ, zero, suc, List, [], ◌∷◌, length, refl, subst, sym, arith, inl, inr}
use Rattle.abt_machine.specs.declared.events.Event.{Event}
use Rattle.abt_machine.specs.declared.events.What.{What}
use Rattle.abt_machine.specs.Stored.{Stored}
use Rattle.abt_machine.specs.declared.workload.Parts.{Parts}
use Rattle.abt_machine.specs.Numbers.{stream_no}
use Rattle.abt_machine.specs.Valid.{IsValid}
use Rattle.abt_machine.specs.Rounds.{OrdersStored}
use Rattle.abt_machine.specs.State.{State}
use Rattle.abt_machine.specs.Start.{start}
use Rattle.abt_machine.specs.Events.{After, May, after}
use Rattle.abt_machine.specs.Runs.{Run, RunFrom, last_state, state_after}
use Rattle.abt_machine.specs.Outcomes.{Quiet}
use Rattle.abt_machine.specs.Sound.{Sound}
use Rattle.abt_laws.proofs.Quiet.{quiet-stays}
use Rattle.abt_laws.proofs.SoundRuns.{events-keep-sound}
use Rattle.abt_laws.proofs.SoundStart.{start-is-sound}
use Rattle.abt_model.specs.Models.{ModelValue, StandsFor}
use Rattle.abt_explore.specs.Alone.{AreAllTried, AreClosedToEnds, IsAlone, IsWithout}
use Rattle.abt_explore.specs.Laws.{SeesState}
use Rattle.abt_explore.specs.Orders.{KeepsOrder}
use Rattle.abt_explore.specs.Unnumbered.{unnumbered_state}
use Rattle.abt_explore.proofs.SameChanges.{after-same}
use Rattle.abt_explore.proofs.SameEvents.{may-forgotten}
use Rattle.abt_explore.proofs.SameSound.{after-forgotten}
use Rattle.abt_explore.proofs.Waiting.{FirstOf, IsShortened, first-of, shortened}

-- n events that lead from a sound state to one in which nothing is left to do
record IsToEnd (W : Parts) (Z : Stored) (n : ℕ) (S : State) (K : List Event) : Type 0 where
  long : length K ≡ n
  sound : Sound W Z S
  run : RunFrom W Z S K
  quiet : Quiet W (state_after W S K)

-- the event by which stream s goes on, with a stamp that does not count
abbrev event_of : ℕ → What → Event
event_of s w = record { stamp = 0; stream = stream_no s; what = w }

module _ (W : Parts) (Z : Stored) (valid : IsValid W) (stored : OrdersStored W Z.orders) where
  sound-after : (S : State) (s : ℕ) (w : What) → s < W.streams → Sound W Z S → May W Z S s w → Sound W Z (after W S s w)
  sound-after S s w declared sound may = events-keep-sound W Z valid stored S (after W S s w) (event_of s w) sound (declared, may, refl)

  sound-along : (S : State) (K : List Event) → Sound W Z S → RunFrom W Z S K → Sound W Z (state_after W S K)
  sound-along S [] sound run = sound
  sound-along S (e ∷ es) sound run = sound-along (after W S e.stream.0 e.what) es (sound-after S e.stream.0 e.what run.0 sound run.1) run.2

module _ (W : Parts) (Z : Stored) (valid : IsValid W) (stored : OrdersStored W Z.orders) (keeps : KeepsOrder W Z.orders) (IsSeen : ModelValue → Type 0) where
  -- what a seen model shows after the event without numbers of rounds, it shows after the event with them
  sees-numbered : (S : State) (s : ℕ) (w : What) → SeesState W IsSeen (after W (unnumbered_state S) s w) → SeesState W IsSeen (after W S s w)
  sees-numbered S s w sees = subst (λ (T : State). (model : ModelValue) × IsSeen model × StandsFor W T model) (after-same W S s w) sees

  module _ (n : ℕ) (shorter : (S : State) (K : List Event) → IsToEnd W Z n S K → SeesState W IsSeen S → SeesState W IsSeen (state_after W S K)) where
    -- if all events are tried, the first of these is
    met-by-all : (S : State) (e : Event) (es : List Event) → IsToEnd W Z (suc n) S (e ∷ es) → AreAllTried W Z IsSeen (unnumbered_state S) → SeesState W IsSeen (state_after W S (e ∷ es))
    met-by-all S e es goes all =
        let long : suc (length es) ≡ suc n = goes.long in
        let declared : e.stream.0 < W.streams = goes.run.0 in
        let may : May W Z S e.stream.0 e.what = goes.run.1 in
        shorter (after W S e.stream.0 e.what) es
        (record { long = omega arith; sound = sound-after W Z valid stored S e.stream.0 e.what declared goes.sound may; run = goes.run.2; quiet = goes.quiet })
        (sees-numbered S e.stream.0 e.what (all e.stream.0 e.what declared (may-forgotten W Z keeps S e.stream.0 e.what may)))

    module _ (S : State) (K : List Event) (s : ℕ) (w : What) (goes : IsToEnd W Z (suc n) S K) (alone : IsAlone W Z S s w) (sees : SeesState W IsSeen (after W (unnumbered_state S) s w)) where
      -- if one is tried alone, and is among these, it may come first
      met-among : FirstOf s K → SeesState W IsSeen (state_after W S K)
      met-among first =
          let short : IsShortened W Z S s w K = shortened W valid Z S (λ J run. sound-along W Z valid stored S J goes.sound run) s w alone K goes.run first in
          let many : suc (length short.rest) ≡ length K = short.shorter in
          let all : length K ≡ suc n = goes.long in
          subst (SeesState W IsSeen) short.same (shorter (after W S s w) short.rest (record {
            long = omega arith;
            sound = sound-after W Z valid stored S s w alone.declared goes.sound (alone.waits.stays [] tt tt);
            run = short.run;
            quiet = subst (Quiet W) (sym short.same) goes.quiet;
          }) (sees-numbered S s w sees))

      -- and its stream has an event among these, or it could come when nothing is left to do
      none-without : IsWithout s K → ⊥
      none-without without =
          let end : State = state_after W S K in
          let there : May W Z end s w = alone.waits.stays K without goes.run in
          let step : After W Z end (event_of s w) (after W end s w) = (alone.declared, there, refl) in
          alone.no_miss (quiet-stays W Z end (after W end s w) (event_of s w) (sound-along W Z valid stored S K goes.sound goes.run) goes.quiet step).0

      met-by-one : SeesState W IsSeen (state_after W S K)
      met-by-one = elim (first-of s K) [ inl first ↦ met-among first | inr without ↦ absurd (none-without without) ]

  module _ (closed : AreClosedToEnds W Z IsSeen) where
    -- by induction over their number
    met-from : (n : ℕ) (S : State) (K : List Event) → IsToEnd W Z n S K → SeesState W IsSeen S → SeesState W IsSeen (state_after W S K)
    met-from n S [] goes seen = seen
    met-from zero S (e ∷ es) goes seen = let long : suc (length es) ≡ 0 = goes.long in absurd (omega arith)
    met-from (suc n) S (e ∷ es) goes seen =
        elim (closed (unnumbered_state S) seen.0 (after-forgotten W Z keeps S goes.sound) seen.2 seen.1) [
          | inl all ↦ met-by-all n (met-from n) S e es goes all
          | inr one ↦ met-by-one n (met-from n) S (e ∷ es) one.0 one.1 goes (one.2 S goes.sound refl) one.3
        ]

    -- from the start
    pub met-along : SeesState W IsSeen (start W) → (J : List Event) → Run W Z J → Quiet W (last_state W J) → SeesState W IsSeen (last_state W J)
    met-along seen J run quiet = met-from (length J) (start W) J (record { long = refl; sound = start-is-sound W Z valid stored; run = run; quiet = quiet }) seen
