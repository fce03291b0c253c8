-- Each adder that has ended was done.
use Rattle.std.proofs.Common.{◌≡◌, ℕ, ◌<◌, ◌≤◌, List, [], ◌∷◌, length, Option, Some, None, refl, sym, subst, inl, inr}
use Rattle.abt_machine.specs.declared.events.Cause.{Cause}
use Rattle.abt_machine.specs.declared.events.Cause.TheVariants as cause
use Rattle.abt_machine.specs.declared.events.Event.{Event}
use Rattle.abt_machine.specs.declared.events.Place.{Place}
use Rattle.abt_machine.specs.declared.events.Place.TheVariants as place
use Rattle.abt_machine.specs.declared.events.What.{What}
use Rattle.abt_machine.specs.declared.events.What.TheVariants as what
use Rattle.abt_machine.specs.Events.{May, after}
use Rattle.abt_machine.specs.Limits.{adder_limit}
use Rattle.abt_machine.specs.Lives.{cause_in, ends_in}
use Rattle.abt_machine.specs.Next.{EndDue}
use Rattle.abt_machine.specs.Runs.{Run, RunFrom, last_state, state_after}
use Rattle.abt_machine.specs.Sound.{Sound}
use Rattle.abt_machine.specs.Start.{start, start_place}
use Rattle.abt_machine.specs.State.{State}
use Rattle.abt_machine.specs.Stored.{Stored}
use Rattle.abt_machine.specs.Workloads.{body_at, start_of}
use Rattle.abt_laws.proofs.Dues.{due-unit}
use Rattle.abt_laws.proofs.LifeEvents.{fate}
use Rattle.abt_laws.proofs.LifeTies.{Acting, Beginning, Drifting, Fate, IsOutside, ends_at}
use Rattle.abt_laws.proofs.RunParts.{last_state-sound}
use Rattle.abt_laws.proofs.SoundRuns.{events-keep-sound, runs-are-sound}
use Rattle.abt_generate.specs.Generated.{generated}
use Rattle.abt_generate.proofs.GeneratedParts.{IsValid-generated}
use Rattle.abt_adders.proofs.Calm.{end-done}
use Rattle.abt_adders.proofs.Events.{event-adds, steps_after}
use Rattle.abt_adders.proofs.Going.{Adds}
use Rattle.abt_adders.proofs.Programs.{no-sched, orders-stored}

-- a unit here has not ended, or was done
abbrev pub IsDone : Place → Type 0
IsDone (place.Ended c) = c ≡ cause.Done
IsDone _ = Unit {0}

outside-done : (pl : Place) → IsOutside pl → IsDone pl
outside-done (place.Ended c) h = absurd h
outside-done _ h = tt

-- a life that an event ends has its cause
ends-one : (w : What) (c : Cause) → c ∷ [] ≡ ends_in (w ∷ []) → cause_in w ≡ Some c
ends-one (what.Miss p) c h = absurd cc
ends-one (what.Take p u) c h = absurd cc
ends-one (what.Look u) c h = absurd cc
ends-one (what.Step u k d) c h = absurd cc
ends-one (what.Call u k n) c h = absurd cc
ends-one (what.Put u p) c h = absurd cc
ends-one (what.End u d) c h = cc
ends-one (what.Enter u) c h = absurd cc
ends-one (what.Leave u) c h = absurd cc

module _ (n : ℕ) (Z : Stored) (t : ℕ) (S : State) (adds : Adds n t S) (s : ℕ) where
  -- which is that it was done
  event-done : (w : What) (c : Cause) → May (generated n) Z S s w → cause_in w ≡ Some c → c ≡ cause.Done
  event-done (what.End u d) c may is =
      let same : d ≡ c = cc in
      subst (λ x. x ≡ cause.Done) same
      (end-done (generated n) s (S.stream s).mark (body_at (generated n) u.0) (S.carried u.0).position d (due-unit (generated n) S s (EndDue d) u.0 may.0 tt may.1) (adds.calm.marks s) (no-sched n u.0))
  event-done _ c may is = absurd cc

  module _ (u : ℕ) (w : What) (may : May (generated n) Z S s w) where
    acted : (pl : Place) → ends_at pl ≡ ends_in (w ∷ []) → IsDone pl
    acted (place.Ended c) e = event-done w c may (ends-one w c e)
    acted _ e = tt

    fated : (T : State) → Fate (generated n) u w S T → IsDone (S.place u) → IsDone (T.place u)
    fated T (Drifting other same drifts) done =
        elim drifts.moves [
          | inl stays ↦ subst IsDone (sym stays) done
          | inr away ↦ outside-done (T.place u) away.1
        ]
    fated T (Acting own same acts) done = acted (T.place u) acts.ends
    fated T (Beginning other new begins) done = outside-done (T.place u) begins.outside

module _ (n : ℕ) (few : n ≤ adder_limit) (Z : Stored) (u : ℕ) (declared : u < length (generated n).units) where
  done-along : (t : ℕ) (S : State) (es : List Event) → Adds n t S → Sound (generated n) Z S → IsDone (S.place u) → RunFrom (generated n) Z S es → IsDone ((state_after (generated n) S es).place u)
  done-along t S [] adds sound done run = done
  done-along t S (e ∷ es) adds sound done run =
      let T : State = after (generated n) S e.stream.0 e.what in
      done-along (steps_after t e.what) T es (event-adds n few Z t S adds e.stream.0 e.what run.1)
      (events-keep-sound (generated n) Z (IsValid-generated n few) (orders-stored n Z.orders) S T e sound (run.0, run.1, refl))
      (fated n Z t S adds e.stream.0 u e.what run.1 T (fate (generated n) Z S sound e.stream.0 u declared e.what run.1) done) run.2

  start-done : (o : Option ℕ) → IsDone (start_place (generated n) u o)
  start-done None = tt
  start-done (Some p) = tt

  -- whoever has ended in a run was done
  pub runs-done : (J : List Event) → Adds n 0 (start (generated n)) → Run (generated n) Z J → IsDone ((last_state (generated n) J).place u)
  runs-done J adds run =
      done-along 0 (start (generated n)) J adds (last_state-sound (generated n) Z [] (runs-are-sound (generated n) Z) (IsValid-generated n few) (orders-stored n Z.orders) tt) (start-done (start_of (generated n) u)) run
