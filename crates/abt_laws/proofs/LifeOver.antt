-- After a run every unit is unborn or ended exactly if each of its lives has its one end in the journal.
use Rattle.std.proofs.Common.{◌≡◌, ℕ, ◌<◌, ◌≤◌, List, [], ◌∷◌, length, refl, sym, ◌∙◌, ap, subst, arith, inl, inr}
use Rattle.std.proofs.lemmas.Bool.{cases_order}
use Rattle.abt_machine.specs.declared.events.Cause.{Cause}
use Rattle.abt_machine.specs.declared.events.Place.{Place}
use Rattle.abt_machine.specs.declared.events.Place.TheVariants as place
use Rattle.abt_machine.specs.declared.events.What.{What}
use Rattle.abt_machine.specs.Stored.{Stored}
use Rattle.abt_machine.specs.declared.workload.Parts.{Parts}
use Rattle.abt_machine.specs.Lives.{ends_in, last_life, life_events}
use Rattle.abt_machine.specs.Outcomes.{IsOver}
use Rattle.abt_machine.specs.Runs.{last_state}
use Rattle.abt_machine.specs.Sound.{Sound}
use Rattle.abt_machine.specs.State.{State}
use Rattle.abt_laws.specs.Laws.{EndsAreTheJournals, RunsAreSound}
use Rattle.abt_laws.proofs.LifeTies.{ends_at, Tied}
use Rattle.abt_laws.proofs.LifeRuns.{run-tied}
use Rattle.abt_laws.proofs.RunParts.{last_state-sound}

is-over : (pl : Place) (c : Cause) → ends_at pl ≡ c ∷ [] → IsOver pl
is-over place.Unborn c h = tt
is-over (place.Ended d) c h = tt
is-over (place.Pool p t) c h = cc
is-over (place.Hand s) c h = cc
is-over (place.Next s) c h = cc
is-over (place.Tray s t) c h = cc
is-over (place.Frame s d) c h = cc
is-over (place.Blocked x t) c h = cc

module _ (W : Parts) (u now : ℕ) (events : ℕ → List What) (S : State) (tied : Tied W u now events S) where
  now-ends : (pl : Place) → S.place u ≡ pl → IsOver pl → 0 < now → (c : Cause) × (ends_in (events now) ≡ c ∷ [])
  now-ends place.Unborn at over l = let none : now ≡ 0 = tied.unborn at in absurd (omega arith)
  now-ends (place.Ended c) at over l = (c, tied.ends ∙ ap ends_at at)
  now-ends _ at over l = absurd over

  each-ends : IsOver (S.place u) → (l : ℕ) → 0 < l → l ≤ now → (c : Cause) × (ends_in (events l) ≡ c ∷ [])
  each-ends over l some most =
      elim (cases_order l now) [
        | inl same ↦ subst (λ n. (c : Cause) × (ends_in (events n) ≡ c ∷ [])) (sym same) (now-ends (S.place u) refl over (omega arith))
        | inr other ↦ elim other [
          | inl below ↦ (tied.earlier l some below).1
          | inr above ↦ absurd (omega arith)
        ]
      ]

  over-by-ends : ((l : ℕ) → 0 < l → l ≤ now → (c : Cause) × (ends_in (events l) ≡ c ∷ [])) → IsOver (S.place u)
  over-by-ends each =
      elim (cases_order now 0) [
        | inl none ↦ subst IsOver (sym (tied.born none)) tt
        | inr other ↦ elim other [
          | inl below ↦ absurd (omega arith)
          | inr above ↦ let last = each now above (omega arith) in is-over (S.place u) last.0 (sym tied.ends ∙ last.1)
        ]
      ]

pub ends-are-the-journals : (W : Parts) (Z : Stored) → RunsAreSound W Z → EndsAreTheJournals W Z
ends-are-the-journals W Z sound valid stored J run = (to, from) where
  S : State
  S = last_state W J

  is-sound : Sound W Z S
  is-sound = last_state-sound W Z J sound valid stored run

  to : ((u : ℕ) → IsOver (S.place u)) → (u l : ℕ) → u < length W.units → 0 < l → l ≤ last_life W J u → (c : Cause) × (ends_in (life_events W J u l) ≡ c ∷ [])
  to ended u l declared some most = each-ends W u (last_life W J u) (life_events W J u) S (run-tied W Z sound valid stored u declared J run) (ended u) l some most

  from : ((u l : ℕ) → u < length W.units → 0 < l → l ≤ last_life W J u → (c : Cause) × (ends_in (life_events W J u l) ≡ c ∷ [])) → (u : ℕ) → IsOver (S.place u)
  from each u =
      elim (cases_order u (length W.units)) [
        | inl same ↦ subst IsOver (sym (is-sound.undeclared u (omega arith))) tt
        | inr other ↦ elim other [
          | inl declared ↦ over-by-ends W u (last_life W J u) (life_events W J u) S (run-tied W Z sound valid stored u declared J run) (λ l some most. each u l declared some most)
          | inr beyond ↦ subst IsOver (sym (is-sound.undeclared u (omega arith))) tt
        ]
      ]
