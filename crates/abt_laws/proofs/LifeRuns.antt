-- In every run each life of each unit goes as lives do.
use Rattle.std.proofs.Common.{◌≡◌, ℕ, ◌<◌, false, List, [], ◌∷◌, ◌++◌, length, Option, Some, None, refl, sym, subst, arith, inl, inr, ◌↔◌, append_assoc}
use Rattle.std.proofs.lemmas.Bool.{cases_order}
use Rattle.std.proofs.lemmas.List.{append-nil}
use Rattle.abt_machine.specs.declared.events.Event.{Event}
use Rattle.abt_machine.specs.declared.events.Place.TheVariants as place
use Rattle.abt_machine.specs.declared.events.What.{What}
use Rattle.abt_machine.specs.Stored.{Stored}
use Rattle.abt_machine.specs.declared.workload.Parts.{Parts}
use Rattle.abt_machine.specs.Valid.{IsValid}
use Rattle.abt_machine.specs.Rounds.{OrdersStored}
use Rattle.abt_machine.specs.Workloads.{body_at, ops_of, start_of}
use Rattle.abt_machine.specs.State.{State}
use Rattle.abt_machine.specs.Start.{start, start_place, first_life}
use Rattle.abt_machine.specs.Events.{May, after}
use Rattle.abt_machine.specs.Runs.{Run, last_state}
use Rattle.abt_machine.specs.Sound.{Sound}
use Rattle.abt_machine.specs.Lives.{last_life, life_events, IsLife}
use Rattle.abt_machine.proofs.Declared.{body-valid}
use Rattle.abt_laws.specs.Laws.{RunsAreSound, RunsLive}
use Rattle.abt_laws.proofs.Exits.{exited_at, no-exit-nil, done-kept, tasks-never-exit}
use Rattle.abt_laws.proofs.LifeLists.{IsLife-nil}
use Rattle.abt_laws.proofs.LifeTies.{ends_at, passage_at, Tied, TiedTo, tied-after}
use Rattle.abt_laws.proofs.LifeEvents.{fate}
use Rattle.abt_laws.proofs.RunParts.{state_after-append, run-front, run-rest, last_state-sound}

-- The start.

start-unborn : (W : Parts) (u : ℕ) (o : Option ℕ) → start_place W u o ≡ place.Unborn → first_life o ≡ 0
start-unborn W u None h = refl
start-unborn W u (Some p) h = cc

start-born : (W : Parts) (u : ℕ) (o : Option ℕ) → first_life o ≡ 0 → start_place W u o ≡ place.Unborn
start-born W u None h = refl
start-born W u (Some p) h = absurd (omega arith)

start-ends : (W : Parts) (u : ℕ) (o : Option ℕ) → [] ≡ ends_at (start_place W u o)
start-ends W u None = refl
start-ends W u (Some p) = refl

start-passage : (W : Parts) (u : ℕ) (o : Option ℕ) → (0, 0) ≡ passage_at (start W).stream (start_place W u o)
start-passage W u None = refl
start-passage W u (Some p) = refl

start-exited : (W : Parts) (u : ℕ) (o : Option ℕ) → exited_at (start W).stream (start_place W u o) ≡ false
start-exited W u None = refl
start-exited W u (Some p) = refl

no-earlier : (o : Option ℕ) (l : ℕ) → 0 < l → l < first_life o → ⊥
no-earlier None l some below = omega arith
no-earlier (Some p) l some below = omega arith

-- at the start nothing has happened
start-tied : (W : Parts) (u : ℕ) → TiedTo W [] (start W) u
start-tied W u = record {
  life = refl;
  unborn = start-unborn W u (start_of W u);
  born = start-born W u (start_of W u);
  nothing_unborn = refl;
  steps = refl;
  ends = start-ends W u (start_of W u);
  passed = λ h. start-passage W u (start_of W u);
  done = done-kept (ops_of (body_at W u)) false (exited_at (start W).stream (start_place W u (start_of W u))) 0 0 (start-exited W u (start_of W u)) refl no-exit-nil;
  is_life = IsLife-nil (body_at W u);
  earlier = λ l some below. absurd (no-earlier (start_of W u) l some below);
  later = λ l above. refl;
}

-- Runs.

module _ (W : Parts) (Z : Stored) (sound : RunsAreSound W Z) (valid : IsValid W) (stored : OrdersStored W Z.orders) (u : ℕ) (declared : u < length W.units) where
  -- one event more
  tied-more : (K : List Event) (e : Event) → Run W Z K → Run W Z (K ++ e ∷ []) → May W Z (last_state W K) e.stream.0 e.what → TiedTo W K (last_state W K) u → TiedTo W (K ++ e ∷ []) (last_state W (K ++ e ∷ [])) u
  tied-more K e run more may tied =
      let S : State = last_state W K in
      let T : State = after W S e.stream.0 e.what in
      let is : last_state W (K ++ e ∷ []) ≡ T = state_after-append W (start W) K (e ∷ []) in
      let before : Sound W Z S = last_state-sound W Z K sound valid stored run in
      let afterwards : Sound W Z T = subst (Sound W Z) is (last_state-sound W Z (K ++ e ∷ []) sound valid stored more) in
      subst (λ U. TiedTo W (K ++ e ∷ []) U u) (sym is) (tied-after W K e u S T tied (afterwards.positions u) (tasks-never-exit (length W.scheds) (body_at W u) (body-valid W u valid)) (fate W Z S before e.stream.0 u declared e.what may))

  tied-along-run : (K es : List Event) → Run W Z (K ++ es) → TiedTo W K (last_state W K) u → TiedTo W (K ++ es) (last_state W (K ++ es)) u
  tied-along-run K [] run tied = subst (λ J. TiedTo W J (last_state W J) u) (sym (append-nil K)) tied
  tied-along-run K (e ∷ es) run tied =
      let shift : (K ++ e ∷ []) ++ es ≡ K ++ e ∷ es = append_assoc K (e ∷ []) es in
      let whole : Run W Z ((K ++ e ∷ []) ++ es) = subst (Run W Z) (sym shift) run in
      let more : TiedTo W (K ++ e ∷ []) (last_state W (K ++ e ∷ [])) u =
      tied-more K e (run-front W Z (start W) K (e ∷ es) run) (run-front W Z (start W) (K ++ e ∷ []) es whole) (run-rest W Z (start W) K (e ∷ es) run).1 tied in
      subst (λ J. TiedTo W J (last_state W J) u) shift (tied-along-run (K ++ e ∷ []) es whole more)

  -- after a run its events are tied to the last state
  pub run-tied : (J : List Event) → Run W Z J → TiedTo W J (last_state W J) u
  run-tied J run = tied-along-run [] J run (start-tied W u)

  -- the life that unit u is in after a run is the state's
  pub run-life : (J : List Event) → Run W Z J → ((last_state W J).desk u).life ≡ last_life W J u
  run-life J run = (run-tied J run).life

  -- unit u is unborn exactly if its life is 0
  pub run-unborn : (J : List Event) → Run W Z J → ((last_state W J).place u ≡ place.Unborn) ↔ (last_life W J u ≡ 0)
  run-unborn J run = ((run-tied J run).unborn, (run-tied J run).born)

  -- an unborn unit has no events
  run-nothing_unborn : (J : List Event) → Run W Z J → life_events W J u 0 ≡ []
  run-nothing_unborn J run = (run-tied J run).nothing_unborn

-- Lives.

-- every life is one: an earlier one, the one that goes on, or none yet
tied-lives : (W : Parts) (u now : ℕ) (events : ℕ → List What) (S : State) → Tied W u now events S → (l : ℕ) → 0 < l → IsLife (body_at W u) (events l)
tied-lives W u now events S tied l some =
    elim (cases_order l now) [
      | inl same ↦ subst (λ n. IsLife (body_at W u) (events n)) (sym same) tied.is_life
      | inr other ↦ elim other [
        | inl below ↦ (tied.earlier l some below).0
        | inr above ↦ subst (IsLife (body_at W u)) (sym (tied.later l above)) (IsLife-nil (body_at W u))
      ]
    ]

pub runs-live : (W : Parts) (Z : Stored) → RunsAreSound W Z → RunsLive W Z
runs-live W Z sound valid stored J run = record {
  lives = λ u l declared some. tied-lives W u (last_life W J u) (life_events W J u) (last_state W J) (run-tied W Z sound valid stored u declared J run) l some;
  ended = λ u l declared some below. ((run-tied W Z sound valid stored u declared J run).earlier l some below).1;
  unborn = λ u declared. run-nothing_unborn W Z sound valid stored u declared J run;
}
