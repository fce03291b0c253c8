-- Rotations lower the work that is left.
use Rattle.std.proofs.Common.{◌≡◌, ℕ, ◌<◌, ◌≤◌, ◌+◌, ◌-◌, ◌==◌, ◌&&◌, cond, Bool, true, false, List, [], ◌∷◌, ◌++◌, refl, ap, sym, ◌∙◌, subst, ◌⊎◌, arith, inl, inr}
use Rattle.std.proofs.lemmas.Bool.{eq-eqb}
use Rattle.std.proofs.lemmas.List.Sums.{sum_by-append, sum_by-cons}
use Rattle.abt_machine.specs.declared.events.Event.{Event}
use Rattle.abt_machine.specs.declared.grammar.Format.TheVariants as format
use Rattle.abt_machine.specs.Stored.{Stored}
use Rattle.abt_machine.specs.declared.workload.Parts.{Parts}
use Rattle.abt_machine.specs.Valid.{IsValid}
use Rattle.abt_machine.specs.Rounds.{OrdersStored}
use Rattle.abt_machine.specs.State.{State}
use Rattle.abt_machine.specs.Start.{start}
use Rattle.abt_machine.specs.Events.{after}
use Rattle.abt_machine.specs.Limits.{unit_limit}
use Rattle.abt_machine.specs.Runs.{Run, RunFrom, last_state, state_after}
use Rattle.abt_machine.specs.Sound.{Sound}
use Rattle.abt_machine.specs.Outcomes.{Quiet, is_step, steps_of}
use Rattle.abt_laws.specs.Measure.{open_frames, steps_left, state_weight}
use Rattle.abt_laws.proofs.RunParts.{last_state-sound, run-front, run-rest, state_after-append}
use Rattle.abt_laws.proofs.SoundRuns.{runs-are-sound}
use Rattle.abt_laws.proofs.Sums.{sum_up-falls, sum_up-same}
use Rattle.abt_outcomes.specs.Laws.{OthersRaiseNone, RotationsFall, StepsFall}
use Rattle.abt_outcomes.specs.Rotations.{HasNoStep, IsWithin, weight_limit, work_left, work_of}
use Rattle.abt_outcomes.proofs.Bounds.{numbers-are-bounded}
use Rattle.abt_outcomes.proofs.Lowering.{misses-open-none, misses-or-lower, rotations-lower}

-- Steps.

-- 1 for a step of stream s, 0 for any other event
abbrev step_by : ℕ → Event → ℕ
step_by s e = cond (is_step e.what && (e.stream.0 == s)) 1 0

steps-joined : (s : ℕ) (J es : List Event) → steps_of s (J ++ es) ≡ steps_of s J + steps_of s es
steps-joined s J es = sum_by-append (step_by s) J es

steps-first : (s : ℕ) (e : Event) (es : List Event) → steps_of s (e ∷ es) ≡ step_by s e + steps_of s es
steps-first s e es = sum_by-cons (step_by s) e es

no-steps : (s : ℕ) (es : List Event) → HasNoStep es → steps_of s es ≡ 0
no-steps s [] none = refl
no-steps s (e ∷ es) none =
    let here : step_by s e ≡ 0 = ap (λ b. cond {A = ℕ} (b && (e.stream.0 == s)) 1 0) none.0 in
    let rest : steps_of s es ≡ 0 = no-steps s es none.1 in omega (arith, steps-first s e es)

step-or-not : (b : Bool) → (b ≡ true) ⊎ (b ≡ false)
step-or-not true = inl refl
step-or-not false = inr refl

-- none of these events is a step, or a declared stream made one
some-step : (W : Parts) (Z : Stored) (S : State) (es : List Event) → RunFrom W Z S es → HasNoStep es ⊎ ((s : ℕ) × (s < W.streams) × (0 < steps_of s es))
some-step W Z S [] run = inl tt
some-step W Z S (e ∷ es) run =
    elim (step-or-not (is_step e.what)) [
      | inl step ↦
          let here : step_by e.stream.0 e ≡ 1 = ap (λ b. cond {A = ℕ} (b && (e.stream.0 == e.stream.0)) 1 0) step ∙ ap (λ b. cond {A = ℕ} b 1 0) (eq-eqb e.stream.0 e.stream.0 refl) in
          inr (e.stream.0, run.0, omega (arith, steps-first e.stream.0 e es))
      | inr other ↦ elim (some-step W Z (after W S e.stream.0 e.what) es run.2) [
        | inl none ↦ inl (other, none)
        | inr some ↦ (let more : 0 < steps_of some.0 es = some.2 in inr (some.0, some.1, omega (arith, steps-first some.0 e es)))
      ]
    ]

steps-same : (W : Parts) (n : ℕ) (J es : List Event) → HasNoStep es → steps_left W n (J ++ es) ≡ steps_left W n J
steps-same W n J es none =
    sum_up-same (λ s. n - steps_of s (J ++ es)) (λ s. n - steps_of s J) W.streams
    (λ s l. (let same : steps_of s (J ++ es) ≡ steps_of s J = omega (arith, steps-joined s J es, no-steps s es none) in ap (λ m. n - m) same))

steps-less : (W : Parts) (n : ℕ) (J es : List Event) (s : ℕ) → IsWithin W n (J ++ es) → s < W.streams → 0 < steps_of s es → steps_left W n (J ++ es) < steps_left W n J
steps-less W n J es s within declared some =
    sum_up-falls (λ r. n - steps_of r (J ++ es)) (λ r. n - steps_of r J) W.streams s declared
    (let most : steps_of s (J ++ es) ≤ n = within s declared in omega (arith, steps-joined s J es))
    (λ r l. omega (arith, steps-joined r J es))

-- What is left after a run and some more events.

record Goes (W : Parts) (Z : Stored) (J es : List Event) : Type 0 where
  before : Sound W Z (last_state W J)
  later : Sound W Z (state_after W (last_state W J) es)
  run : RunFrom W Z (last_state W J) es
  last : last_state W (J ++ es) ≡ state_after W (last_state W J) es

goes : (W : Parts) (Z : Stored) (J es : List Event) → IsValid W → OrdersStored W Z.orders → Run W Z (J ++ es) → Goes W Z J es
goes W Z J es valid stored run =
    let last : last_state W (J ++ es) ≡ state_after W (last_state W J) es = state_after-append W (start W) J es in
    record {
      before = last_state-sound W Z J (runs-are-sound W Z) valid stored (run-front W Z (start W) J es run);
      later = subst (Sound W Z) last (last_state-sound W Z (J ++ es) (runs-are-sound W Z) valid stored run);
      run = run-rest W Z (start W) J es run;
      last = last;
    }

-- the work that is left, by the state after the last event
abbrev work_at : Parts → ℕ → List Event → State → ℕ
work_at W n J S = work_of (steps_left W n J) (state_weight W S) (open_frames W S)

pub steps-fall : (W : Parts) (Z : Stored) → StepsFall W Z
steps-fall W Z valid stored n J es run within =
    let way : Goes W Z J es = goes W Z J es valid stored run in
    let T : State = state_after W (last_state W J) es in
    let bounds : (state_weight W T ≤ weight_limit) × (open_frames W T ≤ unit_limit format.Three) = numbers-are-bounded W Z valid T way.later in
    elim (some-step W Z (last_state W J) es way.run) [
      | inl none ↦ inl none
      | inr some ↦ inr (subst (λ U. work_at W n (J ++ es) U < work_left W n J) (sym way.last)
          (let fewer : steps_left W n (J ++ es) < steps_left W n J = steps-less W n J es some.0 within some.1 some.2 in omega arith))
    ]

pub others-raise-none : (W : Parts) (Z : Stored) → OthersRaiseNone W Z
others-raise-none W Z valid stored n J es run still =
    let way : Goes W Z J es = goes W Z J es valid stored run in
    let S : State = last_state W J in
    let T : State = state_after W S es in
    let bounds : (state_weight W T ≤ weight_limit) × (open_frames W T ≤ unit_limit format.Three) = numbers-are-bounded W Z valid T way.later in
    let same : steps_left W n (J ++ es) ≡ steps_left W n J = steps-same W n J es still in
    subst (λ U. work_at W n (J ++ es) U ≤ work_left W n J) (sym way.last)
    (elim (misses-or-lower W Z S es valid stored way.before way.run still) [
      | inr lighter ↦ omega arith
      | inl all ↦
          let weighs : state_weight W T ≡ state_weight W S = all.1 in
          let frames : open_frames W T ≤ open_frames W S = misses-open-none W Z S es way.run all.0 in omega arith
    ])

pub rotations-fall : (W : Parts) (Z : Stored) → RotationsFall W Z
rotations-fall W Z valid stored n J es run within turns =
    let way : Goes W Z J es = goes W Z J es valid stored run in
    let S : State = last_state W J in
    let T : State = state_after W S es in
    let bounds : (state_weight W T ≤ weight_limit) × (open_frames W T ≤ unit_limit format.Three) = numbers-are-bounded W Z valid T way.later in
    elim (steps-fall W Z valid stored n J es run within) [
      | inr less ↦ inr less
      | inl none ↦
          let same : steps_left W n (J ++ es) ≡ steps_left W n J = steps-same W n J es none in
          subst (λ U. Quiet W U ⊎ (work_at W n (J ++ es) U < work_left W n J)) (sym way.last)
          (elim (rotations-lower W Z valid stored S es way.before way.run none (turns none)) [
            | inl quiet ↦ inl quiet
            | inr less ↦ inr (elim less [ inl lighter ↦ omega arith | inr fewer ↦ omega arith ])
          ])
    ]
