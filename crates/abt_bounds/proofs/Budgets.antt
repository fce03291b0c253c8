-- A run has at most as many steps as its lives have operations.
use Rattle.std.proofs.Common.{◌≡◌, ℕ, zero, suc, ◌≤◌, ◌<◌, ◌+◌, ◌*◌, ◌==◌, Bool, true, false, List, [], ◌∷◌, ◌++◌, length, refl, ap, sym, ◌∙◌, arith}
use Rattle.std.specs.Prelude.{◌&&◌}
use Rattle.std.proofs.lemmas.Bool.{eq-eqb, ne_eqb}
use Rattle.std.proofs.lemmas.List.Sums.{sum_by-cons, sum_by_push}
use Rattle.abt_machine.specs.declared.events.Event.{Event}
use Rattle.abt_machine.specs.declared.events.What.{What}
use Rattle.abt_machine.specs.declared.events.What.TheVariants as what
use Rattle.abt_machine.specs.declared.operations.Body.{Body}
use Rattle.abt_machine.specs.declared.operations.Body.TheVariants as body
use Rattle.abt_machine.specs.Stored.{Stored}
use Rattle.abt_machine.specs.declared.workload.Parts.{Parts}
use Rattle.abt_machine.specs.Events.{May, after}
use Rattle.abt_machine.specs.Lines.{InHand}
use Rattle.abt_machine.specs.Lives.{LivesOf, StepsFit, last_life, life_events, positions_in}
use Rattle.abt_machine.specs.Next.{StepDue, due}
use Rattle.abt_machine.specs.Numbers.{stream_no}
use Rattle.abt_machine.specs.Outcomes.{is_step, steps_in, steps_of}
use Rattle.abt_machine.specs.Runs.{Run, RunFrom, last_state}
use Rattle.abt_machine.specs.Start.{first_life, start}
use Rattle.abt_machine.specs.State.{State}
use Rattle.abt_machine.specs.Workloads.{body_at, ops_of, start_of}
use Rattle.abt_laws.proofs.LifeRuns.{runs-live}
use Rattle.abt_laws.proofs.RunParts.{last_state-sound, run-push}
use Rattle.abt_laws.proofs.SoundRuns.{runs-are-sound}
use Rattle.abt_laws.proofs.Standing.{StandsIn, first-stands}
use Rattle.abt_laws.proofs.Sums.{sum_up, sum_up-none, sum_up-plus, sum_up-rises, sum_up-same, sum_up-single}
use Rattle.abt_bounds.proofs.Coming.{some-next}
use Rattle.abt_bounds.proofs.Counting.{life_steps, one_if, step_by, steps-by-life, steps_by, steps_by-cons, sum-of-lives}
use Rattle.abt_bounds.proofs.FewLives.{lives-are-few}
use Rattle.abt_bounds.specs.Laws.{StepsAreFew, StepsAreOfLives, StepsBoundBudgets, ops_in, ops_lived, ops_of_unit}

-- Steps by unit.

one-step : (W : Parts) (Z : Stored) (S : State) (s : ℕ) (w : What) → May W Z S s w → one_if (is_step w) ≡ sum_up (λ u. step_by u w) (length W.units)
one-step W Z S s (what.Step u k c) may =
    let is : StandsIn W S (InHand s) u.0 = first-stands W S (InHand s) u.0 may.1 in
    let own : step_by u.0 (what.Step u k c) ≡ 1 = ap one_if (eq-eqb u.0 u.0 refl) in
    sym (sum_up-single (λ v. step_by v (what.Step u k c)) (length W.units) u.0 is.declared (λ v ne. ap one_if (ne_eqb u.0 v (λ e. ne (sym e)))) ∙ own)
one-step W Z S s (what.Call u k n) may =
    let is : StandsIn W S (InHand s) u.0 = first-stands W S (InHand s) u.0 may.1 in
    let own : step_by u.0 (what.Call u k n) ≡ 1 = ap one_if (eq-eqb u.0 u.0 refl) in
    sym (sum_up-single (λ v. step_by v (what.Call u k n)) (length W.units) u.0 is.declared (λ v ne. ap one_if (ne_eqb u.0 v (λ e. ne (sym e)))) ∙ own)
one-step W Z S s w may = sym (sum_up-none (λ u. step_by u w) (length W.units) (λ v l. refl))

-- each step is of a declared unit
steps-by-unit : (W : Parts) (Z : Stored) (S : State) (J : List Event) → RunFrom W Z S J → steps_in J ≡ sum_up (λ u. steps_by u J) (length W.units)
steps-by-unit W Z S [] run = sym (sum_up-none (λ u. 0) (length W.units) (λ v l. refl))
steps-by-unit W Z S (e ∷ es) run =
    let n : ℕ = length W.units in
    let first : one_if (is_step e.what) ≡ sum_up (λ u. step_by u e.what) n = one-step W Z S e.stream.0 e.what run.1 in
    let rest : steps_in es ≡ sum_up (λ u. steps_by u es) n = steps-by-unit W Z (after W S e.stream.0 e.what) es run.2 in
    let both : sum_up (λ u. steps_by u (e ∷ es)) n ≡ sum_up (λ u. step_by u e.what + steps_by u es) n = sum_up-same (λ u. steps_by u (e ∷ es)) (λ u. step_by u e.what + steps_by u es) n (λ u l. steps_by-cons u e es) in
    let parts : sum_up (λ u. step_by u e.what + steps_by u es) n ≡ sum_up (λ u. step_by u e.what) n + sum_up (λ u. steps_by u es) n = sum_up-plus (λ u. step_by u e.what) (λ u. steps_by u es) n in
    let all : steps_in (e ∷ es) ≡ one_if (is_step e.what) + steps_in es = sum_by-cons (λ (e : Event). one_if (is_step e.what)) e es in omega arith

-- Steps by life.

life-fits : (b : Body) (es : List What) → StepsFit b es → length (positions_in es) ≤ length (ops_of b)
life-fits (body.Ult ops) es fit = fit.0
life-fits (body.Task ops) es fit = fit.0
life-fits (body.Sched g) es fit = let none : length (positions_in es) ≡ 0 = ap length fit in omega arith

unit-steps : (W : Parts) (J : List Event) (u : ℕ) → LivesOf W J → u < length W.units → steps_by u J ≤ last_life W J u * ops_of_unit W u
unit-steps W J u live declared =
    let m : ℕ = last_life W J u in
    let by_life : steps_by u J ≡ sum_up (life_steps W u (first_life (start_of W u)) J) (suc m) = steps-by-life W u (first_life (start_of W u)) m J (omega arith) in
    let most : sum_up (life_steps W u (first_life (start_of W u)) J) (suc m) ≤ m * ops_of_unit W u =
    sum-of-lives (life_steps W u (first_life (start_of W u)) J) m (ops_of_unit W u) (ap (λ es. length (positions_in es)) (live.unborn u declared))
    (λ l some. life-fits (body_at W u) (life_events W J u l) (live.lives u l declared some).fit) in omega arith

pub steps-are-of-lives : (W : Parts) (Z : Stored) → StepsAreOfLives W Z
steps-are-of-lives W Z valid stored J run =
    let live : LivesOf W J = runs-live W Z (runs-are-sound W Z) valid stored J run in
    let all : steps_in J ≡ sum_up (λ u. steps_by u J) (length W.units) = steps-by-unit W Z (start W) J run in
    let most : sum_up (λ u. steps_by u J) (length W.units) ≤ ops_lived W J =
    sum_up-rises (λ u. steps_by u J) (λ u. last_life W J u * ops_of_unit W u) (length W.units) (λ u l. unit-steps W J u live l) in omega arith

pub steps-are-few : (W : Parts) (Z : Stored) → StepsAreFew W Z
steps-are-few W Z valid stored none J run =
    let lived : steps_in J ≤ ops_lived W J = steps-are-of-lives W Z valid stored J run in
    let most : ops_lived W J ≤ ops_in W =
    sum_up-rises (λ u. last_life W J u * ops_of_unit W u) (ops_of_unit W) (length W.units)
    (λ u l. at-most-once (last_life W J u) (ops_of_unit W u) (lives-are-few W Z valid stored none J u run l)) in omega arith where
      at-most-once : (m n : ℕ) → m ≤ 1 → m * n ≤ n
      at-most-once zero n l = omega arith
      at-most-once (suc zero) n l = omega arith
      at-most-once (suc (suc m)) n l = absurd (omega arith)

-- Budgets.

-- a stream that is to make a step can make one
step-comes : (W : Parts) (Z : Stored) (S : State) (s : ℕ) (w : What) → due W S s ≡ StepDue → May W Z S s w → is_step w ≡ true
step-comes W Z S s (what.Step u k c) e may = refl
step-comes W Z S s _ e may = cc

own-steps : (s : ℕ) (J : List Event) → steps_of s J ≤ steps_in J
own-steps s [] = omega arith
own-steps s (e ∷ J) =
    let rest : steps_of s J ≤ steps_in J = own-steps s J in
    let own : steps_of s (e ∷ J) ≡ one_if (is_step e.what && (e.stream.0 == s)) + steps_of s J = sum_by-cons (λ (e : Event). one_if (is_step e.what && (e.stream.0 == s))) e J in
    let all : steps_in (e ∷ J) ≡ one_if (is_step e.what) + steps_in J = sum_by-cons (λ (e : Event). one_if (is_step e.what)) e J in
    let one : one_if (is_step e.what && (e.stream.0 == s)) ≤ one_if (is_step e.what) = no-more (is_step e.what) (e.stream.0 == s) in omega arith where
      no-more : (a b : Bool) → one_if (a && b) ≤ one_if a
      no-more true true = omega arith
      no-more true false = omega arith
      no-more false b = omega arith

pub steps-bound-budgets : (W : Parts) (Z : Stored) → StepsBoundBudgets W Z
steps-bound-budgets W Z valid stored none n s J most run spent =
    let S : State = last_state W J in
    let is : (w : What) × May W Z S s w = some-next W Z S s (last_state-sound W Z J (runs-are-sound W Z) valid stored run) spent.0 in
    let e : Event = record { stamp = 0; stream = stream_no s; what = is.0 } in
    let more : Run W Z (J ++ e ∷ []) = run-push W Z (start W) J e run spent.0 is.1 in
    let few : steps_in (J ++ e ∷ []) ≤ ops_in W = steps-are-few W Z valid stored none (J ++ e ∷ []) more in
    let one : steps_in (J ++ e ∷ []) ≡ steps_in J + one_if (is_step is.0) = sum_by_push (λ (e : Event). one_if (is_step e.what)) J e in
    let step : one_if (is_step is.0) ≡ 1 = ap one_if (step-comes W Z S s is.0 spent.2 is.1) in
    let own : steps_of s J ≤ steps_in J = own-steps s J in
    let made : steps_of s J ≡ n = spent.1 in omega arith
