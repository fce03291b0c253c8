-- The steps of a journal by unit and by life.
use Rattle.std.proofs.Common.{◌≡◌, ◌≢◌, ℕ, zero, suc, ◌≤◌, ◌<◌, ◌+◌, ◌*◌, ◌==◌, cond, if◌then◌else◌, Bool, true, false, List, [], ◌∷◌, length, refl, ap, sym, ◌∙◌, arith}
use Rattle.std.specs.Prelude.{◌&&◌, count_by}
use Rattle.std.proofs.lemmas.Bool.{cond_both, eq-eqb, ne_eqb}
use Rattle.std.proofs.lemmas.List.{length-append}
use Rattle.std.proofs.lemmas.List.Sums.{sum_by-cons}
use Rattle.abt_machine.specs.declared.events.Code.TheVariants as code
use Rattle.abt_machine.specs.declared.events.Event.{Event}
use Rattle.abt_machine.specs.declared.events.What.{What}
use Rattle.abt_machine.specs.declared.events.What.TheVariants as what
use Rattle.abt_machine.specs.declared.workload.Parts.{Parts}
use Rattle.abt_machine.specs.Fronts.{is_some_of}
use Rattle.abt_machine.specs.Lives.{events_from, is_birth, last_life_from, life_after, positions_in, unit_of}
use Rattle.abt_machine.specs.Outcomes.{is_step}
use Rattle.abt_machine.specs.Workloads.{op_at}
use Rattle.abt_laws.proofs.LifeJournals.{added_event, positions_in-append}
use Rattle.abt_laws.proofs.Sums.{sum_up, sum_up-plus, sum_up-same, sum_up-single, sum_up-suc}

abbrev pub one_if : Bool → ℕ
one_if b = cond b 1 0

-- 1 for a step of unit u, 0 for any other event
abbrev pub step_by : ℕ → What → ℕ
step_by u w = one_if (is_step w && is_some_of u (unit_of w))

abbrev pub steps_by : ℕ → List Event → ℕ
steps_by u J = count_by (λ (e : Event). is_step e.what && is_some_of u (unit_of e.what)) J

pub steps_by-cons : (u : ℕ) (e : Event) (es : List Event) → steps_by u (e ∷ es) ≡ step_by u e.what + steps_by u es
steps_by-cons u e es = sum_by-cons (λ (e : Event). step_by u e.what) e es

-- The life that an event is added to.

positions-of : (b c : Bool) (w : What) → length (positions_in (if b && c then w ∷ [] else [])) ≡ one_if (is_step w && (b && c))
positions-of true true (what.Step u k c) = refl
positions-of true true _ = refl
positions-of true false (what.Step u k c) = refl
positions-of true false _ = refl
positions-of false c (what.Step u k d) = refl
positions-of false c _ = refl

and-true : (a b c : Bool) → c ≡ true → one_if (a && (b && c)) ≡ one_if (a && b)
and-true true true c e = ap one_if e
and-true true false c e = refl
and-true false b c e = refl

and-false : (a b c : Bool) → c ≡ false → one_if (a && (b && c)) ≡ 0
and-false true true c e = ap one_if e
and-false true false c e = refl
and-false false b c e = refl

abbrev added_steps : ℕ → ℕ → What → ℕ → ℕ
added_steps u now w l = length (positions_in (added_event u l now w))

added-now : (u now : ℕ) (w : What) → added_steps u now w now ≡ step_by u w
added-now u now w = positions-of (is_some_of u (unit_of w)) (now == now) w ∙ and-true (is_step w) (is_some_of u (unit_of w)) (now == now) (eq-eqb now now refl)

added-other : (u now : ℕ) (w : What) (l : ℕ) → l ≢ now → added_steps u now w l ≡ 0
added-other u now w l ne = positions-of (is_some_of u (unit_of w)) (now == l) w ∙ and-false (is_step w) (is_some_of u (unit_of w)) (now == l) (ne_eqb now l (λ e. ne (sym e)))

-- Journals.

life-rises : (W : Parts) (u now : ℕ) (w : What) → now ≤ life_after W u now w
life-rises W u now (what.Step v k code.Ok) = cond_both (is_birth u (op_at W v.0 k)) (suc now) now (λ n. now ≤ n) (λ _. omega arith) (λ _. omega arith)
life-rises W u now _ = omega arith

lives-rise : (W : Parts) (u now : ℕ) (J : List Event) → now ≤ last_life_from W u now J
lives-rise W u now [] = omega arith
lives-rise W u now (e ∷ es) =
    let one : now ≤ life_after W u now e.what = life-rises W u now e.what in
    let rest : life_after W u now e.what ≤ last_life_from W u (life_after W u now e.what) es = lives-rise W u (life_after W u now e.what) es in omega arith

-- the steps of unit u in life l
abbrev pub life_steps : Parts → ℕ → ℕ → List Event → ℕ → ℕ
life_steps W u now J l = length (positions_in (events_from W u l now J))

no-steps : (n : ℕ) → sum_up (λ l. 0) n ≡ 0
no-steps zero = refl
no-steps (suc n) = sum_up-suc (λ l. 0) n ∙ (let rest : sum_up (λ l. 0) n ≡ 0 = no-steps n in omega arith)

-- the steps of a unit are those of its lives, from 0 to any that it doesn't pass
pub steps-by-life : (W : Parts) (u now m : ℕ) (J : List Event) → last_life_from W u now J ≤ m → steps_by u J ≡ sum_up (life_steps W u now J) (suc m)
steps-by-life W u now m [] l = sym (no-steps (suc m))
steps-by-life W u now m (e ∷ es) l =
    let later : ℕ = life_after W u now e.what in
    let rest : steps_by u es ≡ sum_up (life_steps W u later es) (suc m) = steps-by-life W u later m es l in
    let up : now ≤ last_life_from W u now (e ∷ es) = lives-rise W u now (e ∷ es) in
    let here : sum_up (added_steps u now e.what) (suc m) ≡ added_steps u now e.what now = sum_up-single (added_steps u now e.what) (suc m) now (omega arith) (added-other u now e.what) in
    let both : sum_up (life_steps W u now (e ∷ es)) (suc m) ≡ sum_up (λ k. added_steps u now e.what k + life_steps W u later es k) (suc m) =
    sum_up-same (life_steps W u now (e ∷ es)) (λ k. added_steps u now e.what k + life_steps W u later es k) (suc m)
    (λ k b. ap length (positions_in-append (added_event u k now e.what) (events_from W u k later es)) ∙ length-append (positions_in (added_event u k now e.what)) (positions_in (events_from W u k later es))) in
    let parts : sum_up (λ k. added_steps u now e.what k + life_steps W u later es k) (suc m) ≡ sum_up (added_steps u now e.what) (suc m) + sum_up (life_steps W u later es) (suc m) =
    sum_up-plus (added_steps u now e.what) (life_steps W u later es) (suc m) in
    let own : added_steps u now e.what now ≡ step_by u e.what = added-now u now e.what in
    omega (arith, steps_by-cons u e es)

-- if life 0 has none and each other n at most
pub sum-of-lives : (f : ℕ → ℕ) (m n : ℕ) → f 0 ≡ 0 → ((l : ℕ) → 0 < l → f l ≤ n) → sum_up f (suc m) ≤ m * n
sum-of-lives f zero n none most = let one : sum_up f 1 ≡ sum_up f 0 + f 0 = sum_up-suc f 0 in omega arith
sum-of-lives f (suc m) n none most =
    let rest : sum_up f (suc m) ≤ m * n = sum-of-lives f m n none most in
    let here : f (suc m) ≤ n = most (suc m) (omega arith) in
    let one : suc m * n ≡ m * n + n = omega arith in omega (arith, sum_up-suc f (suc m))
