-- The steps that each stream made.
use Rattle.std.proofs.Common.{◌≡◌, ◌≢◌, ◌∙◌, ℕ, zero, suc, ◌<◌, ◌≤◌, ◌+◌, ◌^◌, ◌==◌, Bool, cond, true, false, List, [], ◌∷◌, ◌++◌, Some, ap, arith, get_or, if◌then◌else◌, inl, inr, length, refl, replicate, slice_get, slice_set, subst, sym}
use Rattle.std.specs.Prelude.{◌&&◌}
use Rattle.std.proofs.lemmas.Bool.{cases_lt, eq-eqb, ne_eqb}
use Rattle.std.proofs.lemmas.List.{length-replicate}
use Rattle.std.proofs.lemmas.List.Sums.{count_by-le-length, sum_by_push}
use Rattle.abt_machine.specs.declared.events.Event.{Event}
use Rattle.abt_machine.specs.declared.workload.Parts.{Parts}
use Rattle.abt_machine.specs.Outcomes.{is_step, steps_of}
use Rattle.abt_outcomes.specs.Rotations.{IsWithin}
use Rattle.abt_laws.proofs.Options.{some-injective}
use Rattle.abt_model.specs.Lists.{AreNumbered}
use Rattle.abt_model.proofs.Numbered.{numbered-at, numbered-set}
use Rattle.abt_schedule.specs.Reaching.{made_after}

-- 1 for a step of stream s, 0 for any other event
abbrev step_by : ℕ → Event → ℕ
step_by s e = cond (is_step e.what && (e.stream.0 == s)) 1 0

steps-push : (s : ℕ) (J : List Event) (e : Event) → steps_of s (J ++ e ∷ []) ≡ steps_of s J + step_by s e
steps-push s J e = sum_by_push (step_by s) J e

-- an event that is no step
no-step : (s : ℕ) (J : List Event) (e : Event) → is_step e.what ≡ false → steps_of s (J ++ e ∷ []) ≡ steps_of s J
no-step s J e other =
    let here : step_by s e ≡ 0 = ap (λ b. cond (b && (e.stream.0 == s)) 1 0) other in
    omega (arith, steps-push s J e)

-- a step
own-step : (J : List Event) (e : Event) → is_step e.what ≡ true → steps_of e.stream.0 (J ++ e ∷ []) ≡ suc (steps_of e.stream.0 J)
own-step J e step =
    let here : step_by e.stream.0 e ≡ 1 =
    ap (λ b. cond (b && (e.stream.0 == e.stream.0)) 1 0) step ∙ ap (λ b. cond b 1 0) (eq-eqb e.stream.0 e.stream.0 refl) in
    omega (arith, steps-push e.stream.0 J e)

-- a step of another stream
other-step : (s : ℕ) (J : List Event) (e : Event) → is_step e.what ≡ true → s ≢ e.stream.0 → steps_of s (J ++ e ∷ []) ≡ steps_of s J
other-step s J e step foreign =
    let here : step_by s e ≡ 0 =
    ap (λ b. cond (b && (e.stream.0 == s)) 1 0) step ∙ ap (λ b. cond b 1 0) (ne_eqb e.stream.0 s (λ q. foreign (sym q))) in
    omega (arith, steps-push s J e)

-- One event more.

module _ (W : Parts) (J : List Event) (e : Event) where
  made-by : (made : List ℕ) (b : Bool) → is_step e.what ≡ b → e.stream.0 < W.streams → AreNumbered W.streams (λ s. steps_of s J) made
      → AreNumbered W.streams (λ s. steps_of s (J ++ e ∷ [])) (if b then slice_set made e.stream.0 (suc (get_or made e.stream.0 0)) else made)
  made-by made true is declared are = numbered-set (λ s. steps_of s J) W.streams e.stream.0 made (suc (get_or made e.stream.0 0)) (λ s. steps_of s (J ++ e ∷ [])) are declared
      (ap suc (numbered-at (λ s. steps_of s J) W.streams e.stream.0 made 0 are declared) ∙ sym (own-step J e is)) (λ s differ. other-step s J e is differ)
  made-by made false is declared are = record { many = are.many; own = λ s l. are.own s l ∙ ap (λ k. Some k) (sym (no-step s J e is)) }

  -- the steps are counted
  pub made-more : (made : List ℕ) → e.stream.0 < W.streams → AreNumbered W.streams (λ s. steps_of s J) made → AreNumbered W.streams (λ s. steps_of s (J ++ e ∷ [])) (made_after made e.stream.0 e.what)
  made-more made declared are = made-by made (is_step e.what) refl declared are

  within-by : (n s : ℕ) (b : Bool) → is_step e.what ≡ b → (b ≡ true → steps_of e.stream.0 J < n) → steps_of s J ≤ n → steps_of s (J ++ e ∷ []) ≤ n
  within-by n s false is less few = omega (arith, no-step s J e is)
  within-by n s true is less few = elim (cases_lt s e.stream.0) [
    | inl below ↦ omega (arith, other-step s J e is (λ q. omega arith))
    | inr above ↦ elim (cases_lt e.stream.0 s) [
      | inl over ↦ omega (arith, other-step s J e is (λ q. omega arith))
      | inr under ↦ (let same : e.stream.0 ≡ s = omega arith in subst (λ r. steps_of r (J ++ e ∷ []) ≤ n) same (let own : steps_of e.stream.0 (J ++ e ∷ []) ≡ suc (steps_of e.stream.0 J) = own-step J e is in let some : steps_of e.stream.0 J < n = less refl in omega arith))
    ]
  ]

  -- no stream made more than n steps, if this one had one left
  pub within-more : (n : ℕ) → IsWithin W n J → (is_step e.what ≡ true → steps_of e.stream.0 J < n) → IsWithin W n (J ++ e ∷ [])
  within-more n within less s declared = within-by n s (is_step e.what) refl less (within s declared)

-- a stream made no more steps than there are events
pub few-steps : (s : ℕ) (J : List Event) → steps_of s J ≤ length J
few-steps s J = count_by-le-length (λ (e : Event). is_step e.what && (e.stream.0 == s)) J

-- nor than the limit of the events
pub made-few : (n s k : ℕ) (J : List Event) (made : List ℕ) → AreNumbered n (λ r. steps_of r J) made → s < n → length J < 2 ^ 63 → slice_get made s ≡ Some k → k < 2 ^ 63
made-few n s k J made are declared few e =
    let is : k ≡ steps_of s J = some-injective (sym e ∙ are.own s declared) in
    let less : steps_of s J ≤ length J = few-steps s J in omega arith

-- before the first event

none-at : (n k : ℕ) → k < n → slice_get {X = ℕ} (replicate n 0) k ≡ Some 0
none-at zero k l = absurd (omega arith)
none-at (suc n) zero l = refl
none-at (suc n) (suc k) l = none-at n k (omega arith)

pub none-made : (n m : ℕ) (made : List ℕ) → made ≡ replicate m 0 → m ≡ n → AreNumbered n (λ s. steps_of s []) made
none-made n m made is same =
    let all : made ≡ replicate n 0 = is ∙ ap (λ k. replicate k 0) same in
    record { many = ap (λ (xs : List ℕ). length xs) all ∙ length-replicate n 0; own = λ k l. ap (λ (xs : List ℕ). slice_get xs k) all ∙ none-at n k l }
