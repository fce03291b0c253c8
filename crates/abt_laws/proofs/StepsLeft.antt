-- Steps use up the steps that are left, and nothing else does.
use Rattle.std.proofs.Common.{◌≡◌, ◌≢◌, ℕ, suc, ◌<◌, ◌+◌, ◌-◌, ◌==◌, cond, true, false, List, [], ◌∷◌, ◌++◌, refl, sym, ◌∙◌, ap, arith}
use Rattle.std.specs.Prelude.{◌&&◌}
use Rattle.std.proofs.lemmas.Bool.{eq-eqb, ne_eqb}
use Rattle.std.proofs.lemmas.List.Sums.{sum_by_push}
use Rattle.abt_machine.specs.declared.events.Event.{Event}
use Rattle.abt_machine.specs.declared.workload.Parts.{Parts}
use Rattle.abt_machine.specs.Outcomes.{is_step, steps_of}
use Rattle.abt_laws.specs.Measure.{steps_left}
use Rattle.abt_laws.proofs.Sums.{sum_up-same, sum_up-falls-at}

-- 1 for a step of stream s, 0 for any other event
abbrev steps_by : ℕ → Event → ℕ
steps_by s e = cond (is_step e.what && (e.stream.0 == s)) 1 0

steps_of-push : (s : ℕ) (J : List Event) (e : Event) → steps_of s (J ++ e ∷ []) ≡ steps_of s J + steps_by s e
steps_of-push s J e = sum_by_push (steps_by s) J e

no-step-keeps : (s : ℕ) (J : List Event) (e : Event) → is_step e.what ≡ false → steps_of s (J ++ e ∷ []) ≡ steps_of s J
no-step-keeps s J e other =
    let here : steps_by s e ≡ 0 = ap (λ b. cond (b && (e.stream.0 == s)) 1 0) other in
    omega (arith, steps_of-push s J e)

own-step-counts : (J : List Event) (e : Event) → is_step e.what ≡ true → steps_of e.stream.0 (J ++ e ∷ []) ≡ suc (steps_of e.stream.0 J)
own-step-counts J e step =
    let here : steps_by e.stream.0 e ≡ 1 =
    ap (λ b. cond (b && (e.stream.0 == e.stream.0)) 1 0) step ∙ ap (λ b. cond b 1 0) (eq-eqb e.stream.0 e.stream.0 refl) in
    omega (arith, steps_of-push e.stream.0 J e)

foreign-step-keeps : (s : ℕ) (J : List Event) (e : Event) → is_step e.what ≡ true → s ≢ e.stream.0 → steps_of s (J ++ e ∷ []) ≡ steps_of s J
foreign-step-keeps s J e step foreign =
    let here : steps_by s e ≡ 0 =
    ap (λ b. cond (b && (e.stream.0 == s)) 1 0) step ∙ ap (λ b. cond b 1 0) (ne_eqb e.stream.0 s (λ q. foreign (sym q))) in
    omega (arith, steps_of-push s J e)

pub steps_left-same : (W : Parts) (n : ℕ) (J : List Event) (e : Event) → is_step e.what ≡ false → steps_left W n (J ++ e ∷ []) ≡ steps_left W n J
steps_left-same W n J e other = sum_up-same (λ s. n - steps_of s (J ++ e ∷ [])) (λ s. n - steps_of s J) W.streams (λ s l. ap (λ m. n - m) (no-step-keeps s J e other))

pub steps_left-falls : (W : Parts) (n : ℕ) (J : List Event) (e : Event) → e.stream.0 < W.streams → is_step e.what ≡ true → steps_of e.stream.0 J < n → steps_left W n (J ++ e ∷ []) < steps_left W n J
steps_left-falls W n J e declared step some =
    let own : steps_of e.stream.0 (J ++ e ∷ []) ≡ suc (steps_of e.stream.0 J) = own-step-counts J e step in
    sum_up-falls-at (λ s. n - steps_of s (J ++ e ∷ [])) (λ s. n - steps_of s J) W.streams e.stream.0 declared (omega arith)
    (λ s foreign. ap (λ m. n - m) (foreign-step-keeps s J e step foreign))
