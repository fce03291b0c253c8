-- Why rows of what is not so hold.
use Rattle.std.proofs.Common.{[], ◌∷◌, Contains, refl, arith, inl, inr}
use Rattle.std.specs.Prelude.{All}
use Rattle.std.proofs.lemmas.List.Elements.{All-contains}
use Rattle.abt_machine.specs.declared.events.Cause.{Cause}
use Rattle.abt_machine.specs.declared.events.Event.{Event}
use Rattle.abt_machine.specs.declared.workload.Parts.{Parts}
use Rattle.abt_machine.specs.Stamps.{IsLeast, Lamport, Shares, Stamped}
use Rattle.abt_rows.specs.Refused.{late, miss}
use Rattle.abt_rows.proofs.Deciding.{all, holds}
use Rattle.abt_rows.proofs.Stamping.{unshared}

-- the one end of a life
pub only : (c : Cause) → Contains (c ∷ []) c
only c = (0, omega arith, refl)

pub late-is-stamped : (W : Parts) → Stamped W late
late-is-stamped W = (refl, ((omega arith, omega arith, λ e. absurd (omega arith)), (λ h. omega arith, tt), tt))

-- no event before the second shares something with it
alone : (W : Parts) → All (λ e. Shares W e (miss 2 1) → ⊥) (miss 1 0 ∷ [])
alone W = holds (all (λ e. Shares W e (miss 2 1) → ⊥) (λ e. unshared W e (miss 2 1)) (miss 1 0 ∷ [])) refl

not-least : (W : Parts) → IsLeast W (miss 1 0 ∷ []) (miss 2 1) → ⊥
not-least W (inl one) = omega (arith, one)
not-least W (inr e) = All-contains (λ (e : Event). Shares W e (miss 2 1) → ⊥) (miss 1 0 ∷ []) e.0 (alone W) e.1 e.2

pub late-is-not-least : (W : Parts) → Lamport W late → ⊥
late-is-not-least W h = not-least W h.1.2.1
