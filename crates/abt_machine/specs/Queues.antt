-- The units that stand in a line, in order of rising ticket.
use Rattle.std.specs.Prelude.{ℕ, zero, suc, nat_le, if◌then◌else◌, List, [], ◌∷◌, Option, Some, None, map}

-- the list with unit u at ticket t, before the first entry whose ticket is not lower
abbrev pub insert_by_ticket : ℕ → ℕ → List (ℕ × ℕ) → List (ℕ × ℕ)
insert_by_ticket t u [] = (t, u) ∷ []
insert_by_ticket t u (p ∷ ps) = if nat_le t p.0 then (t, u) ∷ p ∷ ps else p ∷ insert_by_ticket t u ps

abbrev pub ticketed_step : ℕ → Option ℕ → List (ℕ × ℕ) → List (ℕ × ℕ)
ticketed_step u None ps = ps
ticketed_step u (Some t) ps = insert_by_ticket t u ps

-- the tickets of the units below n, each with its unit, rising
abbrev pub ticketed : (ℕ → Option ℕ) → ℕ → List (ℕ × ℕ)
ticketed at zero = []
ticketed at (suc n) = ticketed_step n (at n) (ticketed at n)

-- the units below n that have a ticket, in order of rising ticket
abbrev pub queue : (ℕ → Option ℕ) → ℕ → List ℕ
queue at n = map (λ p. p.1) (ticketed at n)

abbrev pub first : {A : Type 0} → List A → Option A
first [] = None
first (u ∷ us) = Some u

abbrev pub last : {A : Type 0} → List A → Option A
last [] = None
last (u ∷ []) = Some u
last (u ∷ v ∷ us) = last (v ∷ us)

-- the first alone, if there is one
abbrev pub first_alone : {A : Type 0} → List A → List A
first_alone [] = []
first_alone (u ∷ us) = u ∷ []
