-- How many are in a queue.
use Rattle.std.proofs.Common.{◌≡◌, ◌≢◌, ℕ, zero, suc, ◌+◌, ◌<◌, ◌≤◌, nat_le, List, [], ◌∷◌, length, Option, Some, None, refl, ap, arith, inl, inr}
use Rattle.std.proofs.lemmas.Bool.{cond_both, cases_eq}
use Rattle.std.proofs.lemmas.List.{length-map}
use Rattle.abt_machine.specs.Queues.{insert_by_ticket, ticketed_step, ticketed, queue}
use Rattle.abt_laws.proofs.Options.{none≢some}

length-insert : (t u : ℕ) (ps : List (ℕ × ℕ)) → length (insert_by_ticket t u ps) ≡ suc (length ps)
length-insert t u [] = refl
length-insert t u (p ∷ ps) =
    cond_both (nat_le t p.0) ((t, u) ∷ p ∷ ps) (p ∷ insert_by_ticket t u ps) (λ qs. length qs ≡ suc (length (p ∷ ps))) (λ _. refl) (λ _. ap suc (length-insert t u ps))

-- who has a ticket has one of the other kind too
abbrev pub Implies : Option ℕ → Option ℕ → Type 0
Implies o p = (t : ℕ) → o ≡ Some t → (k : ℕ) × (p ≡ Some k)

abbrev pub ticket_count : Option ℕ → ℕ
ticket_count None = 0
ticket_count (Some t) = 1

ticket_count-implies : (o p : Option ℕ) → Implies o p → ticket_count o ≤ ticket_count p
ticket_count-implies None p h = omega arith
ticket_count-implies (Some t) (Some k) h = omega arith
ticket_count-implies (Some t) None h = absurd (none≢some (h t refl).1)

pub ticket_count-one : (o : Option ℕ) → ticket_count o ≤ 1
ticket_count-one None = omega arith
ticket_count-one (Some t) = omega arith

pub length-step : (n : ℕ) (o : Option ℕ) (ps : List (ℕ × ℕ)) → length (ticketed_step n o ps) ≡ ticket_count o + length ps
length-step n None ps = omega arith
length-step n (Some t) ps = omega (arith, length-insert t n ps)

fewer-ticketed : (bt at : ℕ → Option ℕ) (n : ℕ) → ((v : ℕ) → v < n → Implies (bt v) (at v)) → length (ticketed bt n) ≤ length (ticketed at n)
fewer-ticketed bt at zero h = omega arith
fewer-ticketed bt at (suc n) h =
    let rest : length (ticketed bt n) ≤ length (ticketed at n) = fewer-ticketed bt at n (λ v l. h v (omega arith)) in
    let here : ticket_count (bt n) ≤ ticket_count (at n) = ticket_count-implies (bt n) (at n) (h n (omega arith)) in
    omega (arith, length-step n (bt n) (ticketed bt n), length-step n (at n) (ticketed at n))

more-ticketed : (bt at : ℕ → Option ℕ) (u n : ℕ) → ((v : ℕ) → v ≢ u → Implies (bt v) (at v)) → length (ticketed bt n) ≤ suc (length (ticketed at n))
more-ticketed bt at u zero h = omega arith
more-ticketed bt at u (suc n) h =
    elim (cases_eq n u) [
      | inl same ↦
          let rest : length (ticketed bt n) ≤ length (ticketed at n) = fewer-ticketed bt at n (λ v l. h v (λ e. omega arith)) in
          omega (arith, length-step n (bt n) (ticketed bt n), length-step n (at n) (ticketed at n), ticket_count-one (bt n))
      | inr other ↦
          let rest : length (ticketed bt n) ≤ suc (length (ticketed at n)) = more-ticketed bt at u n h in
          let here : ticket_count (bt n) ≤ ticket_count (at n) = ticket_count-implies (bt n) (at n) (h n other) in
          omega (arith, length-step n (bt n) (ticketed bt n), length-step n (at n) (ticketed at n))
    ]

-- if nobody comes, no more stand there
pub queue-fewer : (bt at : ℕ → Option ℕ) (n : ℕ) → ((v : ℕ) → v < n → Implies (bt v) (at v)) → length (queue bt n) ≤ length (queue at n)
queue-fewer bt at n h = simp length-map (fewer-ticketed bt at n h)

-- if one unit comes at most, one more stands there at most
pub queue-one_more : (bt at : ℕ → Option ℕ) (u n : ℕ) → ((v : ℕ) → v ≢ u → Implies (bt v) (at v)) → length (queue bt n) ≤ suc (length (queue at n))
queue-one_more bt at u n h = simp length-map (more-ticketed bt at u n h)
