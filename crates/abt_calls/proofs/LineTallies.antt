-- How many units of a number stand in a line.
use Rattle.std.proofs.Common.{◌≡◌, ◌≢◌, ℕ, zero, suc, ◌+◌, ◌<◌, ◌≤◌, ◌==◌, nat_le, Bool, true, false, List, [], ◌∷◌, length, map, Option, Some, None, refl, sym, ◌∙◌, ap, arith, inl, inr}
use Rattle.std.specs.Prelude.{is_some, if◌then◌else◌}
use Rattle.std.proofs.lemmas.Bool.{cases_Bool, cases_eq, cond_both, eq-eqb, eqb-false, eqb-true, false_from_ne_true}
use Rattle.abt_machine.specs.declared.workload.Parts.{Parts}
use Rattle.abt_machine.specs.Queues.{insert_by_ticket, ticketed_step, ticketed}
use Rattle.abt_machine.specs.State.{State}
use Rattle.abt_machine.specs.Lines.{Line, if_same, ticket_in}
use Rattle.abt_machine.specs.Values.{Owned, owned_at, owned_in}
use Rattle.abt_calls.proofs.Tallies.{tally, tally-cons, tally-nil, tally-one}

abbrev pub one : Bool → ℕ
one b = if b then 1 else 0

pub one-same : (a b : ℕ) → a ≡ b → one (a == b) ≡ 1
one-same a b e = ap one (eq-eqb a b e)

pub one-other : (a b : ℕ) → a ≢ b → one (a == b) ≡ 0
one-other a b other = ap one (false_from_ne_true (a == b) (λ e. other (eqb-true a b e)))

pub eqb-flip : (a b : ℕ) → (a == b) ≡ (b == a)
eqb-flip a b =
    elim (cases_Bool (a == b)) [
      | inl t ↦ t ∙ sym (eq-eqb b a (sym (eqb-true a b t)))
      | inr f ↦ f ∙ sym (false_from_ne_true (b == a) (λ t. eqb-false a b f (sym (eqb-true b a t))))
    ]

some-if : (b : Bool) (t : ℕ) → is_some (if b then Some t else None) ≡ b
some-if true t = refl
some-if false t = refl

-- a ticket is there if the numbers agree
pub some-same : (a b t : ℕ) → is_some (if_same a b t) ≡ (a == b)
some-same a b t = some-if (a == b) t

pub if-zero : (b : Bool) (k : ℕ) → k ≡ 0 → (if b then k else 0) ≡ 0
if-zero true k e = e
if-zero false k e = refl

if-one : (b : Bool) (k : ℕ) → k ≡ 1 → (if b then k else 0) ≡ one b
if-one true k e = e
if-one false k e = refl

module _ (S : State) (u : ℕ) where
  abbrev owns : List (ℕ × ℕ) → List Owned
  owns ps = map (owned_at S) (map (λ p. p.1) ps)

  insert-tally : (t v : ℕ) (ps : List (ℕ × ℕ)) → tally u (owns (insert_by_ticket t v ps)) ≡ one (v == u) + tally u (owns ps)
  insert-tally t v [] = omega (arith, tally-one u (owned_at S v), tally-nil u)
  insert-tally t v (p ∷ ps) =
      cond_both (nat_le t p.0) ((t, v) ∷ p ∷ ps) (p ∷ insert_by_ticket t v ps) (λ qs. tally u (owns qs) ≡ one (v == u) + tally u (owns (p ∷ ps)))
      (λ _. omega (arith, tally-one u (owned_at S v), tally-cons u (owned_at S v) (owns (p ∷ ps))))
      (λ _. omega (arith, insert-tally t v ps, tally-cons u (owned_at S p.1) (owns ps), tally-cons u (owned_at S p.1) (owns (insert_by_ticket t v ps))))

  step-tally : (n : ℕ) (o : Option ℕ) (ps : List (ℕ × ℕ)) → tally u (owns (ticketed_step n o ps)) ≡ (if is_some o then one (n == u) else 0) + tally u (owns ps)
  step-tally n None ps = omega arith
  step-tally n (Some t) ps = insert-tally t n ps

  module _ (at : ℕ → Option ℕ) where
    -- no unit above is in the queue
    above : (n : ℕ) → n ≤ u → tally u (owns (ticketed at n)) ≡ 0
    above zero l = tally-nil u
    above (suc n) l =
        let h : tally u (owns (ticketed at n)) ≡ 0 = above n (omega arith) in
        let e : (if is_some (at n) then one (n == u) else 0) ≡ 0 = if-zero (is_some (at n)) (one (n == u)) (one-other n u (λ s. omega arith)) in
        omega (arith, h, e, step-tally n (at n) (ticketed at n))

    -- a unit below is there once, if it has a ticket
    below : (n : ℕ) → u < n → tally u (owns (ticketed at n)) ≡ one (is_some (at u))
    below zero l = absurd (omega arith)
    below (suc n) l =
        elim (cases_eq n u) [
          | inl same ↦
              (let h : tally u (owns (ticketed at n)) ≡ 0 = above n (omega arith) in
              let e : (if is_some (at n) then one (n == u) else 0) ≡ one (is_some (at n)) = if-one (is_some (at n)) (one (n == u)) (one-same n u same) in
              let f : one (is_some (at n)) ≡ one (is_some (at u)) = ap (λ v. one (is_some (at v))) same in
              omega (arith, h, e, f, step-tally n (at n) (ticketed at n)))
          | inr other ↦
              (let h : tally u (owns (ticketed at n)) ≡ one (is_some (at u)) = below n (omega arith) in
              let e : (if is_some (at n) then one (n == u) else 0) ≡ 0 = if-zero (is_some (at n)) (one (n == u)) (one-other n u other) in
              omega (arith, h, e, step-tally n (at n) (ticketed at n)))
        ]

-- a declared unit stands once in the line of its place
pub line-tally : (W : Parts) (S : State) (l : Line) (u : ℕ) → u < length W.units → tally u (owned_in W S l) ≡ one (is_some (ticket_in l (S.place u)))
line-tally W S l u declared = below S u (λ v. ticket_in l (S.place v)) (length W.units) declared
