-- The last of a queue has the greatest ticket.
use Rattle.std.proofs.Common.{◌≡◌, ℕ, zero, suc, ◌≤◌, nat_le, List, [], ◌∷◌, map, Option, Some, None, refl, sym, ◌∙◌, ap, arith, inl, inr}
use Rattle.std.proofs.lemmas.Bool.{cond_both}
use Rattle.abt_machine.specs.Queues.{insert_by_ticket, ticketed_step, ticketed, queue, last}
use Rattle.abt_laws.proofs.Lists.{EachOf, Among}
use Rattle.abt_laws.proofs.Options.{none≢some, some-injective}
use Rattle.abt_laws.proofs.Filters.{IsRising, IsRising-ticketed}

-- each unit has its ticket
abbrev AllHave : (ℕ → Option ℕ) → List (ℕ × ℕ) → Type 0
AllHave at ps = EachOf (λ (p : ℕ × ℕ). at p.1 ≡ Some p.0) ps

-- an insertion keeps it
have-insert : (at : ℕ → Option ℕ) (t u : ℕ) (ps : List (ℕ × ℕ)) → at u ≡ Some t → AllHave at ps → AllHave at (insert_by_ticket t u ps)
have-insert at t u [] e a = (e, tt)
have-insert at t u (p ∷ ps) e a = cond_both (nat_le t p.0) ((t, u) ∷ p ∷ ps) (p ∷ insert_by_ticket t u ps) (AllHave at) (λ _. (e, a)) (λ _. (a.0, have-insert at t u ps e a.1))

-- so does a step of the queue
have-step : (at : ℕ → Option ℕ) (u : ℕ) (o : Option ℕ) (ps : List (ℕ × ℕ)) → at u ≡ o → AllHave at ps → AllHave at (ticketed_step u o ps)
have-step at u None ps e a = a
have-step at u (Some t) ps e a = have-insert at t u ps e a

-- so it is in a queue
have-ticketed : (at : ℕ → Option ℕ) (n : ℕ) → AllHave at (ticketed at n)
have-ticketed at zero = tt
have-ticketed at (suc n) = have-step at n (at n) (ticketed at n) refl (have-ticketed at n)

-- unit u has the greatest ticket of these
pub record IsLast (at : ℕ → Option ℕ) (us : List ℕ) (u : ℕ) : Type 0 where
  pub ticket : ℕ
  pub has : at u ≡ Some ticket
  pub most : (v k : ℕ) → Among v us → at v ≡ Some k → k ≤ ticket

-- the last of rising tickets is the greatest
last-most : (at : ℕ → Option ℕ) (ps : List (ℕ × ℕ)) (u : ℕ) → IsRising ps → AllHave at ps → last (map (λ p. p.1) ps) ≡ Some u → IsLast at (map (λ p. p.1) ps) u
last-most at [] u r a e = absurd (none≢some e)
last-most at (p ∷ []) u r a e =
    let q : p.1 ≡ u = some-injective e in
    record {
      ticket = p.0;
      has = ap at (sym q) ∙ a.0;
      most = λ v k m h. elim m [ inl i ↦ (let s : k ≡ p.0 = some-injective (sym h ∙ (ap at i ∙ a.0)) in omega arith) | inr n ↦ absurd n ];
    }
last-most at (p ∷ q ∷ ps) u r a e =
    let later : IsLast at (map (λ p. p.1) (q ∷ ps)) u = last-most at (q ∷ ps) u r.1 a.1 e in
    record {
      ticket = later.ticket;
      has = later.has;
      most = λ v k m h. elim m [
        | inl i ↦ (let s : k ≡ p.0 = some-injective (sym h ∙ (ap at i ∙ a.0)) in let l : p.0 ≤ q.0 = r.0.0 in let g : q.0 ≤ later.ticket = later.most q.1 q.0 (inl refl) a.1.0 in omega arith)
        | inr n ↦ later.most v k n h
      ];
    }

-- so it is in a queue
pub last-queue : (at : ℕ → Option ℕ) (n u : ℕ) → last (queue at n) ≡ Some u → IsLast at (queue at n) u
last-queue at n u e = last-most at (ticketed at n) u (IsRising-ticketed at n) (have-ticketed at n) e
