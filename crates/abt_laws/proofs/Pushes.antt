-- Queues to whose end a unit comes, and that no unit is twice in a queue.
use Rattle.std.proofs.Common.{◌≡◌, ℕ, zero, suc, ◌<◌, ◌≤◌, nat_le, List, [], ◌∷◌, ◌++◌, map, Option, Some, None, refl, sym, ◌∙◌, ap, subst, arith, ◌⊎◌, inl, inr}
use Rattle.std.proofs.lemmas.Bool.{cond-true, cond-false, cond_both, cases_eq, lt-leb, le-leb}
use Rattle.std.proofs.lemmas.Bool.Decides.{nat_tests}
use Rattle.std.proofs.lemmas.List.{map-append}
use Rattle.abt_machine.specs.Maps.{put_at}
use Rattle.abt_machine.specs.Queues.{insert_by_ticket, ticketed_step, ticketed, queue}
use Rattle.abt_laws.proofs.Lists.{EachOf, Among}
use Rattle.abt_laws.proofs.Maps.{put_at-same, put_at-other}
use Rattle.abt_laws.proofs.Queues.{HasTicket, queue-each}

-- The end of a queue.

-- every ticket is below k
abbrev pub AllBelow : ℕ → List (ℕ × ℕ) → Type 0
AllBelow k ps = EachOf (λ (p : ℕ × ℕ). p.0 < k) ps

-- an insertion keeps it
pub AllBelow-insert : (k t u : ℕ) (ps : List (ℕ × ℕ)) → t < k → AllBelow k ps → AllBelow k (insert_by_ticket t u ps)
AllBelow-insert k t u [] h a = (h, tt)
AllBelow-insert k t u (p ∷ ps) h a =
    cond_both (nat_le t p.0) ((t, u) ∷ p ∷ ps) (p ∷ insert_by_ticket t u ps) (AllBelow k) (λ _. (h, a)) (λ _. (a.0, AllBelow-insert k t u ps h a.1))

-- so does a step of the queue
AllBelow-step : (k m : ℕ) (o : Option ℕ) (ps : List (ℕ × ℕ)) → ((t : ℕ) → o ≡ Some t → t < k) → AllBelow k ps → AllBelow k (ticketed_step m o ps)
AllBelow-step k m None ps h a = a
AllBelow-step k m (Some t) ps h a = AllBelow-insert k t m ps (h t refl) a

-- so it is in a queue
AllBelow-ticketed : (at : ℕ → Option ℕ) (k n : ℕ) → ((v t : ℕ) → at v ≡ Some t → t < k) → AllBelow k (ticketed at n)
AllBelow-ticketed at k zero h = tt
AllBelow-ticketed at k (suc n) h = AllBelow-step k n (at n) (ticketed at n) (h n) (AllBelow-ticketed at k n h)

-- a ticket above all comes to the end
pub insert-at-end : (k u : ℕ) (ps : List (ℕ × ℕ)) → AllBelow k ps → insert_by_ticket k u ps ≡ ps ++ (k, u) ∷ []
insert-at-end k u [] a = refl
insert-at-end k u (p ∷ ps) a = cond-false (nat_le k p.0) _ _ (lt-leb k p.0 a.0) ∙ ap (λ qs. p ∷ qs) (insert-at-end k u ps a.1)

-- a lower one comes before it
insert-before-end : (t v k u : ℕ) (ps : List (ℕ × ℕ)) → t < k → insert_by_ticket t v (ps ++ (k, u) ∷ []) ≡ insert_by_ticket t v ps ++ (k, u) ∷ []
insert-before-end t v k u [] h = cond-true (nat_le t k) _ _ (le-leb t k (omega arith))
insert-before-end t v k u (p ∷ ps) h =
    let ih : insert_by_ticket t v (ps ++ (k, u) ∷ []) ≡ insert_by_ticket t v ps ++ (k, u) ∷ [] = insert-before-end t v k u ps h in grind (arith, nat_tests)

-- so it is in a step of the queue
step-push : (m k u : ℕ) (o : Option ℕ) (ps : List (ℕ × ℕ)) → ((t : ℕ) → o ≡ Some t → t < k) → ticketed_step m o (ps ++ (k, u) ∷ []) ≡ ticketed_step m o ps ++ (k, u) ∷ []
step-push m k u None ps h = refl
step-push m k u (Some t) ps h = insert-before-end t m k u ps (h t refl)

module _ (at : ℕ → Option ℕ) (u k : ℕ) (none : at u ≡ None) (below : (v t : ℕ) → at v ≡ Some t → t < k) where
  -- u is not yet among the units below n, or is
  before-it : (n : ℕ) → n ≤ u → ticketed (put_at at u (Some k)) n ≡ ticketed at n
  before-it zero l = refl
  before-it (suc n) l =
      ap (ticketed_step n (put_at at u (Some k) n)) (before-it n (omega arith))
      ∙ ap (λ o. ticketed_step n o (ticketed at n)) (put_at-other at u (Some k) n (λ e. omega arith))

  -- u comes to the end
  ticketed-push : (n : ℕ) → u < n → ticketed (put_at at u (Some k)) n ≡ ticketed at n ++ (k, u) ∷ []
  ticketed-push zero l = absurd (omega arith)
  ticketed-push (suc n) l =
      elim (cases_eq u n) [
        | inl same ↦ subst (λ m. ticketed_step m (put_at at u (Some k) m) (ticketed (put_at at u (Some k)) m) ≡ ticketed_step m (at m) (ticketed at m) ++ (k, u) ∷ []) same here
        | inr other ↦
            ap (λ o. ticketed_step n o (ticketed (put_at at u (Some k)) n)) (put_at-other at u (Some k) n (λ e. other (sym e)))
            ∙ (ap (ticketed_step n (at n)) (ticketed-push n (omega arith)) ∙ step-push n k u (at n) (ticketed at n) (below n))
      ] where
        here : ticketed_step u (put_at at u (Some k) u) (ticketed (put_at at u (Some k)) u) ≡ ticketed_step u (at u) (ticketed at u) ++ (k, u) ∷ []
        here =
            ap (λ o. ticketed_step u o (ticketed (put_at at u (Some k)) u)) (put_at-same at u (Some k))
            ∙ (ap (insert_by_ticket k u) (before-it u (omega arith))
            ∙ (insert-at-end k u (ticketed at u) (AllBelow-ticketed at k u below) ∙ ap (λ o. ticketed_step u o (ticketed at u) ++ (k, u) ∷ []) (sym none)))

  -- a unit with a ticket above all others comes to the end
  pub queue-push : (n : ℕ) → u < n → queue (put_at at u (Some k)) n ≡ queue at n ++ u ∷ []
  queue-push n l = ap (map (λ (p : ℕ × ℕ). p.1)) (ticketed-push n l) ∙ map-append (λ (p : ℕ × ℕ). p.1) (ticketed at n) ((k, u) ∷ [])

-- No unit is twice in a queue.

-- no number is twice in the list
abbrev pub IsDistinct : List ℕ → Type 0
IsDistinct [] = Unit {0}
IsDistinct (u ∷ us) = (Among u us → ⊥) × IsDistinct us

-- who is among them after an insertion
among-insert : (v t u : ℕ) (ps : List (ℕ × ℕ)) → Among v (map (λ p. p.1) (insert_by_ticket t u ps)) → (v ≡ u) ⊎ Among v (map (λ p. p.1) ps)
among-insert v t u [] = λ a. elim a [ inl e ↦ inl e | inr b ↦ inr b ]
among-insert v t u (p ∷ ps) =
    cond_both (nat_le t p.0) ((t, u) ∷ p ∷ ps) (p ∷ insert_by_ticket t u ps) (λ qs. Among v (map (λ q. q.1) qs) → (v ≡ u) ⊎ Among v (map (λ p. p.1) (p ∷ ps)))
    (λ _ a. a)
    (λ _ a. elim a [ inl e ↦ inr (inl e) | inr b ↦ elim (among-insert v t u ps b) [ inl e ↦ inl e | inr c ↦ inr (inr c) ] ])

-- an insertion of a new unit keeps it
IsDistinct-insert : (t u : ℕ) (ps : List (ℕ × ℕ)) → (Among u (map (λ p. p.1) ps) → ⊥) → IsDistinct (map (λ p. p.1) ps) → IsDistinct (map (λ p. p.1) (insert_by_ticket t u ps))
IsDistinct-insert t u [] out d = (out, tt)
IsDistinct-insert t u (p ∷ ps) out d =
    cond_both (nat_le t p.0) ((t, u) ∷ p ∷ ps) (p ∷ insert_by_ticket t u ps) (λ qs. IsDistinct (map (λ q. q.1) qs))
    (λ _. (out, d))
    (λ _. ((λ a. elim (among-insert p.1 t u ps a) [ inl e ↦ out (inl (sym e)) | inr b ↦ d.0 b ]), IsDistinct-insert t u ps (λ a. out (inr a)) d.1))

-- so does a step of the queue
IsDistinct-step : (n : ℕ) (o : Option ℕ) (ps : List (ℕ × ℕ)) → (Among n (map (λ p. p.1) ps) → ⊥) → IsDistinct (map (λ p. p.1) ps) → IsDistinct (map (λ p. p.1) (ticketed_step n o ps))
IsDistinct-step n None ps out d = d
IsDistinct-step n (Some t) ps out d = IsDistinct-insert t n ps out d

-- what holds of all that are among them holds of each
pub each-among : (P : ℕ → Type 0) (us : List ℕ) → ((v : ℕ) → Among v us → P v) → EachOf P us
each-among P [] h = tt
each-among P (u ∷ us) h = (h u (inl refl), each-among P us (λ v m. h v (inr m)))

-- what holds of each holds of each that is among them
pub EachOf-among : (P : ℕ → Type 0) (us : List ℕ) (v : ℕ) → EachOf P us → Among v us → P v
EachOf-among P [] v a m = absurd m
EachOf-among P (u ∷ us) v a m = elim m [ inl e ↦ subst P (sym e) a.0 | inr b ↦ EachOf-among P us v a.1 b ]

-- no unit is twice in a queue
pub queue-distinct : (at : ℕ → Option ℕ) (n : ℕ) → IsDistinct (queue at n)
queue-distinct at zero = tt
queue-distinct at (suc n) =
    IsDistinct-step n (at n) (ticketed at n) (λ m. let h : HasTicket at n n = EachOf-among (HasTicket at n) (queue at n) n (queue-each at n) m in let l : n < n = h.in_range in absurd (omega arith)) (queue-distinct at n)
