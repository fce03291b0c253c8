-- Queues from which some units are gone.
use Rattle.std.proofs.Common.{◌≡◌, ℕ, zero, suc, ◌<◌, ◌≤◌, nat_le, if◌then◌else◌, Bool, true, false, List, [], ◌∷◌, map, Option, Some, None, refl, sym, ◌∙◌, ap, arith, inl, inr}
use Rattle.std.specs.Prelude.{filter}
use Rattle.std.proofs.lemmas.Bool.{cond-true, cond-false, cond_both, cases_Bool, leb-true, leb-false, le-leb}
use Rattle.abt_machine.specs.Queues.{insert_by_ticket, ticketed_step, ticketed, queue}
use Rattle.abt_laws.proofs.Lists.{EachOf}

-- Tickets rise along a queue.

-- no ticket is below k
abbrev AllFrom : ℕ → List (ℕ × ℕ) → Type 0
AllFrom k ps = EachOf (λ (p : ℕ × ℕ). k ≤ p.0) ps

-- tickets do not fall
abbrev pub IsRising : List (ℕ × ℕ) → Type 0
IsRising [] = Unit {0}
IsRising (p ∷ ps) = AllFrom p.0 ps × IsRising ps

-- a lower bound may be lower
AllFrom-less : (j k : ℕ) (ps : List (ℕ × ℕ)) → j ≤ k → AllFrom k ps → AllFrom j ps
AllFrom-less j k [] l a = tt
AllFrom-less j k (p ∷ ps) l a = (let h : k ≤ p.0 = a.0 in omega arith, AllFrom-less j k ps l a.1)

-- an insertion keeps it
AllFrom-insert : (k t u : ℕ) (ps : List (ℕ × ℕ)) → k ≤ t → AllFrom k ps → AllFrom k (insert_by_ticket t u ps)
AllFrom-insert k t u [] l a = (l, tt)
AllFrom-insert k t u (p ∷ ps) l a =
    cond_both (nat_le t p.0) ((t, u) ∷ p ∷ ps) (p ∷ insert_by_ticket t u ps) (AllFrom k) (λ _. (l, a)) (λ _. (a.0, AllFrom-insert k t u ps l a.1))

-- an insertion keeps tickets rising
IsRising-insert : (t u : ℕ) (ps : List (ℕ × ℕ)) → IsRising ps → IsRising (insert_by_ticket t u ps)
IsRising-insert t u [] r = (tt, tt)
IsRising-insert t u (p ∷ ps) r =
    cond_both (nat_le t p.0) ((t, u) ∷ p ∷ ps) (p ∷ insert_by_ticket t u ps) IsRising
    (λ e. let l : t ≤ p.0 = leb-true t p.0 e in ((l, AllFrom-less t p.0 ps l r.0), r))
    (λ e. let l : p.0 < t = leb-false t p.0 e in (AllFrom-insert p.0 t u ps (omega arith) r.0, IsRising-insert t u ps r.1))

-- so does a step of the queue
IsRising-step : (u : ℕ) (o : Option ℕ) (ps : List (ℕ × ℕ)) → IsRising ps → IsRising (ticketed_step u o ps)
IsRising-step u None ps r = r
IsRising-step u (Some t) ps r = IsRising-insert t u ps r

-- tickets rise along a queue
pub IsRising-ticketed : (at : ℕ → Option ℕ) (n : ℕ) → IsRising (ticketed at n)
IsRising-ticketed at zero = tt
IsRising-ticketed at (suc n) = IsRising-step n (at n) (ticketed at n) (IsRising-ticketed at n)

-- Units that are not to stay.

-- the ticket of a unit that is to stay
abbrev if_stays : (ℕ → Bool) → ℕ → Option ℕ → Option ℕ
if_stays stays u o = if stays u then o else None

module _ (stays : ℕ → Bool) where
  -- the tickets of those that stay
  abbrev those : List (ℕ × ℕ) → List (ℕ × ℕ)
  those ps = filter (λ (p : ℕ × ℕ). stays p.1) ps

  -- they keep a lower bound
  AllFrom-those : (k : ℕ) (ps : List (ℕ × ℕ)) → AllFrom k ps → AllFrom k (those ps)
  AllFrom-those k [] a = tt
  AllFrom-those k (p ∷ ps) a = cond_both (stays p.1) (p ∷ those ps) (those ps) (AllFrom k) (λ _. (a.0, AllFrom-those k ps a.1)) (λ _. AllFrom-those k ps a.1)

  -- below what comes, an insertion is at the head
  insert-head : (t v : ℕ) (ps : List (ℕ × ℕ)) → AllFrom t ps → insert_by_ticket t v ps ≡ (t, v) ∷ ps
  insert-head t v [] a = refl
  insert-head t v (p ∷ ps) a = cond-true (nat_le t p.0) _ _ (le-leb t p.0 a.0)

  -- a unit that is not to stay may be left out
  those-gone : (t v : ℕ) (ps : List (ℕ × ℕ)) → stays v ≡ false → those (insert_by_ticket t v ps) ≡ those ps
  those-gone t v [] gone = cond-false (stays v) _ _ gone
  those-gone t v (p ∷ ps) gone =
      cond_both (nat_le t p.0) ((t, v) ∷ p ∷ ps) (p ∷ insert_by_ticket t v ps) (λ qs. those qs ≡ those (p ∷ ps))
      (λ _. cond-false (stays v) _ _ gone)
      (λ _. ap (λ qs. if stays p.1 then p ∷ qs else qs) (those-gone t v ps gone))

  -- one that is to stay is inserted among them
  those-insert : (t v : ℕ) (ps : List (ℕ × ℕ)) → stays v ≡ true → IsRising ps → those (insert_by_ticket t v ps) ≡ insert_by_ticket t v (those ps)
  those-insert t v [] here r = cond-true (stays v) _ _ here
  those-insert t v (p ∷ ps) here r =
      cond_both (nat_le t p.0) ((t, v) ∷ p ∷ ps) (p ∷ insert_by_ticket t v ps) (λ qs. those qs ≡ insert_by_ticket t v (those (p ∷ ps)))
      (λ e. let l : t ≤ p.0 = leb-true t p.0 e in
      cond-true (stays v) _ _ here ∙ sym (insert-head t v (those (p ∷ ps)) (AllFrom-those t (p ∷ ps) (l, AllFrom-less t p.0 ps l r.0))))
      (λ e. let ih : those (insert_by_ticket t v ps) ≡ insert_by_ticket t v (those ps) = those-insert t v ps here r.1 in
      elim (cases_Bool (stays p.1)) [
        | inl kept ↦ cond-true (stays p.1) _ _ kept ∙ (ap (λ qs. p ∷ qs) ih ∙ (sym (cond-false (nat_le t p.0) _ _ e) ∙ ap (insert_by_ticket t v) (sym (cond-true (stays p.1) (p ∷ those ps) (those ps) kept))))
        | inr gone ↦ cond-false (stays p.1) _ _ gone ∙ (ih ∙ ap (insert_by_ticket t v) (sym (cond-false (stays p.1) (p ∷ those ps) (those ps) gone)))
      ])

  -- a step of the queue
  those-step : (n : ℕ) (o : Option ℕ) (ps : List (ℕ × ℕ)) → IsRising ps → ticketed_step n (if_stays stays n o) (those ps) ≡ those (ticketed_step n o ps)
  those-step n None ps r =
      elim (cases_Bool (stays n)) [
        | inl here ↦ ap (λ o. ticketed_step n o (those ps)) (cond-true (stays n) None None here)
        | inr gone ↦ ap (λ o. ticketed_step n o (those ps)) (cond-false (stays n) None None gone)
      ]
  those-step n (Some t) ps r =
      elim (cases_Bool (stays n)) [
        | inl here ↦ ap (λ o. ticketed_step n o (those ps)) (cond-true (stays n) (Some t) None here) ∙ sym (those-insert t n ps here r)
        | inr gone ↦ ap (λ o. ticketed_step n o (those ps)) (cond-false (stays n) (Some t) None gone) ∙ sym (those-gone t n ps gone)
      ]

  -- all steps
  ticketed-those : (at : ℕ → Option ℕ) (n : ℕ) → ticketed (λ u. if_stays stays u (at u)) n ≡ those (ticketed at n)
  ticketed-those at zero = refl
  ticketed-those at (suc n) = ap (ticketed_step n (if_stays stays n (at n))) (ticketed-those at n) ∙ those-step n (at n) (ticketed at n) (IsRising-ticketed at n)

  -- the tickets left out or the units left out
  map-those : (ps : List (ℕ × ℕ)) → map (λ p. p.1) (those ps) ≡ filter stays (map (λ p. p.1) ps)
  map-those [] = refl
  map-those (p ∷ ps) =
      elim (cases_Bool (stays p.1)) [
        | inl here ↦ ap (map (λ (q : ℕ × ℕ). q.1)) (cond-true (stays p.1) (p ∷ those ps) (those ps) here) ∙ (ap (λ us. p.1 ∷ us) (map-those ps) ∙ sym (cond-true (stays p.1) _ _ here))
        | inr gone ↦ ap (map (λ (q : ℕ × ℕ). q.1)) (cond-false (stays p.1) (p ∷ those ps) (those ps) gone) ∙ (map-those ps ∙ sym (cond-false (stays p.1) _ _ gone))
      ]

  -- who is not to stay is gone from the queue, and the others keep their order
  pub queue-filter : (at : ℕ → Option ℕ) (n : ℕ) → queue (λ u. if_stays stays u (at u)) n ≡ filter stays (queue at n)
  queue-filter at n = ap (map (λ (p : ℕ × ℕ). p.1)) (ticketed-those at n) ∙ map-those (ticketed at n)

-- Filters that keep all, or none.

-- all stay
pub filter-all : (stays : ℕ → Bool) (us : List ℕ) → EachOf (λ u. stays u ≡ true) us → filter stays us ≡ us
filter-all stays [] a = refl
filter-all stays (u ∷ us) a = cond-true (stays u) _ _ a.0 ∙ ap (λ vs. u ∷ vs) (filter-all stays us a.1)

-- none stays
pub filter-none : (stays : ℕ → Bool) (us : List ℕ) → EachOf (λ u. stays u ≡ false) us → filter stays us ≡ []
filter-none stays [] a = refl
filter-none stays (u ∷ us) a = cond-false (stays u) _ _ a.0 ∙ filter-none stays us a.1

-- what holds of each holds of those that stay
pub EachOf-filter : (P : ℕ → Type 0) (stays : ℕ → Bool) (us : List ℕ) → EachOf P us → EachOf P (filter stays us)
EachOf-filter P stays [] a = tt
EachOf-filter P stays (u ∷ us) a = cond_both (stays u) (u ∷ filter stays us) (filter stays us) (EachOf P) (λ _. (a.0, EachOf-filter P stays us a.1)) (λ _. EachOf-filter P stays us a.1)
