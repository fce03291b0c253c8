-- A history of all objects gives one of each.
use Rattle.std.proofs.Common.{◌≡◌, ℕ, ◌<◌, ◌≤◌, true, false, List, [], ◌∷◌, sym, ◌∙◌, ap, subst, arith}
use Rattle.std.proofs.lemmas.Bool.{cond_both}
use Rattle.abt_interleave.specs.declared.entries.Entry.{Entry}
use Rattle.abt_interleave.specs.Histories.{RisesAbove, entry_stamps, Leads}
use Rattle.abt_interleave.specs.Machines.{Machine, TellsPlaces}
use Rattle.abt_interleave.specs.Laws.{at_place, AllGive, HistorySplits}

pub rises-lower : (n m : ℕ) (ts : List ℕ) → n ≤ m → RisesAbove m ts → RisesAbove n ts
rises-lower n m [] l r = tt
rises-lower n m (t ∷ ts) l r = (let k : m < t = r.0 in omega arith, r.1)

module _ (M : Machine) where
  pub rises-at : (x : M.Place) (n : ℕ) (es : List (Entry (M.Place × M.Act) M.Answer)) → RisesAbove n (entry_stamps es) → RisesAbove n (entry_stamps (at_place M x es))
  rises-at x n [] r = tt
  rises-at x n (e ∷ es) r =
      cond_both (M.same e.act.0 x) (record { stamp = e.stamp; caller = e.caller; act = e.act.1; answer = e.answer } ∷ at_place M x es) (at_place M x es) (λ fs. RisesAbove n (entry_stamps fs))
      (λ _. (r.0, rises-at x e.stamp es r.1))
      (λ _. rises-at x n es (let k : n < e.stamp = r.0 in rises-lower n e.stamp (entry_stamps es) (omega arith) r.1))

  pub leads-at : TellsPlaces M → (x : M.Place) (es : List (Entry (M.Place × M.Act) M.Answer)) (old new : M.Place → M.Object) → Leads (AllGive M) old es new → Leads M.Gives (old x) (at_place M x es) (new x)
  leads-at tells x [] old new l = ap (λ (f : M.Place → M.Object). f x) l
  leads-at tells x (e ∷ es) old new l =
      let ends : Leads M.Gives (l.0 x) (at_place M x es) (new x) = leads-at tells x es l.0 new l.2 in
      cond_both (M.same e.act.0 x) (record { stamp = e.stamp; caller = e.caller; act = e.act.1; answer = e.answer } ∷ at_place M x es) (at_place M x es) (λ fs. Leads M.Gives (old x) fs (new x))
      (λ here. (l.0 x, subst (λ y. M.Gives (old y) e.act.1 e.answer (l.0 y)) ((tells e.act.0 x).0 here) l.1.0, ends))
      (λ away. subst (λ o. Leads M.Gives o (at_place M x es) (new x)) (l.1.1 x (λ q. differ (sym away ∙ (tells e.act.0 x).1 q))) ends) where
        differ : false ≡ true → ⊥
        differ e = cc

  pub history-splits : HistorySplits M
  history-splits tells old new history legal x = (rises-at x 0 history legal.0, leads-at tells x history old new legal.1)
