-- A booth's table at its start, and as its seats are dealt.
use Rattle.std.proofs.Common.{◌≡◌, ◌≢◌, ℕ, suc, ◌<◌, ◌≤◌, inl, inr, ⊎_elim, true, false, List, [], ◌∷◌, ◌++◌, length, replicate, set, refl, sym, ap, ◌∙◌, subst, arith, true≢false, Some}
use Rattle.std.proofs.lemmas.List.Elements.{All-nil}
use Rattle.std.proofs.lemmas.Bool.{false_from_ne_true}
use mathlib.Core.Option.{some}
use lib.ListN.{get_elem?}
use Rattle.atomic_table.specs.Table.{opening, Splits}
use Rattle.atomic_table.proofs.Lists.{at_set, set_else, at_longer}
use Rattle.abt_interleave.specs.declared.entries.Entry.{Entry}
use Rattle.abt_interleave.specs.Histories.{Extends}
use Rattle.abt_booth.specs.declared.rule.View.{View}
use Rattle.abt_booth.specs.declared.rule.Lot.{Lot}
use Rattle.abt_booth.specs.Rule.{Has, Fits, IsFree, IsHeld, Kept, keeper, dealt, left}
use Rattle.abt_interleave.proofs.Prefixes.{extends-self}
use Rattle.abt_booth.proofs.Places.{at-end, alone, nowhere, same-place}
use Rattle.abt_booth.proofs.Keeps.{each-after, unique-after}

module _ {O A R : Type 0} where
  -- the view with all numbers has each, and has seen nothing
  has-keeper : (o : O) (n k : ℕ) (l : List (Entry A R)) → Has (keeper o n) k l → (k < n) × (l ≡ [])
  has-keeper o n k l h = ⊎_elim (λ t. (t.1, t.2)) (λ t. absurd (nowhere [] t.0 (k, l) refl t.1)) h

  -- what the dealing view keeps, it had
  has-left : (v : View O A R) (k : ℕ) (l : List (Entry A R)) → Has (left v) k l → Has v k l
  has-left v k l h = ⊎_elim (λ (t : (suc v.number ≤ k) × (k < v.next) × (l ≡ v.seen)). let p = t.0 in let q : v.number ≤ k = omega arith in inl (q, t.1, t.2)) inr h

  -- and is above the number that it gave
  above-left : (v : View O A R) (k : ℕ) (l : List (Entry A R)) → v.taken ≡ [] → Has (left v) k l → v.number < k
  above-left v k l tk h = ⊎_elim (λ (t : (suc v.number ≤ k) × (k < v.next) × (l ≡ v.seen)). t.0) (λ t. absurd (nowhere v.taken t.0 (k, l) tk t.1)) h

  -- the new view has that number
  number-dealt : (v : View O A R) (k : ℕ) (l : List (Entry A R)) → Has (dealt v) k l → k ≡ v.number
  number-dealt v k l h = ⊎_elim (λ (t : (v.number ≤ k) × (k < suc v.number) × (l ≡ v.seen)). let p = t.0 in let q = t.1 in omega arith) (λ t. absurd (nowhere [] t.0 (k, l) refl t.1)) h

  -- which the dealing view had
  has-dealt : (v : View O A R) (k : ℕ) (l : List (Entry A R)) → v.number < v.next → Has (dealt v) k l → Has v k l
  has-dealt v k l lt h = ⊎_elim (λ (t : (v.number ≤ k) × (k < suc v.number) × (l ≡ v.seen)). let p = t.1 in let q : k < v.next = omega arith in inl (t.0, q, t.2)) (λ t. absurd (nowhere [] t.0 (k, l) refl t.1)) h

module _ {O A R : Type 0} (does : O → A → R → O → Type 0) (o : O) (n : ℕ) where
  -- the rule holds of a new table
  pub opens : (lot : Lot O A R) → lot.object ≡ o → lot.clock ≡ 0 → Kept does o n (opening (replicate 7 0) (Some lot ∷ []) (keeper o n))
  opens lot is zero_is =
      let at_keeper : (j : ℕ) (v : View O A R) → get_elem? (keeper o n ∷ []) j ≡ some v → keeper o n ≡ v = λ j v e. (alone (keeper o n) v j e).1 in record {
        log = [];
        rises = tt;
        capped = omega arith;
        known = All-nil (λ e. e.caller < n);
        fits = λ j v e. subst (Fits o n []) (at_keeper j v e) (λ k l h. let t = has-keeper o n k l h in (refl, t.0, subst (λ (x : List (Entry A R)). Extends k x []) (sym t.1) (extends-self k [])));
        unique = λ j j' v v' k l l' e e' _ _. (alone (keeper o n) v j e).0 ∙ sym (alone (keeper o n) v' j' e').0;
        turn = inl (lot, (0, refl), refl, sym is, zero_is, λ j v e. ap (λ (y : View O A R). y.holds) (sym (at_keeper j v e)));
      }

  -- a view without the turn may deal its lowest number
  pub deals : (id : ℕ) (v : View O A R) → v.number < v.next → v.holds ≡ false → v.taken ≡ [] → Splits (Kept does o n) id v (left v) (dealt v)
  deals id v lt hv tk s r at =
      let vs = s.views in
      let ws : List (View O A R) = set vs id (left v) in
      let apart : (j : ℕ) (u : View O A R) (k : ℕ) (l : List (Entry A R)) → get_elem? ws j ≡ some u → Has u k l → k ≡ v.number → ⊥ = λ j u k l e h is. ⊎_elim
      (λ (t : (j ≡ id) × (left v ≡ u)). let b = above-left v k l tk (subst (λ (x : View O A R). Has x k l) (sym t.1) h) in absurd (omega arith))
      (λ (t : (j ≢ id) × (get_elem? vs j ≡ some u)). let lo : v.number ≤ k = omega arith in let hi : k < v.next = omega arith in t.0 (r.unique j id u v k l v.seen t.1 at h (inl (lo, hi, refl)))) (at_set vs id j (left v) u e) in
      let dealt_at : (u : View O A R) (k : ℕ) (l : List (Entry A R)) → dealt v ≡ u → Has u k l → k ≡ v.number = λ u k l e h. number-dealt v k l (subst (λ (x : View O A R). Has x k l) (sym e) h) in
      let quiet : (j : ℕ) (u : View O A R) → get_elem? (ws ++ dealt v ∷ []) j ≡ some u → u.holds ≡ true → (j ≢ id) × (get_elem? vs j ≡ some u) = λ j u e h. ⊎_elim
      (λ (c : get_elem? ws j ≡ some u). ⊎_elim
      (λ (t : (j ≡ id) × (left v ≡ u)). absurd (true≢false (sym h ∙ (ap (λ (y : View O A R). y.holds) (sym t.1) ∙ hv))))
      (λ (t : (j ≢ id) × (get_elem? vs j ≡ some u)). t) (at_set vs id j (left v) u c))
      (λ (c : (j ≡ length ws) × (dealt v ≡ u)). absurd (true≢false (sym h ∙ ap (λ (y : View O A R). y.holds) (sym c.1)))) (at-end ws (dealt v) u j e) in record {
        log = r.log;
        rises = r.rises;
        capped = r.capped;
        known = r.known;
        fits = λ j u e. ⊎_elim
            (λ (c : get_elem? ws j ≡ some u). each-after (λ _ x. Fits o n r.log x) (λ _ x. Fits o n r.log x) vs id (left v) r.fits (λ k l h. r.fits id v at k l (has-left v k l h)) (λ _ _ _ _ f. f) j u c)
            (λ (c : (j ≡ length ws) × (dealt v ≡ u)). subst (Fits o n r.log) c.1 (λ k l h. r.fits id v at k l (has-dealt v k l lt h))) (at-end ws (dealt v) u j e);
        unique = λ j j' u u' k l l' e e' h h'. ⊎_elim
            (λ (c : get_elem? ws j ≡ some u). ⊎_elim
            (λ (c' : get_elem? ws j' ≡ some u'). unique-after vs id v (left v) at (λ k l h. (l, has-left v k l h)) r.unique j j' u u' k l l' c c' h h')
            (λ (c' : (j' ≡ length ws) × (dealt v ≡ u')). absurd (apart j u k l c h (dealt_at u' k l' c'.1 h'))) (at-end ws (dealt v) u' j' e'))
            (λ (c : (j ≡ length ws) × (dealt v ≡ u)). ⊎_elim
            (λ (c' : get_elem? ws j' ≡ some u'). absurd (apart j' u' k l' c' h' (dealt_at u k l c.1 h)))
            (λ (c' : (j' ≡ length ws) × (dealt v ≡ u')). c.0 ∙ sym c'.0) (at-end ws (dealt v) u' j' e')) (at-end ws (dealt v) u j e);
        turn = ⊎_elim
            (λ (t : IsFree does o r.log s). inl (t.0, t.1, t.2, t.3, t.4, λ j u e. false_from_ne_true u.holds (λ h. true≢false (sym h ∙ t.5 j u (quiet j u e h).1))))
            (λ (t : IsHeld r.log s). inr (
              t.0,
              t.1,
              t.2,
              t.3,
              at_longer ws (dealt v ∷ []) t.0 t.1 (set_else vs id t.0 (left v) (λ is. true≢false (sym t.6 ∙ (ap (λ (y : View O A R). y.holds) (same-place vs t.0 t.1 v t.4 (subst (λ (i : ℕ). get_elem? vs i ≡ some v) (sym is) at)) ∙ hv))) ∙ t.4),
              t.5,
              t.6,
              λ j u e h. t.7 j u (quiet j u e h).1 h,
            )) r.turn;
      }
