-- A booth's table as its seats are gathered, and at its end.
use Rattle.std.proofs.Common.{◌≡◌, ◌≢◌, ℕ, zero, suc, ◌<◌, ◌≤◌, ◌^◌, ◌⊎◌, inl, inr, ⊎_elim, true, false, List, [], ◌∷◌, ◌++◌, length, map, set, slice_index_or, refl, sym, ap, ◌∙◌, subst, arith, le_refl, true≢false, Some}
use Rattle.std.proofs.lemmas.List.{append_assoc, map-append}
use Rattle.std.proofs.lemmas.List.Quantifiers.{Any-push}
use Rattle.std.proofs.lemmas.Bool.{false_from_ne_true}
use mathlib.Core.Option.{Option as Maybe, some, some-injective}
use lib.ListN.{get_elem?}
use Rattle.atomic_table.specs.Table.{Joins, Final, Seen}
use Rattle.atomic_table.proofs.Lists.{at_set, set_else, at_index}
use Rattle.abt_booth.specs.declared.object.Object.{Ghosts}
use Rattle.abt_booth.specs.declared.booth.Seat.{Seat}
use Rattle.abt_interleave.specs.declared.entries.Entry.{Entry}
use Rattle.abt_booth.specs.declared.rule.View.{View}
use Rattle.abt_booth.specs.declared.rule.Lot.{Lot}
use Rattle.abt_booth.specs.Rule.{KeptLot, Has, IsFree, IsHeld, Kept, gathered, spent, all_known}
use Rattle.abt_booth.specs.Calls.{IsClosed}
use Rattle.abt_booth.specs.Seats.{known_of, HasEachNumber, HasNumber}
use Rattle.abt_booth.proofs.Places.{at-end, at-or, nowhere, same-place}

-- a view that was taken in has no number
has-spent : {A R : Type 0} (O : Type 0) (k : ℕ) (l : List (Entry A R)) → Has {O = O} spent k l → ⊥
has-spent O k l h = ⊎_elim (λ (t : (0 ≤ k) × (k < 0) × (l ≡ [])). let q = t.1 in absurd (omega arith)) (λ t. nowhere [] t.0 (k, l) refl t.1) h

module _ {O A R : Type 0} where
  -- the lists of the view that gathers are its own and that of the other
  in-gathered : (v w : View O A R) (k : ℕ) (l : List (Entry A R)) (i : ℕ) → w.number < w.next → get_elem? ((w.number, w.seen) ∷ v.taken) i ≡ some (k, l) → Has v k l ⊎ Has w k l
  in-gathered v w k l zero lt e = let p = some-injective (w.number, w.seen) (k, l) e in let a : w.number ≡ k = ap (λ z. z.0) p in let lo : w.number ≤ k = omega arith in let hi : k < w.next = omega arith in
      inr (inl (lo, hi, sym (ap (λ z. z.1) p)))
  in-gathered v w k l (suc i) lt e = inl (inr (i, e))

  -- the same, of all that it has
  has-gathered : (v w : View O A R) (k : ℕ) (l : List (Entry A R)) → w.number < w.next → Has (gathered v w) k l → Has v k l ⊎ Has w k l
  has-gathered v w k l lt h = ⊎_elim (λ (t : (v.number ≤ k) × (k < v.next) × (l ≡ v.seen)). inl (inl t)) (λ t. in-gathered v w k l t.0 lt t.1) h

module _ {O A R : Type 0} (does : O → A → R → O → Type 0) (o : O) (n : ℕ) where
  -- a view without the turn may take in another
  pub gathers : (id other : ℕ) (v w : View O A R) → v.number < v.next → w.number < w.next → v.holds ≡ false → w.holds ≡ false → Joins (Kept does o n) id v other w (gathered v w) spent
  gathers id other v w lv lw hv hw s r at ne at2 =
      let vs = s.views in
      let b = gathered v w in
      let ws : List (View O A R) = set vs id b in
      let gone : View O A R = spent in
      let atw : get_elem? vs other ≡ some w = sym (set_else vs id other b ne) ∙ at2 in
      let Old : ℕ → View O A R → Type 0 = λ j u. (j ≢ other) × (j ≢ id) × (get_elem? vs j ≡ some u) in
      let where_is : (j : ℕ) (u : View O A R) → get_elem? (set ws other gone) j ≡ some u → ((j ≡ other) × (gone ≡ u)) ⊎ (((j ≡ id) × (b ≡ u)) ⊎ Old j u) = λ j u e. ⊎_elim inl
      (λ (t : (j ≢ other) × (get_elem? ws j ≡ some u)). inr (⊎_elim inl (λ (c : (j ≢ id) × (get_elem? vs j ≡ some u)). inr (t.0, c.0, c.1)) (at_set vs id j b u t.1))) (at_set ws other j gone u e) in
      let owned : (j : ℕ) (u : View O A R) (k : ℕ) (l : List (Entry A R)) → get_elem? (set ws other gone) j ≡ some u → Has u k l → ((j ≡ id) × (Has v k l ⊎ Has w k l)) ⊎ Old j u = λ j u k l e h. ⊎_elim
      (λ (t : (j ≡ other) × (gone ≡ u)). absurd (has-spent O k l (subst (λ (x : View O A R). Has x k l) (sym t.1) h)))
      (λ (t : ((j ≡ id) × (b ≡ u)) ⊎ Old j u). ⊎_elim (λ (c : (j ≡ id) × (b ≡ u)). inl (c.0, has-gathered v w k l lw (subst (λ (x : View O A R). Has x k l) (sym c.1) h))) inr t) (where_is j u e) in
      let foreign : (j : ℕ) (u : View O A R) (k : ℕ) (l l' : List (Entry A R)) → Old j u → Has u k l → Has v k l' ⊎ Has w k l' → ⊥ = λ j u k l l' c h m. ⊎_elim
      (λ (m : Has v k l'). c.1 (r.unique j id u v k l l' c.2 at h m))
      (λ (m : Has w k l'). c.0 (r.unique j other u w k l l' c.2 atw h m)) m in
      let quiet : (j : ℕ) (u : View O A R) → get_elem? (set ws other gone) j ≡ some u → u.holds ≡ true → get_elem? vs j ≡ some u = λ j u e h. ⊎_elim
      (λ (t : (j ≡ other) × (gone ≡ u)). absurd (true≢false (sym h ∙ ap (λ (y : View O A R). y.holds) (sym t.1))))
      (λ (t : ((j ≡ id) × (b ≡ u)) ⊎ Old j u). ⊎_elim (λ (c : (j ≡ id) × (b ≡ u)). absurd (true≢false (sym h ∙ (ap (λ (y : View O A R). y.holds) (sym c.1) ∙ hv)))) (λ (c : Old j u). c.2) t) (where_is j u e) in
      let fv = r.fits id v at in
      let fw = r.fits other w atw in
      let mine : v.opening ≡ Some o = (fv v.number v.seen (inl (le_refl v.number, lv, refl))).0 in record {
        log = r.log;
        rises = r.rises;
        capped = r.capped;
        known = r.known;
        fits = λ j u e k l h. ⊎_elim
            (λ (t : (j ≡ other) × (gone ≡ u)). absurd (has-spent O k l (subst (λ (x : View O A R). Has x k l) (sym t.1) h)))
            (λ (t : ((j ≡ id) × (b ≡ u)) ⊎ Old j u). ⊎_elim
            (λ (c : (j ≡ id) × (b ≡ u)). let m = has-gathered v w k l lw (subst (λ (x : View O A R). Has x k l) (sym c.1) h) in let op : u.opening ≡ Some o = ap (λ (y : View O A R). y.opening) (sym c.1) ∙ mine in
            ⊎_elim (λ (m : Has v k l). let f = fv k l m in (op, f.1, f.2)) (λ (m : Has w k l). let f = fw k l m in (op, f.1, f.2)) m)
            (λ (c : Old j u). r.fits j u c.2 k l h) t) (where_is j u e);
        unique = λ j j' u u' k l l' e e' h h'. ⊎_elim
            (λ (c : (j ≡ id) × (Has v k l ⊎ Has w k l)). ⊎_elim
            (λ (c' : (j' ≡ id) × (Has v k l' ⊎ Has w k l')). c.0 ∙ sym c'.0)
            (λ (c' : Old j' u'). absurd (foreign j' u' k l' l c' h' c.1)) (owned j' u' k l' e' h'))
            (λ (c : Old j u). ⊎_elim
            (λ (c' : (j' ≡ id) × (Has v k l' ⊎ Has w k l')). absurd (foreign j u k l l' c h c'.1))
            (λ (c' : Old j' u'). r.unique j j' u u' k l l' c.2 c'.2 h h') (owned j' u' k l' e' h')) (owned j u k l e h);
        turn = ⊎_elim
            (λ (t : IsFree does o r.log s). inl (t.0, t.1, t.2, t.3, t.4, λ j u e. false_from_ne_true u.holds (λ h. true≢false (sym h ∙ t.5 j u (quiet j u e h)))))
            (λ (t : IsHeld r.log s). inr (
              t.0,
              t.1,
              t.2,
              t.3,
              set_else ws other t.0 gone (λ is. true≢false (sym t.6 ∙ (ap (λ (y : View O A R). y.holds) (same-place vs t.0 t.1 w t.4 (subst (λ (i : ℕ). get_elem? vs i ≡ some w) (sym is) atw)) ∙ hw)))
                  ∙ (set_else vs id t.0 b (λ is. true≢false (sym t.6 ∙ (ap (λ (y : View O A R). y.holds) (same-place vs t.0 t.1 v t.4 (subst (λ (i : ℕ). get_elem? vs i ≡ some v) (sym is) at)) ∙ hv))) ∙ t.4),
              t.5,
              t.6,
              λ j u e h. t.7 j u (quiet j u e h) h,
            )) r.turn;
      }

  -- a view of one number has each list that it is known by
  has-known : (v : View O A R) → v.next ≡ suc v.number → (i : ℕ) (x : ℕ × List (Entry A R)) → get_elem? (all_known v) i ≡ some x → Has v x.0 x.1
  has-known v one i x e = ⊎_elim
      (λ (there : get_elem? v.taken i ≡ some x). inr (i, there))
      (λ (c : (i ≡ length v.taken) × ((v.number, v.seen) ≡ x)). subst (λ (y : ℕ × List (Entry A R)). Has v y.0 y.1) c.1 (let lt : v.number < v.next = omega arith in inl (le_refl v.number, lt, refl)))
      (at-end v.taken (v.number, v.seen) x i e)

  -- once one view without the turn has every number, the slot has the object that the one history leads to
  pub closes : (id : ℕ) (v : View O A R) (ws : List ℕ) (xs : List (KeptLot O A R)) → v.holds ≡ false → v.next ≡ suc v.number → HasEachNumber n (all_known v) → Final (Seen (Kept does o n) id v) ws xs
      → (lot : Lot O A R) × (get_elem? xs 0 ≡ some (Some lot)) × IsClosed does o n (all_known v) lot.object lot.clock
  closes id v ws xs hv one all f =
      let s = f.0 in
      let r = f.1.0 in
      let at = f.1.1 in ⊎_elim
      (λ (t : IsFree does o r.log s). (
        t.0,
        f.4 0 (Some t.0) (ap (λ (hs : List (Maybe (KeptLot O A R))). get_elem? hs 0) t.2),
        record {
          history = r.log;
          legal = (r.rises, t.3);
          last = t.4;
          capped = subst (λ (z : ℕ). z ≤ 2 ^ 62) (sym t.4) r.capped;
          of_seats = r.known;
          seen = λ i d lt. let x = slice_index_or (all_known v) i d in (r.fits id v at x.0 x.1 (has-known v one i x (at-or (all_known v) i d lt))).2;
        },
      ))
      (λ (t : IsHeld r.log s).
      let here = inl (le_refl t.1.number, t.5, refl) in
      let below = (r.fits t.0 t.1 t.4 t.1.number t.1.seen here).1 in
      let mine = all t.1.number below in
      let x = mine.1 in
      let has : Has v t.1.number x.1 = subst (λ (k : ℕ). Has v k x.1) mine.4 (has-known v one mine.0 x (at_index (all_known v) mine.0 x mine.2 (sym mine.3))) in
      let is = r.unique t.0 id t.1 v t.1.number t.1.seen x.1 t.4 at here has in
      absurd (true≢false (sym t.6 ∙ (ap (λ (y : View O A R). y.holds) (same-place s.views t.0 t.1 v t.4 (subst (λ (i : ℕ). get_elem? s.views i ≡ some v) (sym is) at)) ∙ hv)))) r.turn

module _ {O A R : Type 0} (v : View O A R) where
  -- a view's number is among those that it is known by
  pub number-mine : HasNumber v.number (all_known v)
  number-mine = Any-push (λ k. k.0 ≡ v.number) v.taken (v.number, v.seen) refl

  -- so is that of a view which it gathered
  pub number-gathered : (w : View O A R) → HasNumber w.number (all_known (gathered v w))
  number-gathered w = (0, (w.number, w.seen), omega arith, refl, refl)

  -- and each that it had
  pub numbers-kept : (w : View O A R) (number : ℕ) → HasNumber number (all_known v) → HasNumber number (all_known (gathered v w))
  numbers-kept w number h = let lt = h.2 in (suc h.0, h.1, omega arith, h.3, h.4)

module _ {O A R : Type 0} {g : Ghosts O A R} where
  -- the last seat goes from the seats to the lists that are known
  pub known-pop : (seats rest : List (Seat O A R g)) (s : Seat O A R g) (known : List (ℕ × List (Entry A R))) → seats ≡ rest ++ s ∷ [] → map known_of rest ++ known_of s ∷ known ≡ map known_of seats ++ known
  known-pop seats rest s known e = sym (append_assoc (map known_of rest) (known_of s ∷ []) known) ∙ ap (λ (l : List (ℕ × List (Entry A R))). l ++ known) (sym (ap (map known_of) e ∙ map-append known_of rest (s ∷ [])))
