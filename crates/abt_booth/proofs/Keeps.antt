-- Each step on a booth's table keeps its rule.
use Rattle.std.proofs.Common.{◌≡◌, ◌≢◌, ℕ, zero, suc, ◌+◌, ◌*◌, ◌%◌, ◌<◌, ◌≤◌, ◌^◌, inl, inr, ⊎_elim, Bool, true, false, List, [], ◌∷◌, eqb, eq-eqb, ne_eqb, get_or, set, refl, sym, ap, ◌∙◌, subst, arith, le_refl, true≢false, Some}
use mathlib.Core.Logic.{dite}
use mathlib.Core.Option.{none, some, some-ne-none}
use native.Mathlib.Decide.{ℕ_discrete}
use prog.Atomic.{either}
use lib.ListN.{get_elem?}
use lib.Seq.{set-get_or}
use mathlib.Core.Option.{Option as Maybe}
use Rattle.atomic_table.specs.Table.{Act, step, keeps, takes, gives, stepped, carried_after, Valid, Allows}
use Rattle.atomic_table.proofs.Lists.{at_set, set_again}
use Rattle.std.proofs.lemmas.Bool.{false_from_ne_true}
use Rattle.abt_interleave.specs.declared.entries.Entry.{Entry}
use Rattle.abt_interleave.specs.Histories.{Extends}
use Rattle.abt_booth.specs.declared.rule.View.{View}
use Rattle.abt_booth.specs.declared.rule.Lot.{Lot}
use Rattle.std.specs.List.{All}
use Rattle.std.proofs.lemmas.List.Elements.{All-append, All-map}
use Rattle.abt_booth.specs.Rule.{turn_word, KeptLot, TableState, SeatState, Has, Fits, IsFree, IsHeld, Kept, entry_of, entries_of, holding, resting, took, released}
use Rattle.abt_booth.specs.Holders.{sight_of, IsTaken}
use Rattle.abt_booth.proofs.Places.{index-at}
use Rattle.abt_interleave.proofs.Prefixes.{extends-self}
use Rattle.abt_booth.proofs.Histories.{extends-others}

module _ {O A R : Type 0} where
  abbrev pub At : List (View O A R) → ℕ → View O A R → Type 0
  At vs j v = get_elem? vs j ≡ some v

  abbrev pub Unique : List (View O A R) → Type 0
  Unique vs = (j j' : ℕ) (v v' : View O A R) (k : ℕ) (l l' : List (Entry A R)) → At vs j v → At vs j' v' → Has v k l → Has v' k l' → j ≡ j'

  -- a view of which no number is new
  abbrev pub Narrows : View O A R → View O A R → Type 0
  Narrows v w = (k : ℕ) (l : List (Entry A R)) → Has w k l → (l' : List (Entry A R)) × Has v k l'

  -- what was at a place before its seat's view became w
  before : (vs : List (View O A R)) (me : ℕ) (v w : View O A R) → At vs me v → Narrows v w → (j : ℕ) (u : View O A R) (k : ℕ) (l : List (Entry A R)) → At (set vs me w) j u → Has u k l → (u' : View O A R) × (l' : List (Entry A R)) × At vs j u' × Has u' k l'
  before vs me v w at same j u k l e h = ⊎_elim
      (λ (t : (j ≡ me) × (w ≡ u)). let n = same k l (subst (λ (x : View O A R). Has x k l) (sym t.1) h) in (v, n.0, subst (λ (i : ℕ). At vs i v) (sym t.0) at, n.1))
      (λ (t : (j ≢ me) × At vs j u). (u, l, t.1, h)) (at_set vs me j w u e)

  pub unique-after : (vs : List (View O A R)) (me : ℕ) (v w : View O A R) → At vs me v → Narrows v w → Unique vs → Unique (set vs me w)
  unique-after vs me v w at same un j j' u u' k l l' e e' h h' = let b = before vs me v w at same j u k l e h in let b' = before vs me v w at same j' u' k l' e' h' in
      un j j' b.0 b'.0 k b.1 b'.1 b.2 b'.2 b.3 b'.3

  -- a fact of each view, when one becomes w
  pub each-after : (F G : ℕ → View O A R → Type 0) (vs : List (View O A R)) (me : ℕ) (w : View O A R) → ((j : ℕ) (u : View O A R) → At vs j u → F j u) → G me w → ((j : ℕ) (u : View O A R) → j ≢ me → At vs j u → F j u → G j u)
      → (j : ℕ) (u : View O A R) → At (set vs me w) j u → G j u
  each-after F G vs me w all mine others j u e = ⊎_elim
      (λ (t : (j ≡ me) × (w ≡ u)). subst (λ (x : ℕ × View O A R). G x.0 x.1) (λ i. (sym t.0 i, t.1 i)) mine)
      (λ (t : (j ≢ me) × At vs j u). others j u t.0 t.1 (all j u t.1)) (at_set vs me j w u e)

  -- with a list seen that differs, the numbers are the same
  narrows-seen : (v : View O A R) (b : Bool) (log : List (Entry A R)) → Narrows v record { opening = v.opening; number = v.number; next = v.next; seen = log; holds = b; taken = v.taken }
  narrows-seen v b log k l h = ⊎_elim
      (λ (t : (v.number ≤ k) × (k < v.next) × (l ≡ log)). (v.seen, inl (t.0, t.1, refl)))
      (λ (t : (i : ℕ) × (get_elem? v.taken i ≡ some (k, l))). (l, inr t)) h

  fits-seen : (o : O) (n : ℕ) (log : List (Entry A R)) (v : View O A R) (b : Bool) → Fits o n log v → Fits o n log record { opening = v.opening; number = v.number; next = v.next; seen = log; holds = b; taken = v.taken }
  fits-seen o n log v b f k l h = ⊎_elim
      (λ (t : (v.number ≤ k) × (k < v.next) × (l ≡ log)). let g = f k v.seen (inl (t.0, t.1, refl)) in (g.0, g.1, subst (λ (x : List (Entry A R)). Extends k x log) (sym t.2) (extends-self k log)))
      (λ (t : (i : ℕ) × (get_elem? v.taken i ≡ some (k, l))). f k l (inr t)) h

put-there : {X : Type 0} (l : List X) (i : ℕ) (a b : X) → get_elem? l i ≡ some a → get_elem? (set l i b) i ≡ some b
put-there [] i a b e = absurd (some-ne-none a (sym e))
put-there (x ∷ xs) zero a b e = refl
put-there (x ∷ xs) (suc i) a b e = put-there xs i a b e

module _ {O A R : Type 0} (does : O → A → R → O → Type 0) (o : O) (n : ℕ) where
  abbrev Rule : TableState O A R → Type 0
  Rule = Kept does o n

  abbrev word : TableState O A R → ℕ
  word s = get_or s.words turn_word 0

  -- a step that changes nothing
  unmoved : (s : TableState O A R) (id : ℕ) (v : View O A R) (x : ℕ) → x ≡ word s → get_elem? s.views id ≡ some v → Rule s → Rule record { words = set s.words turn_word x; homes = s.homes; views = set s.views id v }
  unmoved s id v x e at r = subst (λ (z : List ℕ × List (View O A R)). Rule record { words = z.0; homes = s.homes; views = z.1 })
      (λ i. (sym (ap (set s.words turn_word) e ∙ set-get_or s.words turn_word 0) i, sym (set_again s.views id v at) i)) r

  own : (log : List (Entry A R)) (v : View O A R) → v.number < v.next → Fits o n log v → (v.opening ≡ Some o) × (v.number < n) × Extends v.number v.seen log
  own log v lt f = f v.number v.seen (inl (le_refl v.number, lt, refl))

  takes-free : (slots : ℕ) (s : TableState O A R) (r : Rule s) (id : ℕ) (me : SeatState O A R) (free : ℕ) → me.0.number < me.0.next → get_elem? s.views id ≡ some me.0 → word s ≡ free → IsFree does o r.log s
      → (w : View O A R) × (a : Act (KeptLot O A R)) × Valid s.homes me.1 a × Rule (stepped s turn_word (either (eqb (word s) free) (free + 1) (word s)) id me.1 w a) × took does (step slots turn_word free (free + 1) none) me (word s) (w, carried_after me.1 a)
  takes-free slots s r id me free lt at hit t =
      let lot = t.0 in
      let turns = t.1.0 in
      let words = t.1.1 in
      let homes = t.2 in
      let v = me.0 in
      let w = holding v r.log in
      let x : ℕ = word s in
      let even : x ≡ 2 * turns = (index-at s.words turn_word (2 * turns) 0 words).1 in
      let next : either (eqb x free) (free + 1) x ≡ 2 * turns + 1 = ap (λ b. either b (free + 1) x) (eq-eqb x free hit) ∙ ap (λ (z : ℕ). z + 1) (sym hit ∙ even) in
      let f = own r.log v lt (r.fits id v at) in (
        w,
        takes 0 (Some lot),
        ap (λ (hs : List (Maybe (KeptLot O A R))). get_elem? hs 0) homes,
        record {
          log = r.log;
          rises = r.rises;
          capped = r.capped;
          known = r.known;
          fits = each-after (λ _ u. Fits o n r.log u) (λ _ u. Fits o n r.log u) s.views id w r.fits (fits-seen o n r.log v true (r.fits id v at)) (λ j u _ _ g. g);
          unique = unique-after s.views id v w at (narrows-seen v true r.log) r.unique;
          turn = inr (
            id,
            w,
            (turns, put-there s.words turn_word (2 * turns) _ words ∙ ap some next),
            ap (λ (hs : List (Maybe (KeptLot O A R))). set hs 0 none) homes,
            put-there s.views id v w at,
            lt,
            refl,
            (λ j u e h. ⊎_elim
                (λ (c : (j ≡ id) × (w ≡ u)). (c.0, ap (λ (y : View O A R). y.seen) (sym c.1)))
                (λ (c : (j ≢ id) × (get_elem? s.views j ≡ some u)). absurd (true≢false (sym h ∙ t.5 j u c.1))) (at_set s.views id j w u e)),
          );
        },
        ((λ _. (o, r.log, lot, f.0, refl, (r.rises, t.3), t.4, r.capped, f.2)), (λ no. absurd (no hit))),
      )

  pub takes-turn : (slots id : ℕ) (me : SeatState O A R) (free : ℕ) → free % 2 ≡ 0 → me.0.number < me.0.next
      → Allows Rule slots id me turn_word (λ r. either (eqb r free) (free + 1) r) (took does (step slots turn_word free (free + 1) none) me)
  takes-turn slots id me free even lt s r sized at small = let x : ℕ = word s in dite (ℕ_discrete x free)
      (λ hit. ⊎_elim (λ (t : IsFree does o r.log s). takes-free slots s r id me free lt at hit t)
      (λ (t : IsHeld r.log s). let turns = t.2.0 in let wd : x ≡ 2 * turns + 1 = (index-at s.words turn_word (2 * turns + 1) 0 t.2.1).1 in let odd : free ≡ 2 * turns + 1 = sym hit ∙ wd in absurd (omega arith)) r.turn)
      (λ miss. (me.0, keeps, tt, unmoved s id me.0 (either (eqb x free) (free + 1) x) (ap (λ b. either b (free + 1) x) (ne_eqb x free miss)) at r, ((λ hit. absurd (miss hit)), λ _. refl)))

  -- no view of a free table holds the turn, if the seat's view held it and holds it no more
  let-go : (vs : List (View O A R)) (id holder : ℕ) (v w : View O A R) → get_elem? vs id ≡ some v → v.holds ≡ true → w.holds ≡ false
      → ((j : ℕ) (u : View O A R) → get_elem? vs j ≡ some u → u.holds ≡ true → j ≡ holder) → (j : ℕ) (u : View O A R) → get_elem? (set vs id w) j ≡ some u → u.holds ≡ false
  let-go vs id holder v w at hv hw only j u e = ⊎_elim
      (λ (c : (j ≡ id) × (w ≡ u)). ap (λ (y : View O A R). y.holds) (sym c.1) ∙ hw)
      (λ (c : (j ≢ id) × (get_elem? vs j ≡ some u)). false_from_ne_true u.holds (λ h. c.0 (only j u c.1 h ∙ sym (only id v at hv)))) (at_set vs id j w u e)

  releases-held : (s : TableState O A R) (r : Rule s) (id : ℕ) (v : View O A R) (lot : Lot O A R) (turns : ℕ)
      → v.holds ≡ true → v.number < v.next → v.taken ≡ [] → IsTaken does o (sight_of (v, (0, Some lot) ∷ [])) lot → get_elem? s.views id ≡ some v
      → IsHeld r.log s → Rule (stepped s turn_word (2 * turns) id ((0, Some lot) ∷ []) (resting v (sight_of (v, (0, Some lot) ∷ []))) gives)
  releases-held s r id v lot turns hv lt tk taken at t =
      let calls = lot.made.value in
      let more : List (Entry A R) = sight_of (v, (0, Some lot) ∷ []) in
      let only = t.7 in
      let sl : v.seen ≡ r.log = (only id v at hv).1 in
      let old : (j : ℕ) (u : View O A R) → get_elem? s.views j ≡ some u → Fits o n v.seen u = λ j u a. subst (λ (l : List (Entry A R)). Fits o n l u) (sym sl) (r.fits j u a) in
      let below : v.number < n = (own v.seen v lt (old id v at)).1 in
      let w = resting v more in record {
        log = more;
        rises = taken.rises;
        capped = subst (λ (z : ℕ). z ≤ 2 ^ 62) taken.clock taken.capped;
        known = All-append (λ e. e.caller < n) v.seen (entries_of v.number calls) (subst (All (λ e. e.caller < n)) (sym sl) r.known) (All-map (λ e. e.caller < n) (entry_of v.number) calls (λ i d lt. below));
        fits = each-after (λ _ u. Fits o n v.seen u) (λ _ u. Fits o n more u) s.views id w old
            (λ k l h. ⊎_elim
            (λ (c : (v.number ≤ k) × (k < v.next) × (l ≡ more)). let g = old id v at k v.seen (inl (c.0, c.1, refl)) in (g.0, g.1, subst (λ (y : List (Entry A R)). Extends k y more) (sym c.2) (extends-self k more)))
            (λ (c : (i : ℕ) × (get_elem? v.taken i ≡ some (k, l))). absurd (some-ne-none (k, l) (sym c.1 ∙ ap (λ (z : List (ℕ × List (Entry A R))). get_elem? z c.0) tk))) h)
            (λ j u other a f k l h. let g = f k l h in (
              g.0,
              g.1,
              extends-others k v.number l v.seen calls (λ same. other (r.unique j id u v k l v.seen a at h (let lo : v.number ≤ k = omega arith in let hi : k < v.next = omega arith in inl (lo, hi, refl)))) g.2,
            ));
        unique = unique-after s.views id v w at (narrows-seen v false more) r.unique;
        turn = inl (
          lot,
          (turns, put-there s.words turn_word (2 * t.2.0 + 1) (2 * turns) t.2.1),
          ap (λ (hs : List (Maybe (KeptLot O A R))). set hs 0 (some (Some lot))) t.3,
          taken.leads,
          taken.clock,
          let-go s.views id t.0 v w at hv refl (λ j u a h. (only j u a h).0),
        );
      }

  -- a view with the turn may give it back, with the object that its calls lead to
  pub releases : (slots id : ℕ) (v : View O A R) (lot : Lot O A R) (turns : ℕ) → v.holds ≡ true → v.number < v.next → v.taken ≡ []
      → let me : SeatState O A R = (v, (0, Some lot) ∷ []) in IsTaken does o (sight_of me) lot → Allows Rule slots id me turn_word (λ _. 2 * turns) (λ _. released (step slots turn_word (2 * turns) 0 none) me (2 * turns))
  releases slots id v lot turns hv lt tk taken s r sized at small = (
    resting v (sight_of (v, (0, Some lot) ∷ [])),
    gives,
    tt,
    ⊎_elim (λ (t : IsFree does o r.log s). absurd (true≢false (sym hv ∙ t.5 id v at))) (λ (t : IsHeld r.log s). releases-held s r id v lot turns hv lt tk taken at t) r.turn,
    refl,
  )
