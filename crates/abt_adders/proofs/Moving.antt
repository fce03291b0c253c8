-- How the adders go on, one unit after the other.
use Rattle.std.proofs.Common.{◌≡◌, ◌≢◌, ℕ, zero, suc, ◌<◌, ◌≤◌, ◌+◌, [], Some, None, refl, sym, ◌∙◌, ap, subst, arith, inl, inr}
use Rattle.std.proofs.Math.Path.{fun_ext}
use Rattle.std.proofs.lemmas.Bool.{cases_eq, cases_lt}
use Rattle.abt_machine.specs.State.{Carried, Mutex}
use Rattle.abt_machine.specs.Steps.{set_owner}
use Rattle.abt_laws.proofs.Options.{none≢some, some-injective}
use Rattle.abt_laws.proofs.Sums.{sum_up}
use Rattle.abt_adders.proofs.Stages.{Absent, Active, Adding, AdderAt, AdderGoes, FirstAt, FirstEnds, FirstGoes, Joins, Mine, NotMine, Over, Sleeps, Stage, Waits, all_steps, all_stored, stored}
use Rattle.abt_adders.proofs.Sums.{sum-alone}

-- From mutex m to mutex k by unit u: no other unit's hold of it changes.
pub record Hands (n : ℕ) (m k : Mutex) (u : ℕ) : Type 0 where
  pub keeps : (w : ℕ) → w ≢ u → Mine m w → Mine k w × (k.number ≡ m.number)
  pub takes : (w : ℕ) → w ≢ u → Mine k w → Mine m w
  pub owned : (w : ℕ) → Mine k w → w ≤ n

-- it stays as it is
pub hands-same : (n : ℕ) (m : Mutex) (u : ℕ) → ((v : ℕ) → Mine m v → v ≤ n) → Hands n m m u
hands-same n m u owned = record { keeps = λ w ne h. (h, refl); takes = λ w ne h. h; owned = owned }

-- it is free, and becomes the unit's
pub hands-lock : (n : ℕ) (m : Mutex) (u : ℕ) → u ≤ n → m.owner ≡ None → Hands n m (set_owner (Some u) m) u
hands-lock n m u declared free = record {
  keeps = λ w ne h. absurd (none≢some (sym free ∙ h));
  takes = λ w ne h. absurd (ne (sym (some-injective h)));
  owned = λ w h. (let e : u ≡ w = some-injective h in omega arith);
}

-- it is the unit's, and becomes free
pub hands-free : (n : ℕ) (m : Mutex) (u : ℕ) → Mine m u → Hands n m (set_owner None m) u
hands-free n m u mine = record {
  keeps = λ w ne h. absurd (ne (sym (some-injective (sym mine ∙ h))));
  takes = λ w ne h. absurd (none≢some h);
  owned = λ w h. absurd (none≢some h);
}

-- it is the unit's, and has another number
pub hands-number : (n : ℕ) (m : Mutex) (u a : ℕ) → u ≤ n → Mine m u → Hands n m (record m { number = a }) u
hands-number n m u a declared mine = record {
  keeps = λ w ne h. absurd (ne (sym (some-injective (sym mine ∙ h))));
  takes = λ w ne h. h;
  owned = λ w h. (let e : u ≡ w = some-injective (sym mine ∙ h) in omega arith);
}

-- What stays of the other units.

module _ (n : ℕ) (m k : Mutex) (u : ℕ) (hands : Hands n m k u) where
  not-mine : (w : ℕ) → w ≢ u → NotMine m w → NotMine k w
  not-mine w ne not h = not (hands.takes w ne h)

  goes-kept : (w : ℕ) → w ≢ u → (c : Carried) (j : ℕ) → AdderGoes m w c j → AdderGoes k w c j
  goes-kept w ne c zero h = not-mine w ne h
  goes-kept w ne c (suc zero) h = not-mine w ne h
  goes-kept w ne c (suc (suc zero)) h = (hands.keeps w ne h).0
  goes-kept w ne c (suc (suc (suc zero))) h = let kept = hands.keeps w ne h.0 in (kept.0, h.1 ∙ sym kept.1)
  goes-kept w ne c (suc (suc (suc (suc zero)))) h = let kept = hands.keeps w ne h.0 in (kept.0, h.1 ∙ ap (λ x. x + w) (sym kept.1))
  goes-kept w ne c (suc (suc (suc (suc (suc zero))))) h = (hands.keeps w ne h).0
  goes-kept w ne c (suc (suc (suc (suc (suc (suc zero)))))) h = not-mine w ne h
  goes-kept w ne c (suc (suc (suc (suc (suc (suc (suc j))))))) h = absurd h

  -- unit 0 comes from position p to position q
  pub adder-kept : (p q w : ℕ) → w ≢ u → p ≤ q → (p < w → q < w) → (c : Carried) (a : Stage) → AdderAt p m w c a → AdderAt q k w c a
  adder-kept p q w ne l still c Absent h = (still h.0, h.1, not-mine w ne h.2)
  adder-kept p q w ne l still c Active h = (let b : w ≤ p = h.0 in omega arith, goes-kept w ne c c.position h.1)
  adder-kept p q w ne l still c Sleeps h = absurd h
  adder-kept p q w ne l still c (Joins v) h = absurd h
  adder-kept p q w ne l still c (Waits x) h = (let b : w ≤ p = h.0 in omega arith, h.1, h.2, not-mine w ne h.3)
  adder-kept p q w ne l still c Over h = (let b : w ≤ p = h.0 in omega arith, h.1, not-mine w ne h.2)

  ends-kept : 0 ≢ u → (c : Carried) (j : ℕ) → FirstEnds n m c j → FirstEnds n k c j
  ends-kept ne c zero h = ((hands.keeps 0 ne h.0).0, h.1)
  ends-kept ne c (suc zero) h = ((hands.keeps 0 ne h.0).0, h.1, h.2)
  ends-kept ne c (suc (suc zero)) h = ((hands.keeps 0 ne h.0).0, h.1)
  ends-kept ne c (suc (suc (suc zero))) h = (not-mine 0 ne h.0, h.1)
  ends-kept ne c (suc (suc (suc (suc j)))) h = absurd h

  pub first-kept : 0 ≢ u → (c : Carried) (a : Stage) → FirstAt n m c a → FirstAt n k c a
  first-kept ne c Absent h = absurd h
  first-kept ne c Active h = elim h [ inl b ↦ inl (b.0, not-mine 0 ne b.1, b.2) | inr e ↦ inr (e.0, e.1, ends-kept ne c e.0 e.2) ]
  first-kept ne c Sleeps h = absurd h
  first-kept ne c (Joins v) h = (h.0, h.1, h.2, not-mine 0 ne h.3, h.4)
  first-kept ne c (Waits x) h = (h.0, h.1, not-mine 0 ne h.2, h.3)
  first-kept ne c Over h = (h.0, not-mine 0 ne h.1, h.2)

-- One unit goes on.

-- unit 0 counts for nothing
pub stored-zero : (p : ℕ) → stored 0 p ≡ 0
stored-zero zero = refl
stored-zero (suc zero) = refl
stored-zero (suc (suc zero)) = refl
stored-zero (suc (suc (suc zero))) = refl
stored-zero (suc (suc (suc (suc zero)))) = refl
stored-zero (suc (suc (suc (suc (suc p))))) = refl

module _ (n t : ℕ) (f g : ℕ → Stage) (c d : ℕ → Carried) (m k : Mutex) (old : Adding n t f c m) (u : ℕ) (others : (w : ℕ) → w ≢ u → (g w ≡ f w) × (d w ≡ c w)) (hands : Hands n m k u) where
  silent-after : (d u).output ≡ [] → (v : ℕ) → 0 < v → (d v).output ≡ []
  silent-after own v some =
      elim (cases_eq v u) [
        | inl same ↦ subst (λ w. (d w).output ≡ []) (sym same) own
        | inr other ↦ ap (λ (x : Carried). x.output) (others v other).1 ∙ old.silent v some
      ]

  stored-after : u ≤ n → all_stored n d + stored u (c u).position ≡ all_stored n c + stored u (d u).position
  stored-after declared = sum-alone (λ v. stored v (c v).position) (λ v. stored v (d v).position) (suc n) u (omega arith) (λ v ne. ap (λ (x : Carried). stored v x.position) (others v ne).1)

  steps-after : u ≤ n → all_steps n d + (c u).position ≡ all_steps n c + (d u).position
  steps-after declared = sum-alone (λ v. (c v).position) (λ v. (d v).position) (suc n) u (omega arith) (λ v ne. ap (λ (x : Carried). x.position) (others v ne).1)

  kept-adder : (v : ℕ) → v ≢ u → 0 < v → v ≤ n → (q : ℕ) → (c 0).position ≤ q → ((c 0).position < v → q < v) → AdderAt q k v (d v) (g v)
  kept-adder v ne some most q l still =
      subst (λ x. AdderAt q k v x (g v)) (sym (others v ne).1)
      (subst (AdderAt q k v (c v)) (sym (others v ne).0) (adder-kept n m k u hands (c 0).position q v ne l still (c v) (f v) (old.adders v some most)))

  -- an adder
  pub adder-moves : (T : ℕ) → 0 < u → u ≤ n → AdderAt (c 0).position k u (d u) (g u) → (f u ≡ Over → g u ≡ Over) → (d u).output ≡ [] →
      k.number + stored u (c u).position ≡ m.number + stored u (d u).position → T + (c u).position ≡ t + (d u).position → Adding n T g d k
  adder-moves T some most mine over own number steps =
      let ne : 0 ≢ u = λ e. omega arith in
      let zero-same : d 0 ≡ c 0 = (others 0 ne).1 in
      let zero-at : g 0 ≡ f 0 = (others 0 ne).0 in
      let same : (d 0).position ≡ (c 0).position = ap (λ (x : Carried). x.position) zero-same in
      record {
        first = subst (λ x. FirstAt n k x (g 0)) (sym zero-same) (subst (FirstAt n k (c 0)) (sym zero-at) (first-kept n m k u hands ne (c 0) (f 0) old.first));
        adders = λ v a b. elim (cases_eq v u) [
          | inl here ↦ subst (λ w. AdderAt (d 0).position k w (d w) (g w)) (sym here) (subst (λ q. AdderAt q k u (d u) (g u)) (sym same) mine)
          | inr other ↦ kept-adder v other a b (d 0).position (omega arith) (λ l. omega arith)
        ];
        joined = λ v a b l none.
            let was : f v ≡ Over = old.joined v a b (omega arith) (λ e. none (zero-at ∙ e)) in
            elim (cases_eq v u) [
              | inl here ↦ subst (λ w. g w ≡ Over) (sym here) (over (subst (λ w. f w ≡ Over) here was))
              | inr other ↦ (others v other).0 ∙ was
            ];
        owned = hands.owned;
        silent = silent-after own;
        number = let was = old.number in omega (arith, stored-after most);
        steps = let was = old.steps in omega (arith, steps-after most);
      }

-- Unit 0 goes on.

module _ (n t : ℕ) (f g : ℕ → Stage) (c d : ℕ → Carried) (m k : Mutex) (old : Adding n t f c m) (others : (w : ℕ) → w ≢ 0 → (g w ≡ f w) × (d w ≡ c w)) (hands : Hands n m k 0) where
  pub first-moves : (T : ℕ) → FirstAt n k (d 0) (g 0) → (c 0).position ≤ (d 0).position → ((v : ℕ) → v ≤ n → (c 0).position < v → (d 0).position < v) →
      ((v : ℕ) → 0 < v → v ≤ n → n + v ≤ (d 0).position → (g 0 ≡ Joins v → ⊥) → f v ≡ Over) → k.number ≡ m.number → T + (c 0).position ≡ t + (d 0).position → Adding n T g d k
  first-moves T mine up still ended number steps = record {
    first = mine;
    adders = λ v a b. kept-adder n t f g c d m k old 0 others hands v (λ e. omega arith) a b (d 0).position up (still v b);
    joined = λ v a b l none. (others v (λ e. omega arith)).0 ∙ ended v a b l none;
    owned = hands.owned;
    silent = λ v some. ap (λ (x : Carried). x.output) (others v (λ e. omega arith)).1 ∙ old.silent v some;
    number =
        let was = old.number in
        let before : stored 0 (c 0).position ≡ 0 = stored-zero (c 0).position in
        let now : stored 0 (d 0).position ≡ 0 = stored-zero (d 0).position in omega (arith, stored-after n t f g c d m k old 0 others hands (omega arith));
    steps = let was = old.steps in omega (arith, steps-after n t f g c d m k old 0 others hands (omega arith));
  }

-- No unit does.
pub adding-same : (n t T : ℕ) (f g : ℕ → Stage) (c d : ℕ → Carried) (m k : Mutex) → T ≡ t → ((v : ℕ) → g v ≡ f v) → ((v : ℕ) → d v ≡ c v) → k ≡ m → Adding n t f c m → Adding n T g d k
adding-same n t T f g c d m k time stages carried mutex old =
    subst (λ s. Adding n s g d k) (sym time) (subst (λ h. Adding n t h d k) (sym (fun_ext stages)) (subst (λ x. Adding n t f x k) (sym (fun_ext carried)) (subst (Adding n t f c) (sym mutex) old)))

-- A birth.

-- an adder that is not yet created is unborn
absent-of : (p v : ℕ) (m : Mutex) (c : Carried) (a : Stage) → p < v → AdderAt p m v c a → a ≡ Absent
absent-of p v m c Absent l h = refl
absent-of p v m c Active l h = let b : v ≤ p = h.0 in absurd (omega arith)
absent-of p v m c Sleeps l h = absurd h
absent-of p v m c (Joins w) l h = absurd h
absent-of p v m c (Waits x) l h = let b : v ≤ p = h.0 in absurd (omega arith)
absent-of p v m c Over l h = let b : v ≤ p = h.0 in absurd (omega arith)

module _ (n t : ℕ) (f : ℕ → Stage) (c : ℕ → Carried) (m : Mutex) (old : Adding n t f c m) where
  pub is-absent : (v : ℕ) → 0 < v → v ≤ n → (c 0).position < v → f v ≡ Absent
  is-absent v some most l = absent-of (c 0).position v m (c v) (f v) l (old.adders v some most)

  -- unit 0 creates adder v
  module _ (g : ℕ → Stage) (d : ℕ → Carried) (v : ℕ) (next : v ≡ suc (c 0).position) (most : v ≤ n) (at : f 0 ≡ Active) (on : g 0 ≡ Active) (born : g v ≡ Active)
      (position : (d 0).position ≡ suc (c 0).position) (output : (d 0).output ≡ (c 0).output) (fresh : (d v).position ≡ 0) (still : (d v).output ≡ (c v).output)
      (others : (w : ℕ) → w ≢ 0 → w ≢ v → (g w ≡ f w) × (d w ≡ c w)) where
    some : 0 < v
    some = omega arith

    -- before its lock
    before : FirstGoes n m (c 0) → NotMine m 0 × ((c 0).output ≡ [])
    before h = elim h [ inl b ↦ (b.1, b.2) | inr e ↦ (let far : (c 0).position ≡ suc (n + n) + e.0 = e.1 in absurd (omega arith)) ]

    creator : NotMine m 0 × ((c 0).output ≡ [])
    creator = before (subst (FirstAt n m (c 0)) at old.first)

    absent : AdderAt (c 0).position m v (c v) Absent
    absent = subst (AdderAt (c 0).position m v (c v)) (is-absent v some most (omega arith)) (old.adders v some most)

    created-adder : (w : ℕ) → 0 < w → w ≤ n → AdderAt (d 0).position m w (d w) (g w)
    created-adder w a b =
        elim (cases_eq w v) [
          | inl here ↦ subst (λ x. AdderAt (d 0).position m x (d x) (g x)) (sym here)
              (subst (AdderAt (d 0).position m v (d v)) (sym born) (omega arith, subst (AdderGoes m v (d v)) (sym fresh) absent.2))
          | inr other ↦ subst (λ x. AdderAt (d 0).position m w x (g w)) (sym (others w (λ e. omega arith) other).1)
              (subst (AdderAt (d 0).position m w (c w)) (sym (others w (λ e. omega arith) other).0)
              (adder-kept n m m 0 (hands-same n m 0 old.owned) (c 0).position (d 0).position w (λ e. omega arith) (omega arith) (λ l. omega arith) (c w) (f w) (old.adders w a b)))
        ]

    created-sum : (h : ℕ → Carried → ℕ) → h v (d v) ≡ h v (c v) → sum_up (λ w. h w (d w)) (suc n) + h 0 (c 0) ≡ sum_up (λ w. h w (c w)) (suc n) + h 0 (d 0)
    created-sum h same = sum-alone (λ w. h w (c w)) (λ w. h w (d w)) (suc n) 0 (omega arith) (λ w ne. elim (cases_eq w v) [ inl here ↦ subst (λ x. h x (d x) ≡ h x (c x)) (sym here) same | inr other ↦ ap (h w) (others w ne other).1 ])

    pub creates : Adding n (suc t) g d m
    creates = record {
      first = subst (FirstAt n m (d 0)) (sym on) (inl (omega arith, creator.0, output ∙ creator.1));
      adders = created-adder;
      joined = λ w a b l none. absurd (omega arith);
      owned = old.owned;
      silent = λ w a. elim (cases_eq w v) [ inl here ↦ subst (λ x. (d x).output ≡ []) (sym here) (still ∙ old.silent v some) | inr other ↦ ap (λ (x : Carried). x.output) (others w (λ e. omega arith) other).1 ∙ old.silent w a ];
      number =
          let was = old.number in
          let none : stored 0 (c 0).position ≡ 0 = stored-zero (c 0).position in
          let still_none : stored 0 (d 0).position ≡ 0 = stored-zero (d 0).position in
          omega (arith, created-sum (λ w x. stored w x.position) (ap (stored v) (fresh ∙ sym absent.1)));
      steps = let was = old.steps in omega (arith, created-sum (λ w x. x.position) (fresh ∙ sym absent.1));
    }

  -- A unit that waits gets the free mutex.

  module _ (g : ℕ → Stage) (w : ℕ) (most : w ≤ n) (free : m.owner ≡ None) (at : f w ≡ Waits 0) (on : g w ≡ Active) (others : (v : ℕ) → v ≢ w → g v ≡ f v) where
    hands : Hands n m (set_owner (Some w) m) w
    hands = hands-lock n m w most free

    both : (v : ℕ) → v ≢ w → (g v ≡ f v) × (c v ≡ c v)
    both v ne = (others v ne, refl)

    waiter : 0 < w → Adding n t g c (set_owner (Some w) m)
    waiter some =
        let was : AdderAt (c 0).position m w (c w) (Waits 0) = subst (AdderAt (c 0).position m w (c w)) at (old.adders w some most) in
        adder-moves n t f g c c m (set_owner (Some w) m) old w both hands t some most
        (subst (AdderAt (c 0).position (set_owner (Some w) m) w (c w)) (sym on) (was.0, subst (AdderGoes (set_owner (Some w) m) w (c w)) (sym was.2) refl)) (λ o. (let x : Waits 0 ≡ Over = sym at ∙ o in cc))
        (old.silent w some) refl refl

    first-waiter : w ≡ 0 → Adding n t g c (set_owner (Some w) m)
    first-waiter e =
        let here : f 0 ≡ Waits 0 = subst (λ v. f v ≡ Waits 0) e at in
        let now : g 0 ≡ Active = subst (λ v. g v ≡ Active) e on in
        let was : FirstAt n m (c 0) (Waits 0) = subst (FirstAt n m (c 0)) here old.first in
        subst (λ v. Adding n t g c (set_owner (Some v) m)) (sym e)
        (first-moves n t f g c c m (set_owner (Some 0) m) old (λ v ne. (others v (λ q. ne (q ∙ e)), refl)) (hands-lock n m 0 (omega arith) free) t
        (subst (FirstAt n (set_owner (Some 0) m) (c 0)) (sym now) (inr (0, (let p = was.1 in omega arith), (refl, was.3)))) (omega arith) (λ v b l. l)
        (λ v a b l none. old.joined v a b l (λ q. (let x : Waits 0 ≡ Joins v = sym here ∙ q in cc))) refl refl)

    pub served : Adding n t g c (set_owner (Some w) m)
    served = elim (cases_lt 0 w) [ inl some ↦ waiter some | inr none ↦ first-waiter (omega arith) ]
