-- Total maps that are changed at some numbers.
use Rattle.std.proofs.Common.{◌≡◌, ◌≢◌, ℕ, ◌<◌, ◌≤◌, ◌==◌, List, [], ◌∷◌, sym, ◌∙◌, ap, subst, refl, arith, ◌⊎◌, inl, inr}
use mathlib.Core.Path.{fun_ext}
use Rattle.std.proofs.lemmas.Bool.{cases_eq, cond-true, cond-false, eq-eqb, ne_eqb}
use Rattle.abt_machine.specs.Maps.{put_at, put_all}
use Rattle.abt_laws.proofs.Lists.{EachOf}

-- One change.

pub put_at-same : {A : Type 0} (f : ℕ → A) (k : ℕ) (x : A) → put_at f k x k ≡ x
put_at-same f k x = cond-true (k == k) x (f k) (eq-eqb k k refl)

pub put_at-other : {A : Type 0} (f : ℕ → A) (k : ℕ) (x : A) (n : ℕ) → n ≢ k → put_at f k x n ≡ f n
put_at-other f k x n h = cond-false (n == k) x (f n) (ne_eqb n k h)

pub put_at-cases : {A : Type 0} (f : ℕ → A) (k : ℕ) (x : A) (n : ℕ) → ((n ≡ k) × (put_at f k x n ≡ x)) ⊎ ((n ≢ k) × (put_at f k x n ≡ f n))
put_at-cases f k x n = elim (cases_eq n k) [ inl same ↦ inl (same, ap (put_at f k x) same ∙ put_at-same f k x) | inr other ↦ inr (other, put_at-other f k x n other) ]

-- The numbers that are changed.

-- n is one of the numbers with a new value
abbrev pub KeyOf : {A : Type 0} → ℕ → List (ℕ × A) → Type 0
KeyOf n [] = ⊥
KeyOf n (p ∷ ps) = (n ≡ p.0) ⊎ KeyOf n ps

pub KeyOf-cases : {A : Type 0} (n : ℕ) (ps : List (ℕ × A)) → KeyOf n ps ⊎ (KeyOf n ps → ⊥)
KeyOf-cases n [] = inr (λ m. m)
KeyOf-cases n (p ∷ ps) =
    elim (cases_eq n p.0) [
      | inl same ↦ inl (inl same)
      | inr other ↦ elim (KeyOf-cases n ps) [ inl a ↦ inl (inr a) | inr b ↦ inr (λ m. elim m [ inl e ↦ other e | inr c ↦ b c ]) ]
    ]

-- what holds of each number that is changed
pub EachOf-key : {A : Type 0} (P : ℕ → Type 0) (ps : List (ℕ × A)) (n : ℕ) → EachOf (λ (p : ℕ × A). P p.0) ps → KeyOf n ps → P n
EachOf-key P [] n a m = absurd m
EachOf-key P (p ∷ ps) n a m = elim m [ inl e ↦ subst P (sym e) a.0 | inr b ↦ EachOf-key P ps n a.1 b ]

-- The values.

-- at a number that is not changed the value stays
pub put_all-other : {A : Type 0} (f : ℕ → A) (ps : List (ℕ × A)) (n : ℕ) → (KeyOf n ps → ⊥) → put_all f ps n ≡ f n
put_all-other f [] n out = refl
put_all-other f (p ∷ ps) n out = put_all-other (put_at f p.0 p.1) ps n (λ m. out (inr m)) ∙ put_at-other f p.0 p.1 n (λ e. out (inl e))

-- the value at the last change
put_all-last : {A : Type 0} (f : ℕ → A) (p : ℕ × A) (ps : List (ℕ × A)) (n : ℕ) → n ≡ p.0 → (KeyOf n ps → ⊥) → put_all f (p ∷ ps) n ≡ p.1
put_all-last f p ps n e out = put_all-other (put_at f p.0 p.1) ps n out ∙ (ap (put_at f p.0 p.1) e ∙ put_at-same f p.0 p.1)

-- what holds of each new value holds of the value at a changed number
pub put_all-value : {A : Type 0} (P : ℕ → A → Type 0) (f : ℕ → A) (ps : List (ℕ × A)) (n : ℕ) → EachOf (λ (p : ℕ × A). P p.0 p.1) ps → KeyOf n ps → P n (put_all f ps n)
put_all-value P f [] n a m = absurd m
put_all-value P f (p ∷ ps) n a m =
    elim (KeyOf-cases n ps) [
      | inl later ↦ put_all-value P (put_at f p.0 p.1) ps n a.1 later
      | inr out ↦ elim m [ inl e ↦ subst (P n) (sym (put_all-last f p ps n e out)) (subst (λ k. P k p.1) (sym e) a.0) | inr b ↦ absurd (out b) ]
    ]

-- what holds of the old value and of each new one holds of the value
pub put_all-kept : {A : Type 0} (P : ℕ → A → Type 0) (f : ℕ → A) (ps : List (ℕ × A)) (n : ℕ) → EachOf (λ (p : ℕ × A). P p.0 p.1) ps → P n (f n) → P n (put_all f ps n)
put_all-kept P f ps n each old = elim (KeyOf-cases n ps) [ inl k ↦ put_all-value P f ps n each k | inr out ↦ subst (P n) (sym (put_all-other f ps n out)) old ]

-- a counter that only rises stays above what it was above
pub put_all-above : (f : ℕ → ℕ) (ps : List (ℕ × ℕ)) (n t : ℕ) → EachOf (λ (p : ℕ × ℕ). f p.0 ≤ p.1) ps → t < f n → t < put_all f ps n
put_all-above f ps n t each l = let h : f n ≤ put_all f ps n = put_all-kept (λ k v. f k ≤ v) f ps n each (omega arith) in omega arith

-- Changes that change places.

-- at a changed number the old map does not matter
put_all-key : {A : Type 0} (f g : ℕ → A) (ps : List (ℕ × A)) (n : ℕ) → KeyOf n ps → put_all f ps n ≡ put_all g ps n
put_all-key f g [] n m = absurd m
put_all-key f g (p ∷ ps) n m =
    elim (KeyOf-cases n ps) [
      | inl later ↦ put_all-key (put_at f p.0 p.1) (put_at g p.0 p.1) ps n later
      | inr out ↦ elim m [ inl e ↦ put_all-last f p ps n e out ∙ sym (put_all-last g p ps n e out) | inr b ↦ absurd (out b) ]
    ]

-- changes at other numbers may change places
pub put_all-commute : {A : Type 0} (f : ℕ → A) (ps qs : List (ℕ × A)) → ((n : ℕ) → KeyOf n ps → KeyOf n qs → ⊥) → put_all (put_all f ps) qs ≡ put_all (put_all f qs) ps
put_all-commute f ps qs apart = fun_ext (λ n.
    elim (KeyOf-cases n ps) [
      | inl a ↦ put_all-other (put_all f ps) qs n (apart n a) ∙ put_all-key f (put_all f qs) ps n a
      | inr out ↦ elim (KeyOf-cases n qs) [
        | inl b ↦ put_all-key (put_all f ps) f qs n b ∙ sym (put_all-other (put_all f qs) ps n out)
        | inr away ↦ put_all-other (put_all f ps) qs n away ∙ (put_all-other f ps n out ∙ sym (put_all-other (put_all f qs) ps n out ∙ put_all-other f qs n away))
      ]
    ])
