-- Decisions that compute: the proof of a fact, or nothing.
use Rattle.std.proofs.Common.{ℕ, zero, suc, ◌≡◌, ◌≢◌, ◌<◌, ◌≤◌, ◌+◌, Bool, true, false, List, [], ◌∷◌, Option, Some, None, IfSome, nat_lt, refl, sym, ap, subst, ◌∙◌, arith, inl, inr}
use Rattle.std.specs.Prelude.{◌==◌, All, AllPairs, slice_get, is_some}
use Rattle.std.proofs.lemmas.Bool.{cases_lt, ltb-true, eqb-true, eqb-false, true≢false}
use Rattle.std.proofs.lemmas.Option.{none-some, same_Some}

-- what is decided holds
pub holds : {A : Type 0} (o : Option A) → is_some o ≡ true → A
holds (Some a) e = a
holds None e = absurd (true≢false (sym e))

-- the decision that follows from a proof
abbrev pub given : {A B : Type 0} → Option A → (A → Option B) → Option B
given None f = None
given (Some a) f = f a

-- the first decision, or else the second
abbrev pub either : {A : Type 0} → Option A → Option A → Option A
either (Some a) o = Some a
either None o = o

-- what follows from the element, if there is one
abbrev found_by : {A B : Type 0} (o p : Option A) → o ≡ p → ((x : A) → o ≡ Some x → B) → Option B
found_by o None e f = None
found_by o (Some x) e f = Some (f x e)

abbrev pub found : {A B : Type 0} (o : Option A) → ((x : A) → o ≡ Some x → B) → Option B
found o f = found_by o o refl f

-- Tests.

abbrev true_by : (b : Bool) (t : Bool) → b ≡ t → Option (b ≡ true)
true_by b true e = Some e
true_by b false e = None

abbrev pub is_true : (b : Bool) → Option (b ≡ true)
is_true b = true_by b b refl

abbrev false_by : (b : Bool) (t : Bool) → b ≡ t → Option (b ≡ false)
false_by b true e = None
false_by b false e = Some e

abbrev pub is_false : (b : Bool) → Option (b ≡ false)
is_false b = false_by b b refl

-- Numbers.

abbrev less_by : (a b : ℕ) (t : Bool) → nat_lt a b ≡ t → Option (a < b)
less_by a b true e = Some (ltb-true a b e)
less_by a b false e = None

abbrev pub is_less : (a b : ℕ) → Option (a < b)
is_less a b = less_by a b (nat_lt a b) refl

pub at-most : (a b : ℕ) → a < b + 1 → a ≤ b
at-most a b lt = omega (arith, lt)

abbrev pub is_at_most : (a b : ℕ) → Option (a ≤ b)
is_at_most a b = given (is_less a (b + 1)) (λ lt. Some (at-most a b lt))

abbrev same_by : (a b : ℕ) (t : Bool) → (a == b) ≡ t → Option (a ≡ b)
same_by a b true e = Some (eqb-true a b e)
same_by a b false e = None

abbrev pub same : (a b : ℕ) → Option (a ≡ b)
same a b = same_by a b (a == b) refl

abbrev apart_by : (a b : ℕ) (t : Bool) → (a == b) ≡ t → Option (a ≢ b)
apart_by a b true e = None
apart_by a b false e = Some (eqb-false a b e)

abbrev pub apart : (a b : ℕ) → Option (a ≢ b)
apart a b = apart_by a b (a == b) refl

pub one-more : (P : ℕ → Type 0) (n : ℕ) → P n → ((k : ℕ) → k < n → P k) → (k : ℕ) → k < suc n → P k
one-more P n here below k lt = elim (cases_lt k n) [
  | inl less ↦ below k less
  | inr from ↦ let equal : n ≡ k = omega arith in subst P equal here
]

-- what is decided of each number below n
abbrev pub each_below : (P : ℕ → Type 0) → ((k : ℕ) → Option (P k)) → (n : ℕ) → Option ((k : ℕ) → k < n → P k)
each_below P decide zero = Some (λ k lt. absurd (omega (arith, lt)))
each_below P decide (suc n) = given (decide n) (λ here. given (each_below P decide n) (λ below. Some (one-more P n here below)))

-- Lists.

pub front : {X : Type 0} (P : X → Type 0) (x : X) (xs : List X) → P x → All P xs → All P (x ∷ xs)
front P x xs here rest zero d lt = here
front P x xs here rest (suc k) d lt = rest k d (omega (arith, lt))

-- what is decided of each element
abbrev pub all : {X : Type 0} (P : X → Type 0) → ((x : X) → Option (P x)) → (xs : List X) → Option (All P xs)
all P decide [] = Some (λ k d lt. absurd (omega (arith, lt)))
all P decide (x ∷ xs) = given (decide x) (λ here. given (all P decide xs) (λ rest. Some (front P x xs here rest)))

pub front-entry : {X : Type 0} (P : ℕ → X → Type 0) (x : X) (xs : List X) → P 0 x → ((k : ℕ) (y : X) → slice_get xs k ≡ Some y → P (suc k) y) →
    (k : ℕ) (y : X) → slice_get (x ∷ xs) k ≡ Some y → P k y
front-entry P x xs here rest zero y e = subst (P 0) (same_Some x y e) here
front-entry P x xs here rest (suc k) y e = rest k y e

-- what is decided of each element and its number
abbrev pub entries : {X : Type 0} (xs : List X) (P : ℕ → X → Type 0) → ((k : ℕ) (x : X) → Option (P k x)) → Option ((k : ℕ) (x : X) → slice_get xs k ≡ Some x → P k x)
entries [] P decide = Some (λ k x e. absurd (none-some x e))
entries (x ∷ xs) P decide =
    given (decide 0 x) (λ here. given (entries xs (λ k. P (suc k)) (λ k. decide (suc k))) (λ rest. Some (front-entry P x xs here rest)))

-- what is decided of the element, if there is one
abbrev pub whenever : {X : Type 0} (P : X → Type 0) → ((x : X) → Option (P x)) → (o : Option X) → Option (IfSome o P)
whenever P decide None = Some tt
whenever P decide (Some y) = decide y

pub front-apart : (x : ℕ) (xs : List ℕ) → All (λ y. x ≢ y) xs → AllPairs (λ a b. a ≢ b) xs → AllPairs (λ a b. a ≢ b) (x ∷ xs)
front-apart x xs first rest zero zero d less lt = absurd (omega (arith, less))
front-apart x xs first rest zero (suc j) d less lt = first j d (omega (arith, lt))
front-apart x xs first rest (suc i) zero d less lt = absurd (omega (arith, less))
front-apart x xs first rest (suc i) (suc j) d less lt = rest i j d (omega (arith, less)) (omega (arith, lt))

-- whether no number comes twice
abbrev pub each_once : (xs : List ℕ) → Option (AllPairs (λ a b. a ≢ b) xs)
each_once [] = Some (λ i j d less lt. absurd (omega (arith, lt)))
each_once (x ∷ xs) = given (all (λ y. x ≢ y) (apart x) xs) (λ first. given (each_once xs) (λ rest. Some (front-apart x xs first rest)))

abbrev pub same_list : (xs ys : List ℕ) → Option (xs ≡ ys)
same_list [] [] = Some refl
same_list [] (y ∷ ys) = None
same_list (x ∷ xs) [] = None
same_list (x ∷ xs) (y ∷ ys) = given (same x y) (λ here. given (same_list xs ys) (λ rest. Some (ap (λ zs. x ∷ zs) rest ∙ ap (λ z. z ∷ ys) here)))
