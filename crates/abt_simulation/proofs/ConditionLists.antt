-- A condition stands once among the conditions of its mutex, at its number.
use Rattle.std.proofs.Common.{◌≡◌, ◌≢◌, ℕ, zero, suc, ◌+◌, ◌≤◌, if◌then◌else◌, Bool, true, false, List, [], ◌∷◌, map, take, set, slice_get, Some, refl, sym, ◌∙◌, ap, ap₂, subst, arith, inl, inr}
use Rattle.std.specs.Prelude.{cond, count_by}
use Rattle.std.proofs.lemmas.Bool.{cond-true, cond_both, eq-eqb}
use Rattle.std.proofs.lemmas.List.Sums.{sum_by-cons}
use Rattle.abt_machine.specs.declared.operations.Thing.{Thing}
use Rattle.abt_machine.specs.declared.operations.Thing.TheVariants as thing
use Rattle.abt_machine.specs.declared.workload.Parts.{Parts}
use Rattle.abt_machine.specs.Workloads.{mutex_of, mutex_from, condition_number, is_condition_of, IsCondition}
use Rattle.abt_machine.specs.Values.{conditions_from, conditions_of}
use Rattle.abt_laws.proofs.Lists.{EachOf, EachOf-then, Among}
use Rattle.abt_laws.proofs.Options.{none≢some, some-injective}
use Rattle.abt_laws.proofs.Pushes.{IsDistinct, EachOf-among}

-- Where it stands.

at-number : (m i x : ℕ) (ts : List Thing) (t : Thing) → slice_get ts x ≡ Some t → is_condition_of m t ≡ true → slice_get (conditions_from m i ts) (count_by (is_condition_of m) (take x ts)) ≡ Some (i + x)
at-number m i x [] t is one = absurd (none≢some is)
at-number m i zero (r ∷ rs) t is one =
    let here : is_condition_of m r ≡ true = ap (is_condition_of m) (some-injective is) ∙ one in
    ap (λ cs. slice_get cs 0) (cond-true (is_condition_of m r) (i ∷ conditions_from m (suc i) rs) (conditions_from m (suc i) rs) here) ∙ ap (λ n. Some n) (omega arith)
at-number m i (suc x) (r ∷ rs) t is one =
    let later : slice_get (conditions_from m (suc i) rs) (count_by (is_condition_of m) (take x rs)) ≡ Some (suc i + x) = at-number m (suc i) x rs t is one in
    ap (slice_get (conditions_from m i (r ∷ rs))) (sum_by-cons (λ t. cond (is_condition_of m t) 1 0) r (take x rs)) ∙ by (is_condition_of m r) (later ∙ ap (λ n. Some n) (omega arith)) where
      by : (b : Bool) → slice_get (conditions_from m (suc i) rs) (count_by (is_condition_of m) (take x rs)) ≡ Some (i + suc x) →
          slice_get (if b then i ∷ conditions_from m (suc i) rs else conditions_from m (suc i) rs) ((if b then 1 else 0) + count_by (is_condition_of m) (take x rs)) ≡ Some (i + suc x)
      by true h = let e : 1 + count_by (is_condition_of m) (take x rs) ≡ suc (count_by (is_condition_of m) (take x rs)) = omega arith in ap (slice_get (i ∷ conditions_from m (suc i) rs)) e ∙ h
      by false h = let e : 0 + count_by (is_condition_of m) (take x rs) ≡ count_by (is_condition_of m) (take x rs) = omega arith in ap (slice_get (conditions_from m (suc i) rs)) e ∙ h

pub condition-at : (W : Parts) (x : ℕ) → IsCondition W x → slice_get (conditions_of W (mutex_of W x)) (condition_number W x) ≡ Some x
condition-at W x is =
    let m : mutex_of W x ≡ is.0.0 = ap (mutex_from x) is.1 in
    at-number (mutex_of W x) 0 x W.objects (thing.Cond is.0) is.1 (ap (λ n. is_condition_of n (thing.Cond is.0)) m ∙ eq-eqb is.0.0 is.0.0 refl) ∙ ap (λ n. Some n) (omega arith)

-- No number is there twice.

conditions-above : (m i : ℕ) (ts : List Thing) → EachOf (λ k. i ≤ k) (conditions_from m i ts)
conditions-above m i [] = tt
conditions-above m i (t ∷ ts) =
    let later : EachOf (λ k. i ≤ k) (conditions_from m (suc i) ts) = EachOf-then (λ k. suc i ≤ k) (λ k. i ≤ k) (conditions_from m (suc i) ts) (λ k l. omega arith) (conditions-above m (suc i) ts) in
    cond_both (is_condition_of m t) (i ∷ conditions_from m (suc i) ts) (conditions_from m (suc i) ts) (EachOf (λ k. i ≤ k)) (λ _. (omega arith, later)) (λ _. later)

distinct-from : (m i : ℕ) (ts : List Thing) → IsDistinct (conditions_from m i ts)
distinct-from m i [] = tt
distinct-from m i (t ∷ ts) =
    cond_both (is_condition_of m t) (i ∷ conditions_from m (suc i) ts) (conditions_from m (suc i) ts) IsDistinct
    (λ _. ((λ a. let l : suc i ≤ i = EachOf-among (λ k. suc i ≤ k) (conditions_from m (suc i) ts) i (conditions-above m (suc i) ts) a in absurd (omega arith)), distinct-from m (suc i) ts))
    (λ _. distinct-from m (suc i) ts)

pub conditions-distinct : (W : Parts) (m : ℕ) → IsDistinct (conditions_of W m)
conditions-distinct W m = distinct-from m 0 W.objects

-- Lists by such numbers.

pub get-map : {B : Type 0} (f : ℕ → B) (xs : List ℕ) (k x : ℕ) → slice_get xs k ≡ Some x → slice_get (map f xs) k ≡ Some (f x)
get-map f [] k x e = absurd (none≢some e)
get-map f (y ∷ ys) zero x e = ap (λ n. Some (f n)) (some-injective e)
get-map f (y ∷ ys) (suc k) x e = get-map f ys k x e

get-among : (xs : List ℕ) (k x : ℕ) → slice_get xs k ≡ Some x → Among x xs
get-among [] k x e = absurd (none≢some e)
get-among (y ∷ ys) zero x e = inl (sym (some-injective e))
get-among (y ∷ ys) (suc k) x e = inr (get-among ys k x e)

map-others : {B : Type 0} (f g : ℕ → B) (x : ℕ) (xs : List ℕ) → (Among x xs → ⊥) → EachOf (λ y. y ≢ x → f y ≡ g y) xs → map f xs ≡ map g xs
map-others f g x [] out a = refl
map-others f g x (y ∷ ys) out a = ap₂ (λ z zs. z ∷ zs) (a.0 (λ e. out (inl (sym e)))) (map-others f g x ys (λ m. out (inr m)) a.1)

-- of a list of distinct numbers only the value of one changes
pub map-changed : {B : Type 0} (f g : ℕ → B) (k x : ℕ) (xs : List ℕ) → IsDistinct xs → slice_get xs k ≡ Some x → EachOf (λ y. y ≢ x → f y ≡ g y) xs → map f xs ≡ set (map g xs) k (f x)
map-changed f g k x [] d e a = absurd (none≢some e)
map-changed f g zero x (y ∷ ys) d e a =
    let is : y ≡ x = some-injective e in
    ap₂ (λ z zs. z ∷ zs) (ap f is) (map-others f g x ys (λ m. d.0 (subst (λ n. Among n ys) (sym is) m)) a.1)
map-changed f g (suc k) x (y ∷ ys) d e a =
    ap₂ (λ z zs. z ∷ zs) (a.0 (λ i. d.0 (subst (λ n. Among n ys) (sym i) (get-among ys k x e)))) (map-changed f g k x ys d.1 e a.1)
