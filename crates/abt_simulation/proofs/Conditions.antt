-- The conditions of a mutex, by number.
use Rattle.std.proofs.Common.{◌≡◌, ℕ, suc, ◌+◌, true, List, [], ◌∷◌, map, slice_get, Some, refl, ◌∙◌, ap, ap₂, subst, arith}
use Rattle.std.proofs.lemmas.Bool.{cond_both, eqb-true, false≢true}
use Rattle.abt_machine.specs.declared.operations.Thing.{Thing}
use Rattle.abt_machine.specs.declared.operations.Thing.TheVariants as thing
use Rattle.abt_machine.specs.declared.workload.Parts.{Parts}
use Rattle.abt_machine.specs.Numbers.{object_no}
use Rattle.abt_machine.specs.Workloads.{thing_at, is_condition_of}
use Rattle.abt_machine.specs.Values.{conditions_from, conditions_of}
use Rattle.abt_laws.proofs.Lists.{EachOf}

-- the test finds just the conditions of mutex m
condition-is : (m : ℕ) (t : Thing) → is_condition_of m t ≡ true → t ≡ thing.Cond (object_no m)
condition-is m (thing.Cond n) e = ap (λ k. thing.Cond (object_no k)) (eqb-true n.0 m e)
condition-is m _ e = absurd (false≢true e)

-- what holds of each condition of m among these things, by number
conditions-among : (P : ℕ → Type 0) (m i : ℕ) (ts : List Thing) → ((k : ℕ) → slice_get ts k ≡ Some (thing.Cond (object_no m)) → P (i + k)) → EachOf P (conditions_from m i ts)
conditions-among P m i [] each = tt
conditions-among P m i (t ∷ ts) each =
    let later : EachOf P (conditions_from m (suc i) ts) = conditions-among P m (suc i) ts (λ k e. subst P (omega arith) (each (suc k) e)) in
    cond_both (is_condition_of m t) (i ∷ conditions_from m (suc i) ts) (conditions_from m (suc i) ts) (EachOf P)
    (λ yes. (subst P (omega arith) (each 0 (ap (λ u. Some u) (condition-is m t yes))), later))
    (λ no. later)

-- each of them is declared as a condition of that mutex
pub conditions-declared : (W : Parts) (m : ℕ) → EachOf (λ x. thing_at W x ≡ Some (thing.Cond (object_no m))) (conditions_of W m)
conditions-declared W m = conditions-among (λ x. thing_at W x ≡ Some (thing.Cond (object_no m))) m 0 W.objects (λ k e. ap (slice_get W.objects) (omega arith) ∙ e)

-- functions that agree on a list make one list of it
pub map-same : {A B : Type 0} (f g : A → B) (xs : List A) → EachOf (λ x. f x ≡ g x) xs → map f xs ≡ map g xs
map-same f g [] a = refl
map-same f g (x ∷ xs) a = ap₂ (λ y ys. y ∷ ys) a.0 (map-same f g xs a.1)
