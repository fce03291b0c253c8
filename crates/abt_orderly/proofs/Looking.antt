-- Who is to be looked at or rests, after one more operation.
use Rattle.std.proofs.Common.{Vec, ◌≡◌, ◌≢◌, ℕ, ◌+◌, ◌<◌, ◌≤◌, Bool, true, List, [], ◌∷◌, ◌++◌, length, Some, set, get_or-set_other, sym, subst, arith, ◌⊎◌, inl, inr}
use Rattle.std.specs.declared.alloc.Global.{Global}
use Rattle.std.specs.Prelude.{Contains, slice_get, slice_index_or}
use Rattle.std.proofs.lemmas.Bool.{cases_eq}
use Rattle.std.proofs.lemmas.List.Elements.{Contains-append_cases, Contains-append_left, Contains-append_right, Contains-push, Contains-push_cases}
use Rattle.abt_machine.specs.declared.numbers.UnitNo.{UnitNo}
use Rattle.abt_machine.specs.declared.workload.Parts.{Parts}
use Rattle.abt_machine.specs.Numbers.{unit_no}
use Rattle.abt_flow.specs.Finishing.{op_count}
use Rattle.abt_orderly.specs.declared.scanning.Standing.{Standing}
use Rattle.abt_orderly.specs.declared.scanning.Standing.TheVariants as standing
use Rattle.abt_orderly.specs.Passing.{AreLists, AreUnits, Halts, Wait, done_at, items_from, one_more, waiters}
use Rattle.abt_orderly.proofs.Meeting.{halts-cases}
use Rattle.abt_orderly.proofs.Ordering.{done-here, done-other}

-- A need is met.

module _ (W : Parts) (met : List Bool) (waiting : List (Vec UnitNo Global)) (n : ℕ) (us : Vec UnitNo Global) (ready new : List UnitNo) (at : slice_get waiting n ≡ Some us)
    (more : new ≡ ready ++ us.items) where
  waited : (v : UnitNo) → Contains (waiters waiting n) v → Contains us.items v
  waited v has = subst (λ o. Contains (items_from o) v) at has

  pub seen-met : Wait W met waiting → (v k : ℕ) (s : Standing) → Contains ready (unit_no v) ⊎ Halts W met v k s → Contains new (unit_no v) ⊎ Halts W (set met n true) v k s
  seen-met wait v k s (inl has) = inl (subst (λ (zs : List UnitNo). Contains zs (unit_no v)) (sym more) (Contains-append_left ready us.items (unit_no v) has))
  seen-met wait v k s (inr halts) =
      elim (halts-cases W met n v k s halts) [
        | inl still ↦ inr still
        | inr woken ↦ inl (subst (λ (zs : List UnitNo). Contains zs (unit_no v)) (sym more) (Contains-append_right ready us.items (unit_no v) (waited (unit_no v) (wait v k n woken.0 woken.1))))
      ]

  pub units-met : AreLists W waiting → AreUnits W ready → AreUnits W new
  units-met lists units v has =
      elim (Contains-append_cases ready us.items v (subst (λ (zs : List UnitNo). Contains zs v) more has)) [
        | inl old ↦ units v old
        | inr woken ↦ lists.declared n v (subst (λ o. Contains (items_from o) v) (sym at) woken)
      ]

-- A unit more is to be looked at.

module _ (W : Parts) (t : UnitNo) (ready new : List UnitNo) (more : new ≡ ready ++ t ∷ []) where
  has-one : Contains new t
  has-one = subst (λ (zs : List UnitNo). Contains zs t) (sym more) (Contains-push ready t)

  has-still : (v : UnitNo) → Contains ready v → Contains new v
  has-still v has = subst (λ (zs : List UnitNo). Contains zs v) (sym more) (Contains-append_left ready (t ∷ []) v has)

  pub units-more : t.0 < length W.units → AreUnits W ready → AreUnits W new
  units-more declared units v has =
      elim (Contains-push_cases ready t v (subst (λ (zs : List UnitNo). Contains zs v) more has)) [
        | inl old ↦ units v old
        | inr same ↦ subst (λ (w : UnitNo). w.0 < length W.units) same declared
      ]

  -- if it is created
  pub seen-created : (met : List Bool) (ss : List Standing) (s : Standing) (v k : ℕ) → Contains ready (unit_no v) ⊎ Halts W met v k (slice_index_or ss v standing.Unborn) →
      Contains new (unit_no v) ⊎ Halts W met v k (slice_index_or (set ss t.0 s) v standing.Unborn)
  seen-created met ss s v k (inl has) = inl (has-still (unit_no v) has)
  seen-created met ss s v k (inr halts) =
      elim (cases_eq v t.0) [
        | inl same ↦ inl (subst (λ n. Contains new (unit_no n)) (sym same) has-one)
        | inr other ↦ inr (subst (Halts W met v k) (sym (get_or-set_other ss t.0 v s standing.Unborn other)) halts)
      ]

  -- if its next operation is done
  pub seen-done : (met : List Bool) (done : List ℕ) (s : Standing) (v : ℕ) → t.0 < length done → (v ≢ t.0 → Contains ready (unit_no v) ⊎ Halts W met v (done_at done v) s) →
      Contains new (unit_no v) ⊎ Halts W met v (done_at (one_more done t.0) v) s
  seen-done met done s v below others =
      elim (cases_eq v t.0) [
        | inl same ↦ inl (subst (λ n. Contains new (unit_no n)) (sym same) has-one)
        | inr other ↦ elim (others other) [
          | inl has ↦ inl (has-still (unit_no v) has)
          | inr halts ↦ inr (subst (λ k. Halts W met v k s) (sym (done-other W done t.0 below v other)) halts)
        ]
      ]

-- no more operations of a unit are done than it has
pub within-more : (W : Parts) (done : List ℕ) (u : ℕ) → u < length done → done_at done u ≤ op_count W u → ((v : ℕ) → done_at done v ≤ op_count W v + 1) → (v : ℕ) →
    done_at (one_more done u) v ≤ op_count W v + 1
within-more W done u below there within v =
    elim (cases_eq v u) [
      | inl same ↦ (let e = done-here W done u below in subst (λ n. done_at (one_more done u) n ≤ op_count W n + 1) (sym same) (omega arith))
      | inr other ↦ (let e = done-other W done u below v other in let l = within v in omega arith)
    ]
