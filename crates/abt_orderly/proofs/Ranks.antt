-- A workload is orderly if and only if every operation can be done behind what it needs.
use Rattle.std.proofs.Common.{◌≡◌, ℕ, zero, suc, ◌+◌, ◌<◌, ◌≤◌, List, length, Some, None, sym, ap, subst, arith, ◌⊎◌, inl, inr}
use Rattle.std.specs.Prelude.{slice_get, slice_index_or}
use Rattle.std.proofs.lemmas.Bool.{cases_eq, cases_lt}
use Rattle.std.proofs.lemmas.Option.{slice_get-get_or}
use Rattle.abt_machine.specs.declared.numbers.ObjectNo.{ObjectNo}
use Rattle.abt_machine.specs.declared.numbers.PoolNo.{PoolNo}
use Rattle.abt_machine.specs.declared.numbers.UnitNo.{UnitNo}
use Rattle.abt_machine.specs.declared.operations.Op.{Op}
use Rattle.abt_machine.specs.declared.operations.Op.TheVariants as op
use Rattle.abt_machine.specs.declared.operations.Thing.TheVariants as thing
use Rattle.abt_machine.specs.declared.workload.Parts.{Parts}
use Rattle.abt_machine.specs.Numbers.{unit_no}
use Rattle.abt_machine.specs.Valid.{IsValid}
use Rattle.abt_machine.specs.Workloads.{op_at}
use Rattle.abt_machine.proofs.Declared.{op-declared}
use Rattle.std.proofs.lemmas.Option.{slice_get_within}
use Rattle.abt_flow.specs.Confluent.{Confluent}
use Rattle.abt_flow.specs.Finishing.{IsOrderly, IsRanked, op_count}
use Rattle.abt_flow.specs.Flow.{IsReached}
use Rattle.abt_orderly.specs.declared.passing.Passing.{Passing}
use Rattle.abt_orderly.specs.declared.scanning.Standing.{Standing}
use Rattle.abt_orderly.specs.declared.scanning.Standing.TheVariants as standing
use Rattle.abt_orderly.specs.Listing.{IsPlacedAt, IsPlacedUnit}
use Rattle.abt_orderly.specs.Needs.{creates_from, meets_at, meets_from, need_from, unit_need}
use Rattle.abt_orderly.specs.Passing.{AllRest, Halts, HasMet, IsDone, IsOver, Ordered, Passes, Stands, done_at}
use Rattle.abt_orderly.proofs.Needing.{count-unit, create-of, creates-there, end-meets, met-by-end, met-by-set, need-cases, none-past, op-inside, op-unit}

-- If all are done.

module _ (W : Parts) (valid : IsValid W) (p : Passing) (passes : Passes W p) (over : IsOver W p) where
  abbrev done : List ℕ
  done = p.done.items

  abbrev rank : ℕ → ℕ → ℕ
  rank = passes.order.0

  ordered : Ordered W done rank passes.order.1
  ordered = passes.order.2

  all-done : (u k : ℕ) → u < length W.units → k ≤ op_count W u → IsDone done u k
  all-done u k l few = let m : op_count W u < done_at done u = over u l in omega arith

  op-done : (u k : ℕ) (o : Op) → op_at W u k ≡ Some o → IsDone done u k
  op-done u k o is = let l : k < op_count W u = op-inside W u k o is in all-done u k (op-unit W u k o is) (omega arith)

  -- a wait comes behind an operation that sets its eventual
  waits-ranked : (u k : ℕ) (x : ObjectNo) → op_at W u k ≡ Some (op.EvWait x) → (v : ℕ) × (j : ℕ) × IsReached W v × (op_at W v j ≡ Some (op.EvSet x)) × (rank v j < rank u k)
  waits-ranked u k x is =
      let n : (h : HasMet W done x.0) × (rank h.0 h.1 < rank u k) = ordered.needs u k x.0 (ap (need_from W) is) (op-done u k (op.EvWait x) is) in
      let h : HasMet W done x.0 = n.0 in
      let there : x.0 < length W.objects = slice_get_within W.objects x.0 thing.Eventual (op-declared W u k (op.EvWait x) valid is) in
      (h.0, h.1, h.2, met-by-set W h.0 h.1 x there h.3, n.1)

  -- a join comes behind the end of its unit
  joins-ranked : (u k : ℕ) (v : UnitNo) → op_at W u k ≡ Some (op.Join v) → IsReached W v.0 × (rank v.0 (op_count W v.0) < rank u k)
  joins-ranked u k v is =
      let n : (h : HasMet W done (unit_need W v.0)) × (rank h.0 h.1 < rank u k) = ordered.needs u k (unit_need W v.0) (ap (need_from W) is) (op-done u k (op.Join v) is) in
      let h : HasMet W done (unit_need W v.0) = n.0 in
      let end : (h.0 ≡ v.0) × (op_at W h.0 h.1 ≡ None) = met-by-end W h.0 h.1 v.0 valid h.3 in
      let past : op_count W h.0 ≤ h.1 = none-past W h.0 h.1 end.1 in
      let within : done_at done h.0 ≤ op_count W h.0 + 1 = passes.within h.0 in
      let inside : h.1 < done_at done h.0 = h.4 in
      let last : h.1 ≡ op_count W h.0 = omega arith in
      let lower : rank h.0 (op_count W h.0) < rank u k = subst (λ j. rank h.0 j < rank u k) last n.1 in
      (subst (IsReached W) end.0 h.2, subst (λ w. rank w (op_count W w) < rank u k) end.0 lower)

  is-ranked : IsRanked W rank
  is-ranked = record {
    rises = λ u k l. ordered.rises u k (let m : op_count W u < done_at done u = over u (count-unit W u k l) in omega arith);
    creates = λ u k t q is. (ordered.creates u k t.0 (ap creates_from is) (all-done t.0 0 (op-declared W u k (op.Create t q) valid is).0 (omega arith))).1;
    waits = waits-ranked;
    joins = joins-ranked;
  }

  pub orderly-over : Confluent W → ((u : ℕ) → IsPlacedUnit W u) → IsOrderly W
  orderly-over confluent placed = record {
    confluent = confluent;
    starts = λ u q is. (placed u).starts q is;
    created = λ u k t q is. (let at : IsPlacedAt W u k = (placed u).ops k in at (op.Create t q) is);
    no_barrier = λ u k x is. (let at : IsPlacedAt W u k = (placed u).ops k in at (op.BarWait x) is);
    rank = rank;
    ranked = is-ranked;
  }

-- If the workload is orderly.

placed-op : (W : Parts) → IsOrderly W → (u k : ℕ) → IsPlacedAt W u k
placed-op W orderly u k (op.Create t q) is = orderly.created u k t q is
placed-op W orderly u k (op.BarWait x) is = orderly.no_barrier u k x is
placed-op W orderly u k _ is = tt

pub orderly-placed : (W : Parts) → IsOrderly W → (u : ℕ) → IsPlacedUnit W u
orderly-placed W orderly u = record { ops = placed-op W orderly u; starts = orderly.starts u }

module _ (W : Parts) (valid : IsValid W) (p : Passing) (rests : AllRest W p) (orderly : IsOrderly W) where
  rises-to : (u j k : ℕ) → j ≤ k → k ≤ op_count W u → orderly.rank u j ≤ orderly.rank u k
  rises-to u j zero l few = let e : j ≡ 0 = omega arith in subst (λ i. orderly.rank u i ≤ orderly.rank u 0) (sym e) (omega arith)
  rises-to u j (suc k) l few =
      let step : orderly.rank u k < orderly.rank u (suc k) = orderly.ranked.rises u k (omega arith) in
      elim (cases_eq j (suc k)) [
        | inl same ↦ subst (λ i. orderly.rank u i ≤ orderly.rank u (suc k)) (sym same) (omega arith)
        | inr other ↦ (let before : orderly.rank u j ≤ orderly.rank u k = rises-to u j k (omega arith) (omega arith) in omega arith)
      ]

  -- all that ranks below n is done
  abbrev AreDone : ℕ → Type 0
  AreDone n = (u k : ℕ) → u < length W.units → k ≤ op_count W u → orderly.rank u k < n → IsDone p.done.items u k

  module _ (n : ℕ) (before : AreDone n) where
    never-unborn : (u : ℕ) → orderly.rank u 0 ≤ n → Stands W p.done.items u standing.Unborn → ⊥
    never-unborn u low h =
        let is : (q : PoolNo) × (op_at W h.0 h.1 ≡ Some (op.Create (unit_no u) q)) = create-of W h.0 h.1 (unit_no u) h.2 in
        let there : (h.0 < length W.units) × (h.1 < op_count W h.0) = creates-there W h.0 h.1 (unit_no u) h.2 in
        let inside = there.1 in
        let lower : orderly.rank h.0 h.1 < orderly.rank u 0 = orderly.ranked.creates h.0 h.1 (unit_no u) is.0 is.1 in
        h.3 (before h.0 h.1 there.0 (omega arith) (omega arith))

    is-met : (u k i : ℕ) → orderly.rank u k ≤ n → ((x : ObjectNo) × (op_at W u k ≡ Some (op.EvWait x)) × (x.0 ≡ i)) ⊎ ((v : UnitNo) × (op_at W u k ≡ Some (op.Join v)) × (unit_need W v.0 ≡ i)) →
        HasMet W p.done.items i
    is-met u k i low (inl (x, is, e)) =
        let s = orderly.ranked.waits u k x is in
        let lower : orderly.rank s.0 s.1 < orderly.rank u k = s.4 in
        let inside : s.1 < op_count W s.0 = op-inside W s.0 s.1 (op.EvSet x) s.3 in
        let meets : meets_at W s.0 s.1 ≡ Some x.0 = ap (meets_from W s.0) s.3 in
        subst (HasMet W p.done.items) e (s.0, s.1, s.2, meets, before s.0 s.1 (op-unit W s.0 s.1 (op.EvSet x) s.3) (omega arith) (omega arith))
    is-met u k i low (inr (v, is, e)) =
        let s : IsReached W v.0 × (orderly.rank v.0 (op_count W v.0) < orderly.rank u k) = orderly.ranked.joins u k v is in
        let lower = s.1 in
        let there : v.0 < length W.units = op-declared W u k (op.Join v) valid is in
        subst (HasMet W p.done.items) e (v.0, op_count W v.0, s.0, end-meets W v.0, before v.0 (op_count W v.0) there (omega arith) (omega arith))

    not-halted : (u k : ℕ) (s : Standing) → u < length W.units → slice_get p.standing.items u ≡ Some s → done_at p.done.items u ≤ k → k ≤ op_count W u → orderly.rank u k ≤ n →
        Halts W p.met.items u (done_at p.done.items u) s → ⊥
    not-halted u k s l at late few low (inl past) = absurd (omega arith)
    not-halted u k s l at late few low (inr (inl unborn)) =
        let first : orderly.rank u 0 ≤ orderly.rank u k = rises-to u 0 k (omega arith) few in
        never-unborn u (omega arith) (subst (Stands W p.done.items u) unborn (rests.passes.standing.each u s at))
    not-halted u k s l at late few low (inr (inr (i, need, not))) =
        let first : orderly.rank u (done_at p.done.items u) ≤ orderly.rank u k = rises-to u (done_at p.done.items u) k late few in
        not (rests.passes.met.every i (is-met u (done_at p.done.items u) i (omega arith) (need-cases W (op_at W u (done_at p.done.items u)) i need)))

    done-next : AreDone (suc n)
    done-next u k l few low =
        elim (cases_lt k (done_at p.done.items u)) [
          | inl is ↦ is
          | inr late ↦ (let there : u < length p.standing.items = (let e = rests.passes.standing.all in omega arith) in
              absurd (not-halted u k (slice_index_or p.standing.items u standing.Unborn) l (slice_get-get_or p.standing.items u standing.Unborn there) late few (omega arith) (rests.rest u l)))
        ]

  are-done : (n : ℕ) → AreDone n
  are-done zero u k l few low = absurd (omega arith)
  are-done (suc n) u k l few low = done-next n (are-done n) u k l few low

  pub over-orderly : IsOver W p
  over-orderly u l = are-done (suc (orderly.rank u (op_count W u))) u (op_count W u) l (omega arith) (omega arith)
