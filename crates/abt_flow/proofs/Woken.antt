-- A set of an eventual, in the table of a search for a flow.
use Rattle.std.proofs.Common.{Vec, ◌≡◌, ◌≢◌, ℕ, suc, ◌+◌, ◌<◌, List, [], ◌++◌, length, length-append, Option, Some, None, set, get_or, length-set, refl, sym, ◌∙◌, ap, subst, arith, ◌⊎◌, inl, inr}
use Rattle.std.specs.declared.alloc.Global.{Global}
use Rattle.std.specs.Prelude.{Contains, slice_get, sum_by}
use Rattle.std.proofs.lemmas.Bool.{cases_eq}
use Rattle.std.proofs.lemmas.List.Elements.{Contains-append_cases, Contains-append_left, Contains-append_right}
use Rattle.std.proofs.lemmas.List.Sums.{sum_by-set}
use Rattle.std.proofs.lemmas.Option.{get_or_from_slice_get, slice_get_within}
use Rattle.abt_machine.specs.declared.numbers.ObjectNo.{ObjectNo}
use Rattle.abt_machine.specs.declared.numbers.UnitNo.{UnitNo}
use Rattle.abt_machine.specs.declared.operations.Op.{Op}
use Rattle.abt_machine.specs.declared.operations.Op.TheVariants as op
use Rattle.abt_machine.specs.declared.workload.Parts.{Parts}
use Rattle.abt_machine.specs.Numbers.{object_no, unit_no}
use Rattle.abt_machine.specs.Valid.{IsValid}
use Rattle.abt_machine.specs.Workloads.{op_at}
use Rattle.abt_laws.proofs.Options.{none≢some, some-injective}
use Rattle.abt_flow.specs.declared.memory.Progress.{Progress}
use Rattle.abt_flow.specs.declared.table.Table.{Table}
use Rattle.abt_flow.specs.Flow.{AtPoint, Functions, IsReached}
use Rattle.abt_flow.specs.Tables.{FollowsFlow, Halts, Rests, UnitRuns, Waits, executed, memory_in}
use Rattle.abt_flow.proofs.Finds.{reached-declared}
use Rattle.abt_flow.proofs.Points.{HasValue, value-within}
use Rattle.abt_flow.proofs.Running.{get-here, get-other, get-some, goes-on}

halts-cases : (R : Functions) (values new : List (Option ℕ)) (u : ℕ) (p : Progress) (o : Option Op) → Halts R values u p o → Halts R new u p o ⊎
    ((y : ObjectNo) × (o ≡ Some (op.EvWait y)) × (slice_get values y.0 ≡ Some None))
halts-cases R values new u p None h = inl tt
halts-cases R values new u p (Some (op.EvWait y)) h = inr (y, refl, h)
halts-cases R values new u p (Some (op.Call f)) h = inl h
halts-cases R values new u p (Some _) h = absurd h

module _ {W : Parts} {R : Functions} {u : ℕ} {t : Table} {p : Progress} {x : ObjectNo} {us : Vec UnitNo Global} (valid : IsValid W) (reached : IsReached W u) (runs : UnitRuns W R u t)
    (q : Progress) (at : slice_get t.units.items u ≡ Some p)
    (is : op_at W u p.position ≡ Some (op.EvSet x)) (pos : q.position ≡ p.position + 1) (same : memory_in q ≡ memory_in p) (declared : x.0 < length W.objects) (vs : Vec UnitNo Global)
    (waited : slice_get t.waiting.items x.0 ≡ Some us) (cleared : vs.items ≡ []) where
  abbrev units : List Progress
  units = t.units.items

  abbrev values : List (Option ℕ)
  values = t.values.items

  abbrev new_values : List (Option ℕ)
  new_values = set values x.0 (Some p.acc)

  abbrev new_units : List Progress
  new_units = set units u q

  set-here : slice_get new_values x.0 ≡ Some (Some p.acc)
  set-here =
      let l : x.0 < length values = (let e = runs.follows.values_all in omega arith) in
      let old : (o : Option ℕ) × (slice_get values x.0 ≡ Some o) = get-some values x.0 l in get-here values x.0 old.0 (Some p.acc) old.1

  not-here : (y : ℕ) → slice_get new_values y ≡ Some None → y ≢ x.0
  not-here y none e = none≢some (some-injective (sym (subst (λ z. slice_get new_values z ≡ Some None) e none) ∙ set-here))

  was-none : (y : ℕ) → slice_get new_values y ≡ Some None → slice_get values y ≡ Some None
  was-none y none = sym (get-other values x.0 y (Some p.acc) (not-here y none)) ∙ none

  found-now : (n : ℕ) → slice_get new_values x.0 ≡ Some (Some n) → HasValue W R (executed units + 1) x.0 n
  found-now n e =
      let acc : p.acc ≡ n = some-injective (some-injective (sym set-here ∙ e)) in
      let made : AtPoint W R (executed units + 1) u p.position (memory_in p) = subst (λ f. AtPoint W R f u p.position (memory_in p))
      (let f : suc (executed units) ≡ executed units + 1 = omega arith in f) (runs.follows.made u p at) in
      (u, p.position, memory_in p, reached, is, made, acc)

  found : (y n : ℕ) → slice_get new_values y ≡ Some (Some n) → HasValue W R (executed units + 1) y n
  found y n e =
      elim (cases_eq y x.0) [
        | inl here ↦ subst (λ z. HasValue W R (executed units + 1) z n) (sym here) (found-now n (subst (λ z. slice_get new_values z ≡ Some (Some n)) here e))
        | inr other ↦ value-within W R (executed units) (executed units + 1) y n (omega arith) (runs.follows.found y n (sym (get-other values x.0 y (Some p.acc) other) ∙ e))
      ]

  unset : (y : ℕ) → op.EvSet x ≡ op.EvSet (object_no y) → slice_get new_values y ≡ Some None → ⊥
  unset y e none = let f : object_no y ≡ x = cc in not-here y none (ap (λ (z : ObjectNo). z.0) f)

  pub set-follows : FollowsFlow W R new_units new_values
  set-follows = goes-on reached runs.follows q at is pos new_values (length-set values x.0 (Some p.acc) ∙ runs.follows.values_all) was-none found unset same

  -- Who waited is ready.

  abbrev ready : List UnitNo
  ready = t.ready.items ++ us.items

  none-left : (v : UnitNo) (ws : Vec UnitNo Global) → vs ≡ ws → Contains ws.items v → ⊥
  none-left v ws e has =
      let h : Contains [] v = subst (λ (zs : List UnitNo). Contains zs v) cleared (subst (λ (z : Vec UnitNo Global). Contains z.items v) (sym e) has) in
      let l = h.1 in absurd (omega arith)

  pub set-waits : Waits W new_values (set t.waiting.items x.0 vs)
  set-waits = record {
    all = length-set t.waiting.items x.0 vs ∙ runs.waits.all;
    reached = λ y ws v e has. elim (cases_eq y x.0) [
      | inl here ↦ absurd (none-left v ws (some-injective (sym (get-here t.waiting.items x.0 us vs waited) ∙ subst (λ z. slice_get (set t.waiting.items x.0 vs) z ≡ Some ws) here e)) has)
      | inr other ↦ runs.waits.reached y ws v (sym (get-other t.waiting.items x.0 y vs other) ∙ e) has
    ];
    waits = λ y ws v k none e r waits. runs.waits.waits y ws v k (was-none y none) (sym (get-other t.waiting.items x.0 y vs (not-here y none)) ∙ e) r waits;
  }

  pub set-ready : (v : UnitNo) → Contains ready v → IsReached W v.0
  set-ready v has = elim (Contains-append_cases t.ready.items us.items v has) [ inl a ↦ runs.ready v a | inr b ↦ runs.waits.reached x.0 us v waited b ]

  -- a unit that rests goes on resting, or is ready
  module _ (v : ℕ) (other : v ≢ u) (r : IsReached W v) (rests : Rests W R units values v) where
    here : (m : Progress) × (slice_get units v ≡ Some m)
    here = get-some units v (let l : v < length W.units = reached-declared W v valid r in let e = runs.follows.all in omega arith)

    still : (o : Option Op) → op_at W v here.0.position ≡ o → Halts R new_values v here.0 o → Rests W R new_units new_values v
    still o e halts m f =
        let g : here.0 ≡ m = some-injective (sym here.1 ∙ (sym (get-other units u v q other) ∙ f)) in
        subst (λ (z : Progress). Halts R new_values v z (op_at W v z.position)) g (subst (Halts R new_values v here.0) (sym e) halts)

    waking : (y : ObjectNo) → op_at W v here.0.position ≡ Some (op.EvWait y) → slice_get values y.0 ≡ Some None → Contains ready (unit_no v) ⊎ Rests W R new_units new_values v
    waking y e none =
        elim (cases_eq y.0 x.0) [
          | inl same ↦ inl (Contains-append_right t.ready.items us.items (unit_no v)
              (runs.waits.waits y.0 us v here.0.position none (subst (λ z. slice_get t.waiting.items z ≡ Some us) (sym same) waited) r e))
          | inr away ↦ inr (still (Some (op.EvWait y)) e (get-other values x.0 y.0 (Some p.acc) away ∙ none))
        ]

    pub goes-resting : Contains ready (unit_no v) ⊎ Rests W R new_units new_values v
    goes-resting =
        elim (halts-cases R values new_values v here.0 (op_at W v here.0.position) (rests here.0 here.1)) [
          | inl halts ↦ inr (still (op_at W v here.0.position) refl halts)
          | inr wait ↦ waking wait.0 wait.1 wait.2
        ]

  pub set-others : (v : ℕ) → v ≢ u → IsReached W v → Contains ready (unit_no v) ⊎ Rests W R new_units new_values v
  set-others v other r = elim (runs.others v other r) [ inl a ↦ inl (Contains-append_left t.ready.items us.items (unit_no v) a) | inr b ↦ goes-resting v other r b ]

  pub set-work : length ready + sum_by (λ (ws : Vec UnitNo Global). length ws.items) (set t.waiting.items x.0 vs) ≡ length t.ready.items + sum_by
      (λ (ws : Vec UnitNo Global). length ws.items) t.waiting.items
  set-work =
      let s = sum_by-set (λ (ws : Vec UnitNo Global). length ws.items) t.waiting.items x.0 vs us (slice_get_within t.waiting.items x.0 us waited) in
      let e : length (get_or t.waiting.items x.0 us).items ≡ length us.items = ap (λ (ws : Vec UnitNo Global). length ws.items) (get_or_from_slice_get t.waiting.items x.0 us us waited) in
      let z : length vs.items ≡ 0 = ap (λ (ws : List UnitNo). length ws) cleared in
      let a = length-append t.ready.items us.items in omega arith
