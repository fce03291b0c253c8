-- If every reached unit rests, and one is not at its end, the flow is undefined.
use Rattle.std.proofs.Common.{◌≡◌, ℕ, zero, suc, ◌+◌, ◌<◌, ◌≤◌, Bool, true, false, List, length, take, get_or, Option, Some, None, refl, sym, ◌∙◌, ap, subst, arith, ◌⊎◌, inl, inr}
use Rattle.std.specs.Prelude.{MatchBool, slice_get, sum_by, map}
use Rattle.std.proofs.lemmas.Bool.{cases_eq, cases_lt}
use Rattle.std.proofs.lemmas.List.{length-map, take_all}
use Rattle.std.proofs.lemmas.List.Sums.{sum_by_more, sum_by_push}
use Rattle.std.proofs.lemmas.Option.{get_or_from_slice_get}
use Rattle.abt_machine.specs.declared.events.Piece.{Piece}
use Rattle.abt_machine.specs.declared.operations.Op.{Op}
use Rattle.abt_machine.specs.declared.operations.Op.TheVariants as op
use Rattle.abt_machine.specs.declared.workload.Parts.{Parts}
use Rattle.abt_machine.specs.Lives.{count_up}
use Rattle.abt_machine.specs.Valid.{IsValid}
use Rattle.abt_machine.specs.Workloads.{body_at, op_at, ops_of}
use Rattle.abt_laws.proofs.Options.{none≢some}
use Rattle.abt_bounds.specs.Laws.{ops_in, ops_of_unit}
use Rattle.abt_flow.specs.declared.memory.Progress.{Progress}
use Rattle.abt_flow.specs.Confluent.{Confluent}
use Rattle.abt_flow.specs.Effects.{Memory}
use Rattle.abt_flow.specs.Flow.{AtPoint, Executes, Functions, IsFlow, IsReached, IsRow, Made, SetsTo}
use Rattle.abt_flow.specs.Tables.{FollowsFlow, Halts, Rests, executed, memory_in}
use Rattle.abt_flow.proofs.Finds.{reached-declared}
use Rattle.abt_flow.proofs.Outputs.{get-map}
use Rattle.abt_flow.proofs.Points.{points-within}
use Rattle.abt_flow.proofs.Running.{get-some}
use Rattle.abt_flow.proofs.Unique.{point-one}

-- How many operations were executed.

module _ (units : List Progress) (bound : ℕ → ℕ) (each : (k : ℕ) (p : Progress) → slice_get units k ≡ Some p → p.position ≤ bound k) where
  first-within : (n : ℕ) → n ≤ length units → executed (take n units) ≤ sum_by bound (count_up n)
  first-within zero l = omega arith
  first-within (suc n) l =
      let is : (p : Progress) × (slice_get units n ≡ Some p) = get-some units n (omega arith) in
      let few : is.0.position ≤ bound n = each n is.0 is.1 in
      let before : executed (take n units) ≤ sum_by bound (count_up n) = first-within n (omega arith) in
      let long : sum_by bound (count_up (suc n)) ≡ sum_by bound (count_up n) + bound n = sum_by_push bound (count_up n) n in
      let more : executed (take (n + 1) units) ≡ executed (take n units) + (get_or units n is.0).position = sum_by_more (λ (p : Progress). p.position) units n is.0 (omega arith) in
      let there : (get_or units n is.0).position ≡ is.0.position = ap (λ (p : Progress). p.position) (get_or_from_slice_get units n is.0 is.0 is.1) in
      let step : executed (take (suc n) units) ≡ executed (take (n + 1) units) = ap (λ k. executed (take k units)) (let e : suc n ≡ n + 1 = omega arith in e) in
      omega arith

  all-within : (n : ℕ) → length units ≡ n → executed units ≤ sum_by bound (count_up n)
  all-within n e = subst (λ us. executed us ≤ sum_by bound (count_up n)) (take_all n units (omega arith)) (first-within n (omega arith))

pub executed-within : (W : Parts) (R : Functions) (units : List Progress) (values : List (Option ℕ)) → FollowsFlow W R units values → executed units ≤ ops_in W
executed-within W R units values follows = all-within units (ops_of_unit W) follows.within (length W.units) follows.all

-- Units that rest.

-- what an operation on the way starts from and does
pub made-does : (W : Parts) (R : Functions) (Found : ℕ → ℕ → Type 0) (u k j : ℕ) (m : Memory) → j < k → Made W R Found u k m → (old : Memory) × (new : Memory) × Made W R Found u j old ×
    Executes R u Found (op_at W u j) old new
made-does W R Found u zero j m l h = absurd (omega arith)
made-does W R Found u (suc k) j m l h =
    elim (cases_eq j k) [
      | inl same ↦ (h.0, m, subst (λ i. Made W R Found u i h.0) (sym same) h.1, subst (λ i. Executes R u Found (op_at W u i) h.0 m) (sym same) h.2)
      | inr other ↦ made-does W R Found u k j h.0 (omega arith) h.1
    ]

module _ (W : Parts) (R : Functions) (valid : IsValid W) (confluent : Confluent W) (units : List Progress) (values : List (Option ℕ)) (follows : FollowsFlow W R units values)
    (rest : (v : ℕ) → IsReached W v → Rests W R units values v) where
  -- at a wait without a value its setter is not done, and a call that may return any word is none that is followed
  halted : (At : ℕ → ℕ → Memory → Type 0) → ((v : ℕ) (p : Progress) (k : ℕ) (m : Memory) → IsReached W v → slice_get units v ≡ Some p → p.position < k → At v k m → ⊥) →
      (u : ℕ) (q : Progress) (o : Option Op) (old new : Memory) → memory_in q ≡ old → Halts R values u q o → Executes R u (SetsTo W At) o old new → ⊥
  halted At never u q None old new same halts does = does
  halted At never u q (Some (op.Call f)) old new same halts does = none≢some (sym halts ∙ subst (λ (m : Memory). R f u m.acc m.keys ≡ Some does.0) (sym same) does.1)
  halted At never u q (Some (op.EvWait x)) old new same halts does =
      let set = does.1 in
      let here : (p : Progress) × (slice_get units set.0 ≡ Some p) = get-some units set.0
      (let l : set.0 < length W.units = reached-declared W set.0 valid set.3 in let e = follows.all in omega arith) in
      elim (cases_lt set.1 here.0.position) [
        | inl l ↦ follows.set set.0 here.0 set.1 x.0 here.1 l set.4 halts
        | inr l ↦ elim (cases_eq here.0.position set.1) [
          | inl same ↦ subst (Halts R values set.0 here.0) set.4 (subst (λ k. Halts R values set.0 here.0 (op_at W set.0 k)) same (rest set.0 set.3 here.0 here.1))
          | inr other ↦ never set.0 here.0 set.1 set.2 set.3 here.1 (omega arith) set.5
        ]
      ]
  halted At never u q (Some _) old new same halts does = absurd halts

  stuck : (f v : ℕ) (p : Progress) (k : ℕ) (m : Memory) → IsReached W v → slice_get units v ≡ Some p → p.position < k → AtPoint W R f v k m → ⊥
  stuck zero v p k m reached at l h = h
  stuck (suc f) v p k m reached at l h =
      let does = made-does W R (SetsTo W (λ w j c. AtPoint W R f w j c)) v k p.position m l h in
      let same : memory_in p ≡ does.0 = point-one W R confluent (suc (executed units)) (suc f) v p.position (memory_in p) does.0 (follows.made v p at) does.2 in
      halted (λ w j c. AtPoint W R f w j c) (λ w q j c. stuck f w q j c) v p (op_at W v p.position) does.0 does.1 same (rest v reached p at) does.3

  -- if a reached unit is not at its end
  pub no-flow : (u : ℕ) (p : Progress) → IsReached W u → slice_get units u ≡ Some p → p.position < length (ops_of (body_at W u)) → (rows : List (List Piece)) → IsFlow W R rows → ⊥
  no-flow u p reached at l rows flow =
      let declared : u < length W.units = reached-declared W u valid reached in
      let row : (r : List Piece) × (slice_get rows u ≡ Some r) = get-some rows u (let e = flow.one_each in omega arith) in
      elim (flow.each u row.0 row.1) [
        | inl out ↦ stuck (suc (ops_in W)) u p (length (ops_of (body_at W u))) out.1.0 reached at l out.1.1
        | inr none ↦ none.0 reached
      ]

-- Units that are all at their ends.

module _ (W : Parts) (R : Functions) (units : List Progress) (values : List (Option ℕ)) (follows : FollowsFlow W R units values)
    (done : (u : ℕ) (p : Progress) → slice_get units u ≡ Some p → (IsReached W u × (length (ops_of (body_at W u)) ≤ p.position)) ⊎ (IsReached W u → ⊥)) where
  row-done : (u : ℕ) (p : Progress) → slice_get units u ≡ Some p → IsRow W R u p.output.items
  row-done u p at =
      let few : executed units ≤ ops_in W = executed-within W R units values follows in
      let within = follows.within u p at in
      elim (done u p at) [
        | inl over ↦ inl (
          over.0,
          (
            memory_in p,
            subst (λ k. AtPoint W R (suc (ops_in W)) u k (memory_in p)) (let above = over.1 in let e : p.position ≡ length (ops_of (body_at W u)) = omega arith in e)
                (points-within W R (suc (executed units)) (suc (ops_in W)) u p.position (memory_in p) (omega arith) (follows.made u p at)),
            refl,
          ),
        )
        | inr none ↦ inr (
          none,
          elim (cases_lt 0 p.position) [
            | inl some ↦ absurd (none (follows.reached u p at some))
            | inr never ↦ (let first : AtPoint W R (suc (executed units)) u 0 (memory_in p) = subst (λ k. AtPoint W R (suc (executed units)) u k (memory_in p))
                (let e : p.position ≡ 0 = omega arith in e) (follows.made u p at) in ap (λ (m : Memory). m.output) first)
          ],
        )
      ]

  pub all-done : (rows : List (List Piece)) → rows ≡ map (λ (p : Progress). p.output.items) units → IsFlow W R rows
  all-done rows e = subst (IsFlow W R) (sym e) (record {
    one_each = length-map units (λ (p : Progress). p.output.items) ∙ follows.all;
    each = λ u row f. (let is : (p : Progress) × (slice_get units u ≡ Some p) × (p.output.items ≡ row) = get-map (λ (p : Progress). p.output.items) units u row f in subst (IsRow W R u) is.2
        (row-done u is.0 is.1));
  })

-- what a test decides
pub decided : (b : Bool) (A B : Type 0) → (b ≡ true → A) → (b ≡ false → B) → MatchBool b A B
decided true A B f g = f refl
decided false A B f g = g refl
