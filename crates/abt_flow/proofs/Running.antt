-- One more operation of a unit, in the table of a search for a flow.
use Rattle.std.proofs.Common.{◌≡◌, ◌≢◌, ℕ, zero, suc, ◌+◌, ◌<◌, ◌≤◌, List, [], ◌∷◌, length, Option, Some, None, set, get_or, length-set, refl, sym, ◌∙◌, ap, subst, arith, ◌⊎◌, inl, inr}
use Rattle.std.specs.Prelude.{Contains, MatchOption, slice_get}
use Rattle.std.proofs.lemmas.Bool.{cases_eq}
use Rattle.std.proofs.lemmas.List.Sums.{sum_by-set}
use Rattle.std.proofs.lemmas.Option.{get_or_from_slice_get, slice_get-get_or, slice_get_within}
use Rattle.abt_machine.specs.declared.grammar.Format.TheVariants as format
use Rattle.abt_machine.specs.declared.numbers.ObjectNo.{ObjectNo}
use Rattle.abt_machine.specs.declared.numbers.UnitNo.{UnitNo}
use Rattle.abt_machine.specs.declared.operations.Op.{Op}
use Rattle.abt_machine.specs.declared.operations.Op.TheVariants as op
use Rattle.abt_machine.specs.declared.operations.Thing.TheVariants as thing
use Rattle.abt_machine.specs.declared.workload.Parts.{Parts}
use Rattle.abt_machine.specs.Limits.{unit_operation_limit}
use Rattle.abt_machine.specs.Numbers.{object_no, unit_no}
use Rattle.abt_machine.specs.Operations.{IsDeclared, IsEventual}
use Rattle.abt_machine.specs.Valid.{IsValid}
use Rattle.abt_machine.specs.Workloads.{body_at, op_at, ops_of}
use Rattle.abt_machine.proofs.Declared.{few-unit-ops, op-declared}
use Rattle.abt_laws.proofs.Options.{none≢some, some-injective}
use Rattle.abt_flow.specs.declared.memory.Progress.{Progress}
use Rattle.abt_flow.specs.declared.table.Table.{Table}
use Rattle.abt_flow.specs.Effects.{effect}
use Rattle.abt_flow.specs.Flow.{AtPoint, Becomes, Functions, IsReached}
use Rattle.abt_flow.specs.Tables.{FollowsFlow, IsNextOperation, HasNoneLeft, Rests, UnitRuns, executed, memory_in}
use Rattle.abt_flow.proofs.Finds.{reached-declared}
use Rattle.abt_flow.proofs.Points.{HasValue, point-next, points-within, value-within}

-- Places of a list.

pub get-some : {A : Type 0} (xs : List A) (k : ℕ) → k < length xs → (x : A) × (slice_get xs k ≡ Some x)
get-some [] k l = absurd (omega arith)
get-some (x ∷ xs) zero l = (x, refl)
get-some (x ∷ xs) (suc k) l = get-some xs k (omega arith)

pub get-here : {A : Type 0} (xs : List A) (k : ℕ) (x y : A) → slice_get xs k ≡ Some x → slice_get (set xs k y) k ≡ Some y
get-here [] k x y e = absurd (none≢some e)
get-here (z ∷ xs) zero x y e = refl
get-here (z ∷ xs) (suc k) x y e = get-here xs k x y e

pub get-other : {A : Type 0} (xs : List A) (k j : ℕ) (y : A) → j ≢ k → slice_get (set xs k y) j ≡ slice_get xs j
get-other [] k j y h = refl
get-other (x ∷ xs) zero zero y h = absurd (h refl)
get-other (x ∷ xs) zero (suc j) y h = refl
get-other (x ∷ xs) (suc k) zero y h = refl
get-other (x ∷ xs) (suc k) (suc j) y h = get-other xs k j y (λ e. h (ap (λ n. suc n) e))

-- what is read at an index
pub read-at : {A : Type 0} (xs : List A) (k : ℕ) (x : A) → k < length xs → x ≡ get_or xs k x → slice_get xs k ≡ Some x
read-at xs k x l e = slice_get-get_or xs k x l ∙ ap (λ y. Some y) (sym e)

-- What there is.

pub unit-there : {W : Parts} {R : Functions} {u : ℕ} {t : Table} → IsValid W → IsReached W u → UnitRuns W R u t → u < length t.units.items
unit-there {W = W} {u = u} valid reached runs = let l : u < length W.units = reached-declared W u valid reached in let e = runs.follows.all in omega arith

pub unit-read : {W : Parts} {R : Functions} {u : ℕ} {t : Table} {p : Progress} → IsValid W → IsReached W u → UnitRuns W R u t → p ≡ get_or t.units.items u p → slice_get t.units.items u ≡ Some p
unit-read {u = u} {t = t} {p = p} valid reached runs e = read-at t.units.items u p (unit-there valid reached runs) e

-- the eventual that the next operation names
eventual-there : {W : Parts} {R : Functions} {u : ℕ} {t : Table} (x : ObjectNo) (o : Op) → (IsDeclared W o → IsEventual W x.0) → IsValid W → IsReached W u → UnitRuns W R u t →
    IsNextOperation W t.units.items u o → x.0 < length W.objects
eventual-there {W = W} {u = u} {t = t} x o names valid reached runs next =
    let is : (p : Progress) × (slice_get t.units.items u ≡ Some p) = get-some t.units.items u (unit-there valid reached runs) in
    slice_get_within W.objects x.0 thing.Eventual (names (op-declared W u is.0.position o valid (next is.0 is.1)))

pub wait-there : {W : Parts} {R : Functions} {u : ℕ} {t : Table} {x : ObjectNo} → IsValid W → IsReached W u → UnitRuns W R u t → IsNextOperation W t.units.items u (op.EvWait x) →
    x.0 < length W.objects
wait-there {x = x} = eventual-there x (op.EvWait x) (λ declared. declared)

pub set-there : {W : Parts} {R : Functions} {u : ℕ} {t : Table} {x : ObjectNo} → IsValid W → IsReached W u → UnitRuns W R u t → IsNextOperation W t.units.items u (op.EvSet x) → x.0 < length W.objects
set-there {x = x} = eventual-there x (op.EvSet x) (λ declared. declared)

pub position-few : {W : Parts} {R : Functions} {u : ℕ} {t : Table} {p : Progress} → IsValid W → IsReached W u → UnitRuns W R u t → slice_get t.units.items u ≡ Some p →
    p.position ≤ unit_operation_limit format.Three
position-few {W = W} {u = u} {p = p} valid reached runs at =
    let l : u < length W.units = reached-declared W u valid reached in
    let few : length (ops_of (body_at W u)) ≤ unit_operation_limit format.Three = few-unit-ops W u valid in
    let within = runs.follows.within u p at in omega arith

-- One more operation.

module _ {W : Parts} {R : Functions} {u : ℕ} (reached : IsReached W u) {units : List Progress} {values : List (Option ℕ)} (follows : FollowsFlow W R units values) {p : Progress} (q : Progress)
    (at : slice_get units u ≡ Some p) {o : Op} (is : op_at W u p.position ≡ Some o) (pos : q.position ≡ p.position + 1) where
  abbrev pub news : List Progress
  news = set units u q

  pub one-more : executed news ≡ executed units + 1
  one-more =
      let s = sum_by-set (λ (r : Progress). r.position) units u q p (slice_get_within units u p at) in
      let e : (get_or units u p).position ≡ p.position = ap (λ (r : Progress). r.position) (get_or_from_slice_get units u p p at) in omega arith

  is-new : (r : Progress) → slice_get news u ≡ Some r → q ≡ r
  is-new r e = some-injective (sym (get-here units u p q at) ∙ e)

  was : (v : ℕ) (r : Progress) → v ≢ u → slice_get news v ≡ Some r → slice_get units v ≡ Some r
  was v r other e = sym (get-other units u v q other) ∙ e

  pub rests-still : (v : ℕ) → v ≢ u → Rests W R units values v → Rests W R news values v
  rests-still v other rests r e = rests r (was v r other e)

  module _ (new_values : List (Option ℕ)) (all : length new_values ≡ length W.objects) (keeps : (x : ℕ) → slice_get new_values x ≡ Some None → slice_get values x ≡ Some None)
      (found : (x n : ℕ) → slice_get new_values x ≡ Some (Some n) → HasValue W R (executed units + 1) x n) (unset : (x : ℕ) → o ≡ op.EvSet (object_no x) → slice_get new_values x ≡ Some None → ⊥)
      (leads : Becomes R u (HasValue W R (executed units)) (effect o) (memory_in p) (memory_in q)) where
    made-here : AtPoint W R (suc (executed news)) u q.position (memory_in q)
    made-here =
        let next : AtPoint W R (suc (executed units)) u (suc p.position) (memory_in q) = point-next W R (executed units) u p.position o (memory_in p) (memory_in q) is (follows.made u p at) leads in
        let e : suc p.position ≡ q.position = omega arith in
        let m = one-more in
        subst (λ k. AtPoint W R (suc (executed news)) u k (memory_in q)) e (points-within W R (suc (executed units)) (suc (executed news)) u (suc p.position) (memory_in q) (omega arith) next)

    inside : q.position ≤ length (ops_of (body_at W u))
    inside = let l : p.position < length (ops_of (body_at W u)) = slice_get_within (ops_of (body_at W u)) p.position o is in omega arith

    set-here : (j x : ℕ) → j < q.position → op_at W u j ≡ Some (op.EvSet (object_no x)) → slice_get new_values x ≡ Some None → ⊥
    set-here j x l sets none =
        elim (cases_eq j p.position) [
          | inl now ↦ unset x (some-injective (sym is ∙ subst (λ k. op_at W u k ≡ Some (op.EvSet (object_no x))) now sets)) none
          | inr before ↦ follows.set u p j x at (omega arith) sets (keeps x none)
        ]

    pub goes-on : FollowsFlow W R news new_values
    goes-on = record {
      all = length-set units u q ∙ follows.all;
      values_all = all;
      made = λ v r e. elim (cases_eq v u) [
        | inl same ↦ (let f : slice_get news u ≡ Some r = subst (λ n. slice_get news n ≡ Some r) same e in
            subst (λ n. AtPoint W R (suc (executed news)) n r.position (memory_in r)) (sym same)
            (subst (λ (x : Progress). AtPoint W R (suc (executed news)) u x.position (memory_in x)) (is-new r f) made-here))
        | inr other ↦ (let m = one-more in points-within W R (suc (executed units)) (suc (executed news)) v r.position (memory_in r) (omega arith) (follows.made v r (was v r other e)))
      ];
      within = λ v r e. elim (cases_eq v u) [
        | inl same ↦ (let f : slice_get news u ≡ Some r = subst (λ n. slice_get news n ≡ Some r) same e in
            subst (λ n. r.position ≤ length (ops_of (body_at W n))) (sym same) (subst (λ (x : Progress). x.position ≤ length (ops_of (body_at W u))) (is-new r f) inside))
        | inr other ↦ follows.within v r (was v r other e)
      ];
      reached = λ v r e l. elim (cases_eq v u) [ inl same ↦ subst (IsReached W) (sym same) reached | inr other ↦ follows.reached v r (was v r other e) l ];
      found = λ x n e. value-within W R (executed units + 1) (executed news) x n (let m = one-more in let l : executed units + 1 ≤ executed news = omega arith in l) (found x n e);
      set = λ v r j x e l sets none. elim (cases_eq v u) [
        | inl same ↦ (let f : slice_get news u ≡ Some r = subst (λ n. slice_get news n ≡ Some r) same e in
            set-here j x (subst (λ (y : Progress). j < y.position) (sym (is-new r f)) l) (subst (λ n. op_at W n j ≡ Some (op.EvSet (object_no x))) same sets) none)
        | inr other ↦ follows.set v r j x (was v r other e) l sets (keeps x none)
      ];
    }

  -- if no value is set
  pub goes-same : ((x : ℕ) → o ≡ op.EvSet (object_no x) → ⊥) → Becomes R u (HasValue W R (executed units)) (effect o) (memory_in p) (memory_in q) → FollowsFlow W R news values
  goes-same no_set leads = goes-on values follows.values_all (λ x e. e) (λ x n e. value-within W R (executed units) (executed units + 1) x n (omega arith) (follows.found x n e))
      (λ x e none. no_set x e) leads

  pub others-same : (ready : List UnitNo) → ((v : ℕ) → v ≢ u → IsReached W v → Contains ready (unit_no v) ⊎ Rests W R units values v) → (v : ℕ) → v ≢ u → IsReached W v → Contains ready
      (unit_no v) ⊎ Rests W R news values v
  others-same ready others v other r = elim (others v other r) [ inl a ↦ inl a | inr b ↦ inr (rests-still v other b) ]

-- the next operation, if it was looked for
pub next-is : (W : Parts) (units : List Progress) (u : ℕ) (p : Progress) → slice_get units u ≡ Some p → (o : Option Op) → o ≡ op_at W u p.position → MatchOption o (HasNoneLeft W units u)
    (IsNextOperation W units u)
next-is W units u p at None e = λ q here. subst (λ (r : Progress). op_at W u r.position ≡ None) (some-injective (sym at ∙ here)) (sym e)
next-is W units u p at (Some o) e = λ q here. subst (λ (r : Progress). op_at W u r.position ≡ Some o) (some-injective (sym at ∙ here)) (sym e)
