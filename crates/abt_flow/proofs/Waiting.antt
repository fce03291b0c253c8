-- The lists of those who wait for eventuals, and the table at its beginning.
use Rattle.std.proofs.Common.{Vec, ◌≡◌, ◌≢◌, ℕ, zero, suc, ◌+◌, ◌<◌, ◌≤◌, List, [], ◌∷◌, ◌++◌, length, replicate, Option, Some, None, set, length-set, refl, sym, ◌∙◌, ap, subst, arith, inl, inr}
use Rattle.std.specs.declared.alloc.Global.{Global}
use Rattle.std.specs.Prelude.{Contains, slice_get}
use Rattle.std.proofs.lemmas.Bool.{cases_eq}
use Rattle.std.proofs.lemmas.List.{length-replicate}
use Rattle.std.proofs.lemmas.List.Elements.{Contains-append_left, Contains-push, Contains-push_cases}
use Rattle.std.proofs.lemmas.Option.{slice_get_within}
use Rattle.abt_machine.specs.declared.numbers.ObjectNo.{ObjectNo}
use Rattle.abt_machine.specs.declared.numbers.UnitNo.{UnitNo}
use Rattle.abt_machine.specs.declared.operations.Op.{Op}
use Rattle.abt_machine.specs.declared.operations.Op.TheVariants as op
use Rattle.abt_machine.specs.declared.operations.Thing.TheVariants as thing
use Rattle.abt_machine.specs.declared.workload.Parts.{Parts}
use Rattle.abt_machine.specs.Numbers.{object_no, unit_no}
use Rattle.abt_machine.specs.Operations.{IsEventual}
use Rattle.abt_machine.specs.Valid.{IsValid}
use Rattle.abt_machine.specs.Workloads.{body_at, op_at, ops_of}
use Rattle.abt_machine.proofs.Declared.{op-declared}
use Rattle.abt_laws.proofs.Options.{none≢some, some-injective}
use Rattle.abt_flow.specs.declared.memory.Progress.{Progress}
use Rattle.abt_flow.specs.declared.table.Table.{Table}
use Rattle.abt_flow.specs.Flow.{AtPoint, Functions, IsReached}
use Rattle.abt_flow.specs.Tables.{AllRun, AreFresh, AwaitsValue, FollowsFlow, HasWaited, HasWaitedAll, IsFresh, Listed, Longer, executed, memory_in}
use Rattle.abt_flow.proofs.Running.{get-here, get-other, get-some}

pub awaits-value : (W : Parts) (u k : ℕ) (x : ObjectNo) (o : Option Op) → op_at W u k ≡ o → AwaitsValue o x → op_at W u k ≡ Some (op.EvWait x)
awaits-value W u k x None is h = absurd h
awaits-value W u k x (Some (op.EvWait y)) is h = is ∙ ap (λ z. Some (op.EvWait z)) h
awaits-value W u k x (Some _) is h = absurd h

pub awaited-declared : (W : Parts) (u k : ℕ) (x : ObjectNo) → IsValid W → op_at W u k ≡ Some (op.EvWait x) → x.0 < length W.objects
awaited-declared W u k x valid is = let eventual : IsEventual W x.0 = op-declared W u k (op.EvWait x) valid is in slice_get_within W.objects x.0 thing.Eventual eventual

-- One more unit in a list.

module _ (W : Parts) (waiting : List (Vec UnitNo Global)) (listed : Listed W waiting) (u : UnitNo) (reached : IsReached W u.0) (x : ℕ) (us vs : Vec UnitNo Global)
    (at : slice_get waiting x ≡ Some us) (more : vs.items ≡ us.items ++ u ∷ []) where
  abbrev new : List (Vec UnitNo Global)
  new = set waiting x vs

  here : (y : ℕ) (ws : Vec UnitNo Global) → y ≡ x → slice_get new y ≡ Some ws → vs ≡ ws
  here y ws e at-new = some-injective (sym (get-here waiting x us vs at) ∙ subst (λ z. slice_get new z ≡ Some ws) e at-new)

  there : (y : ℕ) (ws : Vec UnitNo Global) → y ≢ x → slice_get new y ≡ Some ws → slice_get waiting y ≡ Some ws
  there y ws other at-new = sym (get-other waiting x y vs other) ∙ at-new

  joined : (v : UnitNo) → Contains vs.items v → IsReached W v.0
  joined v has =
      elim (Contains-push_cases us.items u v (subst (λ (zs : List UnitNo). Contains zs v) more has)) [
        | inl old ↦ listed.reached x us v at old
        | inr same ↦ subst (λ (z : UnitNo). IsReached W z.0) same reached
      ]

  pub push-listed : Listed W new
  push-listed = record {
    all = length-set waiting x vs ∙ listed.all;
    reached = λ y ws v e has. elim (cases_eq y x) [
      | inl same ↦ joined v (subst (λ (z : Vec UnitNo Global). Contains z.items v) (sym (here y ws same e)) has)
      | inr other ↦ listed.reached y ws v (there y ws other e) has
    ];
  }

  pub push-longer : Longer waiting new
  push-longer = record {
    all = length-set waiting x vs;
    kept = λ y ks ls v was now has. elim (cases_eq y x) [
      | inl same ↦ (let a : us ≡ ks = some-injective (sym at ∙ subst (λ z. slice_get waiting z ≡ Some ks) same was) in
          let old : Contains us.items v = subst (λ (z : Vec UnitNo Global). Contains z.items v) (sym a) has in
          subst (λ (z : Vec UnitNo Global). Contains z.items v) (here y ls same now) (subst (λ (zs : List UnitNo). Contains zs v) (sym more) (Contains-append_left us.items (u ∷ []) v old)))
      | inr other ↦ subst (λ (z : Vec UnitNo Global). Contains z.items v) (some-injective (sym was ∙ there y ls other now)) has
    ];
  }

  pub push-waits : (ws : Vec UnitNo Global) → slice_get new x ≡ Some ws → Contains ws.items u
  push-waits ws e = subst (λ (z : Vec UnitNo Global). Contains z.items u) (here x ws refl e) (subst (λ (zs : List UnitNo). Contains zs u) (sym more) (Contains-push us.items u))

-- Lists that grow.

was-there : (waiting new : List (Vec UnitNo Global)) (x : ℕ) (vs : Vec UnitNo Global) → Longer waiting new → slice_get new x ≡ Some vs → (us : Vec UnitNo Global) × (slice_get waiting x ≡ Some us)
was-there waiting new x vs longer e = get-some waiting x (let l : x < length new = slice_get_within new x vs e in let f = longer.all in omega arith)

pub longer-then : (one two three : List (Vec UnitNo Global)) → Longer one two → Longer two three → Longer one three
longer-then one two three a b = record {
  all = b.all ∙ a.all;
  kept = λ x us vs v was now has. (let is = was-there two three x vs b now in b.kept x is.0 vs v is.1 now (a.kept x us is.0 v was is.1 has));
}

waited-longer : (W : Parts) (waiting new : List (Vec UnitNo Global)) (u n : ℕ) → Longer waiting new → HasWaited W waiting u n → HasWaited W new u n
waited-longer W waiting new u n longer h k l x vs is now = (let was = was-there waiting new x vs longer now in longer.kept x was.0 vs (unit_no u) was.1 now (h k l x was.0 is was.1))

pub all-longer : (W : Parts) (waiting new : List (Vec UnitNo Global)) (u : ℕ) → Longer waiting new → HasWaitedAll W waiting u → HasWaitedAll W new u
all-longer W waiting new u longer h k x vs is now = (let was = was-there waiting new x vs longer now in longer.kept x was.0 vs (unit_no u) was.1 now (h k x was.0 is was.1))

pub waited-more : (W : Parts) (waiting new : List (Vec UnitNo Global)) (u : UnitNo) (n : ℕ) (x : ObjectNo) → Longer waiting new → HasWaited W waiting u.0 n → op_at W u.0 n ≡ Some (op.EvWait x) →
    ((ws : Vec UnitNo Global) → slice_get new x.0 ≡ Some ws → Contains ws.items u) → HasWaited W new u.0 (n + 1)
waited-more W waiting new u n x longer h here waits k l y ws is now =
    elim (cases_eq k n) [
      | inl same ↦ (let e : op.EvWait x ≡ op.EvWait (object_no y) = some-injective (sym here ∙ subst (λ j. op_at W u.0 j ≡ Some (op.EvWait (object_no y))) same is) in
          let f : x ≡ object_no y = cc in waits ws (subst (λ z. slice_get new z ≡ Some ws) (sym (ap (λ (z : ObjectNo). z.0) f)) now))
      | inr other ↦ waited-longer W waiting new u.0 n longer h k (omega arith) y ws is now
    ]

pub waited-all : (W : Parts) (waiting : List (Vec UnitNo Global)) (u n : ℕ) → length (ops_of (body_at W u)) ≤ n → HasWaited W waiting u n → HasWaitedAll W waiting u
waited-all W waiting u n over h k x us is at = let l : k < length (ops_of (body_at W u)) = slice_get_within (ops_of (body_at W u)) k (op.EvWait (object_no x)) is in h k (omega arith) x us is at

-- The beginning.

get-replicate : {A : Type 0} (n k : ℕ) (v w : A) → slice_get (replicate n v) k ≡ Some w → v ≡ w
get-replicate zero k v w e = absurd (none≢some e)
get-replicate (suc n) zero v w e = some-injective e
get-replicate (suc n) (suc k) v w e = get-replicate n k v w e

begin-follows : (W : Parts) (R : Functions) (units : List Progress) → AreFresh W units (length W.units) → FollowsFlow W R units (replicate (length W.objects) None)
begin-follows W R units fresh = record {
  all = fresh.all;
  values_all = length-replicate (length W.objects) None;
  made = λ u p at. (let f : IsFresh W p = fresh.fresh u p at in subst (λ k. AtPoint W R (suc (executed units)) u k (memory_in p)) (sym f.0) f.1);
  within = λ u p at. (let f : IsFresh W p = fresh.fresh u p at in let z : p.position ≡ 0 = f.0 in omega arith);
  reached = λ u p at l. (let f : IsFresh W p = fresh.fresh u p at in let z : p.position ≡ 0 = f.0 in absurd (omega arith));
  found = λ x n e. absurd (none≢some (get-replicate (length W.objects) x None (Some n) e));
  set = λ u p j x at l. (let f : IsFresh W p = fresh.fresh u p at in let z : p.position ≡ 0 = f.0 in absurd (omega arith));
}

pub begins : (W : Parts) (R : Functions) (t : Table) → AreFresh W t.units.items (length W.units) → t.values.items ≡ replicate (length W.objects) None → Listed W t.waiting.items →
    ((v : UnitNo) → Contains t.ready.items v → HasWaitedAll W t.waiting.items v.0) →
    ((v : UnitNo) → Contains t.ready.items v → IsReached W v.0) → ((u : ℕ) → IsReached W u → Contains t.ready.items (unit_no u)) → AllRun W R t
begins W R t fresh none listed waited only every = record {
  follows = subst (FollowsFlow W R t.units.items) (sym none) (begin-follows W R t.units.items fresh);
  waits = record { all = listed.all; reached = listed.reached; waits = λ x us u k n at r is. waited (unit_no u) (every u r) k x us is at };
  ready = only;
  each = λ v r. inl (every v r);
}
