-- Graphs are confluent, and call the functions that their nodes name.
use Rattle.std.proofs.Common.{◌≡◌, ◌<◌, ℕ, zero, suc, List, [], ◌∷◌, ◌++◌, Option, Some, None, length, slice_get, refl, sym, ◌∙◌, ap, subst}
use Rattle.std.specs.Prelude.{⊤, IsSome}
use Rattle.std.proofs.lemmas.Bool.{true≢false}
use Rattle.abt_machine.specs.declared.numbers.ObjectNo.{ObjectNo}
use Rattle.abt_machine.specs.declared.numbers.PoolNo.{PoolNo}
use Rattle.abt_machine.specs.declared.numbers.UnitNo.{UnitNo}
use Rattle.abt_machine.specs.declared.operations.Op.{Op}
use Rattle.abt_machine.specs.declared.operations.Op.TheVariants as op
use Rattle.abt_machine.specs.Numbers.{object_no}
use Rattle.abt_machine.specs.Stored.{CallsStored, Stored}
use Rattle.abt_machine.specs.Workloads.{op_at}
use Rattle.abt_bounds.specs.Laws.{HasNoFreeCall}
use Rattle.abt_flow.specs.Confluent.{Confluent, IsSettled}
use Rattle.abt_flow.specs.Effects.{effect}
use Rattle.abt_generate.proofs.Lists.{Each, each-always, each-at, none-some, some-same}
use Rattle.abt_graph.specs.Graphs.{HasFunctions}
use Rattle.abt_graph.specs.Workloads.{node_ops, workload_of}
use Rattle.abt_graph.specs.declared.nodes.Node.{Node}
use Rattle.abt_graph.proofs.Units.{each-first, each-op, first_ops, op-of-node, ops-end-in-set}

-- the eventual that an operation sets
abbrev set_by : Op → Option ℕ
set_by (op.EvSet x) = Some x.0
set_by _ = None

-- the unit that an operation creates
abbrev created_by : Op → Option ℕ
created_by (op.Create v p) = Some v.0
created_by _ = None

-- a set behind operations that set nothing
last-sets : (xs : List Op) (y : Op) (k : ℕ) (x : ObjectNo) → Each (λ o. set_by o ≡ None) xs → slice_get (xs ++ y ∷ []) k ≡ Some (op.EvSet x) → (k ≡ length xs) × (y ≡ op.EvSet x)
last-sets [] y zero x none is = (refl, some-same is)
last-sets [] y (suc k) x none is = absurd (none-some is)
last-sets (z ∷ xs) y zero x none is = absurd (none-some (sym none.0 ∙ ap set_by (some-same is)))
last-sets (z ∷ xs) y (suc k) x none is =
    let rest : (k ≡ length xs) × (y ≡ op.EvSet x) = last-sets xs y k x none.1 is in (ap (λ n. suc n) rest.0, rest.1)

-- what an operation calls
abbrev CallsOnly : ℕ → Op → Type 0
CallsOnly g (op.Call f) = f ≡ g
CallsOnly g _ = ⊤

module _ (streams : ℕ) (nodes : List Node) where
  -- eventual x is set by node x alone, by its last operation
  pub set-by-its-node : (u k : ℕ) (x : ObjectNo) → op_at (workload_of streams nodes) u k ≡ Some (op.EvSet x) → (node : Node) × (slice_get nodes u ≡ Some node) × (k ≡ length (first_ops node)) × (u ≡ x.0)
  set-by-its-node u k x is =
      let found = op-of-node streams nodes u k (op.EvSet x) is in
      let node : Node = found.0 in
      let none : Each (λ o. set_by o ≡ None) (first_ops node) = each-first (λ o. set_by o ≡ None) node (each-always (λ (y : UnitNo). set_by (op.EvWait (object_no y.0)) ≡ None) (λ y. refl) node.after) (λ j. refl) refl refl refl in
      let last : (k ≡ length (first_ops node)) × (op.EvSet (object_no u) ≡ op.EvSet x) = last-sets (first_ops node) (op.EvSet (object_no u)) k x none (subst (λ ops. slice_get ops k ≡ Some (op.EvSet x)) (ops-end-in-set u node) found.2) in
      (node, found.1, last.0, some-same (ap set_by last.1))

  settled : (u k : ℕ) (o : Op) → op_at (workload_of streams nodes) u k ≡ Some o → IsSettled (effect o)
  settled u k o is =
      let found = op-of-node streams nodes u k o is in
      let P : Op → Type 0 = λ p. IsSettled (effect p) in
      each-at P (node_ops u found.0) (each-op P u found.0 (each-always (λ (x : UnitNo). P (op.EvWait (object_no x.0))) (λ x. tt) found.0.after) (λ j below. tt) tt tt tt tt) k o found.2

  pub creates-none : (u k : ℕ) (v : UnitNo) (p : PoolNo) → op_at (workload_of streams nodes) u k ≡ Some (op.Create v p) → ⊥
  creates-none u k v p is =
      let found = op-of-node streams nodes u k (op.Create v p) is in
      let P : Op → Type 0 = λ o. created_by o ≡ None in
      none-some (sym (each-at P (node_ops u found.0) (each-op P u found.0 (each-always (λ (x : UnitNo). P (op.EvWait (object_no x.0))) (λ x. refl) found.0.after) (λ j below. refl) refl refl refl refl) k (op.Create v p) found.2))

  -- a call is of the function of its node
  calls-its-function : (u k f : ℕ) → op_at (workload_of streams nodes) u k ≡ Some (op.Call f) → (node : Node) × (slice_get nodes u ≡ Some node) × (f ≡ node.function)
  calls-its-function u k f is =
      let found = op-of-node streams nodes u k (op.Call f) is in
      let P : Op → Type 0 = CallsOnly found.0.function in
      (found.0, found.1, each-at P (node_ops u found.0) (each-op P u found.0 (each-always (λ (x : UnitNo). P (op.EvWait (object_no x.0))) (λ x. tt) found.0.after) (λ j below. tt) tt refl tt tt) k (op.Call f) found.2)

  same-node : (u v : ℕ) (one two : Node) → u ≡ v → slice_get nodes u ≡ Some one → slice_get nodes v ≡ Some two → one ≡ two
  same-node u v one two e a b = some-same (sym a ∙ (ap (slice_get nodes) e ∙ b))

  sets-once : (u v k j : ℕ) (x : ObjectNo) → op_at (workload_of streams nodes) u k ≡ Some (op.EvSet x) → op_at (workload_of streams nodes) v j ≡ Some (op.EvSet x) → (u ≡ v) × (k ≡ j)
  sets-once u v k j x a b =
      let one = set-by-its-node u k x a in
      let two = set-by-its-node v j x b in
      let same : u ≡ v = one.3 ∙ sym two.3 in
      (same, one.2 ∙ (ap (λ node. length (first_ops node)) (same-node u v one.0 two.0 same one.1 two.1) ∙ sym two.2))

  pub Confluent-graph : Confluent (workload_of streams nodes)
  Confluent-graph = record {
    ops = settled;
    sets_once = sets-once;
    creates_once = λ u v k j t p q a b. absurd (creates-none u k t p a);
    creates_later = λ u k t p a. absurd (creates-none u k t p a);
    creates_open = λ u k t p a. absurd (creates-none u k t p a);
  }

  -- Calls.

  -- it calls no function that is not there
  pub CallsStored-graph : (Z : Stored) (count : ℕ) → HasFunctions nodes count Z.returns → CallsStored (workload_of streams nodes) count
  CallsStored-graph Z count has u k f is =
      let call = calls-its-function u k f is in
      subst (λ g. g < count) (sym call.2) (has u call.0 call.1).stored

  some-word : (o : Option ℕ) → IsSome o → (n : ℕ) × (o ≡ Some n)
  some-word None is = absurd (true≢false (sym is))
  some-word (Some n) is = (n, refl)

  -- nor one that may return any word
  pub HasNoFreeCall-graph : (Z : Stored) (count : ℕ) → HasFunctions nodes count Z.returns → HasNoFreeCall (workload_of streams nodes) Z
  HasNoFreeCall-graph Z count has u k f a ks is =
      let call = calls-its-function u k f is in
      subst (λ g. (n : ℕ) × (Z.returns g u a ks ≡ Some n)) (sym call.2) (some-word (Z.returns call.0.function u a ks) ((has u call.0 call.1).one u a ks))
