-- The units of a graph, and their operations.
use Rattle.std.proofs.Common.{◌≡◌, ℕ, zero, suc, ◌+◌, List, [], ◌∷◌, ◌++◌, Option, Some, None, length, map, slice_get, refl, sym, ◌∙◌, ◌<◌, ap, subst, arith, append_assoc, add-zero, zero-add}
use Rattle.std.specs.Prelude.{option_map}
use Rattle.std.specs.List.{enumerate_from}
use Rattle.abt_machine.specs.declared.numbers.UnitNo.{UnitNo}
use Rattle.abt_machine.specs.declared.operations.Op.{Op}
use Rattle.abt_machine.specs.declared.operations.Op.TheVariants as op
use Rattle.abt_machine.specs.Numbers.{object_no}
use Rattle.abt_machine.specs.Words.{numbered}
use Rattle.abt_machine.specs.Workloads.{body_at, body_from, op_at, ops_of}
use Rattle.abt_generate.proofs.Lists.{Each, each-append, none-some}
use Rattle.abt_graph.specs.Workloads.{fetch_ops, node_ops, node_unit, workload_of}
use Rattle.abt_graph.specs.declared.nodes.Node.{Node}

numbered-from : {A B : Type 0} (g : ℕ → A → B) (n : ℕ) (xs : List A) (u : ℕ) → slice_get (map (λ p. g p.0 p.1) (enumerate_from n xs)) u ≡ option_map (g (n + u)) (slice_get xs u)
numbered-from g n [] u = refl
numbered-from {A} {B} g n (x ∷ xs) zero = ap (λ k. let o : Option B = Some (g k x) in o) (sym (add-zero n))
numbered-from g n (x ∷ xs) (suc u) = numbered-from g (n + 1) xs u ∙ ap (λ k. option_map (g k) (slice_get xs u)) (let e : (n + 1) + u ≡ n + suc u = omega arith in e)

-- what is made of the element at a place and its number
pub numbered-at : {A B : Type 0} (g : ℕ → A → B) (xs : List A) (u : ℕ) → slice_get (numbered g xs) u ≡ option_map (g u) (slice_get xs u)
numbered-at g xs u = numbered-from g 0 xs u ∙ ap (λ k. option_map (g k) (slice_get xs u)) (zero-add u)

pub unit-at : (streams : ℕ) (nodes : List Node) (u : ℕ) → slice_get (workload_of streams nodes).units u ≡ option_map (node_unit streams u) (slice_get nodes u)
unfolding workload_of
unit-at streams nodes u = numbered-at (node_unit streams) nodes u

pub ops-at : (streams : ℕ) (nodes : List Node) (u : ℕ) (node : Node) → slice_get nodes u ≡ Some node → ops_of (body_at (workload_of streams nodes) u) ≡ node_ops u node
ops-at streams nodes u node is = ap (λ o. ops_of (body_from o)) (unit-at streams nodes u ∙ ap (option_map (node_unit streams u)) is)

-- a node for places where there is none
abbrev pub no_node : Node
no_node = record { function = 0; after = [] }

found-op : (streams u k : ℕ) (o : Op) (found : Option Node) → slice_get (ops_of (body_from (option_map (node_unit streams u) found))) k ≡ Some o → (node : Node) × (found ≡ Some node) × (slice_get (node_ops u node) k ≡ Some o)
found-op streams u k o None is = absurd (none-some is)
found-op streams u k o (Some node) is = (node, refl, is)

-- an operation is one of a node
pub op-of-node : (streams : ℕ) (nodes : List Node) (u k : ℕ) (o : Op) → op_at (workload_of streams nodes) u k ≡ Some o → (node : Node) × (slice_get nodes u ≡ Some node) × (slice_get (node_ops u node) k ≡ Some o)
op-of-node streams nodes u k o is = found-op streams u k o (slice_get nodes u) (subst (λ part. slice_get (ops_of (body_from part)) k ≡ Some o) (unit-at streams nodes u) is)

-- The operations before the last.

abbrev pub first_ops : Node → List Op
first_ops node = fetch_ops 0 node.after ++ op.Set (length node.after) ∷ op.Call node.function ∷ op.Print ∷ []

pub ops-end-in-set : (u : ℕ) (node : Node) → node_ops u node ≡ first_ops node ++ op.EvSet (object_no u) ∷ []
ops-end-in-set u node = sym (append_assoc (fetch_ops 0 node.after) (op.Set (length node.after) ∷ op.Call node.function ∷ op.Print ∷ []) (op.EvSet (object_no u) ∷ []))

-- what holds of waits and of keys that are set holds of the operations that keep values
each-fetch : (P : Op → Type 0) (k : ℕ) (after : List UnitNo) → Each (λ (x : UnitNo). P (op.EvWait (object_no x.0))) after → ((j : ℕ) → j < k + length after → P (op.KeySet j)) → Each P (fetch_ops k after)
each-fetch P k [] waits keeps = tt
each-fetch P k (x ∷ after) waits keeps = (waits.0, (keeps k (omega arith), each-fetch P (suc k) after waits.1 (λ j below. keeps j (omega arith))))

-- and if it holds of the others, of all
pub each-op : (P : Op → Type 0) (u : ℕ) (node : Node) → Each (λ (x : UnitNo). P (op.EvWait (object_no x.0))) node.after → ((j : ℕ) → j < length node.after → P (op.KeySet j)) →
    P (op.Set (length node.after)) → P (op.Call node.function) → P op.Print → P (op.EvSet (object_no u)) → Each P (node_ops u node)
each-op P u node waits keeps counts calls prints sets =
    each-append P (fetch_ops 0 node.after) (op.Set (length node.after) ∷ op.Call node.function ∷ op.Print ∷ op.EvSet (object_no u) ∷ [])
    (each-fetch P 0 node.after waits (λ j below. keeps j (omega arith))) (counts, (calls, (prints, (sets, tt))))

pub each-first : (P : Op → Type 0) (node : Node) → Each (λ (x : UnitNo). P (op.EvWait (object_no x.0))) node.after → ((j : ℕ) → P (op.KeySet j)) →
    P (op.Set (length node.after)) → P (op.Call node.function) → P op.Print → Each P (first_ops node)
each-first P node waits keeps counts calls prints =
    each-append P (fetch_ops 0 node.after) (op.Set (length node.after) ∷ op.Call node.function ∷ op.Print ∷ [])
    (each-fetch P 0 node.after waits (λ j below. keeps j)) (counts, (calls, (prints, tt)))
