-- The workload of a graph is valid.
use Rattle.std.proofs.Common.{◌≡◌, ◌≢◌, ℕ, zero, suc, ◌<◌, ◌≤◌, ◌+◌, ◌^◌, true, List, [], ◌∷◌, ◌++◌, Option, Some, None, length, map, get_or, replicate, slice_get, refl, sym, ◌∙◌, ap, subst, arith, inl, inr, lit≤, zero-add}
use Rattle.std.specs.Prelude.{◌-◌, ◌%◌, ◌⊎◌, All, AllPairs, flat_map, min, option_map, sum_by}
use Rattle.std.specs.List.{enumerate_from, list_all, range_with_len}
use Rattle.std.proofs.Math.Nat.{min-le_left, min-le_right, le-min, mod-eq-sub-mod, mod-eq_of_lt}
use Rattle.std.proofs.lemmas.List.{get_or-replicate, length-map, length-replicate}
use Rattle.std.proofs.lemmas.List.Elements.{All-map, All-nil, All-replicate}
use Rattle.std.proofs.lemmas.List.FromFn.{get_or-map-range_with_len, length-map-range_with_len}
use Rattle.std.proofs.lemmas.Nat.{mod_below}
use Rattle.std.proofs.lemmas.Option.{slice_get-get_or, slice_get_within}
use Rattle.abt_machine.specs.declared.grammar.Format.TheVariants as format
use Rattle.abt_machine.specs.declared.numbers.PoolNo.{PoolNo}
use Rattle.abt_machine.specs.declared.numbers.SchedNo.{SchedNo}
use Rattle.abt_machine.specs.declared.numbers.UnitNo.{UnitNo}
use Rattle.abt_machine.specs.declared.operations.Access.{Access}
use Rattle.abt_machine.specs.declared.operations.Access.TheVariants as access
use Rattle.abt_machine.specs.declared.operations.Op.{Op}
use Rattle.abt_machine.specs.declared.operations.Op.TheVariants as op
use Rattle.abt_machine.specs.declared.operations.Rule.TheVariants as rule
use Rattle.abt_machine.specs.declared.operations.Thing.{Thing}
use Rattle.abt_machine.specs.declared.operations.Thing.TheVariants as thing
use Rattle.abt_machine.specs.declared.workload.Parts.{Parts}
use Rattle.abt_machine.specs.declared.workload.PoolPart.{PoolPart}
use Rattle.abt_machine.specs.declared.workload.SchedPart.{SchedPart}
use Rattle.abt_machine.specs.declared.workload.UnitPart.{UnitPart}
use Rattle.abt_machine.specs.Access.{may_take, may_take_all, takes}
use Rattle.abt_machine.specs.Limits.{key_limit, listed_limit, object_limit, operation_limit, stream_limit, unit_limit}
use Rattle.abt_machine.specs.Numbers.{object_no, pool_no, sched_no}
use Rattle.abt_machine.specs.Operations.{IsDeclared, IsEventual, said_by}
use Rattle.abt_machine.specs.Valid.{IsAccess, IsSched, IsStream, IsThing, IsUnit, IsValid, IsWord, placed_scheds, sched_in, words_said}
use Rattle.abt_machine.specs.Words.{Text, numbered}
use Rattle.abt_machine.specs.Workloads.{access_from, access_of, all_ops, main_from, main_of, ops_of, pools_from, pools_of, rule_of, thing_at}
use Rattle.abt_machine.proofs.Elements.{at-all, map-pairs}
use Rattle.abt_generate.proofs.Lists.{Each, each-all, each-always, each-map, flat_map-nothing, none-some, some-same}
use Rattle.abt_graph.specs.Graphs.{IsGraph, IsNode, op_count}
use Rattle.abt_graph.specs.Workloads.{deque, node_ops, node_unit, pool_listed, pools_listed, sched_for, workload_of}
use Rattle.abt_graph.specs.declared.nodes.Node.{Node}
use Rattle.abt_graph.proofs.GraphOps.{length-all_ops, length-node_ops, length-units}
use Rattle.abt_graph.proofs.Lists.{all-each, append-nil, mapped-some}
use Rattle.abt_graph.proofs.Units.{each-op, unit-at}

-- Numbers below a number.

-- what holds of each number below n holds of what is made of them
pub all-below : {A : Type 0} (P : A → Type 0) (f : ℕ → A) (n : ℕ) → ((i : ℕ) → i < n → P (f i)) → All P (map f (range_with_len 0 n))
all-below P f n h = λ i d within.
    let long : length (map f (range_with_len 0 n)) ≡ n = length-map-range_with_len f 0 n in
    subst P (sym (get_or-map-range_with_len f 0 n i i d (omega arith) (zero-add i))) (h i (omega arith))

-- and what holds of two of them
pub pairs-below : {A : Type 0} (Q : A → A → Type 0) (f : ℕ → A) (n : ℕ) → ((i j : ℕ) → i < j → j < n → Q (f i) (f j)) → AllPairs Q (map f (range_with_len 0 n))
pairs-below Q f n h = λ i j d before within.
    let long : length (map f (range_with_len 0 n)) ≡ n = length-map-range_with_len f 0 n in
    subst (λ x. Q x (get_or (map f (range_with_len 0 n)) j d)) (sym (get_or-map-range_with_len f 0 n i i d (omega arith) (zero-add i)))
    (subst (λ y. Q (f i) y) (sym (get_or-map-range_with_len f 0 n j j d (omega arith) (zero-add j))) (h i j before (omega arith)))

pub either : (a n : ℕ) → (a < n) ⊎ (n ≤ a)
either a zero = inr (omega arith)
either zero (suc n) = inl (omega arith)
either (suc a) (suc n) = by (either a n)
  where
    by : (a < n) ⊎ (n ≤ a) → (suc a < suc n) ⊎ (suc n ≤ suc a)
    by (inl below) = inl (omega arith)
    by (inr above) = inr (omega arith)

-- a number below the double of n, modulo n
once-round : (n a : ℕ) → a < n + n → (a % n ≡ a) ⊎ (a % n + n ≡ a)
once-round n a below = by (either a n)
  where
    by : (a < n) ⊎ (n ≤ a) → (a % n ≡ a) ⊎ (a % n + n ≡ a)
    by (inl less) = inl (mod-eq_of_lt less)
    by (inr more) =
        let once : a % n ≡ a - n = mod-eq-sub-mod more ∙ mod-eq_of_lt {n = a - n} {m = n} (omega arith) in
        inr (omega arith)

apart : (n s j k : ℕ) → s < n → j < k → k < n → (s + j) % n ≢ (s + k) % n
apart n s j k stream before few same = by (once-round n (s + j) (omega arith)) (once-round n (s + k) (omega arith)) (mod_below (s + j) n (omega arith)) (mod_below (s + k) n (omega arith))
  where
    by : ((s + j) % n ≡ s + j) ⊎ ((s + j) % n + n ≡ s + j) → ((s + k) % n ≡ s + k) ⊎ ((s + k) % n + n ≡ s + k) → (s + j) % n < n → (s + k) % n < n → ⊥
    by (inl a) (inl b) one two = let P : ⊥ = omega arith in P
    by (inl a) (inr b) one two = let P : ⊥ = omega arith in P
    by (inr a) (inl b) one two = let P : ⊥ = omega arith in P
    by (inr a) (inr b) one two = let P : ⊥ = omega arith in P

-- Pools, schedulers and streams.

-- a scheduler lists pools of the streams, each once
pools-apart : (streams s : ℕ) → s < streams → AllPairs (λ a b. a ≢ b) (pools_listed streams s)
pools-apart streams s stream =
    let few : min streams listed_limit ≤ streams = min-le_left streams listed_limit in
    pairs-below (λ (a b : ℕ). a ≢ b) (pool_listed streams s) (min streams listed_limit) (λ i j before within. apart streams s i j stream before (omega arith))

numbers-of : (ns : List ℕ) → map (λ (p : PoolNo). p.0) (map pool_no ns) ≡ ns
numbers-of [] = refl
numbers-of (n ∷ ns) = ap (λ ms. n ∷ ms) (numbers-of ns)

sched-valid : (streams s : ℕ) → streams ≤ 64 → s < streams → IsSched streams (sched_for streams s)
sched-valid streams s small stream =
    let ns : List ℕ = pools_listed streams s in
    let long : length ns ≡ min streams listed_limit = length-map-range_with_len (pool_listed streams s) 0 (min streams listed_limit) in
    let count : length (map pool_no ns) ≡ length ns = length-map ns pool_no in
    let most : min streams listed_limit ≤ listed_limit = min-le_right streams listed_limit in
    let some : 1 ≤ min streams listed_limit = le-min {k = 1} {a = streams} {b = listed_limit} (omega arith) (lit≤ tt) in
    record {
      rule = let seed : s < 2 ^ 64 = omega arith in seed;
      some_pool = omega arith;
      few_pools = omega arith;
      listed = All-map (λ (p : PoolNo). p.0 < streams) pool_no ns (all-below (λ n. n < streams) (pool_listed streams s) (min streams listed_limit) (λ k within. mod_below (s + k) streams (omega arith)));
      once = map-pairs (map pool_no ns) (subst (λ ms. AllPairs (λ a b. a ≢ b) ms) (sym (numbers-of ns)) (pools-apart streams s stream));
    }

scheds-valid : (streams : ℕ) → streams ≤ 64 → All (IsSched streams) (map (sched_for streams) (range_with_len 0 streams))
scheds-valid streams small = all-below (IsSched streams) (sched_for streams) streams (λ s stream. sched-valid streams s small stream)

-- no scheduler's order is the user's

no-user-in : (streams : ℕ) (ns : List ℕ) (g k : ℕ) → option_map (λ (part : SchedPart). part.rule) (slice_get (map (sched_for streams) ns) g) ≡ Some (rule.User k) → ⊥
no-user-in streams [] g k is = none-some is
no-user-in streams (n ∷ ns) zero k is = let e : rule.Randws n ≡ rule.User k = some-same is in cc
no-user-in streams (n ∷ ns) (suc g) k is = no-user-in streams ns g k is

pub no-user : (streams : ℕ) (nodes : List Node) (g k : ℕ) → rule_of (workload_of streams nodes) g ≡ Some (rule.User k) → ⊥
unfolding workload_of
no-user streams nodes g k is = no-user-in streams (range_with_len 0 streams) g k is

-- every pool is for all streams
open-access : (n p : ℕ) → access_from (slice_get (replicate n deque) p) ≡ access.Mpmc
open-access zero p = refl
open-access (suc n) zero = refl
open-access (suc n) (suc p) = open-access n p

takes-any : (W : Parts) (s : ℕ) → ((p : ℕ) → access_of W p ≡ access.Mpmc) → (ps : List ℕ) → list_all (may_take W s) ps ≡ true
takes-any W s all [] = refl
takes-any W s all (p ∷ ps) = rw (all p) (takes-any W s all ps)

module _ (streams : ℕ) (nodes : List Node) where
  -- scheduler s is the main one of stream s
  pub main-graph : (s : ℕ) → s < streams → main_of (workload_of streams nodes) s ≡ s
  unfolding workload_of
  main-graph s stream =
      let mains : length (map sched_no (range_with_len 0 streams)) ≡ streams = length-map-range_with_len sched_no 0 streams in
      ap main_from (slice_get-get_or (map sched_no (range_with_len 0 streams)) s (sched_no 0) (omega arith) ∙
      ap (λ g. let o : Option SchedNo = Some g in o) (get_or-map-range_with_len sched_no 0 streams s s (sched_no 0) stream (zero-add s)))

  -- and lists these pools
  pub pools-graph : (s : ℕ) → s < streams → pools_of (workload_of streams nodes) s ≡ pools_listed streams s
  unfolding workload_of
  pools-graph s stream =
      let scheds : length (map (sched_for streams) (range_with_len 0 streams)) ≡ streams = length-map-range_with_len (sched_for streams) 0 streams in
      ap (λ o. pools_from o) (slice_get-get_or (map (sched_for streams) (range_with_len 0 streams)) s (sched_for streams 0) (omega arith) ∙
      ap (λ g. let o : Option SchedPart = Some g in o) (get_or-map-range_with_len (sched_for streams) 0 streams s s (sched_for streams 0) stream (zero-add s)))
      ∙ numbers-of (pools_listed streams s)

  stream-valid : (s : ℕ) → s < streams → IsStream (workload_of streams nodes) s
  unfolding workload_of
  stream-valid s stream =
      let scheds : length (map (sched_for streams) (range_with_len 0 streams)) ≡ streams = length-map-range_with_len (sched_for streams) 0 streams in
      let main : main_of (workload_of streams nodes) s ≡ s = main-graph s stream in
      record {
        main = omega arith;
        takes = takes-any (workload_of streams nodes) s (open-access streams) (pools_of (workload_of streams nodes) (main_of (workload_of streams nodes) s));
      }

-- Eventuals.

eventual-at : (n x : ℕ) → x < n → slice_get (replicate n thing.Eventual) x ≡ Some thing.Eventual
eventual-at n x below =
    let long : length (replicate n thing.Eventual) ≡ n = length-replicate n thing.Eventual in
    slice_get-get_or (replicate n thing.Eventual) x thing.Eventual (omega arith) ∙ ap (λ t. let o : Option Thing = Some t in o) (get_or-replicate n x thing.Eventual thing.Eventual below)

is-eventual : (streams : ℕ) (nodes : List Node) (x : ℕ) → x < length nodes → IsEventual (workload_of streams nodes) x
unfolding workload_of
is-eventual streams nodes x below = eventual-at (length nodes) x below

thing-valid : (things : List Thing) (n x : ℕ) (t : Thing) → slice_get (replicate n thing.Eventual) x ≡ Some t → IsThing things x t
thing-valid things n x t is =
    let below : x < length (replicate n thing.Eventual) = slice_get_within (replicate n thing.Eventual) x t is in
    let long : length (replicate n thing.Eventual) ≡ n = length-replicate n thing.Eventual in
    let same : thing.Eventual ≡ t = some-same (sym (eventual-at n x (omega arith)) ∙ is) in
    subst (IsThing things x) same tt

objects-valid : (streams : ℕ) (nodes : List Node) (x : ℕ) (t : Thing) → thing_at (workload_of streams nodes) x ≡ Some t → IsThing (workload_of streams nodes).objects x t
unfolding workload_of
objects-valid streams nodes x t is = thing-valid (workload_of streams nodes).objects (length nodes) x t is

-- Units.

key-declared : (streams : ℕ) (nodes : List Node) (k : ℕ) → k < key_limit → IsDeclared (workload_of streams nodes) (op.KeySet k)
unfolding workload_of
key-declared streams nodes k below = below

ops-declared : (streams : ℕ) (nodes : List Node) (u : ℕ) (node : Node) → u < length nodes → IsNode u node → Each (IsDeclared (workload_of streams nodes)) (node_ops u node)
ops-declared streams nodes u node below is =
    let W : Parts = workload_of streams nodes in
    let few : length node.after ≤ 16 = is.few in
    let called : node.function < 8 = is.function in
    each-op (IsDeclared W) u node
    (all-each (λ (x : UnitNo). IsDeclared W (op.EvWait (object_no x.0))) node.after (λ i d within. let earlier : (get_or node.after i d).0 < u = is.earlier i d within in is-eventual streams nodes (get_or node.after i d).0 (omega arith)))
    (λ j within. key-declared streams nodes j (omega arith))
    (omega arith, omega arith) (omega arith, omega arith) tt (is-eventual streams nodes u below)

unit-valid : (streams : ℕ) (nodes : List Node) (u : ℕ) (node : Node) → 0 < streams → u < length nodes → IsNode u node → IsUnit (workload_of streams nodes) (node_unit streams u node)
unfolding workload_of
unit-valid streams nodes u node some below is =
    let few : length node.after ≤ 16 = is.few in
    let count : length (node_ops u node) ≡ op_count node = length-node_ops u node in
    let pools : length (replicate streams deque) ≡ streams = length-replicate streams deque in
    let start : u % streams < streams = mod_below u streams some in
    record {
      kind = tt;
      few_ops = omega arith;
      ops = each-all (IsDeclared (workload_of streams nodes)) (node_ops u node) (ops-declared streams nodes u node below is);
      start = let there : u % streams < length (replicate streams deque) = omega arith in there;
    }

units-valid : (streams : ℕ) (nodes : List Node) → 0 < streams → IsGraph nodes → All (IsUnit (workload_of streams nodes)) (workload_of streams nodes).units
units-valid streams nodes some is =
    at-all (IsUnit (workload_of streams nodes)) (workload_of streams nodes).units (λ u part at.
    let made = mapped-some (node_unit streams u) (slice_get nodes u) part (sym (unit-at streams nodes u) ∙ at) in
    subst (IsUnit (workload_of streams nodes)) made.2 (unit-valid streams nodes u made.0 some (slice_get_within nodes u made.0 made.1) (is.each u made.0 made.1)))

-- no unit is a scheduler, and none says a word

no-scheds : (streams : ℕ) (nodes : List Node) → flat_map (λ (part : UnitPart). sched_in part.body) (workload_of streams nodes).units ≡ []
unfolding workload_of
no-scheds streams nodes =
    let P : UnitPart → Type 0 = λ part. sched_in part.body ≡ [] in
    flat_map-nothing (λ (part : UnitPart). sched_in part.body) (numbered (node_unit streams) nodes) (each-map P (λ p. node_unit streams p.0 p.1) (enumerate_from 0 nodes) (each-always (λ p. P (node_unit streams p.0 p.1)) (λ p. refl) (enumerate_from 0 nodes)))

node-silent : (u : ℕ) (node : Node) → flat_map said_by (node_ops u node) ≡ []
node-silent u node =
    let P : Op → Type 0 = λ o. said_by o ≡ [] in
    flat_map-nothing said_by (node_ops u node) (each-op P u node (each-always (λ (x : UnitNo). P (op.EvWait (object_no x.0))) (λ x. refl) node.after) (λ j below. refl) refl refl refl refl)

no-words : (streams : ℕ) (nodes : List Node) → words_said (workload_of streams nodes) ≡ []
unfolding workload_of
no-words streams nodes =
    let P : UnitPart → Type 0 = λ part. flat_map said_by (ops_of part.body) ≡ [] in
    flat_map-nothing (λ (part : UnitPart). flat_map said_by (ops_of part.body)) (numbered (node_unit streams) nodes) (each-map P (λ p. node_unit streams p.0 p.1) (enumerate_from 0 nodes) (each-always (λ p. P (node_unit streams p.0 p.1)) (λ p. node-silent p.0 p.1) (enumerate_from 0 nodes)))

-- the schedulers are the main ones of streams, each of one

main-numbers : (ns : List ℕ) → map (λ (g : SchedNo). g.0) (map sched_no ns) ≡ map (λ n. n) ns
main-numbers [] = refl
main-numbers (n ∷ ns) = ap (λ ms. n ∷ ms) (main-numbers ns)

once-placed : (streams : ℕ) (nodes : List Node) → AllPairs (λ a b. a ≢ b) (placed_scheds (workload_of streams nodes))
unfolding workload_of
once-placed streams nodes =
    let numbers : List ℕ = range_with_len 0 streams in
    let placed : placed_scheds (workload_of streams nodes) ≡ map (λ n. n) numbers =
    ap (λ gs. map (λ (g : SchedNo). g.0) (map sched_no numbers) ++ gs) (no-scheds streams nodes) ∙ (append-nil (map (λ (g : SchedNo). g.0) (map sched_no numbers)) ∙ main-numbers numbers) in
    subst (λ ns. AllPairs (λ a b. a ≢ b) ns) (sym placed) (pairs-below (λ (a b : ℕ). a ≢ b) (λ n. n) streams (λ i j before within same. let P : ⊥ = omega arith in P))

pub IsValid-graph : (streams : ℕ) (nodes : List Node) → 0 < streams → streams ≤ 64 → IsGraph nodes → IsValid (workload_of streams nodes)
unfolding workload_of
IsValid-graph streams nodes some small is =
    let W : Parts = workload_of streams nodes in
    let few : length nodes ≤ unit_limit format.Three = is.few in
    let pools : length (replicate streams deque) ≡ streams = length-replicate streams deque in
    let scheds : length (map (sched_for streams) (range_with_len 0 streams)) ≡ streams = length-map-range_with_len (sched_for streams) 0 streams in
    let objects : length (replicate (length nodes) thing.Eventual) ≡ length nodes = length-replicate (length nodes) thing.Eventual in
    let ops : length (all_ops W.units) ≡ sum_by op_count nodes = length-all_ops streams nodes in
    let few_ops : sum_by op_count nodes ≤ operation_limit format.Three = is.few_ops in
    let units : length W.units ≡ length nodes = length-units streams nodes in
    record {
      some_stream = some;
      few_streams = small;
      few_keys = lit≤ tt;
      some_pool = omega arith;
      few_pools = omega arith;
      pools = All-replicate (λ (part : PoolPart). IsAccess streams part.access) streams deque tt;
      some_sched = omega arith;
      few_scheds = omega arith;
      scheds = subst (λ n. All (IsSched n) (map (sched_for streams) (range_with_len 0 streams))) (sym pools) (scheds-valid streams small);
      mains = length-map-range_with_len sched_no 0 streams;
      streams = stream-valid streams nodes;
      one_place = once-placed streams nodes;
      few_objects = omega arith;
      objects = objects-valid streams nodes;
      few_units = omega arith;
      units = units-valid streams nodes some is;
      few_ops = omega arith;
      said = no-words streams nodes;
      words = All-nil IsWord;
    }

-- parts that are those of a graph
pub parts-graph : (streams : ℕ) (nodes : List Node) (pools : List PoolPart) (scheds : List SchedPart) (mains : List SchedNo) (objects : List Thing) (units : List UnitPart) (words : List Text) → pools ≡ replicate streams deque →
    scheds ≡ map (sched_for streams) (range_with_len 0 streams) → mains ≡ map sched_no (range_with_len 0 streams) → objects ≡ replicate (length nodes) thing.Eventual → units ≡ numbered (node_unit streams) nodes → words ≡ [] →
    ◌≡◌ {A = Parts} (record { streams = streams; keys = key_limit; pools = pools; scheds = scheds; mains = mains; objects = objects; units = units; words = words }) (workload_of streams nodes)
unfolding workload_of
parts-graph streams nodes pools scheds mains objects units words a b d e f g = rw (a, b, d, e, f, g) refl
