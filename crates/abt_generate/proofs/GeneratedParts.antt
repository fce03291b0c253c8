-- The generator's parts are those of a valid workload.
use Rattle.std.proofs.Common.{◌≡◌, ◌≢◌, ℕ, zero, suc, ◌<◌, ◌≤◌, ◌+◌, ◌^◌, false, List, [], ◌∷◌, ◌++◌, Some, length, map, refl, subst, arith, lit<, lit≤}
use Rattle.std.specs.Prelude.{◌%◌, AllPairs, flat_map}
use Rattle.std.specs.List.{range_with_len}
use Rattle.std.proofs.lemmas.List.Elements.{All-nil}
use Rattle.std.proofs.lemmas.List.FromFn.{length-map-range_with_len}
use Rattle.abt_machine.specs.declared.numbers.SchedNo.{SchedNo}
use Rattle.abt_machine.specs.declared.operations.Op.{Op}
use Rattle.abt_machine.specs.declared.operations.Op.TheVariants as op
use Rattle.abt_machine.specs.declared.operations.Rule.TheVariants as rule
use Rattle.abt_machine.specs.declared.operations.Thing.{Thing}
use Rattle.abt_machine.specs.declared.operations.Thing.TheVariants as thing
use Rattle.abt_machine.specs.declared.workload.Parts.{Parts}
use Rattle.abt_machine.specs.declared.workload.PoolPart.{PoolPart}
use Rattle.abt_machine.specs.declared.workload.SchedPart.{SchedPart}
use Rattle.abt_machine.specs.declared.workload.UnitPart.{UnitPart}
use Rattle.abt_machine.specs.Faults.{has_repeated}
use Rattle.abt_machine.specs.Limits.{adder_limit}
use Rattle.abt_machine.specs.Numbers.{object_no, pool_no, sched_no}
use Rattle.abt_machine.specs.Operations.{IsDeclared, said_by}
use Rattle.abt_machine.specs.Valid.{IsAccess, IsSched, IsStream, IsThing, IsUnit, IsValid, IsWord, sched_in, words_said}
use Rattle.abt_machine.specs.Words.{Text}
use Rattle.abt_machine.specs.Workloads.{ops_of, thing_at}
use Rattle.abt_machine.proofs.Distinct.{listing, once-pairs}
use Rattle.abt_generate.specs.Generated.{adder, adder_ops, adders, deque, first_ops, first_unit, generated, sched_for}
use Rattle.abt_generate.proofs.GeneratedOps.{create, join, few-ops, length-first_ops}
use Rattle.abt_generate.proofs.Lists.{Each, each-all, each-always, each-append, each-map, flat_map-nothing, none-some, some-same}

-- Operations.

length-generated : (n : ℕ) → length (generated n).units ≡ n + 1
unfolding generated
length-generated n =
    let count : length (map adder (adders n)) ≡ n = length-map-range_with_len adder 1 n in omega arith

-- what holds of each number of a range
each-range : (P : ℕ → Type 0) (a n : ℕ) → ((v : ℕ) → a ≤ v → v < a + n → P v) → Each P (range_with_len a n)
each-range P a zero h = tt
each-range P a (suc n) h = (h a (omega arith) (omega arith), each-range P (a + 1) n (λ v l k. h v (omega arith) (omega arith)))

first_ops-declared : (n : ℕ) → Each (IsDeclared (generated n)) (first_ops n)
unfolding generated
first_ops-declared n =
    let W : Parts = generated n in
    let count : length W.units ≡ n + 1 = length-generated n in
    each-append (IsDeclared W) (map create (adders n) ++ map join (adders n)) (op.Lock (object_no 0) ∷ op.Load (object_no 0) ∷ op.Print ∷ op.Unlock (object_no 0) ∷ [])
    (each-append (IsDeclared W) (map create (adders n)) (map join (adders n))
    (each-map (IsDeclared W) create (adders n) (each-range (λ v. IsDeclared W (create v)) 1 n (λ v l k. (omega arith, let small : v % 4 < 4 = omega arith in small))))
    (each-map (IsDeclared W) join (adders n) (each-range (λ v. IsDeclared W (join v)) 1 n (λ v l k. omega arith))))
    (refl, (refl, (tt, (refl, tt))))

adder_ops-declared : (n v : ℕ) → v < 2 ^ 64 → Each (IsDeclared (generated n)) (adder_ops v)
unfolding generated
adder_ops-declared n v below = (tt, (refl, (refl, ((omega arith, omega arith), (refl, (refl, tt))))))

-- Units.

first-valid : (n : ℕ) → n ≤ adder_limit → IsUnit (generated n) (first_unit n)
unfolding generated
first-valid n few =
    let count : length (first_ops n) ≡ n + n + 4 = length-first_ops n in
    record { kind = tt; few_ops = omega arith; ops = each-all (IsDeclared (generated n)) (first_ops n) (first_ops-declared n); start = lit< tt }

adder-valid : (n v : ℕ) → v < 2 ^ 64 → IsUnit (generated n) (adder v)
unfolding generated
adder-valid n v below = record { kind = tt; few_ops = lit≤ tt; ops = each-all (IsDeclared (generated n)) (adder_ops v) (adder_ops-declared n v below); start = tt }

units-valid : (n : ℕ) → n ≤ adder_limit → Each (IsUnit (generated n)) (first_unit n ∷ map adder (adders n))
units-valid n few =
    let P : UnitPart → Type 0 = IsUnit (generated n) in
    (first-valid n few, each-map P adder (adders n) (each-range (λ v. P (adder v)) 1 n (λ v l k. adder-valid n v (omega arith))))

-- no unit is a scheduler, and none says a word

no-scheds : (n : ℕ) → flat_map (λ (part : UnitPart). sched_in part.body) (generated n).units ≡ []
unfolding generated
no-scheds n = flat_map-nothing (λ (part : UnitPart). sched_in part.body) (generated n).units (refl, each-map (λ (part : UnitPart). sched_in part.body ≡ []) adder (adders n) (each-always (λ v. sched_in (adder v).body ≡ []) (λ v. refl) (adders n)))

first-silent : (n : ℕ) → flat_map said_by (first_ops n) ≡ []
first-silent n =
    let P : Op → Type 0 = λ o. said_by o ≡ [] in
    flat_map-nothing said_by (first_ops n)
    (each-append P (map create (adders n) ++ map join (adders n)) (op.Lock (object_no 0) ∷ op.Load (object_no 0) ∷ op.Print ∷ op.Unlock (object_no 0) ∷ [])
    (each-append P (map create (adders n)) (map join (adders n)) (each-map P create (adders n) (each-always (λ v. P (create v)) (λ v. refl) (adders n))) (each-map P join (adders n) (each-always (λ v. P (join v)) (λ v. refl) (adders n))))
    (refl, (refl, (refl, (refl, tt)))))

no-words : (n : ℕ) → words_said (generated n) ≡ []
unfolding generated
no-words n =
    let P : UnitPart → Type 0 = λ part. flat_map said_by (ops_of part.body) ≡ [] in
    flat_map-nothing (λ (part : UnitPart). flat_map said_by (ops_of part.body)) (generated n).units (first-silent n, each-map P adder (adders n) (each-always (λ v. P (adder v)) (λ v. refl) (adders n)))

-- Pools, schedulers, streams and the mutex.

-- a scheduler that steals lists four pools, each once
sched-valid : (seed : ℕ) (ps : List ℕ) → seed < 2 ^ 64 → length ps ≡ 4 → Each (λ p. p < 4) ps → has_repeated ps ≡ false → IsSched 4 (record { rule = rule.Randws seed; pools = map pool_no ps })
sched-valid seed ps below four listed once = listing 4 (rule.Randws seed) ps below (omega arith) (omega arith) (each-all (λ p. p < 4) ps listed) once

scheds-valid : (n : ℕ) → n ≤ adder_limit → Each (IsSched 4) (map (sched_for n) (0 ∷ 1 ∷ 2 ∷ 3 ∷ []))
scheds-valid n few = (
  sched-valid (n + 0) (0 ∷ 1 ∷ 2 ∷ 3 ∷ []) (omega arith) refl (lit< tt, (lit< tt, (lit< tt, (lit< tt, tt)))) refl,
  (
    sched-valid (n + 1) (1 ∷ 0 ∷ 2 ∷ 3 ∷ []) (omega arith) refl (lit< tt, (lit< tt, (lit< tt, (lit< tt, tt)))) refl,
    (
      sched-valid (n + 2) (2 ∷ 0 ∷ 1 ∷ 3 ∷ []) (omega arith) refl (lit< tt, (lit< tt, (lit< tt, (lit< tt, tt)))) refl,
      (sched-valid (n + 3) (3 ∷ 0 ∷ 1 ∷ 2 ∷ []) (omega arith) refl (lit< tt, (lit< tt, (lit< tt, (lit< tt, tt)))) refl, tt),
    ),
  ),
)

streams-valid : (n s : ℕ) → s < 4 → IsStream (generated n) s
unfolding generated
streams-valid n zero below = record { main = lit< tt; takes = refl }
streams-valid n (suc zero) below = record { main = lit< tt; takes = refl }
streams-valid n (suc (suc zero)) below = record { main = lit< tt; takes = refl }
streams-valid n (suc (suc (suc zero))) below = record { main = lit< tt; takes = refl }
streams-valid n (suc (suc (suc (suc s)))) below = absurd (omega arith)

objects-valid : (n x : ℕ) (t : Thing) → thing_at (generated n) x ≡ Some t → IsThing (generated n).objects x t
unfolding generated
objects-valid n zero t is = subst (IsThing (generated n).objects 0) (some-same is) tt
objects-valid n (suc x) t is = absurd (none-some is)

-- the schedulers of four streams, and no other
pub once-placed : (ps qs : List ℕ) → qs ≡ [] → ps ≡ 0 ∷ 1 ∷ 2 ∷ 3 ∷ [] → AllPairs (λ a b. a ≢ b) (ps ++ qs)
once-placed ps qs none four = rw (none, four) (once-pairs (0 ∷ 1 ∷ 2 ∷ 3 ∷ []) refl)

pub IsValid-generated : (n : ℕ) → n ≤ adder_limit → IsValid (generated n)
unfolding generated
IsValid-generated n few =
    let W : Parts = generated n in
    let count : length W.units ≡ n + 1 = length-generated n in
    record {
      some_stream = lit< tt;
      few_streams = lit≤ tt;
      few_keys = lit≤ tt;
      some_pool = lit< tt;
      few_pools = lit≤ tt;
      pools = each-all (λ (part : PoolPart). IsAccess 4 part.access) W.pools (tt, (tt, (tt, (tt, tt))));
      some_sched = lit< tt;
      few_scheds = lit≤ tt;
      scheds = each-all (IsSched 4) W.scheds (scheds-valid n few);
      mains = refl;
      streams = streams-valid n;
      one_place = once-placed _ _ (no-scheds n) refl;
      few_objects = lit≤ tt;
      objects = objects-valid n;
      few_units = omega arith;
      units = each-all (IsUnit W) W.units (units-valid n few);
      said = no-words n;
      words = All-nil IsWord;
      few_ops = few-ops n few;
    }

-- parts that are those of the generator's workload
pub parts-generated : (n : ℕ) (pools : List PoolPart) (scheds : List SchedPart) (mains : List SchedNo) (objects : List Thing) (units : List UnitPart) (words : List Text) → pools ≡ deque ∷ deque ∷ deque ∷ deque ∷ [] → scheds ≡ map (sched_for n) (0 ∷ 1 ∷ 2 ∷ 3 ∷ []) → mains ≡ sched_no 0 ∷ sched_no 1 ∷ sched_no 2 ∷ sched_no 3 ∷ [] → objects ≡ thing.Mutex ∷ [] → units ≡ first_unit n ∷ map adder (adders n) → words ≡ [] → ◌≡◌ {A = Parts} (record { streams = 4; keys = 0; pools = pools; scheds = scheds; mains = mains; objects = objects; units = units; words = words }) (generated n)
unfolding generated
parts-generated n pools scheds mains objects units words a b d e f g = rw (a, b, d, e, f, g) refl
