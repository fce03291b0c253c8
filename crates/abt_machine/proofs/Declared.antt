-- What a valid workload declares, by number.
use Rattle.std.proofs.Common.{◌≡◌, ◌≢◌, ℕ, ◌<◌, ◌≤◌, List, [], ◌∷◌, Option, Some, None, IfSome, ap, arith, get_or, length, map, option_map, subst, sym}
use Rattle.std.specs.Prelude.{All, AllPairs}
use Rattle.std.proofs.lemmas.List.{length-map}
use Rattle.std.proofs.lemmas.List.Elements.{All-map, All-nil}
use Rattle.std.proofs.lemmas.Option.{slice_get-get_or, slice_get_past}
use Rattle.abt_machine.specs.declared.grammar.Format.TheVariants as format
use Rattle.abt_machine.specs.declared.numbers.PoolNo.{PoolNo}
use Rattle.abt_machine.specs.declared.numbers.SchedNo.{SchedNo}
use Rattle.abt_machine.specs.declared.operations.Body.TheVariants as body
use Rattle.abt_machine.specs.declared.operations.Op.{Op}
use Rattle.abt_machine.specs.declared.operations.Rule.{Rule}
use Rattle.abt_machine.specs.declared.operations.Rule.TheVariants as rule
use Rattle.abt_machine.specs.declared.operations.Thing.TheVariants as thing
use Rattle.abt_machine.specs.declared.workload.Parts.{Parts}
use Rattle.abt_machine.specs.declared.workload.SchedPart.{SchedPart}
use Rattle.abt_machine.specs.declared.workload.UnitPart.{UnitPart}
use Rattle.abt_machine.specs.Limits.{listed_limit, unit_operation_limit}
use Rattle.abt_machine.specs.Operations.{IsDeclared, IsMutex}
use Rattle.abt_machine.specs.Queues.{first}
use Rattle.abt_machine.specs.Sites.{home_from, first_pool}
use Rattle.abt_machine.specs.Valid.{IsBody, IsRule, IsThing, IsValid}
use Rattle.abt_machine.specs.Workloads.{IsCondition, body_at, body_from, main_of, mutex_from, mutex_of, op_at, ops_of, pools_from, pools_of, rule_of, start_from, start_of, thing_at}
use Rattle.abt_machine.proofs.Elements.{all-at, at-place, pairs-map}

-- Units.

-- what a unit is, it may be
pub body-valid : (W : Parts) (u : ℕ) → IsValid W → IsBody (length W.scheds) (body_at W u)
body-valid W u valid = at-place (λ (o : Option UnitPart). IsBody (length W.scheds) (body_from o)) W.units u tt (λ k d lt. (valid.units k d lt).kind)

-- a unit has few operations
pub few-unit-ops : (W : Parts) (u : ℕ) → IsValid W → length (ops_of (body_at W u)) ≤ unit_operation_limit format.Three
few-unit-ops W u valid = at-place (λ (o : Option UnitPart). length (ops_of (body_from o)) ≤ unit_operation_limit format.Three) W.units u (omega arith) (λ k d lt. (valid.units k d lt).few_ops)

-- what an operation of a unit names is declared
pub op-declared : (W : Parts) (u k : ℕ) (o : Op) → IsValid W → op_at W u k ≡ Some o → IsDeclared W o
op-declared W u k o valid is =
    all-at (IsDeclared W) (ops_of (body_at W u))
    (at-place (λ (p : Option UnitPart). All (IsDeclared W) (ops_of (body_from p))) W.units u (All-nil (IsDeclared W)) (λ i d lt. (valid.units i d lt).ops)) k o is

-- the scheduler that a unit is, is declared
pub sched-declared : (W : Parts) (u : ℕ) (g : SchedNo) → IsValid W → body_at W u ≡ body.Sched g → g.0 < length W.scheds
sched-declared W u g valid is = subst (IsBody (length W.scheds)) is (body-valid W u valid)

-- a unit that is not declared has no start
pub undeclared-start : (W : Parts) (u : ℕ) → length W.units ≤ u → start_of W u ≡ None
undeclared-start W u l = ap start_from (slice_get_past W.units u l)

-- a unit starts in a declared pool
pub start-declared : (W : Parts) (u p : ℕ) → IsValid W → start_of W u ≡ Some p → p < length W.pools
start-declared W u p valid =
    at-place (λ (o : Option UnitPart). start_from o ≡ Some p → p < length W.pools) W.units u (λ is. cc) (λ k d lt. started (get_or W.units k d).start (valid.units k d lt).start)
  where
    started : (o : Option PoolNo) → IfSome o (λ (q : PoolNo). q.0 < length W.pools) → option_map (λ (q : PoolNo). q.0) o ≡ Some p → p < length W.pools
    started None h is = cc
    started (Some q) h is = let same : q.0 ≡ p = cc in subst (λ (n : ℕ). n < length W.pools) same h

-- Schedulers.

-- a scheduler's rule is one
pub rule-valid : (W : Parts) (g : ℕ) (r : Rule) → IsValid W → rule_of W g ≡ Some r → IsRule r
rule-valid W g r valid =
    at-place (λ (o : Option SchedPart). option_map (λ (part : SchedPart). part.rule) o ≡ Some r → IsRule r) W.scheds g (λ is. cc)
    (λ k d lt is. let same : (get_or W.scheds k d).rule ≡ r = cc in subst IsRule same (valid.scheds k d lt).rule)

-- the pools that a scheduler lists are declared
pub listed-declared : (W : Parts) (g : ℕ) → IsValid W → All (λ p. p < length W.pools) (pools_of W g)
listed-declared W g valid =
    let P : ℕ → Type 0 = λ p. p < length W.pools in
    at-place (λ (o : Option SchedPart). All P (pools_from o)) W.scheds g (All-nil P) (λ k d lt. All-map P (λ (p : PoolNo). p.0) (get_or W.scheds k d).pools (valid.scheds k d lt).listed)

-- each is listed once
pub listed-once : (W : Parts) (g : ℕ) → IsValid W → AllPairs (λ a b. a ≢ b) (pools_of W g)
listed-once W g valid =
    at-place (λ (o : Option SchedPart). AllPairs (λ (a b : ℕ). a ≢ b) (pools_from o)) W.scheds g (λ i j d before within. absurd (omega arith))
    (λ k d lt. pairs-map (get_or W.scheds k d).pools (valid.scheds k d lt).once)

-- they are few
pub few-listed : (W : Parts) (g : ℕ) → IsValid W → length (pools_of W g) ≤ listed_limit
few-listed W g valid =
    at-place (λ (o : Option SchedPart). length (pools_from o) ≤ listed_limit) W.scheds g (omega arith)
    (λ k d lt. let few = (valid.scheds k d lt).few_pools in let long = length-map (get_or W.scheds k d).pools (λ (p : PoolNo). p.0) in omega arith)

-- a declared scheduler lists a pool
pub some-listed : (W : Parts) (g : ℕ) → IsValid W → g < length W.scheds → 0 < length (pools_of W g)
some-listed W g valid lt =
    let d : SchedPart = record { rule = rule.Basic; pools = [] } in
    let some = (valid.scheds g d lt).some_pool in
    let long = length-map (get_or W.scheds g d).pools (λ (p : PoolNo). p.0) in
    let same : length (pools_of W g) ≡ length (map (λ (p : PoolNo). p.0) (get_or W.scheds g d).pools) = ap (λ (o : Option SchedPart). length (pools_from o)) (slice_get-get_or W.scheds g d lt) in
    omega arith

-- Pools.

first-of : (P : ℕ → Type 0) (ps : List ℕ) → 0 < length ps → All P ps → P (home_from (first ps))
first-of P [] l a = absurd (omega arith)
first-of P (p ∷ ps) l a = a 0 p l

-- the pool that a main scheduler lists first is declared
pub first_pool-declared : (W : Parts) (s : ℕ) → IsValid W → s < W.streams → first_pool W s < length W.pools
first_pool-declared W s valid l =
    let g : ℕ = main_of W s in
    first-of (λ p. p < length W.pools) (pools_of W g) (some-listed W g valid (valid.streams s l).main) (listed-declared W g valid)

-- Objects.

-- the mutex of a condition is one
pub mutex-declared : (W : Parts) (x : ℕ) → IsValid W → IsCondition W x → IsMutex W (mutex_of W x)
mutex-declared W x valid is =
    let t : IsThing W.objects x (thing.Cond is.0) = valid.objects x (thing.Cond is.0) is.1 in
    subst (IsMutex W) (sym (ap (mutex_from x) is.1)) t.1

-- a barrier has a party
pub barrier-some : (W : Parts) (x n : ℕ) → IsValid W → thing_at W x ≡ Some (thing.Barrier n) → 0 < n
barrier-some W x n valid is = let t : IsThing W.objects x (thing.Barrier n) = valid.objects x (thing.Barrier n) is in t.0
