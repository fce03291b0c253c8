-- Small workloads of two streams: what is computed of their numbers and of their schedulers.
use Rattle.std.proofs.Common.{◌≡◌, ◌≢◌, ℕ, zero, suc, ◌<◌, List, [], ◌∷◌, slice_get, Some, sym, ◌∙◌, ap, arith, ◌≤◌, length, refl}
use Rattle.std.specs.Prelude.{All, AllPairs, option_map}
use Rattle.std.proofs.lemmas.List.Elements.{All-cons, All-from_recursion, All-nil}
use Rattle.std.proofs.lemmas.List.Kept.{AllPairs-cons}
use Rattle.abt_machine.specs.declared.grammar.Format.TheVariants as format
use Rattle.abt_machine.specs.declared.numbers.PoolNo.{PoolNo}
use Rattle.abt_machine.specs.Stored.{Stored}
use Rattle.abt_machine.specs.declared.operations.Rule.TheVariants as rule
use Rattle.abt_machine.specs.declared.operations.Thing.{Thing}
use Rattle.abt_machine.specs.declared.workload.Parts.{Parts}
use Rattle.abt_machine.specs.declared.workload.PoolPart.{PoolPart}
use Rattle.abt_machine.specs.declared.workload.SchedPart.{SchedPart}
use Rattle.abt_machine.specs.declared.workload.UnitPart.{UnitPart}
use Rattle.abt_machine.specs.Numbers.{pool_no}
use Rattle.abt_machine.specs.Limits.{object_limit, operation_limit, unit_limit}
use Rattle.abt_machine.specs.Valid.{IsAccess, IsSched, IsStream, IsThing, IsUnit, IsValid, IsWord, placed_scheds, words_said}
use Rattle.abt_machine.specs.Workloads.{all_ops, thing_at}
use Rattle.abt_machine.specs.Rounds.{OrdersStored}
use Rattle.abt_laws.specs.TwoStreams.{in_order, sharing}
use Rattle.abt_laws.proofs.Options.{none≢some}

-- what holds of 0 and of 1 holds of each number below 2
pub below-two : (P : ℕ → Type 0) → P 0 → P 1 → (k : ℕ) → k < 2 → P k
below-two P a b zero l = a
below-two P a b (suc zero) l = b
below-two P a b (suc (suc k)) l = absurd (omega arith)

-- no scheduler has two places
pub two-places : AllPairs (λ (a b : ℕ). a ≢ b) (0 ∷ 1 ∷ [])
two-places =
    AllPairs-cons (λ a b. a ≢ b) 0 (1 ∷ []) (All-cons (λ b. 0 ≢ b) 1 [] (λ e. absurd (omega arith)) (All-nil (λ b. 0 ≢ b)))
    (AllPairs-cons (λ a b. a ≢ b) 1 [] (All-nil (λ b. 1 ≢ b)) (λ i j d l m. absurd (omega arith)))

-- a scheduler that lists one of so many pools
pub one-pool : (pools p : ℕ) → p < pools → IsSched pools (in_order (pool_no p ∷ []))
one-pool pools p l = record {
  rule = tt;
  some_pool = omega arith;
  few_pools = omega arith;
  listed = All-from_recursion (λ (q : PoolNo). q.0 < pools) (pool_no p ∷ []) (l, tt);
  once = λ i j d before within. absurd (omega arith);
}

-- two schedulers that list pools in order ask for no order of the user's
pub no-order : (W : Parts) (Z : Stored) (first second : List PoolNo) → W.scheds ≡ in_order first ∷ in_order second ∷ [] → OrdersStored W Z.orders
no-order W Z first second is g k e = absurd (by g (ap (λ parts. option_map (λ (part : SchedPart). part.rule) (slice_get parts g)) (sym is) ∙ e)) where
  by : (g : ℕ) → option_map (λ (part : SchedPart). part.rule) (slice_get (in_order first ∷ in_order second ∷ []) g) ≡ Some (rule.User k) → ⊥
  by zero e = cc
  by (suc zero) e = cc
  by (suc (suc g)) e = none≢some e

-- two streams that share a pool are a workload if their objects and units are those of one
pub sharing-is-valid : (objects : List Thing) (units : List UnitPart) → AllPairs (λ (a b : ℕ). a ≢ b) (placed_scheds (sharing objects units)) →
    length objects ≤ object_limit format.Three → ((x : ℕ) (t : Thing) → thing_at (sharing objects units) x ≡ Some t → IsThing objects x t) →
    length units ≤ unit_limit format.Three → All (IsUnit (sharing objects units)) units → length (all_ops units) ≤ operation_limit format.Three → words_said (sharing objects units) ≡ [] → IsValid
    (sharing objects units)
sharing-is-valid objects units places few_objects things few_units each few_ops said = record {
  some_stream = omega arith;
  few_streams = omega arith;
  few_keys = omega arith;
  some_pool = omega arith;
  few_pools = omega arith;
  pools = All-from_recursion (λ (part : PoolPart). IsAccess 2 part.access) (sharing objects units).pools (tt, tt);
  some_sched = omega arith;
  few_scheds = omega arith;
  scheds = All-from_recursion (IsSched 1) (sharing objects units).scheds (one-pool 1 0 (omega arith), (one-pool 1 0 (omega arith), tt));
  mains = refl;
  streams = below-two (IsStream (sharing objects units)) (record { main = omega arith; takes = refl }) (record { main = omega arith; takes = refl });
  one_place = places;
  few_objects = few_objects;
  objects = things;
  few_units = few_units;
  units = each;
  few_ops = few_ops;
  said = said;
  words = All-nil IsWord;
}
