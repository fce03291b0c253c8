-- What a step leaves of its program, and that this carries the tie of programs and places on.
use Rattle.std.proofs.Common.{◌≡◌, ◌≢◌, ℕ, suc, ◌<◌, false, Some, None, refl, sym, ◌∙◌, ap, subst, arith, ◌⊎◌, inl, inr}
use Rattle.std.proofs.lemmas.Bool.{cases_eq}
use Rattle.abt_machine.specs.declared.events.Place.{Place}
use Rattle.abt_machine.specs.declared.events.Place.TheVariants as place
use Rattle.abt_machine.specs.declared.numbers.PoolNo.{PoolNo}
use Rattle.abt_machine.specs.declared.operations.Op.{Op}
use Rattle.abt_machine.specs.declared.operations.Op.TheVariants as op
use Rattle.abt_machine.specs.declared.workload.Parts.{Parts}
use Rattle.abt_machine.specs.Numbers.{object_no, unit_no}
use Rattle.abt_machine.specs.State.{State}
use Rattle.abt_machine.specs.Workloads.{op_at, start_of}
use Rattle.abt_laws.proofs.Options.{some-injective}
use Rattle.abt_flow.proofs.Points.{points-within}
use Rattle.abt_flow.proofs.Tells.{Before, Flowing, GoesOn, IsCreated, IsSet, Tells, memory_of}
use Rattle.abt_flow.specs.Flow.{Functions}

-- unit u has done its operation o
pub record Stepped (W : Parts) (R : Functions) (t : ℕ) (S T : State) (u : ℕ) (o : Op) : Type 0 where
  pub units : (v : ℕ) → Tells W R (suc t) v (T.carried v) (T.place v)
  pub own : (T.carried u).position ≡ suc (S.carried u).position
  pub others : (v : ℕ) → v ≢ u → (T.carried v).position ≡ (S.carried v).position
  -- who is unborn stays so, but whom the operation creates
  pub unborn : (v : ℕ) → S.place v ≡ place.Unborn → (T.place v ≡ place.Unborn) ⊎ ((p : PoolNo) × (o ≡ op.Create (unit_no v) p))
  pub stays : (v : ℕ) → T.place v ≡ place.Unborn → S.place v ≡ place.Unborn
  pub creates : (v : ℕ) (p : PoolNo) → o ≡ op.Create (unit_no v) p → T.place v ≡ place.Unborn → ⊥
  pub values : (x n : ℕ) → T.eventual x ≡ Some n → (S.eventual x ≡ Some n) ⊎ ((o ≡ op.EvSet (object_no x)) × ((S.carried u).acc ≡ n))
  pub calm : (v : ℕ) → (T.desk v).cancel ≡ false
  pub marks : (s : ℕ) → GoesOn (T.stream s).mark

pub is_unborn-cases : (pl : Place) → (pl ≡ place.Unborn) ⊎ (pl ≡ place.Unborn → ⊥)
is_unborn-cases place.Unborn = inl refl
is_unborn-cases (place.Pool p k) = inr (λ e. cc)
is_unborn-cases (place.Hand s) = inr (λ e. cc)
is_unborn-cases (place.Next s) = inr (λ e. cc)
is_unborn-cases (place.Tray s k) = inr (λ e. cc)
is_unborn-cases (place.Frame s k) = inr (λ e. cc)
is_unborn-cases (place.Blocked x k) = inr (λ e. cc)
is_unborn-cases (place.Ended c) = inr (λ e. cc)

module _ (W : Parts) (R : Functions) (t : ℕ) (S T : State) (u : ℕ) (o : Op) (flowing : Flowing W R t S) (is : op_at W u (S.carried u).position ≡ Some o) (before : Before W R t u (S.carried u))
    (stepped : Stepped W R t S T u o) where
  -- positions don't fall
  grows : (v k : ℕ) → k < (S.carried v).position → k < (T.carried v).position
  grows v k l =
      elim (cases_eq v u) [
        | inl same ↦ subst (λ n. k < (T.carried n).position) (sym same) (let own = stepped.own in let m : k < (S.carried u).position = subst (λ n. k < (S.carried n).position) same l in omega arith)
        | inr other ↦ (let e = stepped.others v other in omega arith)
      ]

  -- what is behind a unit was so, or is its operation now
  pub behind : (v k : ℕ) → k < (T.carried v).position → (k < (S.carried v).position) ⊎ ((v ≡ u) × (k ≡ (S.carried u).position))
  behind v k l =
      elim (cases_eq v u) [
        | inl same ↦ (let own = stepped.own in let m : k < (T.carried u).position = subst (λ n. k < (T.carried n).position) same l in
            elim (cases_eq k (S.carried u).position) [
              | inl here ↦ inr (same, here)
              | inr away ↦ inl (subst (λ n. k < (S.carried n).position) (sym same) (let n : k < (S.carried u).position = omega arith in n))
            ])
        | inr other ↦ inl (let e = stepped.others v other in omega arith)
      ]

  set-more : (x n : ℕ) → IsSet W R t S x n → IsSet W R (suc t) T x n
  set-more x n set = record {
    setter = set.setter;
    at = set.at;
    memory = set.memory;
    reached = set.reached;
    sets = set.sets;
    made = points-within W R t (suc t) set.setter set.at set.memory
        (omega arith) set.made;
    value = set.value;
    behind = grows set.setter set.at set.behind;
  }

  set-now : (x n : ℕ) → (o ≡ op.EvSet (object_no x)) → ((S.carried u).acc ≡ n) → IsSet W R (suc t) T x n
  set-now x n sets acc = record {
    setter = u;
    at = (S.carried u).position;
    memory = memory_of (S.carried u);
    reached = before.0;
    sets = is ∙ ap (λ p. Some p) sets;
    made = before.1;
    value = acc;
    behind = let own = stepped.own in omega arith;
  }

  valued : (x n : ℕ) → T.eventual x ≡ Some n → IsSet W R (suc t) T x n
  valued x n e = elim (stepped.values x n e) [ inl was ↦ set-more x n (flowing.values x n was) | inr now ↦ set-now x n now.0 now.1 ]

  bears : (v : ℕ) → IsCreated W T v → T.place v ≡ place.Unborn → ⊥
  bears v c e =
      elim (behind c.creator c.at c.behind) [
        | inl was ↦ flowing.born v (record { creator = c.creator; at = c.at; pool = c.pool; creates = c.creates; behind = was }) (stepped.stays v e)
        | inr now ↦ stepped.creates v c.pool
            (some-injective (sym is ∙ subst (λ k. op_at W u k ≡ Some (op.Create (unit_no v) c.pool)) now.1 (subst (λ w. op_at W w c.at ≡ Some (op.Create (unit_no v) c.pool)) now.0 c.creates))) e
      ]

  creation-more : (v : ℕ) → IsCreated W S v → IsCreated W T v
  creation-more v c = record { creator = c.creator; at = c.at; pool = c.pool; creates = c.creates; behind = grows c.creator c.at c.behind }

  creation-now : (v : ℕ) (p : PoolNo) → o ≡ op.Create (unit_no v) p → IsCreated W T v
  creation-now v p e = record { creator = u; at = (S.carried u).position; pool = p; creates = is ∙ ap (λ q. Some q) e; behind = let own = stepped.own in omega arith }

  creation : (v : ℕ) → (T.place v ≡ place.Unborn → ⊥) → start_of W v ≡ None → IsCreated W T v
  creation v there late =
      elim (is_unborn-cases (S.place v)) [
        | inr was ↦ creation-more v (flowing.created v was late)
        | inl unborn ↦ elim (stepped.unborn v unborn) [ inl still ↦ absurd (there still) | inr now ↦ creation-now v now.0 now.1 ]
      ]

  pub steps-on : Flowing W R (suc t) T
  steps-on = record { units = stepped.units; values = valued; born = bears; created = creation; calm = stepped.calm; marks = stepped.marks }
