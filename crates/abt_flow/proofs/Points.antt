-- Memories at points: more points do no harm, and one more operation leads on.
use Rattle.std.proofs.Common.{◌≡◌, ℕ, zero, suc, ◌≤◌, Option, Some, None, sym, subst, arith}
use Rattle.abt_machine.specs.declared.operations.Op.{Op}
use Rattle.abt_machine.specs.declared.workload.Parts.{Parts}
use Rattle.abt_machine.specs.Workloads.{op_at}
use Rattle.abt_flow.specs.Effects.{Memory, FlowEffect, Computes, Calls, Awaits, Depends, effect}
use Rattle.abt_flow.specs.Flow.{AtPoint, Becomes, Executes, Functions, Made, SetsTo}

-- values that are found may be found in another way.

module _ (R : Functions) (Found Other : ℕ → ℕ → Type 0) (then : (x n : ℕ) → Found x n → Other x n) where
  pub leads-then : (u : ℕ) (e : FlowEffect) (old new : Memory) → Becomes R u Found e old new → Becomes R u Other e old new
  leads-then u (Computes f) old new h = h
  leads-then u (Calls f) old new h = h
  leads-then u (Awaits x) old new h = (h.0, then x h.0 h.1, h.2)
  leads-then u Depends old new h = h

  does-then : (u : ℕ) (o : Option Op) (old new : Memory) → Executes R u Found o old new → Executes R u Other o old new
  does-then u None old new h = h
  does-then u (Some o) old new h = leads-then u (effect o) old new h

  made-then : (W : Parts) (u k : ℕ) (m : Memory) → Made W R Found u k m → Made W R Other u k m
  made-then W u zero m h = h
  made-then W u (suc k) m h = (h.0, made-then W u k h.0 h.1, does-then u (op_at W u k) h.0 m h.2)

sets-then : (W : Parts) (At Other : ℕ → ℕ → Memory → Type 0) → ((u k : ℕ) (m : Memory) → At u k m → Other u k m) → (x n : ℕ) → SetsTo W At x n → SetsTo W Other x n
sets-then W At Other then x n h = (h.0, h.1, h.2, h.3, h.4, then h.0 h.1 h.2 h.5, h.6)

-- more points may be passed than are
pub points-within : (W : Parts) (R : Functions) (f g u k : ℕ) (m : Memory) → f ≤ g → AtPoint W R f u k m → AtPoint W R g u k m
points-within W R zero g u k m l h = absurd h
points-within W R (suc f) zero u k m l h = absurd (omega arith)
points-within W R (suc f) (suc g) u k m l h =
    made-then R (SetsTo W (λ v j c. AtPoint W R f v j c)) (SetsTo W (λ v j c. AtPoint W R g v j c))
    (sets-then W (λ v j c. AtPoint W R f v j c) (λ v j c. AtPoint W R g v j c) (λ v j c. points-within W R f g v j c (omega arith))) W u k m h

-- the value of an eventual, found through at most f points
abbrev pub HasValue : Parts → Functions → ℕ → ℕ → ℕ → Type 0
HasValue W R f x n = SetsTo W (λ v j c. AtPoint W R f v j c) x n

pub value-within : (W : Parts) (R : Functions) (f g x n : ℕ) → f ≤ g → HasValue W R f x n → HasValue W R g x n
value-within W R f g x n l h = sets-then W (λ v j c. AtPoint W R f v j c) (λ v j c. AtPoint W R g v j c) (λ v j c. points-within W R f g v j c l) x n h

-- the operation at a point leads on
pub point-next : (W : Parts) (R : Functions) (f u k : ℕ) (o : Op) (old new : Memory) → op_at W u k ≡ Some o → AtPoint W R (suc f) u k old → Becomes R u (HasValue W R f) (effect o) old new →
    AtPoint W R (suc f) u (suc k) new
point-next W R f u k o old new is at leads = (old, at, subst (λ p. Executes R u (HasValue W R f) p old new) (sym is) leads)
