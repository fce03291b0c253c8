-- A step keeps every stream's frames.
use Rattle.std.proofs.Common.{◌≡◌, ℕ, Option, Some, None, refl}
use Rattle.abt_machine.specs.declared.events.Code.{Code}
use Rattle.abt_machine.specs.declared.events.Code.TheVariants as code
use Rattle.abt_machine.specs.declared.operations.Op.{Op}
use Rattle.abt_machine.specs.declared.workload.Parts.{Parts}
use Rattle.abt_machine.specs.Maps.{put_all}
use Rattle.abt_machine.specs.Workloads.{op_at}
use Rattle.abt_machine.specs.State.{State, Stream}
use Rattle.abt_machine.specs.Steps.{step_row}
use Rattle.abt_laws.proofs.LifeRows.{KeepsFrames, row-op}
use Rattle.abt_laws.proofs.Maps.{put_all-kept}

step-frames : (W : Parts) (S : State) (s u : ℕ) (o : Option Op) (c : Code) → KeepsFrames S (step_row W S s u o c)
step-frames W S s u None c = tt
step-frames W S s u (Some o) code.Ok = (row-op W S s u ⊥ (λ none. absurd none) o (λ none. absurd none)).1
step-frames W S s u (Some o) _ = tt

-- a step keeps every stream's frames
pub step-keeps-frames : (W : Parts) (S : State) (s u k : ℕ) (c : Code) (r : ℕ) →
    let own : Stream = put_all S.stream (step_row W S s u (op_at W u k) c).streams r in
    (own.top ≡ (S.stream r).top) × (own.below ≡ (S.stream r).below)
step-keeps-frames W S s u k c r =
    put_all-kept (λ n (own : Stream). (own.top ≡ (S.stream n).top) × (own.below ≡ (S.stream n).below)) S.stream (step_row W S s u (op_at W u k) c).streams r
    (step-frames W S s u (op_at W u k) c) (refl, refl)
