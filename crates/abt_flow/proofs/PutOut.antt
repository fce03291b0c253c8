-- If a workload has a flow, each call that a unit comes to may return one word alone, and so every run puts this flow out.
use Rattle.std.proofs.Common.{◌≡◌, ℕ, suc, ◌<◌, List, length, Some, subst, arith, inl, inr}
use Rattle.std.specs.Prelude.{slice_get}
use Rattle.std.proofs.lemmas.Option.{slice_get_within}
use Rattle.abt_machine.specs.declared.events.Piece.{Piece}
use Rattle.abt_machine.specs.declared.operations.Op.TheVariants as op
use Rattle.abt_machine.specs.declared.workload.Parts.{Parts}
use Rattle.abt_machine.specs.Runs.{last_state}
use Rattle.abt_machine.specs.Stored.{Stored}
use Rattle.abt_machine.specs.Valid.{IsValid}
use Rattle.abt_machine.specs.Workloads.{body_at, op_at, ops_of}
use Rattle.abt_bounds.specs.Laws.{ops_in}
use Rattle.abt_flow.specs.Confluent.{Confluent}
use Rattle.abt_flow.specs.Effects.{Memory}
use Rattle.abt_flow.specs.Flow.{AtPoint, Executes, Functions, IsFlow, SetsTo}
use Rattle.abt_flow.specs.Laws.{FlowIsPutOut, outputs}
use Rattle.abt_flow.proofs.Finds.{reached-declared}
use Rattle.abt_flow.proofs.Outputs.{are-flow}
use Rattle.abt_flow.proofs.Running.{get-some}
use Rattle.abt_flow.proofs.Runs.{CallsAreOne}
use Rattle.abt_flow.proofs.Stuck.{made-does}
use Rattle.abt_flow.proofs.Unique.{flow-is-one, point-one}

-- on the way to the end of unit u a call was followed, from the one memory that the unit has there
followed : (W : Parts) (R : Functions) → Confluent W → (u k f t : ℕ) (m end : Memory) → AtPoint W R t u k m → op_at W u k ≡ Some (op.Call f) → AtPoint W R (suc (ops_in W)) u
    (length (ops_of (body_at W u))) end →
    (n : ℕ) × (R f u m.acc m.keys ≡ Some n)
followed W R confluent u k f t m end at is made =
    let Found : ℕ → ℕ → Type 0 = SetsTo W (λ v j c. AtPoint W R (ops_in W) v j c) in
    let inside : k < length (ops_of (body_at W u)) = slice_get_within (ops_of (body_at W u)) k (op.Call f) is in
    let does = made-does W R Found u (length (ops_of (body_at W u))) k end inside made in
    let same : does.0 ≡ m = point-one W R confluent (suc (ops_in W)) t u k does.0 m does.2 at in
    let called : Executes R u Found (Some (op.Call f)) does.0 does.1 = subst (λ o. Executes R u Found o does.0 does.1) is does.3 in
    (called.0, subst (λ (c : Memory). R f u c.acc c.keys ≡ Some called.0) same called.1)

calls-are-one : (W : Parts) (R : Functions) → IsValid W → Confluent W → (rows : List (List Piece)) → IsFlow W R rows → CallsAreOne W R
calls-are-one W R valid confluent rows flow u k f t m reached at is =
    let declared : u < length W.units = reached-declared W u valid reached in
    let row : (r : List Piece) × (slice_get rows u ≡ Some r) = get-some rows u (let e = flow.one_each in omega arith) in
    elim (flow.each u row.0 row.1) [ inl out ↦ followed W R confluent u k f t m out.1.0 at is out.1.1 | inr none ↦ absurd (none.0 reached) ]

pub flow-is-put-out : (W : Parts) (Z : Stored) → FlowIsPutOut W Z
flow-is-put-out W Z valid stored confluent rows flow J run ended =
    flow-is-one W Z.returns confluent (outputs W (last_state W J)) rows
    (are-flow W Z valid stored confluent (calls-are-one W Z.returns valid confluent rows flow) J run ended) flow
