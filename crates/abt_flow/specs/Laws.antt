-- The laws of confluent workloads. W is a workload and Z what is stored beside it, and R is what functions return.
use Rattle.std.specs.Prelude.{◌≡◌, List, length, map}
use Rattle.abt_machine.specs.declared.events.Event.{Event}
use Rattle.abt_machine.specs.declared.events.Piece.{Piece}
use Rattle.abt_machine.specs.Stored.{Stored}
use Rattle.abt_machine.specs.declared.workload.Parts.{Parts}
use Rattle.abt_machine.specs.Valid.{IsValid}
use Rattle.abt_machine.specs.Rounds.{OrdersStored}
use Rattle.abt_machine.specs.State.{State}
use Rattle.abt_machine.specs.Runs.{Run, last_state}
use Rattle.abt_machine.specs.Outcomes.{AllEnded}
use Rattle.abt_machine.specs.Lives.{count_up}
use Rattle.abt_bounds.specs.Laws.{HasNoFreeCall}
use Rattle.abt_flow.specs.Confluent.{Confluent}
use Rattle.abt_flow.specs.Flow.{Functions, IsFlow}

-- the outputs of all units, in order of number
abbrev pub outputs : Parts → State → List (List Piece)
outputs W S = map (λ u. (S.carried u).output) (count_up (length W.units))

-- if each call may return one word, then whatever the schedule of a run, if every unit has ended the outputs are the flow's
abbrev pub OutputsAreFlow : Parts → Stored → Type 0
OutputsAreFlow W Z = IsValid W → OrdersStored W Z.orders → Confluent W → HasNoFreeCall W Z → (J : List Event) → Run W Z J → AllEnded (last_state W J) → IsFlow W Z.returns (outputs W (last_state W J))

-- if a confluent workload has a flow, then whatever the schedule of a run and whatever other functions may return, if every unit has ended the outputs are this flow
abbrev pub FlowIsPutOut : Parts → Stored → Type 0
FlowIsPutOut W Z = IsValid W → OrdersStored W Z.orders → Confluent W → (rows : List (List Piece)) → IsFlow W Z.returns rows → (J : List Event) → Run W Z J → AllEnded (last_state W J) →
    outputs W (last_state W J) ≡ rows

-- a confluent workload has at most one flow
abbrev pub FlowIsOne : Parts → Functions → Type 0
FlowIsOne W R = Confluent W → (one two : List (List Piece)) → IsFlow W R one → IsFlow W R two → one ≡ two
