-- What is known of an event by which an operation goes through.
use Rattle.std.proofs.Common.{◌≡◌, ◌<◌, ℕ, sym, ◌∙◌, ap, ap₂, subst}
use Rattle.abt_machine.specs.declared.events.Event.{Event}
use Rattle.abt_machine.specs.declared.events.What.{What}
use Rattle.abt_machine.specs.declared.events.What.TheVariants as what
use Rattle.abt_machine.specs.declared.operations.Op.{Op}
use Rattle.abt_machine.specs.Stored.{Stored}
use Rattle.abt_machine.specs.declared.workload.Parts.{Parts}
use Rattle.abt_machine.specs.Changes.{changed}
use Rattle.abt_machine.specs.Events.{May, after}
use Rattle.abt_machine.specs.Operations.{IsDeclared}
use Rattle.abt_machine.specs.Sound.{Sound}
use Rattle.abt_machine.specs.State.{State}
use Rattle.abt_machine.specs.Steps.{op_row, step_row}
use Rattle.abt_machine.specs.Valid.{IsValid}
use Rattle.abt_machine.proofs.Declared.{op-declared}
use Rattle.abt_laws.proofs.SoundSteps.{IsStepping, stepping}
use Rattle.abt_service.specs.Laws.{Does, GoesThrough}

-- unit u, in the hand of stream s, makes a step by which operation o, which names what is declared, goes through to state T
pub record Goes (W : Parts) (Z : Stored) (S T : State) (s u : ℕ) (o : Op) : Type 0 where
  pub step : IsStepping W Z S s u
  pub declared : IsDeclared W o
  pub becomes : T ≡ changed S (op_row W S s u o)

-- by the kind of event
goes-by : (W : Parts) (Z : Stored) → IsValid W → (S : State) (s u : ℕ) (o : Op) (w : What) → Sound W Z S → s < W.streams → May W Z S s w → GoesThrough W u o w → Goes W Z S (after W S s w) s u o
goes-by W Z valid S s u o (what.Step v k c) sound below may goes =
    record {
      step = subst (IsStepping W Z S s) goes.0 (stepping W Z S s v.0 sound below may.0 may.1);
      declared = op-declared W v.0 k o valid goes.1;
      becomes = ap (changed S) (ap₂ (step_row W S s v.0) goes.1 goes.2 ∙ ap (λ n. op_row W S s n o) goes.0);
    }
goes-by W Z valid S s u o w sound below may goes = absurd goes

pub goes : (W : Parts) (Z : Stored) → IsValid W → (S T : State) (e : Event) (u : ℕ) (o : Op) → Does W Z S e T u o → Goes W Z S T e.stream.0 u o
goes W Z valid S T e u o does =
    subst (λ U. Goes W Z S U e.stream.0 u o) (sym does.1.2) (goes-by W Z valid S e.stream.0 u o e.what does.0 does.1.0 does.1.1 does.2)
