-- What a stream may do next: hints, or a function that may return any word.
use Rattle.std.specs.Prelude.{ℕ, ◌≡◌, List, None, Some}
use Rattle.abt_machine.specs.Stored.{Stored}
use Rattle.abt_machine.specs.declared.events.What.{What}
use Rattle.abt_machine.specs.declared.workload.Parts.{Parts}
use Rattle.abt_machine.specs.declared.operations.Op.TheVariants as op
use Rattle.abt_machine.specs.Lines.{hand}
use Rattle.abt_machine.specs.Next.{StepDue, due}
use Rattle.abt_machine.specs.State.{State}
use Rattle.abt_machine.specs.Values.{Held, Owned}
use Rattle.abt_machine.specs.Workloads.{op_at}
use Rattle.abt_model.specs.Hints.{AreHints, HasHints, HoldsCall}
use Rattle.abt_model.specs.Models.{IsAfter, ModelValue, StandsFor}
use Rattle.abt_model.specs.declared.choices.Choices.{Choices}
use Rattle.abt_model.specs.declared.choices.Choices.TheVariants as choices

-- hints of which this holds, or a function of which that holds
abbrev pub Give : (List What → Type 0) → (ℕ → Type 0) → Choices → Type 0
Give Are Is (choices.These hints) = Are hints.items
Give Are Is (choices.AnyWord f) = Is f

-- what stream s holds tells each event that may be next, by hints; or it is to call a function that may return any word
abbrev pub AreChoicesOf : Parts → Stored → ℕ → Held → Choices → Type 0
AreChoicesOf W Z s held = Give (AreHints W Z s held) (λ f. (o : Owned) × HoldsCall W s held o f × (Z.returns f o.number o.carried.acc o.carried.keys ≡ None))

-- in state S the unit in the hand of stream s is to call function f, which may return any word there
pub record CallsAny (W : Parts) (Z : Stored) (S : State) (s f : ℕ) : Type 0 where
  pub unit : ℕ
  pub step : due W S s ≡ StepDue
  pub here : hand W S s ≡ Some unit
  pub call : op_at W unit (S.carried unit).position ≡ Some (op.Call f)
  pub any : Z.returns f unit (S.carried unit).acc (S.carried unit).keys ≡ None

-- in each state for which the model stands, the hints tell each event of stream s that may come; or the stream is to call a
-- function that may return any word
abbrev pub AreChoices : Parts → Stored → ModelValue → ℕ → Choices → Type 0
AreChoices W Z model s =
    Give (λ hints. (n : ℕ) (S : State) → IsAfter W Z n S → StandsFor W S model → HasHints W Z S s hints) (λ f. (n : ℕ) (S : State) → IsAfter W Z n S → StandsFor W S model → CallsAny W Z S s f)
