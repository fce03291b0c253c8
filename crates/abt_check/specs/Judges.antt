-- What is known of a journal that was judged event by event.
use Rattle.std.specs.Prelude.{Bool, true, false, List, length}
use Rattle.abt_machine.specs.declared.events.Event.{Event}
use Rattle.abt_machine.specs.Stored.{Stored}
use Rattle.abt_machine.specs.declared.workload.Parts.{Parts}
use Rattle.abt_machine.specs.Runs.{Run, last_state}
use Rattle.abt_machine.specs.Stamps.{Stamped}
use Rattle.abt_check.specs.Clocks.{AreClocks, ClocksValue}
use Rattle.abt_model.specs.Models.{IsAfter, ModelValue, StandsFor}
use Rattle.abt_check.specs.Verdicts.{IsStampedRun}

-- streams, objects and clocks
pub record JudgeValue : Type 0 where
  pub model : ModelValue
  pub clocks : ClocksValue

-- the journal is a stamped run, and streams, objects and clocks are as it leaves them
pub record HasJudged (W : Parts) (Z : Stored) (J : List Event) (judge : JudgeValue) : Type 0 where
  pub run : Run W Z J
  pub stamped : Stamped W J
  pub state : IsAfter W Z (length J) (last_state W J)
  pub stands : StandsFor W (last_state W J) judge.model
  pub clocks : AreClocks W J judge.clocks

-- whether the journal is a stamped run
abbrev pub Judges : Parts → Stored → List Event → Bool → JudgeValue → Type 0
Judges W Z J true judge = HasJudged W Z J judge
Judges W Z J false judge = IsStampedRun W Z J → ⊥
