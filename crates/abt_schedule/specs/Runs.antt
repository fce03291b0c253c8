-- What runs by a chosen schedule leave.
use Rattle.std.specs.Prelude.{ℕ, ◌≡◌, List, ◌++◌}
use Rattle.abt_machine.specs.declared.events.Event.{Event}
use Rattle.abt_machine.specs.declared.events.Outcome.{Outcome}
use Rattle.abt_machine.specs.Stored.{Stored}
use Rattle.abt_machine.specs.declared.workload.Parts.{Parts}
use Rattle.abt_machine.specs.Outcomes.{EndsAs, steps_in}
use Rattle.abt_drain.specs.InRotation.{StopsBy}
use Rattle.abt_drain.specs.Runs.{IsRunOf}
use Rattle.abt_report.specs.Pictures.{IsPictureOf}
use Rattle.abt_schedule.specs.Drawing.{streams_of_rotation}
use Rattle.abt_schedule.specs.Seeds.{AreDrawnRotations, AreTurnsOf, IsSeeded}
use Rattle.abt_schedule.specs.declared.scheduled.Scheduled.{Scheduled}

-- the events are rotations in the orders that the seed draws, the run stops after the last of them, and ends so
pub record HasStopped (W : Parts) (seed n : ℕ) (J : List Event) (o : Outcome) : Type 0 where
  pub many : ℕ
  pub before : List Event
  pub last : List Event
  pub all : J ≡ before ++ last
  pub rotations : AreDrawnRotations W seed n many before
  pub turns : AreTurnsOf W n (streams_of_rotation W seed many) before last
  pub stops : StopsBy W n before last
  pub ended : EndsAs W n J o

-- a run that ended so, in rotations whose order the seed draws, with its picture and its number of steps
pub record LeavesSeeded (W : Parts) (Z : Stored) (seed n : ℕ) (left : Scheduled) : Type 0 where
  pub run : IsRunOf W Z n left.journal left.outcome
  pub seeded : IsSeeded W seed n left.journal
  pub pictured : IsPictureOf W left.journal left.picture
  pub counted : left.steps ≡ steps_in left.journal
