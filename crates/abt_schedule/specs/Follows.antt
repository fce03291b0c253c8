-- Where journals lead.
use Rattle.std.specs.Prelude.{ℕ, ◌≡◌, List}
use Rattle.abt_machine.specs.declared.events.Event.{Event}
use Rattle.abt_machine.specs.Stored.{Stored}
use Rattle.abt_machine.specs.declared.workload.Parts.{Parts}
use Rattle.abt_machine.specs.Outcomes.{steps_in}
use Rattle.abt_check.specs.Verdicts.{IsRunUpTo, IsStampedRun}
use Rattle.abt_drain.specs.Looks.{EndsWith}
use Rattle.abt_report.specs.Pictures.{IsPictureOf}
use Rattle.abt_schedule.specs.declared.followed.Followed.{Followed}
use Rattle.abt_schedule.specs.declared.followed.Followed.TheVariants as followed
use Rattle.abt_schedule.specs.declared.followed.Left.{Left}

-- what the journal leaves: its picture, its number of steps, and how it ended, if each stream may make n steps
pub record IsLeftBy (W : Parts) (n : ℕ) (J : List Event) (left : Left) : Type 0 where
  pub pictured : IsPictureOf W J left.picture
  pub counted : left.steps ≡ steps_in J
  pub ended : EndsWith W n J left.end

-- where the journal leads, if it is a stamped run, or how many of its first events are one
abbrev pub IsFollowed : Parts → Stored → ℕ → List Event → Followed → Type 0
IsFollowed W Z n J (followed.Bad at) = IsRunUpTo W Z J at
IsFollowed W Z n J (followed.Left left) = IsStampedRun W Z J × IsLeftBy W n J left
