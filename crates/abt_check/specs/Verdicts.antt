-- Which verdict on a journal is right.
use Rattle.std.specs.Prelude.{ℕ, ◌≡◌, ◌<◌, ◌≤◌, List, length, take}
use Rattle.abt_machine.specs.declared.events.Event.{Event}
use Rattle.abt_machine.specs.Stored.{Stored}
use Rattle.abt_machine.specs.declared.workload.Parts.{Parts}
use Rattle.abt_machine.specs.Runs.{Run}
use Rattle.abt_machine.specs.Stamps.{Stamped}
use Rattle.abt_check.specs.declared.verdict.Verdict.{Verdict}
use Rattle.abt_check.specs.declared.verdict.Verdict.TheVariants as verdict

-- the journal is a run of W with stamps, with these stored orders and functions
abbrev pub IsStampedRun : Parts → Stored → List Event → Type 0
IsStampedRun W Z J = Run W Z J × Stamped W J

-- at is the greatest number of first events of the journal that are a stamped run, and it has more events than these
pub record IsRunUpTo (W : Parts) (Z : Stored) (J : List Event) (at : ℕ) : Type 0 where
  pub within : at < length J
  pub holds : IsStampedRun W Z (take at J)
  pub greatest : (n : ℕ) → n ≤ length J → IsStampedRun W Z (take n J) → n ≤ at

-- the verdict on the journal is right
abbrev pub IsJudged : Parts → Stored → List Event → Verdict → Type 0
IsJudged W Z J verdict.Run = IsStampedRun W Z J
IsJudged W Z J (verdict.Bad at) = IsRunUpTo W Z J at

-- a journal has one right verdict
abbrev pub OneVerdict : Parts → Stored → Type 0
OneVerdict W Z = (J : List Event) (one two : Verdict) → IsJudged W Z J one → IsJudged W Z J two → one ≡ two
