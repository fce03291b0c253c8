-- What streams and runs leave, of a journal that they may have kept or not.
use Rattle.std.specs.Prelude.{ℕ, ◌≡◌, ⊤, Bool, true, false, List, [], ◌∷◌, ◌++◌, map}
use Rattle.std.specs.List.{sum_by}
use Rattle.abt_machine.specs.declared.events.Event.{Event}
use Rattle.abt_machine.specs.Stored.{Stored}
use Rattle.abt_machine.specs.declared.workload.Parts.{Parts}
use Rattle.abt_machine.specs.Outcomes.{steps_in}
use Rattle.abt_calls.specs.Holders.{units_held}
use Rattle.abt_merge.specs.Logs.{log_of}
use Rattle.abt_record.specs.Records.{IsKept}
use Rattle.abt_report.specs.Pictures.{IsPictureOf}
use Rattle.abt_simulation.specs.Journals.{MergesTo}
use Rattle.abt_stream.specs.Streams.{StreamValue}
use Rattle.abt_stream.specs.declared.stream.StreamParts.{StreamParts}
use Rattle.abt_drain.specs.declared.run.Run.{Run}
use Rattle.abt_drain.specs.declared.streams.Rests.{Rests}
use Rattle.abt_drain.specs.Answers.{HasAnswers}
use Rattle.abt_drain.specs.InRotation.{IsMadeInRotation}
use Rattle.abt_drain.specs.Pictures.{units_in_parts}
use Rattle.abt_drain.specs.Runs.{HasRun}

-- Streams.

abbrev pub log_in : StreamValue → List Event
log_in stream = stream.log

-- their logs
abbrev pub logs_in : List StreamValue → List (List Event)
logs_in streams = map log_in streams

-- the steps in all logs
abbrev pub steps_in_all : List StreamValue → ℕ
steps_in_all streams = sum_by steps_in (logs_in streams)

-- the logs that are kept of these
abbrev pub logs_kept : Bool → List (List Event) → List (List Event)
logs_kept true logs = logs
logs_kept false logs = []

-- this is what a stream leaves: its units, each in its place, and how many steps it made
abbrev pub Leaves : StreamValue → StreamParts → Type 0
Leaves stream parts = (units_in_parts parts ≡ units_held stream.held) × (parts.steps ≡ steps_in stream.log)

-- these are what these streams leave
abbrev pub HaveLeft : List StreamValue → List StreamParts → Type 0
HaveLeft [] [] = ⊤
HaveLeft [] (parts ∷ rest) = ⊥
HaveLeft (stream ∷ streams) [] = ⊥
HaveLeft (stream ∷ streams) (parts ∷ rest) = Leaves stream parts × HaveLeft streams rest

-- how many steps the streams made that left these
abbrev pub steps_left : List StreamParts → ℕ
steps_left rest = sum_by (λ (parts : StreamParts). parts.steps) rest

-- these streams are split but for those that are still to be split: their logs that are kept, and the rest of what they leave
pub record IsSplit (keeps : Bool) (streams still : List StreamValue) (logs : List (List Event)) (rest : List StreamParts) : Type 0 where
  pub done : List StreamValue
  pub all : done ++ still ≡ streams
  pub logs_are : logs ≡ logs_kept keeps (logs_in done)
  pub have : HaveLeft done rest

-- what these streams leave together: their logs have one journal, which is kept or not
pub record AreLeft (keeps : Bool) (streams : List StreamValue) (rests : Rests) : Type 0 where
  pub events : List Event
  pub merges : MergesTo (log_of (logs_in streams)) events
  pub kept : IsKept keeps events rests.journal
  pub steps : rests.steps ≡ steps_in events
  pub have : HaveLeft streams rests.parts.items

-- Runs.

-- what a run leaves is of one journal, of which this holds: the journal, if it is kept, and else none; its picture; and how
-- many steps it has
pub record IsLeftOf (W : Parts) (keeps : Bool) (Property : List Event → Type 0) (left : Run) : Type 0 where
  pub events : List Event
  pub holds : Property events
  pub kept : IsKept keeps events left.journal
  pub pictured : IsPictureOf W events left.picture
  pub counted : left.steps ≡ steps_in events

-- the journal is a run that ended so, and each round visits its pools in an order that is answered for it
abbrev pub LeavesRun : Parts → Stored → (ℕ → ℕ → List ℕ → Type 0) → ℕ → Bool → Run → Type 0
LeavesRun W Z Answered n keeps left = IsLeftOf W keeps (λ J. HasRun W Z n J left.outcome × HasAnswers W Answered J) left

-- and it was made in rotation
abbrev pub LeavesRotation : Parts → Stored → (ℕ → ℕ → List ℕ → Type 0) → ℕ → Bool → Run → Type 0
LeavesRotation W Z Answered n keeps left = IsLeftOf W keeps (λ J. HasRun W Z n J left.outcome × HasAnswers W Answered J × IsMadeInRotation W Z n J) left

-- the journal is a run that ended so, was made in rotation, and is that of these streams
abbrev pub LeavesLogs : Parts → Stored → ℕ → Bool → List StreamValue → Run → Type 0
LeavesLogs W Z n keeps streams left = IsLeftOf W keeps (λ J. HasRun W Z n J left.outcome × IsMadeInRotation W Z n J × MergesTo (log_of (logs_in streams)) J) left
