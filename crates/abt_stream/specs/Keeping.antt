-- What every event keeps of a stream.
use Rattle.std.specs.Prelude.{◌≡◌, [], length}
use Rattle.std.specs.List.{All}
use Rattle.abt_machine.specs.Stored.{Stored}
use Rattle.abt_machine.specs.declared.workload.Parts.{Parts}
use Rattle.abt_stream.specs.Answers.{Follows}
use Rattle.abt_stream.specs.Streams.{FitsShapes, IsFrame, IsOrderFor, StreamValue}

-- the frames, and the order that is held, are of W
pub record FitsFrames (W : Parts) (s : StreamValue) : Type 0 where
  pub top : IsFrame W (length s.log) s.order s.top
  pub below : All (IsFrame W (length s.log) []) s.below
  pub order : IsOrderFor W s.top.scheduler.number s.order

-- what every event keeps of a stream: its number, whether it keeps its events in memory, how many steps it may make, that its
-- frames fit, that an order that it holds is one that the round may have, and that it follows that order
pub record KeepsStream (W : Parts) (old new : StreamValue) : Type 0 where
  pub number : new.number ≡ old.number
  pub keeps : new.keeps ≡ old.keeps
  pub budget : new.budget ≡ old.budget
  pub frames : FitsFrames W old → FitsFrames W new
  pub shapes : (Z : Stored) → FitsShapes W Z old → FitsShapes W Z new
  pub follows : Follows W old new
