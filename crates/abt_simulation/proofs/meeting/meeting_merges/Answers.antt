-- The meeting at a barrier.
use Rattle.abt_simulation.proofs.BarrierMeeting.{meeting-merges}
use Rattle.abt_simulation.proofs.meeting.meeting_merges.Goals as goal

pub returns : goal.returns
returns c = meeting-merges
