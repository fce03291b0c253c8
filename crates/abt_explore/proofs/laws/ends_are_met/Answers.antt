-- By induction over the number of events: an event that is tried alone is one of those to come, and may come first.
use Rattle.std.proofs.Common.{IsTrue}
use Rattle.abt_explore.proofs.Meeting.{met-along}
use Rattle.abt_explore.proofs.laws.ends_are_met.Goals as goal

pub returns : goal.returns
returns c = λ W Z valid stored keeps is_seen begins closed. met-along W Z valid stored keeps (λ m. IsTrue (is_seen m)) closed begins
