-- By induction over the events.
use Rattle.std.proofs.Common.{IsTrue}
use Rattle.abt_explore.proofs.Seeing.{seen-along}
use Rattle.abt_explore.proofs.laws.runs_are_seen.Goals as goal

pub returns : goal.returns
returns c = λ W Z valid stored keeps is_seen begins closed. seen-along W Z valid stored keeps (λ m. IsTrue (is_seen m)) closed begins
