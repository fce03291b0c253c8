-- Places and outputs are the same, and there are as many frames.
use Rattle.std.proofs.Common.{refl}
use Rattle.abt_explore.proofs.SameValues.{quiet-same}
use Rattle.abt_explore.proofs.laws.ends_have_no_rounds.Goals as goal

pub returns : goal.returns
returns c = λ W S. (quiet-same W S, ((λ ended. ended), (λ ended. ended)), refl)
