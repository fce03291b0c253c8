-- The turn is of the seat's booth.
use Rattle.abt_booth.proofs.HolderPlaces.{at-place}
use Rattle.abt_commons.proofs.turn.Turn.new.Goals as goal

pub returns-clause-booth : goal.returns-clause-booth
returns-clause-booth c booth its = at-place booth c.into_holder.result (c.into_holder.ensures.booth booth its)
