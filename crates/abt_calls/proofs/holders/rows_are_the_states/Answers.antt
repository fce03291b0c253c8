use Rattle.abt_calls.proofs.Showing.{rows-are-the-states}
use Rattle.abt_calls.proofs.holders.rows_are_the_states.Goals as goal

pub returns : goal.returns
returns c = rows-are-the-states
