use Rattle.abt_calls.proofs.Showing.{units-have-rows}
use Rattle.abt_calls.proofs.holders.units_have_rows.Goals as goal

pub returns : goal.returns
returns c = units-have-rows
