use Rattle.abt_calls.proofs.Totals.{all-units-once}
use Rattle.abt_calls.proofs.holders.all_units_once.Goals as goal

pub returns : goal.returns
returns c = all-units-once
