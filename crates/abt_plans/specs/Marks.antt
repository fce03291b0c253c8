-- The mark of the unit in hand.
use Rattle.abt_machine.specs.State as state
use Rattle.abt_plans.specs.declared.dues.Mark.{Mark}
use Rattle.abt_plans.specs.declared.dues.Mark.TheVariants as mark

abbrev pub mark_of : Mark → state.Mark
mark_of mark.Plain = state.Plain
mark_of mark.Asked = state.Asked
mark_of mark.Left = state.Left
mark_of mark.Exited = state.Exited
