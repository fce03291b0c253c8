-- What the results of objects' calls are to the machine: answers, and units that were found.
use Rattle.std.specs.Prelude.{Box, Option, None, Some, Result, Ok, Err}
use Rattle.std.specs.Borrow.{Bor}
use Rattle.std.specs.declared.alloc.Global.{Global}
use Rattle.abt_machine.specs.declared.events.Code.{Code}
use Rattle.abt_machine.specs.Acts.{Answer, Given, Woke, Coded, Back}
use Rattle.abt_machine.specs.Values.{Owned}
use Rattle.abt_unit.specs.Units.{UnitValue}
use Rattle.abt_chain.specs.declared.refused.Refused.{Refused}
use Rattle.abt_chain.specs.Chains.{ChainValue}

-- a unit comes out
abbrev pub unit_given : Box UnitValue Global → Answer
unit_given unit = Given unit.value.owned

-- these units come out
abbrev pub units_woken : ChainValue → Answer
units_woken chain = Woke chain.units

-- the unit that comes out, or else that answer
abbrev pub given_or : Answer → Option (Box UnitValue Global) → Answer
given_or other None = other
given_or other (Some unit) = unit_given unit

-- the code if the call failed, or else what its value is to the machine
abbrev pub coded_or : {A : Type 0} → (A → Answer) → Result A Code → Answer
coded_or answer (Ok value) = answer value
coded_or answer (Err code) = Coded code

-- the unit that is refused, with its code, or else what the value is to the machine
abbrev pub back_or : {A : Type 0} → (A → Answer) → Result A Refused → Answer
back_or answer (Ok value) = answer value
back_or answer (Err refused) = Back refused.unit.value.owned refused.code

-- the unit that was found, if one was
abbrev pub unit_found : Option (Bor UnitValue) → Option Owned
unit_found None = None
unit_found (Some unit) = Some unit.now.owned
