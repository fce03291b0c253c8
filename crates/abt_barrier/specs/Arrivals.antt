-- What becomes of a unit that arrives at a barrier.
use Rattle.std.specs.Prelude.{Box, ⊤}
use Rattle.std.specs.declared.alloc.Global.{Global}
use Rattle.abt_machine.specs.Acts.{Answer, Rested, Through}
use Rattle.abt_unit.specs.Units.{UnitValue}
use Rattle.abt_barrier.specs.declared.arrival.Arrival.{Arrival}
use Rattle.abt_barrier.specs.declared.arrival.Arrival.TheVariants as arrival

-- an arrival is this answer to the machine
abbrev pub arrival_answer : Arrival → Answer
arrival_answer arrival.Rested = Rested
arrival_answer (arrival.Through caller others) = Through caller.value.owned others.units

-- a fact of the unit that arrived, if it goes through
abbrev pub IfThrough : Arrival → (Box UnitValue Global → Type 0) → Type 0
IfThrough arrival.Rested P = ⊤
IfThrough (arrival.Through caller others) P = P caller
