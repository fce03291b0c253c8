-- Answers by the shape of their call.
use Rattle.std.specs.Prelude.{◌≡◌, ⊤}
use Rattle.abt_machine.specs.Acts.{Answer}
use Rattle.abt_machine.specs.Acts as asks
use Rattle.abt_plans.specs.declared.acts.Giving.{Giving}
use Rattle.abt_plans.specs.declared.acts.Giving.TheVariants as giving

-- an answer to a unit that stayed in the hand
abbrev pub IsForCaller : Answer → Type 0
IsForCaller (asks.Given o) = ⊤
IsForCaller (asks.Through o os) = ⊥
IsForCaller (asks.Woke os) = ⊤
IsForCaller asks.Rested = ⊤
IsForCaller asks.Miss = ⊥
IsForCaller (asks.Number n) = ⊤
IsForCaller (asks.Asks c m) = ⊥
IsForCaller (asks.Coded c) = ⊤
IsForCaller (asks.Back o c) = ⊥

-- an answer to a unit that went with the act: with others it goes only through a barrier
abbrev pub IsForGiver : Giving → Answer → Type 0
IsForGiver g (asks.Given o) = ⊤
IsForGiver g (asks.Through o os) = g ≡ giving.Arrive
IsForGiver g (asks.Woke os) = ⊥
IsForGiver g asks.Rested = ⊤
IsForGiver g asks.Miss = ⊥
IsForGiver g (asks.Number n) = ⊥
IsForGiver g (asks.Asks c m) = ⊥
IsForGiver g (asks.Coded c) = ⊥
IsForGiver g (asks.Back o c) = ⊤

-- an answer to a unit that yields to another
abbrev pub IsForYielder : Answer → Type 0
IsForYielder (asks.Given o) = ⊤
IsForYielder (asks.Through o os) = ⊥
IsForYielder (asks.Woke os) = ⊥
IsForYielder asks.Rested = ⊥
IsForYielder asks.Miss = ⊥
IsForYielder (asks.Number n) = ⊥
IsForYielder (asks.Asks c m) = ⊥
IsForYielder (asks.Coded c) = ⊤
IsForYielder (asks.Back o c) = ⊥

-- an answer to a visit
abbrev pub IsForTaker : Answer → Type 0
IsForTaker (asks.Given o) = ⊤
IsForTaker (asks.Through o os) = ⊥
IsForTaker (asks.Woke os) = ⊥
IsForTaker asks.Rested = ⊥
IsForTaker asks.Miss = ⊤
IsForTaker (asks.Number n) = ⊥
IsForTaker (asks.Asks c m) = ⊥
IsForTaker (asks.Coded c) = ⊥
IsForTaker (asks.Back o c) = ⊥
