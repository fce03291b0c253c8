-- The laws of a hall's lock and its clock.
use Rattle.std.specs.Prelude.{ℕ, ◌≡◌, max, List, [], ◌∷◌}
use Rattle.std.specs.List.{All}
use Rattle.std.proofs.Common.{ap₂, inl, refl}
use Rattle.std.proofs.lemmas.List.Elements.{All-head, All-tail}
use Rattle.abt_machine.specs.declared.workload.Parts.{Parts}
use Rattle.abt_interleave.specs.Weaving.{TellsLocks}
use Rattle.abt_commons.specs.Held.{ObjectsValue}
use Rattle.abt_commons.specs.Placing.{ArePlaced}
use Rattle.hall_waves.specs.HallLocks.{clock_of_hall, greatest}

-- there is one lock
pub tells_one : Parts → TellsLocks (Unit {0})
tells_one W k l = inl refl

none-above : (clocks : List ℕ) → All (λ c. c ≡ 0) clocks → greatest clocks ≡ 0
none-above [] all = refl
none-above (clock ∷ clocks) all = ap₂ max (All-head (λ c. c ≡ 0) clock clocks all) (none-above clocks (All-tail (λ c. c ≡ 0) clock clocks all))

-- at the start its clock is 0
pub hall_begins : (W : Parts) (held : ObjectsValue) → ArePlaced W held → (l : Unit {0}) → clock_of_hall held l ≡ 0
hall_begins W held placed l = none-above held.clocks placed.every
