-- What each event means to each unit.
use Rattle.std.proofs.Common.{ℕ, ◌<◌, length}
use Rattle.abt_machine.specs.declared.events.What.{What}
use Rattle.abt_machine.specs.declared.events.What.TheVariants as what
use Rattle.abt_machine.specs.Stored.{Stored}
use Rattle.abt_machine.specs.declared.workload.Parts.{Parts}
use Rattle.abt_machine.specs.State.{State}
use Rattle.abt_machine.specs.Events.{May, after}
use Rattle.abt_machine.specs.Sound.{Sound}
use Rattle.abt_laws.proofs.LifeTies.{Fate}
use Rattle.abt_laws.proofs.LifeMoves.{miss-fate, take-fate, look-fate, put-fate}
use Rattle.abt_laws.proofs.LifeEnds.{end-fate, enter-fate, leave-fate}
use Rattle.abt_laws.proofs.LifeSteps.{stepped-fate}
use Rattle.abt_laws.proofs.LifeCalls.{call-fate}

module _ (W : Parts) (Z : Stored) (S : State) (sound : Sound W Z S) (s u : ℕ) (declared : u < length W.units) where
  -- what an event that may come means to unit u
  pub fate : (w : What) → May W Z S s w → Fate W u w S (after W S s w)
  fate (what.Miss p) may = miss-fate W Z S s u p
  fate (what.Take p v) may = take-fate W Z S s u p v may
  fate (what.Look v) may = look-fate W Z S s u sound v may
  fate (what.Step v k c) may = stepped-fate W Z S sound s u v k c may
  fate (what.Call v k n) may = call-fate W Z S sound s u v k n may
  fate (what.Put v p) may = put-fate W Z S s u v p may
  fate (what.End v c) may = end-fate W Z S s u v c may
  fate (what.Enter v) may = enter-fate W Z S s u v may
  fate (what.Leave v) may = leave-fate W Z S s u declared v may
