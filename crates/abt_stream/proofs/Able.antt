-- What a stream that is ready may do.
use Rattle.std.proofs.Common.{◌≡◌, ◌≢◌, List, [], ◌∷◌, Box, Global, refl, subst, ◌++◌}
use Rattle.std.proofs.lemmas.List.Elements.{All-head, All-tail}
use Rattle.std.specs.List.{All}
use Rattle.abt_machine.specs.declared.numbers.PoolNo.{PoolNo}
use Rattle.abt_machine.specs.declared.workload.Parts.{Parts}
use Rattle.abt_machine.specs.Values.{Owned}
use Rattle.abt_calls.specs.Effects.{unit_in}
use Rattle.abt_calls.specs.Holders.{units_held}
use Rattle.abt_unit.specs.Fits.{Fits}
use Rattle.abt_unit.specs.Units.{UnitValue}
use Rattle.abt_stream.specs.declared.parts.Current.TheVariants as current
use Rattle.abt_stream.specs.Events.{IfFirst}
use Rattle.abt_stream.specs.Streams.{IsOrderly, StreamValue}

-- no order is held while a unit runs
pub no-order : (order : List PoolNo) (unit : Box UnitValue Global) → IsOrderly order (current.Running unit) → order ≡ []
no-order [] unit h = refl
no-order (p ∷ ps) unit h = absurd h

in-middle : (F : Owned → Type 0) (xs : List Owned) (o : Owned) (os ys : List Owned) → All F ((xs ++ o ∷ os) ++ ys) → F o
in-middle F [] o os ys all = All-head F o (os ++ ys) all
in-middle F (x ∷ xs) o os ys all = in-middle F xs o os ys (All-tail F x ((xs ++ o ∷ os) ++ ys) all)

pub tray-fits : (W : Parts) (s : StreamValue) (tray : List Owned) → s.held.tray ≡ tray → All (Fits W) (units_held s.held) → tray ≢ [] → IfFirst tray (λ o os. Fits W o)
tray-fits W s [] is all some = absurd (some refl)
tray-fits W s (o ∷ os) is all some =
    in-middle (Fits W) (unit_in s.held.hand ++ unit_in s.held.next) o os s.held.framed
    (subst (λ (t : List Owned). All (Fits W) (((unit_in s.held.hand ++ unit_in s.held.next) ++ t) ++ s.held.framed)) is all)
