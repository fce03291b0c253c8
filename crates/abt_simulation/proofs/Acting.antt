-- What is known if a stream acts on the unit in its hand.
use Rattle.std.proofs.Common.{◌≡◌, ℕ, ◌<◌, length, Some}
use Rattle.abt_machine.specs.declared.events.Place.TheVariants as place
use Rattle.abt_machine.specs.Stored.{Stored}
use Rattle.abt_machine.specs.declared.workload.Parts.{Parts}
use Rattle.abt_machine.specs.Numbers.{stream_no}
use Rattle.abt_machine.specs.State.{State}
use Rattle.abt_machine.specs.Lines.{InTray, InHand, InNext, hand}
use Rattle.abt_machine.specs.Next.{Due, due}
use Rattle.abt_machine.specs.Sound.{Sound}
use Rattle.abt_laws.proofs.Arrivals.{IsEmpty}
use Rattle.abt_laws.proofs.Standing.{StandsIn, first-stands}
use Rattle.abt_laws.proofs.Dues.{AfterTray, AfterNext, due-no_tray, due-no_next}

-- in a sound state stream s has unit u in its hand, and nothing on its tray or in its Next
pub record IsActing (W : Parts) (Z : Stored) (S : State) (s u : ℕ) : Type 0 where
  pub sound : Sound W Z S
  pub declared : u < length W.units
  pub in_hand : S.place u ≡ place.Hand (stream_no s)
  pub no_tray : IsEmpty (InTray s) S.place
  pub no_next : IsEmpty (InNext s) S.place

-- if something is due for the unit in hand
pub acting : (W : Parts) (Z : Stored) (S : State) (s u : ℕ) (d : Due) → Sound W Z S → due W S s ≡ d → AfterTray d → AfterNext d → hand W S s ≡ Some u → IsActing W Z S s u
acting W Z S s u d sound is tray next in_hand =
    let at : StandsIn W S (InHand s) u = first-stands W S (InHand s) u in_hand in
    record { sound = sound; declared = at.declared; in_hand = at.at; no_tray = due-no_tray W S s sound.undeclared d is tray; no_next = due-no_next W S s sound.undeclared d is next }
