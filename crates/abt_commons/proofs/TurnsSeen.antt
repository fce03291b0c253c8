-- What is seen of a turn tells of which booth it is, and not whether it is kept.
use Rattle.std.proofs.Common.{◌≡◌, Bool, true, false, refl, sym, ◌∙◌, ap, subst}
use Rattle.abt_booth.specs.declared.object.Object.{Ghosts}
use Rattle.abt_booth.specs.declared.booth.Booth.{Booth}
use Rattle.abt_booth.specs.declared.holder.Holder.{Holder}
use Rattle.abt_booth.specs.Holders.{HasTurn, IsHolderOf, Rests, holder_number, holder_seen}
use Rattle.abt_booth.proofs.HolderPlaces.{at-place, of-place, same-turn}
use Rattle.abt_commons.specs.declared.acts.Act.{Act}
use Rattle.abt_commons.specs.declared.acts.Answer.{Answer}
use Rattle.abt_commons.specs.Asks.{Does}
use Rattle.abt_commons.specs.Held.{OneValue}
use Rattle.abt_commons.specs.Turns.{IsTurnOf, RestsOrKeeps, TurnValue, turn_of}

-- a holder that rests unless it keeps the turn of this booth
pub rests-or-keeps : {g : Ghosts OneValue Act Answer} (booth : Booth OneValue Act Answer) (holder : Holder OneValue Act Answer g) (kept : Bool) → (kept ≡ true → HasTurn Does booth holder) → (kept ≡ false → Rests holder) → RestsOrKeeps holder kept
rests-or-keeps booth holder true turn rests = (booth, turn refl)
rests-or-keeps booth holder false turn rests = rests refl

module _ {g : Ghosts OneValue Act Answer} (booth : Booth OneValue Act Answer) (turn : TurnValue) (is : IsTurnOf booth turn) (holder : Holder OneValue Act Answer g) (seen : turn_of holder ≡ turn) where
  pub its-holder : IsHolderOf booth holder
  its-holder = of-place booth holder (ap (λ (t : TurnValue). t.place) seen ∙ is)

  -- a turn that is kept is of this booth
  pub its-turn : (kept : Bool) → kept ≡ true → RestsOrKeeps holder kept → HasTurn Does booth holder
  its-turn kept so stands = let keeps = subst (RestsOrKeeps holder) so stands in same-turn booth holder Does keeps.0 its-holder keeps.1

  -- what is seen of the holder afterwards
  pub same-seen : (now : Holder OneValue Act Answer g) → IsHolderOf booth now → holder_number now ≡ holder_number holder → holder_seen now ≡ holder_seen holder → turn_of now ≡ turn
  same-seen now its number sights =
      let place = at-place booth now its ∙ sym (at-place booth holder its-holder) in
      (λ i. record { place = place i; number = number i; seen = sights i }) ∙ seen
