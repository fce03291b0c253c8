-- Which answers come, by the shape of the call.
use Rattle.std.proofs.Common.{◌≡◌, ℕ, [], ◌∷◌, List, refl, subst, sym}
use Rattle.abt_machine.specs.declared.events.Code.{Code}
use Rattle.abt_machine.specs.declared.numbers.UnitNo.{UnitNo}
use Rattle.abt_machine.specs.declared.operations.Side.{Side}
use Rattle.abt_machine.specs.Acts.{Answer, Given, Through, Woke, Rested, Miss, Number, Coded, Back}
use Rattle.abt_machine.specs.Acts as act
use Rattle.abt_machine.specs.Plans.{empties, keeps, notes, to_caller}
use Rattle.abt_machine.specs.Values.{Owned}
use Rattle.abt_calls.specs.Suits.{Suits}
use Rattle.abt_plans.specs.declared.acts.Asking.{Asking}
use Rattle.abt_plans.specs.declared.acts.Asking.TheVariants as asking
use Rattle.abt_plans.specs.declared.acts.Giving.{Giving}
use Rattle.abt_plans.specs.declared.acts.Giving.TheVariants as giving
use Rattle.abt_plans.specs.Acts.{asked, brought, given, told}
use Rattle.abt_plans.specs.Hearing.{IsForCaller, IsForGiver, IsForTaker, IsForYielder}

-- to a unit that stayed in the hand
pub for-caller : (a : Asking) (b : Answer) → ((v : UnitNo) → a ≡ asking.Remove v → ⊥) → Suits (asked a) b → IsForCaller b
for-caller (asking.Remove v) b other suits = absurd (other v refl)
for-caller a (Given o) other suits = tt
for-caller a (Woke os) other suits = tt
for-caller a Rested other suits = tt
for-caller a (Number n) other suits = tt
for-caller a (Coded c) other suits = tt
for-caller asking.Reset b other suits = absurd suits
for-caller a b other suits = absurd suits

-- to a unit that went with the act
pub for_giver : (g : Giving) (o : Owned) (b : Answer) → Suits (given g o) b → IsForGiver g b
for_giver giving.Arrive o (Through b os) suits = refl
for_giver g o (Given b) suits = tt
for_giver g o Rested suits = tt
for_giver g o (Back b c) suits = tt
for_giver giving.Suspend o b suits = absurd suits
for_giver g o b suits = absurd suits

-- to a unit that yields to another
pub for-yielder : (v : UnitNo) (b : Answer) → Suits (asked (asking.Remove v)) b → IsForYielder b
for-yielder v (Given b) suits = tt
for-yielder v (Coded c) suits = tt
for-yielder v b suits = absurd suits

-- to a visit
pub for_taker : (d : Side) (b : Answer) → Suits (act.Take d) b → IsForTaker b
for_taker d (Given b) suits = tt
for_taker d Miss suits = tt
for_taker d b suits = absurd suits

-- What an answer brings to a unit that does not yield to another.
pub tells-caller : (a : Asking) → ((v : UnitNo) → a ≡ asking.Remove v → ⊥) → told a ≡ to_caller
tells-caller (asking.Remove v) other = absurd (other v refl)
tells-caller a other = refl

-- What an answer brings, whichever act the unit went with.

-- a unit that comes out is in the hand again
pub brings-back : (g : Giving) (b : Owned) → ((k : ℕ) → g ≡ giving.Wait k → ⊥) → brought g (Given b) ≡ keeps b []
brings-back (giving.Wait k) b other = absurd (other k refl)
brings-back g b other = refl

-- and of a condition it is woken
pub brings-awake : (g : Giving) (k : ℕ) (b : Owned) → g ≡ giving.Wait k → brought g (Given b) ≡ empties (b ∷ [])
brings-awake g k b is = subst (λ (q : Giving). brought q (Given b) ≡ empties (b ∷ [])) (sym is) refl

-- a unit goes through a barrier
pub brings-through : (g : Giving) (b : Owned) (os : List Owned) → g ≡ giving.Arrive → brought g (Through b os) ≡ keeps b os
brings-through g b os is = subst (λ (q : Giving). brought q (Through b os) ≡ keeps b os) (sym is) refl

-- a unit that rests is in the hand no longer
pub brings-none : (g : Giving) → brought g Rested ≡ empties []
brings-none (giving.Wait k) = refl
brings-none g = refl

-- a unit that is handed back notes why
pub brings-refused : (g : Giving) (b : Owned) (c : Code) → brought g (Back b c) ≡ notes b c
brings-refused (giving.Wait k) b c = refl
brings-refused g b c = refl

pub ruleset bringing = (brings-back, brings-awake, brings-through, brings-none, brings-refused)
