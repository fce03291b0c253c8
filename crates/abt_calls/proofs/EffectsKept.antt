-- Steps keep each unit.
use Rattle.std.proofs.Common.{◌≡◌, ℕ, ◌+◌, List, [], ◌∷◌, refl, sym, subst, arith}
use Rattle.abt_machine.specs.declared.events.Code.TheVariants as code
use Rattle.abt_machine.specs.declared.events.Piece.TheVariants as piece
use Rattle.abt_machine.specs.declared.events.Site.{Site}
use Rattle.abt_machine.specs.declared.operations.Op.{Op}
use Rattle.abt_machine.specs.declared.workload.Parts.{Parts}
use Rattle.abt_machine.specs.Carrying.{printed}
use Rattle.abt_machine.specs.Values.{Owned}
use Rattle.abt_machine.specs.Acts.{Act, Answer, Given, Through, Woke, Rested, Miss, Number, Asks, Coded, Back, carrying, moved, received}
use Rattle.abt_machine.specs.Plans.{Effect, Plan, Does, Calls, Exits, plan_of, to_caller, to_condition, to_giver, to_yielder}
use Rattle.abt_chain.specs.Keeping.{contents_asked, contents_answered}
use Rattle.abt_calls.specs.Keeps.{contents_of}
use Rattle.abt_calls.specs.Suits.{Suits}
use Rattle.abt_calls.specs.Effects.{units_left}
use Rattle.abt_calls.specs.Units.{EffectsKeepUnits, OwnStepsKeepUnits, StepsKeepUnits}
use Rattle.abt_calls.proofs.Shapes.{Asker, Caller, Giver, Waiter, Yielder, Facts, Shape, Locally, Yields, Leaves, Refused, Calling, Spares, brought, by-shape, gone, plan_by}
use Rattle.abt_calls.proofs.Suited.{answers-suit}
use Rattle.abt_calls.proofs.Tallies.{tally, tally-cons, tally-nil, tally-number, times-from}
use Rattle.abt_calls.proofs.UnitsKept.{objects-even}

module _ (u : ℕ) where
  -- as many units before as afterwards
  abbrev IsEven : Owned → List Owned → Effect → List Owned → Type 0
  IsEven o answered e asked = tally u (o ∷ []) + tally u answered ≡ tally u (units_left e) + tally u asked

  -- a unit that has moved, and others
  moved-tally : (o : Owned) → tally u (moved o ∷ []) ≡ tally u (o ∷ [])
  moved-tally o = tally-number u (moved o) o refl

  caller-even : (o : Owned) (asked : Act) (answer : Answer) → Spares Caller asked → Suits asked answer → IsEven o (contents_answered answer).units (to_caller o answer) []
  caller-even o asked (Given b) spares suits = omega (arith, moved-tally o, tally-cons u (moved o) (b ∷ []), tally-nil u)
  caller-even o asked (Through b os) spares suits = absurd ((spares b os code.Ok).0 suits)
  caller-even o asked (Woke os) spares suits = omega (arith, moved-tally o, tally-cons u (moved o) os, tally-nil u)
  caller-even o asked Rested spares suits = omega (arith, moved-tally o)
  caller-even o asked Miss spares suits = omega (arith, moved-tally o)
  caller-even o asked (Number n) spares suits = omega (arith, tally-number u (received n (moved o)) o refl)
  caller-even o asked (Asks c m) spares suits = omega (arith, moved-tally o)
  caller-even o asked (Coded code.Ok) spares suits = omega (arith, moved-tally o)
  caller-even o asked (Coded c) spares suits = omega (arith, tally-number u (carrying (printed (piece.Refused c)) (moved o)) o refl)
  caller-even o asked (Back b c) spares suits = absurd ((spares b [] c).1 suits)

  giver-even : (o : Owned) (asked : Act) (answer : Answer) → Spares Giver asked → Suits asked answer → IsEven o (contents_answered answer).units (to_giver answer) (moved o ∷ [])
  giver-even o asked (Given b) spares suits = omega (arith, moved-tally o)
  giver-even o asked (Through b os) spares suits = omega (arith, moved-tally o)
  giver-even o asked (Woke os) spares suits = absurd ((spares o os code.Ok).0 suits)
  giver-even o asked Rested spares suits = omega (arith, moved-tally o)
  giver-even o asked Miss spares suits = omega (arith, moved-tally o)
  giver-even o asked (Number n) spares suits = omega (arith, moved-tally o)
  giver-even o asked (Asks c m) spares suits = omega (arith, moved-tally o)
  giver-even o asked (Coded c) spares suits = omega (arith, moved-tally o)
  giver-even o asked (Back b c) spares suits = omega (arith, moved-tally o, tally-number u (carrying (printed (piece.Refused c)) b) b refl)

  condition-even : (o : Owned) (asked : Act) (answer : Answer) → Spares Waiter asked → Suits asked answer → IsEven o (contents_answered answer).units (to_condition answer) (moved o ∷ [])
  condition-even o asked (Given b) spares suits = omega (arith, moved-tally o)
  condition-even o asked (Through b os) spares suits = absurd ((spares b os code.Ok).0 suits)
  condition-even o asked (Woke os) spares suits = absurd ((spares o os code.Ok).1 suits)
  condition-even o asked Rested spares suits = omega (arith, moved-tally o)
  condition-even o asked Miss spares suits = omega (arith, moved-tally o)
  condition-even o asked (Number n) spares suits = omega (arith, moved-tally o)
  condition-even o asked (Asks c m) spares suits = omega (arith, moved-tally o)
  condition-even o asked (Coded c) spares suits = omega (arith, moved-tally o)
  condition-even o asked (Back b c) spares suits = omega (arith, moved-tally o, tally-number u (carrying (printed (piece.Refused c)) b) b refl)

  yielder-even : (o : Owned) (asked : Act) (answer : Answer) → Spares Yielder asked → Suits asked answer → IsEven o (contents_answered answer).units (to_yielder o answer) []
  yielder-even o asked (Given b) spares suits = omega (arith, moved-tally o, tally-cons u b (moved o ∷ []), tally-nil u)
  yielder-even o asked (Through b os) spares suits = absurd ((spares b os code.Ok).0 suits)
  yielder-even o asked (Woke os) spares suits = absurd ((spares o os code.Ok).1 suits)
  yielder-even o asked Rested spares suits = omega (arith, moved-tally o)
  yielder-even o asked Miss spares suits = omega (arith, moved-tally o)
  yielder-even o asked (Number n) spares suits = omega (arith, moved-tally o)
  yielder-even o asked (Asks c m) spares suits = omega (arith, moved-tally o)
  yielder-even o asked (Coded c) spares suits = omega (arith, tally-number u (carrying (printed (piece.Refused c)) (moved o)) o refl)
  yielder-even o asked (Back b c) spares suits = absurd ((spares b [] c).2 suits)

  asker-even : (asker : Asker) (o : Owned) (asked : Act) (answer : Answer) → Spares asker asked → Suits asked answer → IsEven o (contents_answered answer).units (brought asker o answer) (gone asker o).units
  asker-even Caller o asked answer spares suits = caller-even o asked answer spares suits
  asker-even Giver o asked answer spares suits = giver-even o asked answer spares suits
  asker-even Waiter o asked answer spares suits = condition-even o asked answer spares suits
  asker-even Yielder o asked answer spares suits = yielder-even o asked answer spares suits

  -- what is planned for unit o keeps each unit
  abbrev PlanKeeps : Owned → Plan → Type 0
  PlanKeeps o (Does e) = IsEven o [] e []
  PlanKeeps o (Exits b) = b.number ≡ o.number
  PlanKeeps o (Calls x asked brings) = (answer : Answer) → Suits asked answer → IsEven o (contents_answered answer).units (brings answer) (contents_asked asked).units

  local-even : (o b : Owned) → b.number ≡ o.number → tally u (o ∷ []) + tally u [] ≡ tally u (b ∷ []) + tally u []
  local-even o b e = omega (arith, tally-number u b o e)

  shape-keeps : (W : Parts) (a : Op) (o : Owned) (shape : Shape) → Facts W a o shape → PlanKeeps o (plan_by o shape)
  shape-keeps W a o (Locally f) facts = local-even o (moved (carrying f o)) refl
  shape-keeps W a o Yields facts = local-even o (moved o) refl
  shape-keeps W a o Leaves facts = refl
  shape-keeps W a o Refused facts = local-even o (carrying (printed (piece.Refused code.PoolAccess)) (moved o)) refl
  shape-keeps W a o (Calling x asked asker) facts = λ answer suits. subst (IsEven o (contents_answered answer).units (brought asker o answer)) (sym facts.units) (asker-even asker o asked answer facts.spares suits)

  pub effect-even : (W : Parts) (s : ℕ) (a : Op) (o : Owned) (x : Site) (asked : Act) (brings : Answer → Effect) (answer : Answer) → plan_of W s a o ≡ Calls x asked brings → Suits asked answer
      → IsEven o (contents_answered answer).units (brings answer) (contents_asked asked).units
  effect-even W s a o x asked brings answer plan = by-shape W s a o (PlanKeeps o) (shape-keeps W a o) (Calls x asked brings) plan answer

-- an exit
pub exit-number : (W : Parts) (s : ℕ) (a : Op) (o b : Owned) → plan_of W s a o ≡ Exits b → b.number ≡ o.number
exit-number W s a o b plan = by-shape W s a o (PlanKeeps 0 o) (shape-keeps 0 W a o) (Exits b) plan

-- a step with no call
pub own-step-even : (u : ℕ) (W : Parts) (s : ℕ) (a : Op) (o : Owned) (e : Effect) → plan_of W s a o ≡ Does e → tally u (o ∷ []) + tally u [] ≡ tally u (units_left e) + tally u []
own-step-even u W s a o e plan = by-shape W s a o (PlanKeeps u o) (shape-keeps u W a o) (Does e) plan

pub effects-keep-units : EffectsKeepUnits
effects-keep-units W s a o x asked brings answer plan suits u =
    times-from u (o ∷ []) (contents_answered answer).units (units_left (brings answer)) (contents_asked asked).units (effect-even u W s a o x asked brings answer plan suits)

pub own-steps-keep-units : OwnStepsKeepUnits
own-steps-keep-units W s a o e plan u = times-from u (o ∷ []) [] (units_left e) [] (own-step-even u W s a o e plan)

pub steps-keep-units : StepsKeepUnits
steps-keep-units W s a o x asked brings answer old new plan allowed gives u =
    times-from u (o ∷ []) (contents_of old).units (units_left (brings answer)) (contents_of new).units
    (omega (arith, objects-even u old asked answer new gives allowed, effect-even u W s a o x asked brings answer plan (answers-suit old asked answer new gives)))
