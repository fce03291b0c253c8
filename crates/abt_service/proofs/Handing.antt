-- A mutex goes to the first of its waiters, and whoever comes to wait stands behind the others.
use Rattle.std.proofs.Common.{◌≡◌, ℕ, List, [], ◌∷◌, ◌++◌, drop, length, Option, Some, None, refl, ◌∙◌, ap}
use Rattle.std.specs.Prelude.{IsSome}
use Rattle.abt_machine.specs.Stored.{Stored}
use Rattle.abt_machine.specs.declared.operations.Op.TheVariants as op
use Rattle.abt_machine.specs.declared.workload.Parts.{Parts}
use Rattle.abt_machine.specs.Changes.{changed, to_tray}
use Rattle.abt_machine.specs.Lines.{Waiting, ticket_in, tray_end}
use Rattle.abt_machine.specs.Maps.{put_all}
use Rattle.abt_machine.specs.Numbers.{object_no}
use Rattle.abt_machine.specs.Queues.{first, first_alone}
use Rattle.abt_machine.specs.State.{Mutex, State}
use Rattle.abt_machine.specs.Steps.{locks, set_owner, waits}
use Rattle.abt_laws.proofs.LineMoves.{tray_moves-among, tray_moves-key, tray_moves-places}
use Rattle.abt_laws.proofs.LinesAfter.{NoneTo, line_at, line-behind}
use Rattle.abt_laws.proofs.Lists.{EachOf, EachOf-first_alone}
use Rattle.abt_laws.proofs.Maps.{put_at-same}
use Rattle.abt_laws.proofs.Pushes.{IsDistinct}
use Rattle.abt_laws.proofs.Standing.{StandsIn, each-stands}
use Rattle.abt_service.specs.Laws.{HandedInOrder, LocksWaitInOrder, waiters}
use Rattle.abt_service.proofs.Going.{Goes, goes}
use Rattle.abt_service.proofs.Waking.{behind, tray-after}

-- the first, alone, and the others
pub first-rest : (us : List ℕ) → us ≡ first_alone us ++ drop 1 us
first-rest [] = refl
first-rest (u ∷ us) = refl

-- one unit alone is not twice in a list
pub one-distinct : (us : List ℕ) → IsDistinct (first_alone us)
one-distinct [] = tt
one-distinct (u ∷ us) = ((λ m. m), tt)

-- if the first of the waiters moves to a tray, the others wait on in their order
pub others-wait : (W : Parts) (S T : State) (s x : ℕ) → T.place ≡ put_all S.place (to_tray W S s (first_alone (waiters W S x))) → waiters W T x ≡ drop 1 (waiters W S x)
others-wait W S T s x places =
    let us : List ℕ = first_alone (waiters W S x) in
    let away : NoneTo (Waiting x) (to_tray W S s us) = tray_moves-places (λ pl. ticket_in (Waiting x) pl ≡ None) s (tray_end W S s) us (λ t. refl) in
    ap (λ f. line_at (length W.units) (Waiting x) f) places
    ∙ line-behind (length W.units) (Waiting x) S.place (to_tray W S s us) us (drop 1 (waiters W S x)) away (first-rest (waiters W S x))
    (tray_moves-key s (tray_end W S s) us) (tray_moves-among s (tray_end W S s) us)

pub handed-in-order : (W : Parts) (Z : Stored) → HandedInOrder W Z
handed-in-order W Z valid stored S T e u x does =
    let is : Goes W Z S T e.stream.0 u (op.Unlock (object_no x)) = goes W Z valid S T e u (op.Unlock (object_no x)) does in
    let next : Mutex = set_owner (first (waiters W S x)) (S.mutex x) in
    let us : List ℕ = first_alone (waiters W S x) in
    let each : EachOf (StandsIn W S (Waiting x)) us = EachOf-first_alone (StandsIn W S (Waiting x)) (waiters W S x) (each-stands W S (Waiting x)) in
    let places : T.place ≡ put_all S.place (to_tray W S e.stream.0 us) = ap (λ (V : State). V.place) is.becomes in (
      ap (λ (V : State). (V.mutex x).owner) is.becomes ∙ ap (λ (m : Mutex). m.owner) (put_at-same S.mutex x next),
      tray-after W Z S e.stream.0 u is.step x us (one-distinct (waiters W S x)) each T places,
      others-wait W S T e.stream.0 x places,
    )

-- who locks a mutex with an owner waits
owned-waits : (S : State) (u x : ℕ) (o : Option ℕ) → IsSome o → locks S u x o ≡ waits S u x
owned-waits S u x None some = cc
owned-waits S u x (Some v) some = refl

pub locks-wait-in-order : (W : Parts) (Z : Stored) → LocksWaitInOrder W Z
locks-wait-in-order W Z valid stored S T e u x does owned =
    let is : Goes W Z S T e.stream.0 u (op.Lock (object_no x)) = goes W Z valid S T e u (op.Lock (object_no x)) does in
    behind W Z S e.stream.0 u is.step x T (is.becomes ∙ ap (changed S) (owned-waits S u x (S.mutex x).owner owned))
