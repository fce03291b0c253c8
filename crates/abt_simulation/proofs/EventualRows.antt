-- The rows of operations on eventuals. Unit u, in the hand of stream s, makes the step.
use Rattle.std.proofs.Common.{◌≡◌, ℕ, is_none, is_some, false, [], ◌∷◌, Option, Some, None, refl, sym, ◌∙◌, ap}
use Rattle.std.specs.Prelude.{option_map}
use Rattle.abt_machine.specs.declared.events.Code.TheVariants as code
use Rattle.abt_machine.specs.declared.events.Site.TheVariants as site
use Rattle.abt_machine.specs.declared.numbers.ObjectNo.{ObjectNo}
use Rattle.abt_machine.specs.declared.operations.Op.TheVariants as op
use Rattle.abt_machine.specs.Stored.{Stored}
use Rattle.abt_machine.specs.declared.workload.Parts.{Parts}
use Rattle.abt_machine.specs.Operations.{IsEventual}
use Rattle.abt_machine.specs.State.{State}
use Rattle.abt_machine.specs.Carrying.{advanced}
use Rattle.abt_machine.specs.Changes.{Change, no_change}
use Rattle.abt_machine.specs.Numbers.{truth}
use Rattle.abt_machine.specs.Steps.{waits, awaits}
use Rattle.abt_machine.specs.Values.{owned_at, EventualIs, EventualValue, eventual_value, part_of}
use Rattle.abt_machine.specs.Acts.{moved, received}
use Rattle.abt_machine.specs.Acts as act
use Rattle.abt_machine.specs.Plans.{keeps, empties}
use Rattle.abt_machine.specs.Turns.{stepped}
use Rattle.abt_machine.specs.Eventuals.{EventualGives}
use Rattle.abt_laws.proofs.Maps.{put_at-same}
use Rattle.abt_laws.proofs.Options.{none≢some, some-injective}
use Rattle.abt_simulation.proofs.Acting.{IsActing}
use Rattle.abt_simulation.proofs.Rows.{ValueRow, ValueDone, eventual-at, refuses}
use Rattle.abt_simulation.proofs.ObjectShapes.{none-test, some-test, unless-true, unless-false, goes-through, carries-on, gets-number, waiters-stay, waits-part, waits-line, giving, giving-part, giving-line}

module _ (W : Parts) (Z : Stored) (S : State) (s u : ℕ) (acts : IsActing W Z S s u) (x : ObjectNo) (is : IsEventual W x.0) where
  abbrev pub value : State → EventualValue
  value T = eventual_value W T x.0

  -- A wait.

  pub await : ValueRow W S s u (op.EvWait x) value EventualGives
  await (act.Given b) new gives = by (S.eventual x.0) refl gives.0 where
    by : (o : Option ℕ) → S.eventual x.0 ≡ o → option_map (λ n. received n (moved (owned_at S u))) o ≡ Some b → ValueDone W S s u (op.EvWait x) value (keeps b []) new
    by None e given = absurd (none≢some given)
    by (Some n) e given = gets-number W Z S s u acts _ _ _ value _ _ new n (eventual-at W x.0 is) (sym (some-injective given)) refl (ap (awaits S u x.0) e) gives.1
  await act.Rested new gives = by (S.eventual x.0) refl gives.0 where
    by : (o : Option ℕ) → S.eventual x.0 ≡ o → is_some o ≡ false → ValueDone W S s u (op.EvWait x) value (empties []) new
    by None e none =
        goes-through W Z S s u acts _ value (empties []) new (waits S u x.0) refl refl (ap (awaits S u x.0) e)
        (waits-part W Z S s u acts x.0)
        (ap (λ os. record { value = S.eventual x.0; waiters = os }) (waits-line W Z S s u acts x.0) ∙ sym gives.1)
    by (Some n) e none = absurd cc
  await _ new gives = absurd gives

  -- A value.

  pub fill : ValueRow W S s u (op.EvSet x) value EventualGives
  fill (act.Woke os) new gives =
      let c : Change = record no_change { eventuals = (x.0, Some (S.carried u).acc) ∷ [] } in
      let d : Change = giving W Z S s u acts x.0 (S.carried u).acc c in
      goes-through W Z S s u acts _ value (keeps (moved (owned_at S u)) os) new d refl (unless-true (is_none (S.eventual x.0)) code.EventualSet code.Ok (none-test (S.eventual x.0) gives.0)) refl
      (giving-part W Z S s u acts x.0 (S.carried u).acc c ∙ ap (λ us. stepped (part_of W S s) (keeps (moved (owned_at S u)) us)) (sym gives.1))
      ((λ i. record { value = put_at-same S.eventual x.0 (Some (S.carried u).acc) i; waiters = giving-line W Z S s u acts x.0 (S.carried u).acc c i }) ∙ sym gives.2)
  fill (act.Coded code.EventualSet) new gives =
      refuses W Z S s u acts _ code.EventualSet (site.Eventual x) EventualIs value EventualGives new (eventual-at W x.0 is) tt
      (sym (unless-false (is_none (S.eventual x.0)) code.EventualSet code.Ok (some-test (S.eventual x.0) gives.0))) gives.1
  fill _ new gives = absurd gives

  -- A reset.

  pub reset : ValueRow W S s u (op.EvReset x) value EventualGives
  reset act.Rested new gives =
      let c : Change = record no_change { eventuals = (x.0, None) ∷ [] } in
      carries-on W Z S s u acts _ value _ new (advanced (S.carried u)) c refl refl refl
      ((λ i. record { value = put_at-same S.eventual x.0 None i; waiters = waiters-stay W Z S s u acts x.0 (advanced (S.carried u)) c i }) ∙ sym gives)
  reset _ new gives = absurd gives

  -- A test.

  pub test : ValueRow W S s u (op.EvTest x) value EventualGives
  test (act.Number n) new gives =
      gets-number W Z S s u acts _ _ _ value _ _ new (truth (is_some (S.eventual x.0))) (eventual-at W x.0 is) (ap (λ m. received m (moved (owned_at S u))) gives.0) refl refl gives.1
  test _ new gives = absurd gives
