-- The rows of operations on futures. Unit u, in the hand of stream s, makes the step.
use Rattle.std.proofs.Common.{◌≡◌, ℕ, ◌==◌, if◌then◌else◌, not, Bool, true, false, List, [], ◌∷◌, map, Some, None, refl, sym, ◌∙◌, ap}
use Rattle.std.proofs.lemmas.Bool.{cond-true, cond-false}
use Rattle.abt_machine.specs.declared.events.Code.TheVariants as code
use Rattle.abt_machine.specs.declared.events.Site.TheVariants as site
use Rattle.abt_machine.specs.declared.numbers.ObjectNo.{ObjectNo}
use Rattle.abt_machine.specs.declared.operations.Combine.{Combine}
use Rattle.abt_machine.specs.declared.operations.Op.TheVariants as op
use Rattle.abt_machine.specs.Stored.{Stored}
use Rattle.abt_machine.specs.declared.operations.Thing.TheVariants as thing
use Rattle.abt_machine.specs.declared.workload.Parts.{Parts}
use Rattle.abt_machine.specs.Workloads.{thing_at, size_of, size_from, combine_of, combine_from}
use Rattle.abt_machine.specs.State.{State, Future}
use Rattle.abt_machine.specs.Carrying.{advanced}
use Rattle.abt_machine.specs.Codes.{is_full}
use Rattle.abt_machine.specs.Changes.{Change, no_change, goes_on}
use Rattle.abt_machine.specs.Numbers.{truth}
use Rattle.abt_machine.specs.Steps.{waits, awaits, filled_by, gives_all}
use Rattle.abt_machine.specs.Values.{Owned, owned_at, FutureIs, FutureValue, future_value, waiters_at, part_of}
use Rattle.abt_machine.specs.Acts.{moved, received}
use Rattle.abt_machine.specs.Acts as act
use Rattle.abt_machine.specs.Plans.{keeps, empties}
use Rattle.abt_machine.specs.Turns.{stepped}
use Rattle.abt_machine.specs.Futures.{FutureGives}
use Rattle.abt_laws.proofs.Maps.{put_at-same}
use Rattle.abt_simulation.proofs.Acting.{IsActing}
use Rattle.abt_simulation.proofs.OwnParts.{moving}
use Rattle.abt_simulation.proofs.Shapes.{goes-part}
use Rattle.abt_simulation.proofs.Rows.{ValueRow, ValueDone, future-at, refuses}
use Rattle.abt_simulation.proofs.ObjectShapes.{unless-true, unless-false, goes-through, carries-on, gets-number, waiters-stay, waits-part, waits-line, giving, giving-part, giving-line}

module _ (W : Parts) (Z : Stored) (S : State) (s u : ℕ) (acts : IsActing W Z S s u) (x : ObjectNo) (n : ℕ) (c : Combine) (is : thing_at W x.0 ≡ Some (thing.Future n c)) where
  abbrev pub value : State → FutureValue
  value T = future_value W T x.0 n c

  size-is : size_of W x.0 ≡ n
  size-is = ap size_from is

  combine-is : combine_of W x.0 ≡ c
  combine-is = ap combine_from is

  full-is : is_full W S x.0 ≡ ((S.future x.0).filled == n)
  full-is = ap (λ k. (S.future x.0).filled == k) size-is

  -- A wait.

  pub await : ValueRow W S s u (op.FuWait x) value FutureGives
  await (act.Given b) new gives =
      gets-number W Z S s u acts _ _ _ value _ b new (S.future x.0).value (future-at W x.0 n c is) gives.1 refl (ap (awaits S u x.0) (cond-true (is_full W S x.0) (Some (S.future x.0).value) None (full-is ∙ gives.0))) gives.2
  await act.Rested new gives =
      goes-through W Z S s u acts _ value (empties []) new (waits S u x.0) refl refl
      (ap (awaits S u x.0) (cond-false (is_full W S x.0) (Some (S.future x.0).value) None (full-is ∙ gives.0)))
      (waits-part W Z S s u acts x.0)
      (ap (λ os. record (value S) { waiters = os }) (waits-line W Z S s u acts x.0) ∙ sym gives.1)
  await _ new gives = absurd gives

  -- A value.

  -- the future with one compartment more, and what fills it
  abbrev more : Future
  more = filled_by c (S.future x.0) (S.carried u).acc

  abbrev filling : ℕ → Future → Change
  filling m f = record (if f.filled == m then gives_all W S s u x.0 f.value else goes_on S u) { futures = (x.0, f) ∷ [] }

  abbrev others : Change
  others = record no_change { futures = (x.0, more) ∷ [] }

  fill-by : (t : Bool) → (more.filled == n) ≡ t → (os : List Owned) (new : FutureValue) → not (is_full W S x.0) ≡ true →
      os ≡ (if t then map (received more.value) (waiters_at W S x.0) else []) →
      new ≡ record (value S) { filled = more.filled; value = more.value; waiters = if t then [] else waiters_at W S x.0 } →
      ValueDone W S s u (op.FuSet x) value (keeps (moved (owned_at S u)) os) new
  fill-by true e os new unfilled woken same =
      goes-through W Z S s u acts _ value (keeps (moved (owned_at S u)) os) new (giving W Z S s u acts x.0 more.value others) refl (unless-true (not (is_full W S x.0)) code.FutureFull code.Ok unfilled)
      ((λ i. filling (size-is i) (filled_by (combine-is i) (S.future x.0) (S.carried u).acc)) ∙ ap (λ (d : Change). record d { futures = (x.0, more) ∷ [] }) (cond-true (more.filled == n) (gives_all W S s u x.0 more.value) (goes_on S u) e))
      (giving-part W Z S s u acts x.0 more.value others ∙ ap (λ us. stepped (part_of W S s) (keeps (moved (owned_at S u)) us)) (sym woken))
      ((λ i. record (value S) { filled = (put_at-same S.future x.0 more i).filled; value = (put_at-same S.future x.0 more i).value; waiters = giving-line W Z S s u acts x.0 more.value others i }) ∙ sym same)
  fill-by false e os new unfilled woken same =
      goes-through W Z S s u acts _ value (keeps (moved (owned_at S u)) os) new (moving [] ((u, advanced (S.carried u)) ∷ []) others) refl (unless-true (not (is_full W S x.0)) code.FutureFull code.Ok unfilled)
      ((λ i. filling (size-is i) (filled_by (combine-is i) (S.future x.0) (S.carried u).acc)) ∙ ap (λ (d : Change). record d { futures = (x.0, more) ∷ [] }) (cond-false (more.filled == n) (gives_all W S s u x.0 more.value) (goes_on S u) e))
      (goes-part W Z S s u acts (advanced (S.carried u)) others ∙ ap (λ us. stepped (part_of W S s) (keeps (moved (owned_at S u)) us)) (sym woken))
      ((λ i. record (value S) { filled = (put_at-same S.future x.0 more i).filled; value = (put_at-same S.future x.0 more i).value; waiters = waiters-stay W Z S s u acts x.0 (advanced (S.carried u)) others i }) ∙ sym same)

  pub fill : ValueRow W S s u (op.FuSet x) value FutureGives
  fill (act.Woke os) new gives = by (more.filled == n) refl where
    by : (t : Bool) → (more.filled == n) ≡ t → ValueDone W S s u (op.FuSet x) value (keeps (moved (owned_at S u)) os) new
    by t e =
        fill-by t e os new (ap not (full-is ∙ gives.0))
        (gives.1 ∙ ap (λ (b : Bool). if b then map (received more.value) (waiters_at W S x.0) else []) e)
        (gives.2 ∙ ap (λ (b : Bool). record (value S) { filled = more.filled; value = more.value; waiters = if b then [] else waiters_at W S x.0 }) e)
  fill (act.Coded code.FutureFull) new gives =
      refuses W Z S s u acts _ code.FutureFull (site.Future x) FutureIs value FutureGives new (future-at W x.0 n c is) tt
      (sym (unless-false (not (is_full W S x.0)) code.FutureFull code.Ok (ap not (full-is ∙ gives.0)))) gives.1
  fill _ new gives = absurd gives

  -- A reset.

  pub reset : ValueRow W S s u (op.FuReset x) value FutureGives
  reset act.Rested new gives =
      let d : Change = record no_change { futures = (x.0, record { filled = 0; value = 0 }) ∷ [] } in
      carries-on W Z S s u acts _ value _ new (advanced (S.carried u)) d refl refl refl
      ((λ i. record (value S) { filled = (put_at-same S.future x.0 (record { filled = 0; value = 0 }) i).filled; value = (put_at-same S.future x.0 (record { filled = 0; value = 0 }) i).value; waiters = waiters-stay W Z S s u acts x.0 (advanced (S.carried u)) d i }) ∙ sym gives)
  reset _ new gives = absurd gives

  -- A test.

  pub test : ValueRow W S s u (op.FuTest x) value FutureGives
  test (act.Number k) new gives =
      gets-number W Z S s u acts _ _ _ value _ _ new (truth (is_full W S x.0)) (future-at W x.0 n c is) (ap (λ m. received m (moved (owned_at S u))) (gives.0 ∙ ap truth (sym full-is))) refl refl gives.1
  test _ new gives = absurd gives
