-- The row of a wait at a barrier. Unit u, in the hand of stream s, makes the step.
use Rattle.std.proofs.Common.{◌≡◌, ◌≢◌, ℕ, suc, ◌==◌, List, [], ◌∷◌, length, map, Some, refl, sym, ◌∙◌, ap}
use Rattle.std.proofs.lemmas.Bool.{cond-true, cond-false, eq-eqb, ne_eqb}
use Rattle.abt_machine.specs.declared.numbers.ObjectNo.{ObjectNo}
use Rattle.abt_machine.specs.declared.operations.Op.TheVariants as op
use Rattle.abt_machine.specs.Stored.{Stored}
use Rattle.abt_machine.specs.declared.operations.Thing.TheVariants as thing
use Rattle.abt_machine.specs.declared.workload.Parts.{Parts}
use Rattle.abt_machine.specs.Workloads.{thing_at, size_of, size_from}
use Rattle.abt_machine.specs.State.{State}
use Rattle.abt_machine.specs.Carrying.{advanced}
use Rattle.abt_machine.specs.Lines.{Waiting, standing}
use Rattle.abt_machine.specs.Changes.{no_change}
use Rattle.abt_machine.specs.Steps.{waits, wakes}
use Rattle.abt_machine.specs.Values.{owned_at, BarrierValue, barrier_value, waiters_at, part_of}
use Rattle.abt_machine.specs.Acts as act
use Rattle.abt_machine.specs.Plans.{keeps, empties}
use Rattle.abt_machine.specs.Turns.{stepped}
use Rattle.abt_machine.specs.Barriers.{BarrierGives}
use Rattle.abt_simulation.proofs.Acting.{IsActing}
use Rattle.abt_simulation.proofs.OwnParts.{away-line, standing-distinct}
use Rattle.abt_simulation.proofs.Shapes.{wakes-part, line-woken}
use Rattle.abt_simulation.proofs.Rows.{ValueRow}
use Rattle.abt_simulation.proofs.ObjectShapes.{goes-through, waits-part, waits-line}

-- as many units stand there as are owned there
length-owned : (S : State) (us : List ℕ) → length us ≡ length (map (owned_at S) us)
length-owned S [] = refl
length-owned S (u ∷ us) = ap suc (length-owned S us)

module _ (W : Parts) (Z : Stored) (S : State) (s u : ℕ) (acts : IsActing W Z S s u) (x : ObjectNo) (n : ℕ) (is : thing_at W x.0 ≡ Some (thing.Barrier n)) where
  abbrev pub value : State → BarrierValue
  value T = barrier_value W T x.0 n

  waiting-are : length (standing W S (Waiting x.0)) ≡ length (waiters_at W S x.0)
  waiting-are = length-owned S (standing W S (Waiting x.0))

  pub arrive : ValueRow W S s u (op.BarWait x) value BarrierGives
  arrive (act.Through b os) new gives =
      let all : suc (length (standing W S (Waiting x.0))) ≡ size_of W x.0 = ap suc waiting-are ∙ (gives.0 ∙ sym (ap size_from is)) in
      goes-through W Z S s u acts _ value (keeps b os) new (wakes W S s u (standing W S (Waiting x.0))) refl refl
      (cond-true (suc (length (standing W S (Waiting x.0))) == size_of W x.0) (wakes W S s u (standing W S (Waiting x.0))) (waits S u x.0) (eq-eqb _ _ all))
      (wakes-part W Z S s u acts (standing W S (Waiting x.0)) (advanced (S.carried u)) no_change (standing-distinct W S (Waiting x.0)) (away-line W S s (Waiting x.0) tt)
      ∙ (λ i. stepped (part_of W S s) (keeps (sym gives.1 i) (sym gives.2 i))))
      (ap (λ us. record (value S) { waiters = us }) (line-woken W Z S s u acts (Waiting x.0) tt ((u, advanced (S.carried u)) ∷ []) no_change) ∙ sym gives.3)
  arrive act.Rested new gives =
      let ne : suc (length (standing W S (Waiting x.0))) ≢ size_of W x.0 = λ e. gives.0 (ap suc (sym waiting-are) ∙ (e ∙ ap size_from is)) in
      goes-through W Z S s u acts _ value (empties []) new (waits S u x.0) refl refl
      (cond-false (suc (length (standing W S (Waiting x.0))) == size_of W x.0) (wakes W S s u (standing W S (Waiting x.0))) (waits S u x.0) (ne_eqb _ _ ne))
      (waits-part W Z S s u acts x.0)
      (ap (λ us. record (value S) { waiters = us }) (waits-line W Z S s u acts x.0) ∙ sym gives.1)
  arrive _ new gives = absurd gives
