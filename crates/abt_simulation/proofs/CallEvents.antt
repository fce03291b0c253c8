-- A call of a user's function is a step of its stream without a call of an object.
use Rattle.std.proofs.Common.{◌≡◌, ℕ, [], Some, None, sym, ◌∙◌, ap, subst}
use Rattle.abt_machine.specs.declared.events.What.TheVariants as what
use Rattle.abt_machine.specs.Stored.{Stored, Returns}
use Rattle.abt_machine.specs.declared.workload.Parts.{Parts}
use Rattle.abt_machine.specs.Numbers.{unit_no}
use Rattle.abt_machine.specs.Queues.{first}
use Rattle.abt_machine.specs.Workloads.{op_at}
use Rattle.abt_machine.specs.State.{State}
use Rattle.abt_machine.specs.Carrying.{advanced, with_acc}
use Rattle.abt_machine.specs.Changes.{no_change}
use Rattle.abt_machine.specs.Lines.{InHand, standing}
use Rattle.abt_machine.specs.Next.{StepDue}
use Rattle.abt_machine.specs.Sound.{Sound}
use Rattle.abt_machine.specs.Values.{Owned, owned_in, part_of, Object}
use Rattle.abt_machine.specs.Acts.{moved, received}
use Rattle.abt_machine.specs.Plans.{keeps}
use Rattle.abt_machine.specs.Turns.{due_of, stepped}
use Rattle.abt_laws.proofs.DueParts.{due-same}
use Rattle.abt_simulation.proofs.Acting.{IsActing, acting}
use Rattle.abt_simulation.proofs.OwnedLines.{Head, head-of}
use Rattle.abt_simulation.proofs.Shapes.{goes-part}
use Rattle.abt_simulation.proofs.Simulated.{Simulated}

module _ (W : Parts) (Z : Stored) (S : State) (s : ℕ) (sound : Sound W Z S) (object : Object) (o : Owned) where
  pub simulate-call : (n : ℕ) → due_of W s (part_of W S s) ≡ StepDue → first (owned_in W S (InHand s)) ≡ Some o → Returns Z (op_at W o.number o.carried.position) o.number o.carried n →
      Simulated W Z S s (what.Call (unit_no o.number) o.carried.position n) None (stepped (part_of W S s) (keeps (received n (moved o)) [])) object
  simulate-call n is hands returned =
      let h : Head S (standing W S (InHand s)) o = head-of S (standing W S (InHand s)) o hands in
      let acts : IsActing W Z S s o.number = acting W Z S s o.number StepDue sound (due-same W S s ∙ is) tt tt h.is in
      record {
        may = (
          due-same W S s ∙ is,
          h.is,
          ap (λ (q : Owned). q.carried.position) h.owns,
          subst (λ (q : Owned). Returns Z (op_at W o.number o.carried.position) o.number q.carried n)
              (sym h.owns) returned,
        );
        own = goes-part W Z S s o.number acts (advanced (with_acc n (S.carried o.number))) no_change ∙ ap (λ (q : Owned). stepped (part_of W S s) (keeps (received n (moved q)) [])) h.owns;
        called = tt;
      }
