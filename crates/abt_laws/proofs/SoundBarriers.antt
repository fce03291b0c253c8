-- Arrivals at a barrier keep a sound state sound. Unit u, in the hand of stream s, makes the step.
use Rattle.std.proofs.Common.{◌≡◌, ℕ, suc, ◌<◌, ◌==◌, false, List, length, Some, sym, ◌∙◌, ap, subst, arith}
use Rattle.std.proofs.lemmas.Bool.{cond_both, eqb-false}
use Rattle.abt_machine.specs.Stored.{Stored}
use Rattle.abt_machine.specs.declared.operations.Thing.TheVariants as thing
use Rattle.abt_machine.specs.declared.workload.Parts.{Parts}
use Rattle.abt_machine.specs.Workloads.{thing_at, size_of, size_from}
use Rattle.abt_machine.specs.State.{State}
use Rattle.abt_machine.specs.Lines.{Waiting, standing}
use Rattle.abt_machine.specs.Operations.{IsBarrier}
use Rattle.abt_machine.specs.Steps.{wakes, waits, arrives}
use Rattle.abt_machine.specs.Sound.{HoldsUp}
use Rattle.abt_laws.proofs.SoundChanges.{Keeps}
use Rattle.abt_laws.proofs.Wakes.{wakeable-line}
use Rattle.abt_laws.proofs.SoundSteps.{IsStepping, keeps-wakes_only, keeps-waits}

module _ (W : Parts) (Z : Stored) (S : State) (s u : ℕ) (step : IsStepping W Z S s u) where
  -- who is not the last party leaves room for it
  has-room : (x n : ℕ) → (suc (length (standing W S (Waiting x))) == size_of W x) ≡ false → thing_at W x ≡ Some (thing.Barrier n) → suc (length (standing W S (Waiting x))) < n
  has-room x n part is =
      let size : size_of W x ≡ n = ap size_from is in
      let few : length (standing W S (Waiting x)) < n = step.sound.waiting x n is in
      let other : suc (length (standing W S (Waiting x))) ≡ size_of W x → ⊥ = eqb-false (suc (length (standing W S (Waiting x)))) (size_of W x) part in
      omega arith

  -- a barrier is no reader-writer lock
  off : (x : ℕ) → IsBarrier W x → thing_at W x ≡ Some thing.RwLock → ⊥
  off x is r = let k : Some (thing.Barrier is.0) ≡ Some thing.RwLock = sym is.1 ∙ r in cc

  pub keeps-arrives : (x : ℕ) → IsBarrier W x → Keeps W Z S (arrives W S s u x)
  keeps-arrives x is =
      let us : List ℕ = standing W S (Waiting x) in
      cond_both (suc (length us) == size_of W x) (wakes W S s u us) (waits S u x) (Keeps W Z S)
      (λ last. keeps-wakes_only W Z S s u step us (wakeable-line W S (Waiting x) tt (off x is)))
      (λ part. keeps-waits W Z S s u step x (off x is) (subst (HoldsUp W S x) (sym is.1) tt) (λ n b. has-room x n part b))
