-- Steps at an eventual, and those that give a value to all who wait at an object, keep a sound state sound. Unit u, in the hand of stream s, makes the step.
use Rattle.std.proofs.Common.{◌≡◌, ℕ, List, [], ◌∷◌, map, Option, Some, None, refl, sym, ◌∙◌, subst, inr}
use Rattle.abt_machine.specs.Stored.{Stored}
use Rattle.abt_machine.specs.declared.operations.Thing.TheVariants as thing
use Rattle.abt_machine.specs.declared.workload.Parts.{Parts}
use Rattle.abt_machine.specs.Workloads.{thing_at}
use Rattle.abt_machine.specs.State.{State, Carried, Future}
use Rattle.abt_machine.specs.Lines.{Waiting, standing, tray_end}
use Rattle.abt_machine.specs.Carrying.{advanced, with_acc}
use Rattle.abt_machine.specs.Operations.{IsEventual}
use Rattle.abt_machine.specs.Steps.{wakes, awaits, gives_all, receives}
use Rattle.abt_machine.specs.Sound.{HoldsUp}
use Rattle.abt_laws.proofs.LineMoves.{tray_moves-places, tray_moves-key}
use Rattle.abt_laws.proofs.Lists.{EachOf, EachOf-map, EachOf-all}
use Rattle.abt_laws.proofs.Places.{line_of}
use Rattle.abt_laws.proofs.Arrivals.{IsEmpty}
use Rattle.abt_laws.proofs.Standing.{among-standing}
use Rattle.abt_laws.proofs.SoundChanges.{Keeps, places, CarriesWell, EventualHolds, FutureHolds}
use Rattle.abt_laws.proofs.Wakes.{wakeable-line, empty-after}
use Rattle.abt_laws.proofs.SoundSteps.{IsStepping, carries-on, keeps-goes_with, keeps-wakes, keeps-waits}

module _ (W : Parts) (Z : Stored) (S : State) (s u : ℕ) (step : IsStepping W Z S s u) where
  -- whatever a unit's new accumulator is
  receives-well : (value : ℕ) (vs : List ℕ) → EachOf (λ (m : ℕ × Carried). CarriesWell W m.0 m.1) (map (receives S value) vs)
  receives-well value vs =
      EachOf-map (λ m. CarriesWell W m.0 m.1) (λ _. Unit {0}) (receives S value) vs (λ v _. record { keys = step.sound.keys v; home = step.sound.homes v; position = step.sound.positions v }) (EachOf-all (λ _. Unit {0}) vs (λ v. tt))

  -- all who wait at x leave
  pub all-leave : (x : ℕ) → IsEmpty (Waiting x) (places S (wakes W S s u (standing W S (Waiting x))))
  all-leave x =
      let us : List ℕ = standing W S (Waiting x) in
      empty-after S (wakes W S s u us) (Waiting x) (tray_moves-places (λ pl. line_of pl ≡ Some (Waiting x) → ⊥) s (tray_end W S s) us (λ t e. cc))
      (λ v t h. tray_moves-key s (tray_end W S s) us v (among-standing W S step.sound.undeclared (Waiting x) v t h))

  -- all who wait at x are woken with a value
  pub keeps-gives_all : (x value : ℕ) (es : List (ℕ × Option ℕ)) (fs : List (ℕ × Future)) → (thing_at W x ≡ Some thing.RwLock → ⊥) →
      EachOf (λ (m : ℕ × Option ℕ). EventualHolds (places S (wakes W S s u (standing W S (Waiting x)))) m.0 m.1) es →
      EachOf (λ (m : ℕ × Future). FutureHolds W S (places S (wakes W S s u (standing W S (Waiting x)))) m.0 m.1) fs →
      Keeps W Z S (record (gives_all W S s u x value) { eventuals = es; futures = fs })
  keeps-gives_all x value es fs other e f =
      let us : List ℕ = standing W S (Waiting x) in
      keeps-wakes W Z S s u step us ((u, advanced (S.carried u)) ∷ map (receives S value) us) [] [] es fs
      (wakeable-line W S (Waiting x) tt other) (carries-on W Z S s u step, receives-well value us) tt tt e f

  -- an eventual is no reader-writer lock
  no-lock : (x : ℕ) → IsEventual W x → thing_at W x ≡ Some thing.RwLock → ⊥
  no-lock x is r = let k : Some thing.Eventual ≡ Some thing.RwLock = sym is ∙ r in cc

  pub keeps-sets : (x value : ℕ) → IsEventual W x → Keeps W Z S (record (gives_all W S s u x value) { eventuals = (x, Some value) ∷ [] })
  keeps-sets x value is = keeps-gives_all x value ((x, Some value) ∷ []) [] (no-lock x is) (inr (all-leave x), tt) tt

  -- u gets the value, or waits at x, which is no reader-writer lock and no barrier, and holds it up
  pub keeps-awaits : (x : ℕ) (o : Option ℕ) → (thing_at W x ≡ Some thing.RwLock → ⊥) → (o ≡ None → HoldsUp W S x (thing_at W x)) → ((n : ℕ) → thing_at W x ≡ Some (thing.Barrier n) → ⊥) → Keeps W Z S (awaits S u x o)
  keeps-awaits x None unlocked up other = keeps-waits W Z S s u step x unlocked (up refl) (λ n b. absurd (other n b))
  keeps-awaits x (Some value) unlocked up other = keeps-goes_with W Z S s u step (with_acc value (S.carried u)) refl refl refl

  pub keeps-awaits_eventual : (x : ℕ) → IsEventual W x → Keeps W Z S (awaits S u x (S.eventual x))
  keeps-awaits_eventual x is =
      keeps-awaits x (S.eventual x) (no-lock x is) (λ none. subst (HoldsUp W S x) (sym is) none) (λ n b. let k : Some thing.Eventual ≡ Some (thing.Barrier n) = sym is ∙ b in cc)
