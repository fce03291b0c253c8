-- Steps at a mutex keep a sound state sound. Unit u, in the hand of stream s, makes the step.
use Rattle.std.proofs.Common.{◌≡◌, ℕ, true, List, [], ◌∷◌, Option, Some, None, refl, sym, ◌∙◌, subst, inl, inr}
use Rattle.std.specs.Prelude.{IsSome}
use Rattle.abt_machine.specs.declared.events.Place.{Place}
use Rattle.abt_machine.specs.Stored.{Stored}
use Rattle.abt_machine.specs.declared.operations.Thing.TheVariants as thing
use Rattle.abt_machine.specs.declared.workload.Parts.{Parts}
use Rattle.abt_machine.specs.Workloads.{thing_at}
use Rattle.abt_machine.specs.State.{State, Mutex}
use Rattle.abt_machine.specs.Queues.{first, first_alone}
use Rattle.abt_machine.specs.Lines.{Waiting, standing, tray_end}
use Rattle.abt_machine.specs.Carrying.{advanced}
use Rattle.abt_machine.specs.Operations.{IsMutex}
use Rattle.abt_machine.specs.Codes.{owned_by}
use Rattle.abt_machine.specs.Changes.{Change, goes_on}
use Rattle.abt_machine.specs.Steps.{set_owner, wakes, locks, hands_over}
use Rattle.abt_machine.specs.Sound.{HoldsUp}
use Rattle.abt_laws.proofs.LineMoves.{tray_moves-places}
use Rattle.abt_laws.proofs.Codes.{owned-some}
use Rattle.abt_laws.proofs.Places.{line_of}
use Rattle.abt_laws.proofs.Arrivals.{IsEmpty}
use Rattle.abt_laws.proofs.Standing.{none-first}
use Rattle.abt_laws.proofs.SoundChanges.{Keeps, places, MutexHolds}
use Rattle.abt_laws.proofs.Wakes.{wakeable-first, empty-still}
use Rattle.abt_laws.proofs.SoundSteps.{IsStepping, carries-on, keeps-still, keeps-wakes, keeps-waits}

-- the first waiter owns the mutex, or nobody waits
pub next-owner : (f : ℕ → Place) (x : ℕ) (us : List ℕ) (m : Mutex) → (first us ≡ None → IsEmpty (Waiting x) f) → MutexHolds f x (set_owner (first us) m)
next-owner f x [] m none = inr (none refl)
next-owner f x (u ∷ us) m none = inl refl

-- a mutex is no reader-writer lock
pub mutex-no_lock : (W : Parts) (x : ℕ) → IsMutex W x → thing_at W x ≡ Some thing.RwLock → ⊥
mutex-no_lock W x is r = let k : Some thing.Mutex ≡ Some thing.RwLock = sym is ∙ r in cc

module _ (W : Parts) (Z : Stored) (S : State) (s u : ℕ) (step : IsStepping W Z S s u) where
  -- mutex x becomes m, which has an owner
  keeps-owned : (x : ℕ) (m : Mutex) → IsSome m.owner → Keeps W Z S (record (goes_on S u) { mutexes = (x, m) ∷ [] })
  keeps-owned x m some = keeps-still W Z S s u step ((u, advanced (S.carried u)) ∷ []) [] ((x, m) ∷ []) [] [] (carries-on W Z S s u step, tt) tt (inl some, tt) tt tt

  keeps-takes : (x : ℕ) → Keeps W Z S (record (goes_on S u) { mutexes = (x, set_owner (Some u) (S.mutex x)) ∷ [] })
  keeps-takes x = keeps-owned x (set_owner (Some u) (S.mutex x)) refl

  pub keeps-stores : (x n : ℕ) → owned_by S u x ≡ true → Keeps W Z S (record (goes_on S u) { mutexes = (x, record (S.mutex x) { number = n }) ∷ [] })
  keeps-stores x n mine = keeps-owned x (record (S.mutex x) { number = n }) (owned-some S u x mine)

  -- the mutex is u's if it was free, else u waits
  pub keeps-locks : (x : ℕ) (o : Option ℕ) → IsMutex W x → (S.mutex x).owner ≡ o → Keeps W Z S (locks S u x o)
  keeps-locks x None is e = keeps-takes x
  keeps-locks x (Some v) is e = keeps-waits W Z S s u step x (mutex-no_lock W x is) (subst (HoldsUp W S x) (sym is) (subst IsSome (sym e) refl)) (λ n b. let k : Some thing.Mutex ≡ Some (thing.Barrier n) = sym is ∙ b in cc)

  -- mutex x goes to the first of its waiters
  pub keeps-hands_over : (x : ℕ) → IsMutex W x → Keeps W Z S (hands_over W S s u x)
  keeps-hands_over x is =
      let us : List ℕ = first_alone (standing W S (Waiting x)) in
      let c : Change = wakes W S s u us in
      let still : first (standing W S (Waiting x)) ≡ None → IsEmpty (Waiting x) (places S c) =
      λ none. empty-still S c (Waiting x) (tray_moves-places (λ pl. line_of pl ≡ Some (Waiting x) → ⊥) s (tray_end W S s) us (λ t e. cc)) (none-first W S step.sound.undeclared (Waiting x) none) in
      keeps-wakes W Z S s u step us ((u, advanced (S.carried u)) ∷ []) [] ((x, set_owner (first (standing W S (Waiting x))) (S.mutex x)) ∷ []) [] []
      (wakeable-first W S (Waiting x) tt (mutex-no_lock W x is)) (carries-on W Z S s u step, tt) tt (next-owner (places S c) x (standing W S (Waiting x)) (S.mutex x) still, tt) tt tt
