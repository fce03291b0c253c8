-- Steps at a future keep a sound state sound. Unit u, in the hand of stream s, makes the step.
use Rattle.std.proofs.Common.{◌≡◌, ℕ, suc, ◌<◌, ◌≤◌, ◌==◌, true, false, not, [], ◌∷◌, Some, None, sym, ◌∙◌, ap, subst, arith, inl, inr}
use Rattle.std.proofs.lemmas.Bool.{cond_both, eqb-false, not-true}
use Rattle.abt_machine.specs.Stored.{Stored}
use Rattle.abt_machine.specs.declared.operations.Thing.TheVariants as thing
use Rattle.abt_machine.specs.declared.workload.Parts.{Parts}
use Rattle.abt_machine.specs.Workloads.{size_of, size_from, thing_at}
use Rattle.abt_machine.specs.State.{State, Future}
use Rattle.abt_machine.specs.Carrying.{advanced}
use Rattle.abt_machine.specs.Operations.{IsFuture}
use Rattle.abt_machine.specs.Codes.{is_full}
use Rattle.abt_machine.specs.Changes.{goes_on}
use Rattle.abt_machine.specs.Steps.{awaits, gives_all, ready_value, fills}
use Rattle.abt_machine.specs.Sound.{HoldsUp}
use Rattle.abt_laws.proofs.Options.{none≢some}
use Rattle.abt_laws.proofs.SoundChanges.{Keeps, FutureHolds}
use Rattle.abt_laws.proofs.SoundSteps.{IsStepping, carries-on, keeps-still}
use Rattle.abt_laws.proofs.SoundEventuals.{all-leave, keeps-gives_all, keeps-awaits}

module _ (W : Parts) (Z : Stored) (S : State) (s u : ℕ) (step : IsStepping W Z S s u) where
  -- a future that is not full has a compartment left
  has-room : (x : ℕ) → is_full W S x ≡ false → (S.future x).filled < size_of W x
  has-room x unfilled = let few : (S.future x).filled ≤ size_of W x = step.sound.filled x in let other : (S.future x).filled ≡ size_of W x → ⊥ = eqb-false (S.future x).filled (size_of W x) unfilled in omega arith

  not-ready : (x : ℕ) → ready_value W S x ≡ None → is_full W S x ≡ false
  not-ready x = cond_both (is_full W S x) (Some (S.future x).value) None (λ o. o ≡ None → is_full W S x ≡ false) (λ e h. absurd (none≢some (sym h))) (λ e h. e)

  -- a future is no reader-writer lock
  no-lock : (x : ℕ) → IsFuture W x → thing_at W x ≡ Some thing.RwLock → ⊥
  no-lock x is r = let k : Some (thing.Future is.0 is.1) ≡ Some thing.RwLock = sym is.2 ∙ r in cc

  pub keeps-awaits_future : (x : ℕ) → IsFuture W x → Keeps W Z S (awaits S u x (ready_value W S x))
  keeps-awaits_future x is =
      keeps-awaits W Z S s u step x (ready_value W S x) (no-lock x is)
      (λ none. subst (HoldsUp W S x) (sym is.2) (subst (λ n. (S.future x).filled < n) (ap size_from is.2) (has-room x (not-ready x none))))
      (λ n b. let k : Some (thing.Future is.0 is.1) ≡ Some (thing.Barrier n) = sym is.2 ∙ b in cc)

  -- future x becomes f, and nobody is woken
  keeps-becomes : (x : ℕ) (f : Future) → FutureHolds W S S.place x f → Keeps W Z S (record (goes_on S u) { futures = (x, f) ∷ [] })
  keeps-becomes x f holds = keeps-still W Z S s u step ((u, advanced (S.carried u)) ∷ []) [] [] [] ((x, f) ∷ []) (carries-on W Z S s u step, tt) tt tt tt (holds, tt)

  -- one more compartment of x is filled
  pub keeps-fills : (x : ℕ) (f : Future) → IsFuture W x → not (is_full W S x) ≡ true → f.filled ≡ suc (S.future x).filled → Keeps W Z S (fills W S s u x f)
  keeps-fills x f is unfilled more =
      let room : (S.future x).filled < size_of W x = has-room x (not-true (is_full W S x) unfilled) in
      cond_both (f.filled == size_of W x) (gives_all W S s u x f.value) (goes_on S u) (λ d. Keeps W Z S (record d { futures = (x, f) ∷ [] }))
      (λ full. keeps-gives_all W Z S s u step x f.value [] ((x, f) ∷ []) (no-lock x is) tt ((omega arith, inr (all-leave W Z S s u step x)), tt))
      (λ part. let other : f.filled ≡ size_of W x → ⊥ = eqb-false f.filled (size_of W x) part in keeps-becomes x f (omega arith, inl (λ l. omega arith)))
