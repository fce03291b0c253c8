-- Each step of an adder.
use Rattle.std.proofs.Common.{◌≡◌, ℕ, zero, suc, ◌<◌, ◌≤◌, ◌+◌, ◌*◌, ◌^◌, List, [], ◌∷◌, Option, Some, None, slice_get, refl, sym, ◌∙◌, ap, subst, arith}
use Rattle.std.specs.Prelude.{◌%◌}
use Rattle.abt_machine.specs.declared.events.Code.{Code}
use Rattle.abt_machine.specs.declared.events.Place.{Place}
use Rattle.abt_machine.specs.declared.events.Place.TheVariants as place
use Rattle.abt_machine.specs.declared.events.Spot.TheVariants as spot
use Rattle.abt_machine.specs.declared.operations.Op.{Op}
use Rattle.abt_machine.specs.declared.operations.Op.TheVariants as op
use Rattle.abt_machine.specs.Carrying.{added, advanced, with_acc}
use Rattle.abt_machine.specs.Changes.{changed, goes_with}
use Rattle.abt_machine.specs.Codes.{code_at}
use Rattle.abt_machine.specs.Limits.{adder_limit}
use Rattle.abt_machine.specs.Lines.{tray_end}
use Rattle.abt_machine.specs.Maps.{put_all}
use Rattle.abt_machine.specs.Numbers.{object_no, stream_no}
use Rattle.abt_machine.specs.State.{Carried, Mutex, State}
use Rattle.abt_machine.specs.Steps.{locks, op_row, set_owner, step_row}
use Rattle.abt_laws.proofs.Maps.{put_at-other, put_at-same}
use Rattle.abt_laws.proofs.Options.{none≢some}
use Rattle.abt_laws.proofs.Sums.{sum_up, sum_up-most, sum_up-rises}
use Rattle.abt_generate.specs.Generated.{adder_ops, generated}
use Rattle.abt_adders.proofs.Going.{Adds}
use Rattle.abt_adders.proofs.Moving.{Hands, hands-free, hands-lock, hands-number, hands-same}
use Rattle.abt_adders.proofs.Stages.{Active, AdderAt, AdderGoes, NotMine, Over, Stage, Waits, stage, stored}
use Rattle.abt_adders.proofs.Steps.{adder-step, by-op, owned-ok, unlocks}

-- what a unit has stored is at most its number
stored-most : (v k : ℕ) → stored v k ≤ v
stored-most v zero = omega arith
stored-most v (suc zero) = omega arith
stored-most v (suc (suc zero)) = omega arith
stored-most v (suc (suc (suc zero))) = omega arith
stored-most v (suc (suc (suc (suc zero)))) = omega arith
stored-most v (suc (suc (suc (suc (suc k))))) = omega arith

-- a sum of few numbers fits a word
sum-fits : (n : ℕ) (c : ℕ → Carried) → n ≤ adder_limit → sum_up (λ v. stored v (c v).position) (suc n) ≤ 16002
sum-fits n c few =
    let each : sum_up (λ v. stored v (c v).position) (suc n) ≤ sum_up (λ v. 126) (suc n) =
    sum_up-rises (λ v. stored v (c v).position) (λ v. 126) (suc n) (λ v l. (let m : stored v (c v).position ≤ v = stored-most v (c v).position in omega arith)) in
    let all : sum_up (λ v. 126) (suc n) ≤ suc n * 126 = sum_up-most (λ v. 126) 126 (suc n) (λ v. omega arith) in omega arith

module _ (n : ℕ) (few : n ≤ adder_limit) (t : ℕ) (S : State) (adds : Adds n t S) (s u : ℕ) (some : 0 < u) (most : u ≤ n) (held : S.place u ≡ place.Hand (stream_no s)) (born : u ≤ (S.carried 0).position) where
  abbrev m : Mutex
  m = S.mutex 0

  here : stage (S.place u) ≡ Active
  here = ap stage held

  not-over : (a : Stage) → stage (S.place u) ≡ Over → a ≡ Over
  not-over a o = let x : Active ≡ Over = sym here ∙ o in absurd cc

  silent : (S.carried u).output ≡ []
  silent = adds.adding.silent u some

  same-hands : Hands n m m u
  same-hands = hands-same n m u adds.adding.owned

  -- the unit stays in its hand, at the next position
  module _ (j : ℕ) (is : (S.carried u).position ≡ j) where
    active : (k : Mutex) (e : Carried) → e.position ≡ (S.carried u).position → AdderGoes k u (advanced e) (suc j) → AdderAt (S.carried 0).position k u (advanced e) Active
    active k e same h = (born, subst (AdderGoes k u (advanced e)) (sym (ap suc (same ∙ is))) h)

    numbers : (a b : ℕ) → a + stored u j ≡ b + stored u (suc j) → a + stored u (S.carried u).position ≡ b + stored u (suc (S.carried u).position)
    numbers a b h = subst (λ i. a + stored u i ≡ b + stored u (suc i)) (sym is) h

    -- with this to carry, and with this mutex
    goes : (e : Carried) (ks : List (ℕ × Mutex)) → e.position ≡ (S.carried u).position → e.output ≡ [] → Hands n m (put_all S.mutex ks 0) u → AdderGoes (put_all S.mutex ks 0) u (advanced e) (suc j) →
        (put_all S.mutex ks 0).number + stored u j ≡ m.number + stored u (suc j) → Adds n (suc t) (changed S (record (goes_with u e) { mutexes = ks }))
    goes e ks same quiet hands h number =
        adder-step n t S adds s u e [] [] [] ks (λ w ne. refl) Active here hands same some most (active (put_all S.mutex ks 0) e same h) (not-over Active) quiet (numbers (put_all S.mutex ks 0).number m.number number)

  yields : (S.carried u).position ≡ 0 → NotMine m u → Adds n (suc t) (changed S (op_row (generated n) S s u op.Yield))
  yields is h =
      let to : Place = place.Tray (stream_no s) (tray_end (generated n) S s) in
      adder-step n t S adds s u (S.carried u) ((u, to) ∷ []) [] [] [] (put_at-other S.place u to) Active (ap stage (put_at-same S.place u to)) same-hands refl some most
      (active 0 is m (S.carried u) refl h) (not-over Active) silent (numbers 0 is m.number m.number refl)

  locks-adds : (S.carried u).position ≡ 1 → NotMine m u → (o : Option ℕ) → m.owner ≡ o → Adds n (suc t) (changed S (locks S u 0 o))
  locks-adds is h None free = goes 1 is (S.carried u) ((0, set_owner (Some u) m) ∷ []) refl silent (hands-lock n m u most free) refl refl
  locks-adds is h (Some v) owned =
      let to : Place = place.Blocked (spot.Object (object_no 0)) (S.object_next 0) in
      adder-step n t S adds s u (S.carried u) ((u, to) ∷ []) [] ((0, suc (S.object_next 0)) ∷ []) [] (put_at-other S.place u to) (Waits 0) (ap stage (put_at-same S.place u to)) same-hands refl some most
      (born, refl, ap suc is, h) (not-over (Waits 0)) silent (numbers 1 is m.number m.number refl)

  -- by the position
  pub adder-steps : (j : ℕ) → (S.carried u).position ≡ j → j < 6 → AdderGoes m u (S.carried u) j → (o : Option Op) (q : Code) → o ≡ slice_get (adder_ops u) j → q ≡ code_at (generated n) S s u o →
      Adds n (suc t) (changed S (step_row (generated n) S s u o q))
  adder-steps zero is l h o q e c = by-op n t S adds s u (suc t) o q op.Yield e c refl (yields is h)
  adder-steps (suc zero) is l h o q e c = by-op n t S adds s u (suc t) o q (op.Lock (object_no 0)) e c refl (locks-adds is h m.owner refl)
  adder-steps (suc (suc zero)) is l h o q e c =
      by-op n t S adds s u (suc t) o q (op.Load (object_no 0)) e c (owned-ok S u h) (goes 2 is (with_acc m.number (S.carried u)) [] refl silent same-hands (h, refl) refl)
  adder-steps (suc (suc (suc zero))) is l h o q e c =
      let number = adds.adding.number in
      let small : ((S.carried u).acc + u) % 2 ^ 64 ≡ (S.carried u).acc + u = (let fits : m.number ≤ 16002 = subst (λ x. x ≤ 16002) (sym number) (sum-fits n S.carried few) in let acc = h.1 in omega arith) in
      by-op n t S adds s u (suc t) o q (op.Add u) e c refl (goes 3 is (added u (S.carried u)) [] refl silent same-hands (h.0, small ∙ ap (λ x. x + u) h.1) refl)
  adder-steps (suc (suc (suc (suc zero)))) is l h o q e c =
      by-op n t S adds s u (suc t) o q (op.Store (object_no 0)) e c (owned-ok S u h.0)
      (goes 4 is (S.carried u) ((0, record m { number = (S.carried u).acc }) ∷ []) refl silent (hands-number n m u (S.carried u).acc most h.0) h.0 (let acc = h.1 in omega arith))
  adder-steps (suc (suc (suc (suc (suc zero))))) is l h o q e c =
      by-op n t S adds s u (suc t) o q (op.Unlock (object_no 0)) e c (owned-ok S u h)
      (unlocks n t S adds s u (goes 5 is (S.carried u) ((0, set_owner None m) ∷ []) refl silent (hands-free n m u h) (λ x. none≢some x) refl))
  adder-steps (suc (suc (suc (suc (suc (suc j)))))) is l h o q e c = absurd (omega arith)
