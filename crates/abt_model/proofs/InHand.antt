-- What the unit in hand does next.
use Rattle.std.proofs.Common.{◌≡◌, ◌∙◌, ◌↔◌, ℕ, Bool, true, false, List, [], ◌∷◌, Option, None, Some, IsTrue, ap, if◌then◌else◌, length, nat_lt, option_map, refl, subst, sym}
use Rattle.abt_machine.specs.declared.events.Cause.TheVariants as cause
use Rattle.abt_machine.specs.declared.events.What.{What}
use Rattle.abt_machine.specs.declared.operations.Body.{Body}
use Rattle.abt_machine.specs.declared.operations.Body.TheVariants as body
use Rattle.abt_machine.specs.declared.operations.Op.{Op}
use Rattle.abt_machine.specs.declared.operations.Op.TheVariants as op
use Rattle.abt_machine.specs.Stored.{IsReturned, Returns, Stored}
use Rattle.abt_machine.specs.declared.workload.Parts.{Parts}
use Rattle.abt_machine.specs.Access.{may_take_all}
use Rattle.abt_machine.specs.Next.{Due, EndDue, EnterDue, RoundDue, StepDue, due_by, due_by_hand, due_of_frames, due_of_unit}
use Rattle.abt_machine.specs.State.{Asked, Carried, Exited, Frame, Left, Mark, Plain}
use Rattle.abt_machine.specs.Turns.{due_of, number_and_position}
use Rattle.abt_machine.specs.Values.{Held, Owned}
use Rattle.abt_machine.specs.Workloads.{body_at, op_at}
use Rattle.abt_laws.proofs.Options.{some-injective}
use Rattle.abt_plans.specs.declared.dues.HandDue.{HandDue}
use Rattle.abt_plans.specs.declared.dues.HandDue.TheVariants as hand
use Rattle.abt_plans.specs.Dues.{DueIs}
use Rattle.abt_model.specs.Hints.{AreHints, CallsNext, HoldsCall, IsToCall, MayBeTold, MayReturn, MayReturnAny, Tell, TellCall, TellRuns, function_of}

-- Calls.

-- what may be returned is of a call
pub returns-call : (Z : Stored) (a : Option Op) (u n : ℕ) (c : Carried) → Returns Z a u c n → (f : ℕ) × (a ≡ Some (op.Call f)) × IsReturned (Z.returns f u c.acc c.keys) n
returns-call Z (Some (op.Call f)) u n c h = (f, refl, h)
returns-call Z a u n c h = absurd h

call-returns : (Z : Stored) (a : Option Op) (f u n : ℕ) (c : Carried) → a ≡ Some (op.Call f) → IsReturned (Z.returns f u c.acc c.keys) n → Returns Z a u c n
call-returns Z a f u n c is h = subst (λ b. Returns Z b u c n) (sym is) h

-- two calls in one place are of one function
one-function : {f g : ℕ} → Some (op.Call f) ≡ Some (op.Call g) → f ≡ g
one-function e = cc

-- What is due.

no-round-ops : (b : Bool) → (if b then StepDue else EndDue cause.Done) ≡ RoundDue → ⊥
no-round-ops true e = cc
no-round-ops false e = cc

no-round-sched : (b : Bool) → (if b then EnterDue else EndDue cause.Access) ≡ RoundDue → ⊥
no-round-sched true e = cc
no-round-sched false e = cc

-- no round is due for a unit in hand
no-round : (W : Parts) (s : ℕ) (m : Mark) (b : Body) (k : ℕ) → due_of_unit W s m b k ≡ RoundDue → ⊥
no-round W s Asked b k e = cc
no-round W s Exited b k e = cc
no-round W s Plain (body.Sched g) k e = no-round-sched (may_take_all W s g.0) e
no-round W s Left (body.Sched g) k e = cc
no-round W s Plain (body.Ult ops) k e = no-round-ops (nat_lt k (length ops)) e
no-round W s Left (body.Ult ops) k e = no-round-ops (nat_lt k (length ops)) e
no-round W s Plain (body.Task ops) k e = no-round-ops (nat_lt k (length ops)) e
no-round W s Left (body.Task ops) k e = no-round-ops (nat_lt k (length ops)) e

-- The function that is to be called.

module _ (W : Parts) (s : ℕ) (m : Mark) (o : Owned) (d : HandDue) (dues : DueIs W s m o.number o.carried.position d) where
  call-by : (a : Op) (f : Option ℕ) → f ≡ function_of (Some a) → (due_of_unit W s m (body_at W o.number) o.carried.position ≡ StepDue) → op_at W o.number o.carried.position ≡ Some a → CallsNext W s m o f
  call-by (op.Call g) (Some f) is step at = let same : f ≡ g = some-injective is in (step, at ∙ ap (λ n. Some (op.Call n)) (sym same))
  call-by (op.Call g) None is step at = let no = is in cc
  call-by a (Some f) is step at = let no = is in cc
  call-by a None is step at = λ f to. let same : Some a ≡ Some (op.Call f) = sym at ∙ to.1 in cc

  pub step-calls : (a : Op) (f : Option ℕ) → d ≡ hand.Step a → f ≡ function_of (Some a) → CallsNext W s m o f
  step-calls a f is called = let both = subst (DueIs W s m o.number o.carried.position) is dues in call-by a f called both.0 both.1

  calls-none-by : (e : HandDue) → DueIs W s m o.number o.carried.position e → ((a : Op) → e ≡ hand.Step a → ⊥) → CallsNext W s m o None
  calls-none-by (hand.End c) is other f to = let e : EndDue c ≡ StepDue = sym is ∙ to.0 in cc
  calls-none-by (hand.Enter g) is other f to = let e : EnterDue ≡ StepDue = sym is.0 ∙ to.0 in cc
  calls-none-by (hand.Step a) is other f to = other a refl

  -- none if its end or its entry is due
  pub calls-none : ((a : Op) → d ≡ hand.Step a → ⊥) → CallsNext W s m o None
  calls-none other = calls-none-by d dues other

-- Hints of a unit.

module _ (W : Parts) (returns : ℕ → ℕ → ℕ → List ℕ → Option ℕ) (s : ℕ) (m : Mark) (o : Owned) where
  -- of one that is to call function f
  pub call-runs : (f : ℕ) (hints : List What) → IsToCall W s m o f → TellCall returns f o hints → TellRuns W returns s m o hints
  call-runs f hints to tell None none = absurd (none f to)
  call-runs f hints to tell (Some n) (g, also, h) =
      let same : g ≡ f = one-function (sym also.1 ∙ to.1) in
      tell n (subst (λ k. IsReturned (returns k o.number o.carried.acc o.carried.keys) n) same h)

  -- and of one that is to call none
  pub none-runs : (hints : List What) → CallsNext W s m o None → Tell hints None None → TellRuns W returns s m o hints
  none-runs hints none tell None may = tell
  none-runs hints none tell (Some n) (f, to, h) = absurd (none f to)

-- The stream that has the unit in its hand.

module _ (W : Parts) (Z : Stored) (s : ℕ) (held : Held) (o : Owned) (tray : held.tray ≡ []) (next : held.next ≡ None) (holds : held.hand ≡ Some o) where
  due-is : due_of W s held ≡ due_of_unit W s held.own.mark (body_at W o.number) o.carried.position
  due-is =
      ap (λ (os : List Owned). due_by {X = Owned} {Y = Owned} W s held.own os held.next (option_map number_and_position held.hand)) tray ∙
      (ap (λ (n : Option Owned). due_by {X = Owned} {Y = Owned} W s held.own [] n (option_map number_and_position held.hand)) next ∙
      ap (λ (h : Option Owned). due_by_hand W s held.own (option_map number_and_position h)) holds)

  to-call : (p : Owned) (f : ℕ) → HoldsCall W s held p f → IsToCall W s held.own.mark o f
  to-call p f h =
      let same : p ≡ o = some-injective (sym h.0 ∙ holds) in
      (sym due-is ∙ h.1, subst (λ (q : Owned). op_at W q.number q.carried.position ≡ Some (op.Call f)) same h.2)

  holds-call : (f : ℕ) → IsToCall W s held.own.mark o f → HoldsCall W s held o f
  holds-call f to = (holds, due-is ∙ to.0, to.1)

  -- its next event visits no pool, and may return what the unit's may
  pub unit-returns : (pool word : Option ℕ) → MayBeTold W Z s held pool word → (pool ≡ None) × MayReturn W Z.returns s held.own.mark o word
  unit-returns (Some p) None may = absurd (no-round W s held.own.mark (body_at W o.number) o.carried.position (sym due-is ∙ may.0))
  unit-returns (Some p) (Some n) may = absurd may
  unit-returns None None may = (refl, λ f to. may.1 o f (holds-call f to))
  unit-returns None (Some n) may =
      let same : may.0 ≡ o = some-injective (sym may.2 ∙ holds) in
      let at : Returns Z (op_at W o.number o.carried.position) o.number o.carried n = subst (λ (q : Owned). Returns Z (op_at W q.number q.carried.position) q.number q.carried n) same may.3 in
      let call = returns-call Z (op_at W o.number o.carried.position) o.number n o.carried at in
      (refl, (call.0, (sym due-is ∙ may.1, call.1), call.2))

  -- and what the unit's may return may be told
  pub unit-told : (word : Option ℕ) → MayReturn W Z.returns s held.own.mark o word → MayBeTold W Z s held None word
  unit-told None none = (λ e. no-round W s held.own.mark (body_at W o.number) o.carried.position (sym due-is ∙ e), λ p f h. none f (to-call p f h))
  unit-told (Some n) (f, to, h) = (o, due-is ∙ to.0, holds, call-returns Z (op_at W o.number o.carried.position) f o.number n o.carried to.1 h)

  pub runs-hints : (hints : List What) → TellRuns W Z.returns s held.own.mark o hints → AreHints W Z s held hints
  runs-hints hints tell pool word may =
      let both = unit-returns pool word may in
      subst (λ p. Tell hints p word) (sym both.0) (tell word both.1)

  pub runs-any : (f : ℕ) → MayReturnAny W Z.returns s held.own.mark o f → (p : Owned) × HoldsCall W s held p f × (Z.returns f p.number p.carried.acc p.carried.keys ≡ None)
  runs-any f h = (o, holds-call f h.0, h.1)

-- Steps.

-- no step is due if no unit is in the hand
frames-no-step : (b : Bool) (fs : List Frame) → due_of_frames b fs ≡ StepDue → ⊥
frames-no-step true [] e = cc
frames-no-step true (f ∷ fs) e = cc
frames-no-step false fs e = cc

module _ (W : Parts) (s : ℕ) (held : Held) (tray : held.tray ≡ []) (next : held.next ≡ None) where
  pub none-steps : held.hand ≡ None → due_of W s held ≡ StepDue → ⊥
  none-steps holds is =
      let same : due_of W s held ≡ due_of_frames held.own.top.empty held.own.below =
      ap (λ (os : List Owned). due_by {X = Owned} {Y = Owned} W s held.own os held.next (option_map number_and_position held.hand)) tray ∙
      (ap (λ (n : Option Owned). due_by {X = Owned} {Y = Owned} W s held.own [] n (option_map number_and_position held.hand)) next ∙
      ap (λ (h : Option Owned). due_by_hand W s held.own (option_map number_and_position h)) holds) in
      frames-no-step held.own.top.empty held.own.below (sym same ∙ is)

  -- a step is due if one is due for the unit in hand
  pub hand-steps : (o : Owned) (m : Mark) (b : Bool) → held.hand ≡ Some o → m ≡ held.own.mark → (IsTrue b ↔ (due_of_unit W s m (body_at W o.number) o.carried.position ≡ StepDue)) → IsTrue b ↔ (due_of W s held ≡ StepDue)
  hand-steps o m b holds mark is =
      let same : due_of W s held ≡ due_of_unit W s held.own.mark (body_at W o.number) o.carried.position =
      ap (λ (os : List Owned). due_by {X = Owned} {Y = Owned} W s held.own os held.next (option_map number_and_position held.hand)) tray ∙
      (ap (λ (n : Option Owned). due_by {X = Owned} {Y = Owned} W s held.own [] n (option_map number_and_position held.hand)) next ∙
      ap (λ (h : Option Owned). due_by_hand W s held.own (option_map number_and_position h)) holds) in
      let here : due_of_unit W s m (body_at W o.number) o.carried.position ≡ due_of_unit W s held.own.mark (body_at W o.number) o.carried.position = ap (λ k. due_of_unit W s k (body_at W o.number) o.carried.position) mark in
      (λ yes. same ∙ (sym here ∙ is.0 yes), λ due. is.1 (here ∙ (sym same ∙ due)))
