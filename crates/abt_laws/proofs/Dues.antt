-- What it says of a stream that an event is due.
use Rattle.std.proofs.Common.{◌≡◌, ◌≢◌, ℕ, ◌<◌, ◌≤◌, nat_lt, Bool, true, false, List, [], ◌∷◌, length, Option, Some, None, option_map, refl, sym, ◌∙◌, ap, subst}
use Rattle.std.proofs.lemmas.Bool.{cond_both, ltb-true, ltb-false}
use Rattle.abt_machine.specs.declared.events.Cause.{Cause}
use Rattle.abt_machine.specs.declared.events.Cause.TheVariants as cause
use Rattle.abt_machine.specs.declared.numbers.SchedNo.{SchedNo}
use Rattle.abt_machine.specs.declared.operations.Body.{Body}
use Rattle.abt_machine.specs.declared.operations.Body.TheVariants as body
use Rattle.abt_machine.specs.declared.operations.Op.{Op}
use Rattle.abt_machine.specs.declared.workload.Parts.{Parts}
use Rattle.abt_machine.specs.Workloads.{body_at, ops_of, is_sched}
use Rattle.abt_machine.specs.Access.{may_take_all}
use Rattle.abt_machine.specs.Queues.{first}
use Rattle.abt_machine.specs.State.{State, Stream, Frame, Mark, Plain, Asked, Left, Exited}
use Rattle.abt_machine.specs.Lines.{standing, hand, next, InTray, InHand, InNext}
use Rattle.abt_machine.specs.Next.{Due, PutDue, LookDue, EndDue, EnterDue, StepDue, LeaveDue, RoundDue, at_position, due, due_by, due_by_hand, due_of_frames, due_of_ops, due_of_unit}
use Rattle.abt_laws.proofs.Arrivals.{IsEmpty}
use Rattle.abt_laws.proofs.Exits.{is_exited, is_own}
use Rattle.abt_laws.proofs.Standing.{UndeclaredUnborn, none-first}

-- The unit in hand.

due_of_ops-cases : (P : Due → Type 0) (ops : List Op) (k : ℕ) → (k < length ops → P StepDue) → (length ops ≤ k → P (EndDue cause.Done)) → P (due_of_ops ops k)
due_of_ops-cases P ops k step end = cond_both (nat_lt k (length ops)) StepDue (EndDue cause.Done) P (λ yes. step (ltb-true k (length ops) yes)) (λ no. end (ltb-false k (length ops) no))

-- what holds in each case of what is due for a unit: it was asked to cancel, has ended itself, is a scheduler or has a program
module _ (W : Parts) (s k : ℕ) (P : Mark → Body → Due → Type 0) (asked : (b : Body) → P Asked b (EndDue cause.Asked)) (exited : (b : Body) → P Exited b (EndDue cause.Own))
    (enter : (g : SchedNo) → P Plain (body.Sched g) EnterDue) (access : (g : SchedNo) → P Plain (body.Sched g) (EndDue cause.Access)) (gone : (g : SchedNo) → P Left (body.Sched g) (EndDue cause.Done))
    (step : (m : Mark) (b : Body) → is_sched b ≡ false → k < length (ops_of b) → P m b StepDue) (done : (m : Mark) (b : Body) → is_sched b ≡ false → length (ops_of b) ≤ k → P m b (EndDue cause.Done)) where
  pub due_of_unit-cases : (m : Mark) (b : Body) → P m b (due_of_unit W s m b k)
  due_of_unit-cases Asked b = asked b
  due_of_unit-cases Exited b = exited b
  due_of_unit-cases Plain (body.Sched g) = cond_both (may_take_all W s g.0) EnterDue (EndDue cause.Access) (P Plain (body.Sched g)) (λ _. enter g) (λ _. access g)
  due_of_unit-cases Left (body.Sched g) = gone g
  due_of_unit-cases Plain (body.Ult ops) = due_of_ops-cases (P Plain (body.Ult ops)) ops k (step Plain (body.Ult ops) refl) (done Plain (body.Ult ops) refl)
  due_of_unit-cases Left (body.Ult ops) = due_of_ops-cases (P Left (body.Ult ops)) ops k (step Left (body.Ult ops) refl) (done Left (body.Ult ops) refl)
  due_of_unit-cases Plain (body.Task ops) = due_of_ops-cases (P Plain (body.Task ops)) ops k (step Plain (body.Task ops) refl) (done Plain (body.Task ops) refl)
  due_of_unit-cases Left (body.Task ops) = due_of_ops-cases (P Left (body.Task ops)) ops k (step Left (body.Task ops) refl) (done Left (body.Task ops) refl)

-- a unit that is to make a step has a program, and an operation left
pub step-due : (W : Parts) (s : ℕ) (m : Mark) (b : Body) (k : ℕ) → due_of_unit W s m b k ≡ StepDue → (is_sched b ≡ false) × (k < length (ops_of b))
step-due W s m b k =
    due_of_unit-cases W s k (λ m b d. d ≡ StepDue → (is_sched b ≡ false) × (k < length (ops_of b))) (λ b h. cc) (λ b h. cc) (λ g h. cc) (λ g h. cc) (λ g h. cc) (λ m b program more h. (program, more)) (λ m b program over h. cc) m b

-- no round is due while a unit is in hand
pub no-round-in-hand : (W : Parts) (s : ℕ) (m : Mark) (b : Body) (k : ℕ) → due_of_unit W s m b k ≡ RoundDue → ⊥
no-round-in-hand W s m b k =
    due_of_unit-cases W s k (λ m b d. d ≡ RoundDue → ⊥) (λ b h. cc) (λ b h. cc) (λ g h. cc) (λ g h. cc) (λ g h. cc) (λ m b program more h. cc) (λ m b program over h. cc) m b

-- a unit that is to make a step has not ended itself
pub step-mark : (W : Parts) (s : ℕ) (m : Mark) (b : Body) (k : ℕ) → due_of_unit W s m b k ≡ StepDue → is_exited m ≡ false
step-mark W s Plain b k h = refl
step-mark W s Asked b k h = refl
step-mark W s Left b k h = refl
step-mark W s Exited b k h = cc

-- the end of a unit that has not ended itself
not-own : (W : Parts) (s : ℕ) (m : Mark) (b : Body) (k : ℕ) (c : Cause) → due_of_unit W s m b k ≡ EndDue c → is_exited m ≡ false → false ≡ is_own c
not-own W s m b k c =
    due_of_unit-cases W s k (λ m b d. d ≡ EndDue c → is_exited m ≡ false → false ≡ is_own c)
    (λ b h n. let e : cause.Asked ≡ c = cc in ap is_own e) (λ b h n. cc) (λ g h n. cc)
    (λ g h n. let e : cause.Access ≡ c = cc in ap is_own e) (λ g h n. let e : cause.Done ≡ c = cc in ap is_own e)
    (λ m b program more h n. cc) (λ m b program over h n. let e : cause.Done ≡ c = cc in ap is_own e) m b

-- a unit whose end is due has ended itself exactly if that is the cause
pub end-mark : (W : Parts) (s : ℕ) (m : Mark) (b : Body) (k : ℕ) (c : Cause) → due_of_unit W s m b k ≡ EndDue c → is_exited m ≡ is_own c
end-mark W s Exited b k c h = let e : cause.Own ≡ c = cc in ap is_own e
end-mark W s Asked b k c h = let e : cause.Asked ≡ c = cc in ap is_own e
end-mark W s Plain b k c h = not-own W s Plain b k c h refl
end-mark W s Left b k c h = not-own W s Left b k c h refl

-- a unit that enters is a scheduler, neither asked to cancel nor has it left
pub enter-due : (W : Parts) (s : ℕ) (m : Mark) (b : Body) (k : ℕ) → due_of_unit W s m b k ≡ EnterDue → (m ≡ Plain) × ((g : SchedNo) × (b ≡ body.Sched g))
enter-due W s m b k =
    due_of_unit-cases W s k (λ m b d. d ≡ EnterDue → (m ≡ Plain) × ((g : SchedNo) × (b ≡ body.Sched g))) (λ b h. cc) (λ b h. cc) (λ g h. (refl, (g, refl))) (λ g h. cc) (λ g h. cc) (λ m b program more h. cc) (λ m b program over h. cc) m b

-- The stream.

-- what comes only with an empty tray
abbrev pub AfterTray : Due → Type 0
AfterTray PutDue = ⊥
AfterTray _ = Unit {0}

-- what comes only with an empty tray and Next
abbrev pub AfterNext : Due → Type 0
AfterNext PutDue = ⊥
AfterNext LookDue = ⊥
AfterNext _ = Unit {0}

-- what comes only with an empty tray, Next and hand
abbrev pub AfterHand : Due → Type 0
AfterHand LeaveDue = Unit {0}
AfterHand RoundDue = Unit {0}
AfterHand _ = ⊥

after-next : (d : Due) → AfterHand d → AfterNext d
after-next LeaveDue h = tt
after-next RoundDue h = tt
after-next _ h = absurd h

tray-by : {X Y : Type 0} (W : Parts) (s : ℕ) (own : Stream) (us : List X) (taken : Option Y) (held : Option (ℕ × ℕ)) → AfterTray (due_by W s own us taken held) → first us ≡ None
tray-by W s own [] taken held h = refl
tray-by W s own (u ∷ us) taken held h = absurd h

next-by : {X Y : Type 0} (W : Parts) (s : ℕ) (own : Stream) (us : List X) (taken : Option Y) (held : Option (ℕ × ℕ)) → AfterNext (due_by W s own us taken held) →
    (first us ≡ None) × (taken ≡ None) × (due_by W s own us taken held ≡ due_by_hand W s own held)
next-by W s own [] None held h = (refl, refl, refl)
next-by W s own [] (Some v) held h = absurd h
next-by W s own (u ∷ us) taken held h = absurd h

hand-by : (W : Parts) (s : ℕ) (own : Stream) (o : Option ℕ) (at : ℕ → ℕ × ℕ) → AfterHand (due_by_hand W s own (option_map at o)) → o ≡ None
hand-by W s own None at h = refl
hand-by W s own (Some u) at h =
    absurd (due_of_unit-cases W s (at u).1 (λ m b d. AfterHand d → ⊥) (λ b a. a) (λ b a. a) (λ g a. a) (λ g a. a) (λ g a. a) (λ m b program more a. a) (λ m b program over a. a) own.mark (body_at W (at u).0) h)

module _ (W : Parts) (S : State) (s : ℕ) where
  by-hand : (d : Due) → due W S s ≡ d → AfterNext d → (first (standing W S (InTray s)) ≡ None) × (next W S s ≡ None) × (due_by_hand W s (S.stream s) (option_map (at_position S) (hand W S s)) ≡ d)
  by-hand d e after =
      let is = next-by W s (S.stream s) (standing W S (InTray s)) (next W S s) (option_map (at_position S) (hand W S s)) (subst AfterNext (sym e) after) in
      (is.0, is.1, sym is.2 ∙ e)

  -- what is due for the unit in hand
  pub due-unit : (d : Due) (u : ℕ) → due W S s ≡ d → AfterNext d → hand W S s ≡ Some u → due_of_unit W s (S.stream s).mark (body_at W u) (S.carried u).position ≡ d
  due-unit d u e after is = ap (λ o. due_by_hand W s (S.stream s) (option_map (at_position S) o)) (sym is) ∙ (by-hand d e after).2

  -- a stream without a unit in hand does what its frames say
  pub due-idle : (d : Due) → due W S s ≡ d → AfterHand d → (hand W S s ≡ None) × (due_of_frames (S.stream s).top.empty (S.stream s).below ≡ d)
  due-idle d e after =
      let is : due_by_hand W s (S.stream s) (option_map (at_position S) (hand W S s)) ≡ d = (by-hand d e (after-next d after)).2 in
      let none : hand W S s ≡ None = hand-by W s (S.stream s) (hand W S s) (at_position S) (subst AfterHand (sym is) after) in
      (none, ap (λ o. due_by_hand W s (S.stream s) (option_map (at_position S) o)) (sym none) ∙ is)

  module _ (undeclared : UndeclaredUnborn W S) where
    pub due-no_tray : (d : Due) → due W S s ≡ d → AfterTray d → IsEmpty (InTray s) S.place
    due-no_tray d e after = none-first W S undeclared (InTray s) (tray-by W s (S.stream s) (standing W S (InTray s)) (next W S s) (option_map (at_position S) (hand W S s)) (subst AfterTray (sym e) after))

    pub due-no_next : (d : Due) → due W S s ≡ d → AfterNext d → IsEmpty (InNext s) S.place
    due-no_next d e after = none-first W S undeclared (InNext s) (by-hand d e after).1

    pub due-no_hand : (d : Due) → due W S s ≡ d → AfterHand d → IsEmpty (InHand s) S.place
    due-no_hand d e after = none-first W S undeclared (InHand s) (due-idle d e after).0

-- a unit that enters is neither asked to cancel nor has it left
pub enters-plain : (W : Parts) (S : State) (s u : ℕ) → due W S s ≡ EnterDue → hand W S s ≡ Some u → (S.stream s).mark ≡ Plain
enters-plain W S s u e is = (enter-due W s (S.stream s).mark (body_at W u) (S.carried u).position (due-unit W S s EnterDue u e tt is)).0

-- The frames.

leave-frames : (empty : Bool) (fs : List Frame) → due_of_frames empty fs ≡ LeaveDue → (f : Frame) × (rest : List Frame) × (fs ≡ f ∷ rest)
leave-frames true (f ∷ fs) h = (f, fs, refl)
leave-frames true [] h = cc
leave-frames false fs h = cc

-- a stacked frame is left
pub leave-below : (W : Parts) (S : State) (s : ℕ) → due W S s ≡ LeaveDue → (f : Frame) × (rest : List Frame) × ((S.stream s).below ≡ f ∷ rest)
leave-below W S s h = leave-frames (S.stream s).top.empty (S.stream s).below (due-idle W S s LeaveDue h tt).1

round-frames : (empty : Bool) (fs : List Frame) → due_of_frames empty fs ≡ RoundDue → fs ≢ [] → empty ≡ false
round-frames false fs h some = refl
round-frames true [] h some = absurd (some refl)
round-frames true (f ∷ fs) h some = cc

-- if a round is due, the last round of a stacked top frame did not end empty
pub round-not-empty : (W : Parts) (S : State) (s : ℕ) → due W S s ≡ RoundDue → (S.stream s).below ≢ [] → (S.stream s).top.empty ≡ false
round-not-empty W S s h some = round-frames (S.stream s).top.empty (S.stream s).below (due-idle W S s RoundDue h tt).1 some
