-- From what the unit in hand makes to an event.
use Rattle.std.proofs.Common.{◌≡◌, ◌<◌, ◌↔◌, ◌∷◌, ◌++◌, [], ℕ, length, List, Option, None, Some, refl, sym, ap, ◌∙◌, subst}
use Rattle.abt_machine.specs.declared.events.Cause.{Cause}
use Rattle.abt_machine.specs.declared.events.Site.TheVariants as site
use Rattle.abt_machine.specs.declared.events.What.{What}
use Rattle.abt_machine.specs.declared.numbers.SchedNo.{SchedNo}
use Rattle.abt_machine.specs.declared.operations.Op.{Op}
use Rattle.abt_machine.specs.declared.operations.Op.TheVariants as op
use Rattle.abt_machine.specs.Stored.{IsNoCall, IsReturned, Returns, Stored}
use Rattle.abt_machine.specs.declared.workload.Parts.{Parts}
use Rattle.abt_machine.specs.Acts as act
use Rattle.abt_machine.specs.Frames.{entered, sched_of}
use Rattle.abt_machine.specs.Next.{Due, EndDue, EnterDue, StepDue, due_by, due_of_unit}
use Rattle.abt_machine.specs.Numbers.{unit_no}
use Rattle.abt_machine.specs.State.{Mark}
use Rattle.abt_machine.specs.Turns.{Heard, Steps, due_of, number_and_position}
use Rattle.abt_machine.specs.Values.{Held, Object, Owned}
use Rattle.abt_machine.specs.Workloads.{body_at, op_at}
use Rattle.abt_calls.specs.Allowed.{Allows}
use Rattle.abt_plans.specs.declared.dues.HandDue.{HandDue}
use Rattle.abt_plans.specs.declared.dues.HandDue.TheVariants as due
use Rattle.abt_plans.specs.Dues.{DueIs}
use Rattle.abt_replay.specs.Events.{AreObjects, CallsBy, Ends, Entered, ReturnsSaid, Runs, Stepped, in_hand}
use Rattle.abt_replay.specs.Objects.{ObjectsValue, object_at}

-- a unit's desk may be asked to end it
pub end-allowed : (W : Parts) (objects : ObjectsValue) (o : Owned) (cause : Cause) → AreObjects W objects → o.number < length W.units → Allows (object_at objects (site.Desk (unit_no o.number))) (act.End o cause)
end-allowed W objects o cause are number = subst (λ (q : Object). Allows q (act.End o cause)) (sym (are.1 (site.Desk (unit_no o.number)) number)) tt

-- the operation that is due
pub due-op : (W : Parts) (s : ℕ) (m : Mark) (o : Owned) (d : HandDue) (a : Op) → DueIs W s m o.number o.carried.position d → d ≡ due.Step a → op_at W o.number o.carried.position ≡ Some a
due-op W s m o d a h is = (subst (DueIs W s m o.number o.carried.position) is h).1

-- what is due for the unit in hand is what is due for the stream
hand-due : (W : Parts) (s : ℕ) (old : Held) (o : Owned) (d : Due) → old.tray ≡ [] → old.next ≡ None → due_of_unit W s old.own.mark (body_at W o.number) o.carried.position ≡ d → due_of W s (in_hand o old) ≡ d
hand-due W s old o d tray next e =
    ap (λ (os : List Owned). due_by {X = Owned} {Y = Owned} W s old.own os old.next (Some (number_and_position o))) tray ∙
    (ap (λ (n : Option Owned). due_by {X = Owned} {Y = Owned} W s old.own [] n (Some (number_and_position o))) next ∙ e)

module _ (W : Parts) (Z : Stored) (s : ℕ) (old : Held) (before : ObjectsValue) (o : Owned) (d : HandDue) (said : Option ℕ) (new : Held) (after : ObjectsValue) (tray : old.tray ≡ []) (next : old.next ≡ None)
    (dues : DueIs W s old.own.mark o.number o.carried.position d) where
  pub end-moves : (cause : Cause) (made : What) → d ≡ due.End cause → Ends old before o cause made new after → Runs W Z s o old before said (Some made) new after
  end-moves cause made is h =
      let e = hand-due W s old o (EndDue cause) tray next (subst (DueIs W s old.own.mark o.number o.carried.position) is dues) in
      let heard : Option Heard = Some (site.Desk (unit_no o.number), act.End o cause, act.Woke h.call.0) in
      ((heard, subst (λ (w : What). Steps W Z s (in_hand o old) w heard new) (sym h.made_is) (e, o, refl, refl, h.call.0, refl, h.call.2), h.call.1), subst (ReturnsSaid said) (sym h.made_is) tt)

  pub enter-moves : (g : SchedNo) (made : What) → d ≡ due.Enter g → Entered g.0 old o made new → after ≡ before → Runs W Z s o old before said (Some made) new after
  enter-moves g made is h stays =
      let both = subst (DueIs W s old.own.mark o.number o.carried.position) is dues in
      let e = hand-due W s old o EnterDue tray next both.0 in
      let same : sched_of (body_at W o.number) ≡ g.0 = ap sched_of both.1 in (
        (
          None,
          subst (λ (w : What). Steps W Z s (in_hand o old) w None new) (sym h.made_is)
              (e, o, refl, refl, refl, subst (λ n. new ≡ record old { own = entered n old.own; hand = None; framed = old.framed ++ o ∷ [] }) (sym same) h.new_is),
          stays,
        ),
        subst (ReturnsSaid said) (sym h.made_is) tt,
      )

  pub step-moves : (a : Op) (made : What) → d ≡ due.Step a → IsNoCall (Some a) → Stepped W s a o old before made new after → Runs W Z s o old before said (Some made) new after
  step-moves a made is own h =
      let both = subst (DueIs W s old.own.mark o.number o.carried.position) is dues in
      let e = hand-due W s old o StepDue tray next both.0 in
      ((h.2.0, subst (λ (w : What). Steps W Z s (in_hand o old) w h.2.0 new) (sym h.1) (e, o, refl, refl, refl, a, both.1, h.2.1, own), h.2.2), subst (ReturnsSaid said) (sym h.1) tt)

  -- a call, or none

  returned-at : (a : Op) (f n : ℕ) (returns : ℕ → ℕ → ℕ → List ℕ → Option ℕ) → op_at W o.number o.carried.position ≡ Some a → a ≡ op.Call f → Z.returns ≡ returns → IsReturned (returns f o.number o.carried.acc o.carried.keys) n
      ↔ Returns Z (op_at W o.number o.carried.position) o.number o.carried n
  returned-at a f n returns at is same =
      let there : op_at W o.number o.carried.position ≡ Some (op.Call f) = at ∙ ap (λ (b : Op). Some b) is in (
        λ h. subst (λ b. Returns Z b o.number o.carried n) (sym there) (subst (λ (r : ℕ → ℕ → ℕ → List ℕ → Option ℕ). IsReturned (r f o.number o.carried.acc o.carried.keys) n) (sym same) h),
        λ h. subst (λ (r : ℕ → ℕ → ℕ → List ℕ → Option ℕ). IsReturned (r f o.number o.carried.acc o.carried.keys) n) same (subst (λ b. Returns Z b o.number o.carried n) there h),
      )

  pub call-moves : (a : Op) (f : ℕ) (returns : ℕ → ℕ → ℕ → List ℕ → Option ℕ) (made : Option What) → d ≡ due.Step a → a ≡ op.Call f → Z.returns ≡ returns → CallsBy (returns f) o old said made new → after ≡ before
      → Runs W Z s o old before said made new after
  call-moves a f returns (Some made) is calls same h stays =
      let both = subst (DueIs W s old.own.mark o.number o.carried.position) is dues in
      let e = hand-due W s old o StepDue tray next both.0 in
      let returned = (returned-at a f h.0 returns both.1 calls same).0 h.2 in (
        (None, subst (λ (w : What). Steps W Z s (in_hand o old) w None new) (sym h.3) (e, o, refl, refl, refl, returned, refl, h.4), stays),
        subst (ReturnsSaid said) (sym h.3) h.1,
      )
  call-moves a f returns None is calls same h stays =
      let both = subst (DueIs W s old.own.mark o.number o.carried.position) is dues in
      record {
        due = hand-due W s old o StepDue tray next both.0;
        hand = refl;
        calls = λ own. subst IsNoCall (both.1 ∙ ap (λ (b : Op). Some b) calls) own;
        returns = λ n says may. h n says ((returned-at a f n returns both.1 calls same).1 may);
      }

pub ruleset running = (end-allowed, due-op, end-moves, enter-moves, step-moves, call-moves)
