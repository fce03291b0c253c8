-- From what each kind of event makes of a stream to its turn.
use Rattle.std.proofs.Common.{◌≡◌, ◌<◌, ◌++◌, ◌%◌, ◌^◌, ℕ, suc, false, List, [], ◌∷◌, Option, None, Some, option_map, inl, inr, refl, sym, ap, ◌∙◌, subst, arith}
use Rattle.abt_machine.specs.declared.events.Cause.{Cause}
use Rattle.abt_machine.specs.declared.events.Code.{Code}
use Rattle.abt_machine.specs.declared.events.Code.TheVariants as code
use Rattle.abt_machine.specs.declared.events.Site.{Site}
use Rattle.abt_machine.specs.declared.events.Site.TheVariants as site
use Rattle.abt_machine.specs.declared.events.What.{What}
use Rattle.abt_machine.specs.declared.events.What.TheVariants as what
use Rattle.abt_machine.specs.declared.numbers.PoolNo.{PoolNo}
use Rattle.abt_machine.specs.declared.numbers.SchedNo.{SchedNo}
use Rattle.abt_machine.specs.declared.operations.Body.{Body}
use Rattle.abt_machine.specs.declared.operations.Body.TheVariants as body
use Rattle.abt_machine.specs.declared.operations.Op.{Op}
use Rattle.abt_machine.specs.declared.operations.Op.TheVariants as op
use Rattle.abt_machine.specs.Stored.{IsNoCall, IsReturned, Returns, Stored}
use Rattle.abt_machine.specs.declared.workload.Parts.{Parts}
use Rattle.abt_machine.specs.Acts.{Act, moved, received}
use Rattle.abt_machine.specs.Acts as act
use Rattle.abt_machine.specs.Frames.{entered, frame_at, sched_of}
use Rattle.abt_machine.specs.Next.{Due, EndDue, EnterDue, LookDue, PutDue, StepDue, due_by, due_of_unit}
use Rattle.abt_machine.specs.Numbers.{pool_no, unit_no}
use Rattle.abt_machine.specs.Outcomes.{steps_in}
use Rattle.abt_machine.specs.Plans.{Calls, Does, Exits, Plan, keeps, plan_of}
use Rattle.abt_machine.specs.Turns.{Heard, Performs, Steps, due_of, exited, looked, number_and_position, stepped}
use Rattle.abt_machine.specs.Values.{Held, Owned}
use Rattle.abt_machine.specs.Workloads.{body_at, op_at}
use Rattle.abt_commons.specs.Replies.{Told}
use Rattle.abt_stream.specs.declared.turns.Turn.{Turn}
use Rattle.abt_stream.specs.declared.turns.Turn.TheVariants as turn
use Rattle.abt_plans.specs.declared.dues.HandDue.{HandDue}
use Rattle.abt_plans.specs.declared.dues.HandDue.TheVariants as hands
use Rattle.abt_plans.specs.Dues.{DueIs}
use Rattle.abt_stream.specs.Events.{CallBy, EndBy, EnterBy, IfFirst, IfHeld, LookBy, PutBy, call_of, step_of, wrote}
use Rattle.abt_stream.specs.Streams.{FrameValue, StreamValue}
use Rattle.abt_stream.specs.Keeping.{KeepsStream}
use Rattle.abt_stream.specs.Operated.{NotPerformed, OpBy}
use Rattle.abt_stream.specs.Turned.{IsSpent, Made, MetEnd, Turned, Went}
use Rattle.abt_stream.proofs.Kept.{keeps-entered, keeps-holding, keeps-same}
use Rattle.abt_stream.proofs.Rounds.{looked-frames, performed-frames}

-- what is due for a unit in hand is what is due for the stream
pub hand-due : (W : Parts) (s : ℕ) (held : Held) (o : Owned) (d : Due) → held.tray ≡ [] → held.next ≡ None → held.hand ≡ Some o
    → due_of_unit W s held.own.mark (body_at W o.number) o.carried.position ≡ d → due_of W s held ≡ d
hand-due W s held o d tray next hand e =
    ap (λ (os : List Owned). due_by {X = Owned} {Y = Owned} W s held.own os held.next (option_map number_and_position held.hand)) tray ∙
    (ap (λ (n : Option Owned). due_by {X = Owned} {Y = Owned} W s held.own [] n (option_map number_and_position held.hand)) next ∙
    (ap (λ (h : Option Owned). due_by {X = Owned} {Y = Owned} W s held.own [] None (option_map number_and_position h)) hand ∙ e))

module _ (W : Parts) (s : ℕ) (held : Held) (d : HandDue) (tray : held.tray ≡ []) (next : held.next ≡ None) where
  pub end-due : (hand : Option Owned) (cause : Cause) → held.hand ≡ hand → IfHeld hand (λ o. DueIs W s held.own.mark o.number o.carried.position d) → d ≡ hands.End cause → due_of W s held ≡ EndDue cause
  end-due None cause is h e = absurd h
  end-due (Some o) cause is h e = hand-due W s held o (EndDue cause) tray next is (subst (λ (x : HandDue). DueIs W s held.own.mark o.number o.carried.position x) e h)

  pub enter-due : (hand : Option Owned) (g : SchedNo) → held.hand ≡ hand → IfHeld hand (λ o. DueIs W s held.own.mark o.number o.carried.position d) → d ≡ hands.Enter g → due_of W s held ≡ EnterDue
  enter-due None g is h e = absurd h
  enter-due (Some o) g is h e = hand-due W s held o EnterDue tray next is (subst (λ (x : HandDue). DueIs W s held.own.mark o.number o.carried.position x) e h).0

  pub enter-body : (hand : Option Owned) (g : SchedNo) → IfHeld hand (λ o. DueIs W s held.own.mark o.number o.carried.position d) → d ≡ hands.Enter g → IfHeld hand (λ o. body_at W o.number ≡ body.Sched g)
  enter-body None g h e = absurd h
  enter-body (Some o) g h e = (subst (λ (x : HandDue). DueIs W s held.own.mark o.number o.carried.position x) e h).1

  pub step-due : (hand : Option Owned) (a : Op) → held.hand ≡ hand → IfHeld hand (λ o. DueIs W s held.own.mark o.number o.carried.position d) → d ≡ hands.Step a → due_of W s held ≡ StepDue
  step-due None a is h e = absurd h
  step-due (Some o) a is h e = hand-due W s held o StepDue tray next is (subst (λ (x : HandDue). DueIs W s held.own.mark o.number o.carried.position x) e h).0

  pub step-op : (hand : Option Owned) (a : Op) → IfHeld hand (λ o. DueIs W s held.own.mark o.number o.carried.position d) → d ≡ hands.Step a → IfHeld hand (λ o. op_at W o.number o.carried.position ≡ Some a)
  step-op None a h e = absurd h
  step-op (Some o) a h e = (subst (λ (x : HandDue). DueIs W s held.own.mark o.number o.carried.position x) e h).1

-- some word may be returned
some-returned : (r : Option ℕ) → (n : ℕ) × IsReturned r n
some-returned None = (0, omega arith)
some-returned (Some m) = (m % 2 ^ 64, refl)

module _ {P : Type 0} (moves : P → Site → ℕ → Act → Told → P → Type 0) (W : Parts) (old : StreamValue) (before : P) (new : StreamValue) (after : P) where
  -- an event that was written
  pub made : (held : Held) (top : FrameValue) (below : List FrameValue) (order : List PoolNo) (at n : ℕ) (w : What) (heard : Option Heard) (Z : Stored)
      → new ≡ wrote (record old { held = held; top = top; below = below; order = order; at = at }) w n new.rooms
      → Steps W Z old.number.0 old.held w heard held → Went moves old.clock before heard n after → Made moves W Z old before w new after
  made held top below order at n w heard Z same steps went =
      let clock : new.clock ≡ n = ap (λ (s : StreamValue). s.clock) same in
      record {
        heard = heard;
        steps = subst (λ (h : Held). Steps W Z old.number.0 old.held w heard h) (sym (ap (λ (s : StreamValue). s.held) same)) steps;
        went = subst (λ k. Went moves old.clock before heard k after) (sym clock) went;
        log = subst (λ k. new.log ≡ old.log ++ record { stamp = k; stream = old.number; what = w } ∷ []) (sym clock) (ap (λ (s : StreamValue). s.log) same);
      }

  -- one that left the frames alone
  holding-made : (held : Held) (w : What) (heard : Option Heard) (Z : Stored) → new ≡ wrote (record old { held = held }) w new.clock new.rooms
      → Steps W Z old.number.0 old.held w heard held → Went moves old.clock before heard new.clock after → Made moves W Z old before w new after
  holding-made held w heard Z same steps went = made held old.top old.below old.order old.at new.clock w heard Z same steps went

  -- the frame that is entered is the one of the unit's scheduler
  entered-held : (o : Owned) (g : SchedNo) → body_at W o.number ≡ body.Sched g
      → ◌≡◌ {A = Held} (record old.held { own = entered g.0 old.held.own; hand = None; framed = old.held.framed ++ o ∷ [] })
      (record old.held { own = entered (sched_of (body_at W o.number)) old.held.own; hand = None; framed = old.held.framed ++ o ∷ [] })
  entered-held o g bodied = ap (λ (b : Body). record old.held { own = entered (sched_of b) old.held.own; hand = None; framed = old.held.framed ++ o ∷ [] }) (sym bodied)

  module _ (Z : Stored) where
    pub end-turned : (hand : Option Owned) (cause : Cause) (t : Turn) → old.held.hand ≡ hand → due_of W old.number.0 old.held ≡ EndDue cause
        → IfHeld hand (EndBy moves old before cause t new after) → Turned moves W Z old before t new after
    end-turned None cause t is due h = absurd h
    end-turned (Some o) cause turn.Moved is due h =
        let event = what.End (unit_no o.number) cause in
        let held : Held = record old.held { hand = None; tray = old.held.tray ++ h.0 } in
        (event, holding-made held event (Some (site.Desk (unit_no o.number), act.End o cause, act.Woke h.0)) Z h.1.same (due, o, is, refl, h.0, refl, refl) h.1.went, tt)
    end-turned (Some o) cause turn.Worn is due h =
        let x = site.Desk (unit_no o.number) in
        let later : Held = record old.held { hand = None; tray = old.held.tray ++ [] } in
        (h.same, inr (x, act.End o cause, (what.End (unit_no o.number) cause, act.Woke [], later, (due, o, is, refl, [], refl, refl)), h.went), λ spent. let e : EndDue cause ≡ StepDue = sym due ∙ spent.0 in cc)
    end-turned (Some o) cause t is due h = absurd h

    pub look-turned : (next : Option Owned) (t : Turn) → old.held.next ≡ next → due_of W old.number.0 old.held ≡ LookDue
        → IfHeld next (LookBy moves old before t new after) → Turned moves W Z old before t new after
    look-turned None t is due h = absurd h
    look-turned (Some o) turn.Moved is due h =
        let event = what.Look (unit_no o.number) in
        (event, holding-made (looked old.held o h.0 h.1) event (Some (site.Desk (unit_no o.number), act.Look, act.Asks h.0 h.1)) Z h.2.same (due, o, is, refl, h.0, h.1, refl, refl) h.2.went, tt)
    look-turned (Some o) turn.Worn is due h =
        let x = site.Desk (unit_no o.number) in
        (h.same, inr (x, act.Look, (what.Look (unit_no o.number), act.Asks false None, looked old.held o false None, (due, o, is, refl, false, None, refl, refl)), h.went), λ spent. let e : LookDue ≡ StepDue = sym due ∙ spent.0 in cc)
    look-turned (Some o) t is due h = absurd h

    pub put-turned : (tray : List Owned) (t : Turn) → old.held.tray ≡ tray → due_of W old.number.0 old.held ≡ PutDue
        → IfFirst tray (PutBy moves old before t new after) → Turned moves W Z old before t new after
    put-turned [] t is due h = absurd h
    put-turned (o ∷ os) turn.Moved is due h =
        let p = pool_no o.carried.home in
        let event = what.Put (unit_no o.number) p in
        let held : Held = record old.held { tray = os } in
        (event, holding-made held event (Some (site.Pool p, act.Put o, act.Rested)) Z h.same (due, o, os, is, refl, refl, refl, refl) h.went, tt)
    put-turned (o ∷ os) turn.Worn is due h =
        let p = pool_no o.carried.home in
        let later : Held = record old.held { tray = os } in
        (h.same, inr (site.Pool p, act.Put o, (what.Put (unit_no o.number) p, act.Rested, later, (due, o, os, is, refl, refl, refl, refl)), h.went), λ spent. let e : PutDue ≡ StepDue = sym due ∙ spent.0 in cc)
    put-turned (o ∷ os) t is due h = absurd h

    -- a stream with a step left is not spent
    unspent : steps_in old.log < old.budget → IsSpent W old → ⊥
    unspent few spent = let made = spent.1 in omega arith

    -- what is planned is the next event, which met the end of a clock if it was not performed
    met-end : (o : Owned) (plan : Plan) → ((heard : Option Heard) (c : Code) (later : Held) → Performs old.held plan heard c later → Steps W Z old.number.0 old.held (step_of o c) heard later)
        → NotPerformed moves old before plan after → MetEnd moves W Z old before after
    met-end o (Does e) steps h = inl ((step_of o e.code, stepped old.held e, steps None e.code (stepped old.held e) (refl, refl, refl)), h.0, h.1)
    met-end o (Calls x asked brings) steps h =
        let e = brings act.Rested in
        inr (x, asked, (step_of o e.code, act.Rested, stepped old.held e, steps (Some (x, asked, act.Rested)) e.code (stepped old.held e) (act.Rested, refl, refl, refl)), h)
    met-end o (Exits b) steps h = inl ((step_of o code.Ok, exited old.held b, steps None code.Ok (exited old.held b) (refl, refl, refl)), h.0, h.1)

    pub step-turned : (hand : Option Owned) (a : Op) (t : Turn) → old.held.hand ≡ hand → steps_in old.log < old.budget → due_of W old.number.0 old.held ≡ StepDue
        → IfHeld hand (λ o. op_at W o.number o.carried.position ≡ Some a) → IsNoCall (Some a)
        → IfHeld hand (OpBy moves W old before a t new after) → Turned moves W Z old before t new after
    step-turned None a t is few due at plain h = absurd h
    step-turned (Some o) a turn.Stepped is few due at plain h =
        (step_of o h.1, holding-made new.held (step_of o h.1) h.0 Z h.4 (due, o, is, refl, refl, a, at, h.2, plain) h.3, refl, few)
    step-turned (Some o) a turn.Worn is few due at plain h =
        (h.0, met-end o (plan_of W old.number.0 a o) (λ heard c later performs. (due, o, is, refl, refl, a, at, performs, plain)) h.1, unspent few)
    step-turned (Some o) a t is few due at plain h = absurd h

    -- a call of function f, which these functions returned
    module _ (returns : ℕ → ℕ → ℕ → List ℕ → Option ℕ) (stored : Z.returns ≡ returns) (f : ℕ) where
      as-stored : (o : Owned) (n : ℕ) → op_at W o.number o.carried.position ≡ Some (op.Call f) → IsReturned (returns f o.number o.carried.acc o.carried.keys) n
          → Returns Z (op_at W o.number o.carried.position) o.number o.carried n
      as-stored o n at by =
          subst (λ (a : Option Op). Returns Z a o.number o.carried n) (sym at)
          (subst (λ (r : ℕ → ℕ → ℕ → List ℕ → Option ℕ). IsReturned (r f o.number o.carried.acc o.carried.keys) n) (sym stored) by)

      pub call-turned : (hand : Option Owned) (t : Turn) → old.held.hand ≡ hand → steps_in old.log < old.budget → due_of W old.number.0 old.held ≡ StepDue
          → IfHeld hand (λ o. op_at W o.number o.carried.position ≡ Some (op.Call f)) → after ≡ before
          → IfHeld hand (CallBy (returns f) old t new) → Turned moves W Z old before t new after
      call-turned None t is few due at stays h = absurd h
      call-turned (Some o) turn.Stepped is few due at stays h =
          let held = stepped old.held (keeps (received h.0 (moved o)) []) in
          (call_of o h.0, made held old.top old.below old.order old.at (suc old.clock) (call_of o h.0) None Z h.2 (due, o, is, refl, refl, as-stored o h.0 at h.1, refl, refl) (refl, stays), refl, few)
      call-turned (Some o) turn.Worn is few due at stays h =
          let any = some-returned (returns f o.number o.carried.acc o.carried.keys) in
          let later = stepped old.held (keeps (received any.0 (moved o)) []) in
          (h.1, inl ((call_of o any.0, later, (due, o, is, refl, refl, as-stored o any.0 at any.1, refl, refl)), h.0, stays), unspent few)
      call-turned (Some o) t is few due at stays h = absurd h

    pub enter-turned : (hand : Option Owned) (g : SchedNo) (t : Turn) → old.held.hand ≡ hand → due_of W old.number.0 old.held ≡ EnterDue
        → IfHeld hand (λ o. body_at W o.number ≡ body.Sched g) → after ≡ before
        → IfHeld hand (EnterBy W g.0 old t new) → Turned moves W Z old before t new after
    enter-turned None g t is due bodied stays h = absurd h
    enter-turned (Some o) g turn.Moved is due bodied stays h =
        let event = what.Enter (unit_no o.number) in
        let held : Held = record old.held { own = entered g.0 old.held.own; hand = None; framed = old.held.framed ++ o ∷ [] } in
        (event, made held new.top (old.below ++ old.top ∷ []) old.order old.at (suc old.clock) event None Z h.1 (due, o, is, refl, refl, entered-held o g bodied) (refl, stays), tt)
    enter-turned (Some o) g turn.Worn is due bodied stays h =
        let later : Held = record old.held { own = entered (sched_of (body_at W o.number)) old.held.own; hand = None; framed = old.held.framed ++ o ∷ [] } in
        (h.1, inl ((what.Enter (unit_no o.number), later, (due, o, is, refl, refl, refl)), h.0, stays), λ spent. let e : EnterDue ≡ StepDue = sym due ∙ spent.0 in cc)
    enter-turned (Some o) g t is due bodied stays h = absurd h

  -- the frames stay

  pub end-keeps : (hand : Option Owned) (cause : Cause) (t : Turn) → IfHeld hand (EndBy moves old before cause t new after) → KeepsStream W old new
  end-keeps None cause t h = absurd h
  end-keeps (Some o) cause turn.Moved h = keeps-holding W old new (what.End (unit_no o.number) cause) new.clock new.rooms (record old.held { hand = None; tray = old.held.tray ++ h.0 }) tt refl h.1.same
  end-keeps (Some o) cause turn.Worn h = keeps-same W old new h.same
  end-keeps (Some o) cause t h = absurd h

  pub look-keeps : (next : Option Owned) (t : Turn) → IfHeld next (LookBy moves old before t new after) → KeepsStream W old new
  look-keeps None t h = absurd h
  look-keeps (Some o) turn.Moved h = keeps-holding W old new (what.Look (unit_no o.number)) new.clock new.rooms (looked old.held o h.0 h.1) tt (looked-frames old.held o h.0 h.1) h.2.same
  look-keeps (Some o) turn.Worn h = keeps-same W old new h.same
  look-keeps (Some o) t h = absurd h

  pub put-keeps : (tray : List Owned) (t : Turn) → IfFirst tray (PutBy moves old before t new after) → KeepsStream W old new
  put-keeps [] t h = absurd h
  put-keeps (o ∷ os) turn.Moved h = keeps-holding W old new (what.Put (unit_no o.number) (pool_no o.carried.home)) new.clock new.rooms (record old.held { tray = os }) tt refl h.same
  put-keeps (o ∷ os) turn.Worn h = keeps-same W old new h.same
  put-keeps (o ∷ os) t h = absurd h

  pub step-keeps : (hand : Option Owned) (a : Op) (t : Turn) → IfHeld hand (OpBy moves W old before a t new after) → KeepsStream W old new
  step-keeps None a t h = absurd h
  step-keeps (Some o) a turn.Stepped h = keeps-holding W old new (step_of o h.1) new.clock new.rooms new.held tt (performed-frames old.held new.held (plan_of W old.number.0 a o) h.0 h.1 h.2) h.4
  step-keeps (Some o) a turn.Worn h = keeps-same W old new h.0
  step-keeps (Some o) a t h = absurd h

  pub call-keeps : (hand : Option Owned) (returns : ℕ → ℕ → List ℕ → Option ℕ) (t : Turn) → IfHeld hand (CallBy returns old t new) → KeepsStream W old new
  call-keeps None returns t h = absurd h
  call-keeps (Some o) returns turn.Stepped h = keeps-holding W old new (call_of o h.0) (suc old.clock) new.rooms (stepped old.held (keeps (received h.0 (moved o)) [])) tt refl h.2
  call-keeps (Some o) returns turn.Worn h = keeps-same W old new h.1
  call-keeps (Some o) returns t h = absurd h

  pub enter-keeps : (hand : Option Owned) (g : SchedNo) (t : Turn) → IfHeld hand (λ o. body_at W o.number ≡ body.Sched g) → old.order ≡ [] → IfHeld hand (EnterBy W g.0 old t new) → KeepsStream W old new
  enter-keeps None g t bodied none h = absurd h
  enter-keeps (Some o) g turn.Moved bodied none h = keeps-entered W old new (what.Enter (unit_no o.number)) (suc old.clock) new.rooms g.0 o h.0 none tt
      (ap (λ (b : Body). (frame_at (sched_of b) 0 false, old.held.own.top ∷ old.held.own.below)) (sym bodied)) h.1
  enter-keeps (Some o) g turn.Worn bodied none h = keeps-same W old new h.1
  enter-keeps (Some o) g t bodied none h = absurd h
