-- From what each shape of step makes of a stream to its operation.
use Rattle.std.proofs.Common.{◌≡◌, ℕ, suc, [], Option, None, Some, option_map, refl, sym, ap, subst, IsSome}
use Rattle.abt_machine.specs.declared.events.Code.{Code}
use Rattle.abt_machine.specs.declared.events.Code.TheVariants as code
use Rattle.abt_machine.specs.declared.events.Site.{Site}
use Rattle.abt_machine.specs.declared.operations.Op.{Op}
use Rattle.abt_machine.specs.declared.workload.Parts.{Parts}
use Rattle.abt_machine.specs.Acts.{Act, Answer, moved}
use Rattle.abt_machine.specs.Plans.{Calls, Does, Effect, Exits, Plan, keeps, plan_of}
use Rattle.abt_machine.specs.State.{Carried}
use Rattle.abt_machine.specs.Turns.{Heard, Performs, exited, stepped}
use Rattle.abt_machine.specs.Values.{Held, Owned}
use Rattle.abt_machine.specs.Workloads.{op_at}
use Rattle.abt_commons.specs.Replies.{Told}
use Rattle.abt_plans.proofs.Locals.{planned-alone, planned-own}
use Rattle.abt_unit.specs.Local.{IsLocal, after_local, local_step_at, with_carried}
use Rattle.abt_stream.specs.declared.turns.Turn.{Turn}
use Rattle.abt_stream.specs.declared.turns.Turn.TheVariants as turn
use Rattle.abt_stream.specs.Events.{ExitBy, OwnBy, StepsAlone, StepsBy, holding, step_of, wrote}
use Rattle.abt_stream.specs.Operated.{NotPerformed, OpBy}
use Rattle.abt_stream.specs.Streams.{StreamValue}
use Rattle.abt_stream.specs.Turned.{Went}

module _ {P : Type 0} (moves : P → Site → ℕ → Act → Told → P → Type 0) (W : Parts) (old : StreamValue) (before : P) (a : Op) (new : StreamValue) (after : P) (o : Owned) where
  -- as it is planned, once the step is written
  performed : (plan : Plan) (held : Held) (heard : Option Heard) (c : Code) (n : ℕ) → plan_of W old.number.0 a o ≡ plan → Performs old.held plan heard c held → Went moves old.clock before heard n after
      → new ≡ wrote (holding old held) (step_of o c) n new.rooms → OpBy moves W old before a turn.Stepped new after o
  performed plan held heard c n planned performs went same =
      let is : new.held ≡ held = ap (λ (s : StreamValue). s.held) same in
      let clock : new.clock ≡ n = ap (λ (s : StreamValue). s.clock) same in (
        heard,
        c,
        subst (λ (p : Plan). Performs old.held p heard c new.held) (sym planned) (subst (λ (h : Held). Performs old.held plan heard c h) (sym is) performs),
        subst (λ k. Went moves old.clock before heard k after) (sym clock) went,
        subst (λ (h : Held). new ≡ wrote (holding old h) (step_of o c) new.clock new.rooms) (sym is)
            (subst (λ k. new ≡ wrote (holding old held) (step_of o c) k new.rooms) (sym clock) same),
      )

  not-performed : (plan : Plan) → plan_of W old.number.0 a o ≡ plan → new ≡ old → NotPerformed moves old before plan after → OpBy moves W old before a turn.Worn new after o
  not-performed plan planned same not = (same, subst (λ (p : Plan). NotPerformed moves old before p after) (sym planned) not)

  -- by itself
  pub op-alone : (e : Effect) (t : Turn) → plan_of W old.number.0 a o ≡ Does e → StepsAlone old e t new o → after ≡ before → OpBy moves W old before a t new after o
  op-alone e turn.Stepped planned same stays = performed (Does e) (stepped old.held e) None e.code (suc old.clock) planned (refl, refl, refl) (refl, stays) same
  op-alone e turn.Worn planned worn stays = not-performed (Does e) planned worn.1 (worn.0, stays)
  op-alone e t planned h stays = absurd h

  -- by a call
  pub op-called : (x : Site) (act : Act) (brings : Answer → Effect) (t : Turn) → plan_of W old.number.0 a o ≡ Calls x act brings
      → StepsBy moves old before x act brings t new after o → OpBy moves W old before a t new after o
  op-called x act brings turn.Stepped planned h =
      let e = brings h.0 in
      performed (Calls x act brings) (stepped old.held e) (Some (x, act, h.0)) e.code new.clock planned (h.0, refl, refl, refl) h.1.went h.1.same
  op-called x act brings turn.Worn planned h = not-performed (Calls x act brings) planned h.same h.went
  op-called x act brings t planned h = absurd h

  pub op-exits : (t : Turn) → plan_of W old.number.0 a o ≡ Exits (moved o) → ExitBy old t new o → after ≡ before → OpBy moves W old before a t new after o
  op-exits turn.Stepped planned same stays = performed (Exits (moved o)) (exited old.held (moved o)) None code.Ok (suc old.clock) planned (refl, refl, refl) (refl, stays) same
  op-exits turn.Worn planned worn stays = not-performed (Exits (moved o)) planned worn.1 (worn.0, stays)
  op-exits t planned h stays = absurd h

  pub op-own : (t : Turn) → op_at W o.number o.carried.position ≡ Some a → IsSome (after_local a o.carried) → OwnBy W old t new o → after ≡ before → OpBy moves W old before a t new after o
  op-own turn.Stepped at local h stays =
      let step : local_step_at (Some a) o ≡ Some h.0 = subst (λ (f : Option Op). local_step_at f o ≡ Some h.0) at h.1 in
      op-alone (keeps h.0 []) turn.Stepped (planned-own W old.number.0 o a h.0 step) h.2 stays
  op-own turn.Worn at local h stays = let planned = planned-alone W old.number.0 o a local in op-alone planned.0 turn.Worn planned.1 h stays
  op-own t at local h stays = absurd h

mapped : (o : Owned) (f : Option Carried) → IsSome f → IsSome (option_map (with_carried o) f)
mapped o None h = cc
mapped o (Some c) h = h

-- a unit has the operation at its position
pub own-local : (W : Parts) (a : Op) (o : Owned) → op_at W o.number o.carried.position ≡ Some a → IsSome (after_local a o.carried) → IsLocal W o
own-local W a o at some = subst (λ (f : Option Op). IsSome (local_step_at f o)) (sym at) (mapped o (after_local a o.carried) some)

pub ruleset operations = (op-alone, op-called, op-exits, op-own, own-local)
