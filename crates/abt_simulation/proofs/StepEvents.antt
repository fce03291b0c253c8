-- Steps are events: each operation, by its row.
use Rattle.std.proofs.Common.{◌≡◌, ℕ, Option, Some, None, refl, sym, ◌∙◌, ap, subst}
use Rattle.abt_machine.specs.declared.events.Code.{Code}
use Rattle.abt_machine.specs.declared.events.What.TheVariants as what
use Rattle.abt_machine.specs.declared.operations.Op.{Op}
use Rattle.abt_machine.specs.declared.operations.Op.TheVariants as op
use Rattle.abt_machine.specs.Stored.{Stored, IsNoCall}
use Rattle.abt_machine.specs.declared.workload.Parts.{Parts}
use Rattle.abt_machine.specs.Numbers.{unit_no}
use Rattle.abt_machine.specs.Workloads.{op_at}
use Rattle.abt_machine.specs.Operations.{IsDeclared, nature_of}
use Rattle.abt_machine.specs.Valid.{IsValid}
use Rattle.abt_machine.specs.Access.{may_put, may_take}
use Rattle.abt_machine.specs.Sites.{first_pool}
use Rattle.abt_machine.specs.State.{State, Carried}
use Rattle.abt_machine.specs.Lines.{InHand, standing}
use Rattle.abt_machine.specs.Next.{StepDue}
use Rattle.abt_machine.specs.Changes.{changed}
use Rattle.abt_machine.specs.Codes.{code_of, code_at}
use Rattle.abt_machine.specs.Steps.{step_row}
use Rattle.abt_machine.specs.Sound.{Sound}
use Rattle.abt_machine.specs.Queues.{first}
use Rattle.abt_machine.specs.Values.{Owned, owned_at, owned_in, Held, part_of, Object, object_of}
use Rattle.abt_machine.specs.Plans.{Plan, Does, Calls, Exits, plan_of}
use Rattle.abt_machine.specs.Turns.{Heard, due_of, Performs}
use Rattle.abt_machine.proofs.Declared.{op-declared}
use Rattle.abt_laws.proofs.DueParts.{due-same}
use Rattle.abt_simulation.specs.Simulation.{CalledAnswers, LeavesObject}
use Rattle.abt_simulation.proofs.Acting.{IsActing, acting}
use Rattle.abt_simulation.proofs.OwnedLines.{Head, head-of}
use Rattle.abt_simulation.proofs.Rows.{Row, RowBy, RowDone, after_step, by-value, desk-at, mutex-at, eventual-at, future-at, barrier-at, rwlock-at}
use Rattle.abt_simulation.proofs.OwnRows.{local-row, yield-row, exit-row, reached-row}
use Rattle.abt_simulation.proofs.PoolRows.{yieldto-row}
use Rattle.abt_simulation.proofs.DeskRows.{suspend-value, join-value, cancel-value, migratable-value, resume-row, create-row, migrate-row, migrateto-row, revive-row}
use Rattle.abt_simulation.proofs.MonitorRows as mutex
use Rattle.abt_simulation.proofs.ConditionRows as condition
use Rattle.abt_simulation.proofs.EventualRows as eventual
use Rattle.abt_simulation.proofs.FutureRows as future
use Rattle.abt_simulation.proofs.BarrierRows as barrier
use Rattle.abt_simulation.proofs.RwLockRows as rwlock
use Rattle.abt_simulation.proofs.Simulated.{Simulated}

-- Local operations.

abbrev function : Option (Carried → Carried) → Carried → Carried
function None c = c
function (Some f) c = f c

-- what a local operation makes of what its unit carries
abbrev local_by : Op → Carried → Carried
local_by a = function (nature_of a).local

-- Unit u, in the hand of stream s, makes a step.

module _ (W : Parts) (Z : Stored) (S : State) (s u : ℕ) (acts : IsActing W Z S s u) where
  -- the row of each operation; the last line is of the local ones
  each-row : IsValid W → (a : Op) → IsDeclared W a → Row W S s u a
  each-row valid op.Yield d = yield-row W Z S s u acts
  each-row valid (op.YieldTo v p) d = reached-row W Z S s u acts _ (may_take W s p.0) _ _ refl (yieldto-row W Z S s u acts v p)
  each-row valid op.Suspend d = by-value W S s u op.Suspend _ _ _ (desk-at W u) (suspend-value W Z S s u acts)
  each-row valid op.Exit d = exit-row W Z S s u acts
  each-row valid (op.Resume v) d = resume-row W Z S s u acts v d
  each-row valid (op.Create v p) d = reached-row W Z S s u acts _ (may_put W s p.0) _ _ refl (create-row W Z S s u acts v p d.0)
  each-row valid (op.Join v) d = by-value W S s u (op.Join v) _ _ _ (desk-at W v.0) (join-value W Z S s u acts v)
  each-row valid (op.Cancel v) d = by-value W S s u (op.Cancel v) _ _ _ (desk-at W v.0) (cancel-value W Z S s u acts v)
  each-row valid (op.Migrate v p) d = reached-row W Z S s u acts _ (may_put W s p.0) _ _ refl (migrate-row W Z S s u acts v p)
  each-row valid (op.MigrateTo v r) d = reached-row W Z S s u acts _ (may_put W s (first_pool W r.0)) _ _ refl (migrateto-row W Z S s u acts v r)
  each-row valid (op.Migratable v b) d = by-value W S s u (op.Migratable v b) _ _ _ (desk-at W v.0) (migratable-value W Z S s u acts v b)
  each-row valid (op.Revive v p) d = reached-row W Z S s u acts _ (may_put W s p.0) _ _ refl (revive-row W Z S s u acts v p d.0)
  each-row valid (op.Lock x) d = by-value W S s u (op.Lock x) _ _ _ (mutex-at W x.0 d) (mutex.lock W Z S s u acts x d)
  each-row valid (op.TryLock x) d = by-value W S s u (op.TryLock x) _ _ _ (mutex-at W x.0 d) (mutex.trylock W Z S s u acts x d)
  each-row valid (op.Unlock x) d = by-value W S s u (op.Unlock x) _ _ _ (mutex-at W x.0 d) (mutex.unlock W Z S s u acts x d)
  each-row valid (op.Load x) d = by-value W S s u (op.Load x) _ _ _ (mutex-at W x.0 d) (mutex.load W Z S s u acts x d)
  each-row valid (op.Store x) d = by-value W S s u (op.Store x) _ _ _ (mutex-at W x.0 d) (mutex.store W Z S s u acts x d)
  each-row valid (op.CondWait x) d = by-value W S s u (op.CondWait x) _ _ _ (mutex-at W _ (condition.mutex W Z S s u acts valid x d)) (condition.condwait W Z S s u acts valid x d)
  each-row valid (op.Signal x) d = by-value W S s u (op.Signal x) _ _ _ (mutex-at W _ (condition.mutex W Z S s u acts valid x d)) (condition.signal W Z S s u acts valid x d)
  each-row valid (op.Broadcast x) d = by-value W S s u (op.Broadcast x) _ _ _ (mutex-at W _ (condition.mutex W Z S s u acts valid x d)) (condition.broadcast W Z S s u acts valid x d)
  each-row valid (op.EvWait x) d = by-value W S s u (op.EvWait x) _ _ _ (eventual-at W x.0 d) (eventual.await W Z S s u acts x d)
  each-row valid (op.EvSet x) d = by-value W S s u (op.EvSet x) _ _ _ (eventual-at W x.0 d) (eventual.fill W Z S s u acts x d)
  each-row valid (op.EvReset x) d = by-value W S s u (op.EvReset x) _ _ _ (eventual-at W x.0 d) (eventual.reset W Z S s u acts x d)
  each-row valid (op.EvTest x) d = by-value W S s u (op.EvTest x) _ _ _ (eventual-at W x.0 d) (eventual.test W Z S s u acts x d)
  each-row valid (op.FuWait x) d = by-value W S s u (op.FuWait x) _ _ _ (future-at W x.0 d.0 d.1 d.2) (future.await W Z S s u acts x d.0 d.1 d.2)
  each-row valid (op.FuSet x) d = by-value W S s u (op.FuSet x) _ _ _ (future-at W x.0 d.0 d.1 d.2) (future.fill W Z S s u acts x d.0 d.1 d.2)
  each-row valid (op.FuReset x) d = by-value W S s u (op.FuReset x) _ _ _ (future-at W x.0 d.0 d.1 d.2) (future.reset W Z S s u acts x d.0 d.1 d.2)
  each-row valid (op.FuTest x) d = by-value W S s u (op.FuTest x) _ _ _ (future-at W x.0 d.0 d.1 d.2) (future.test W Z S s u acts x d.0 d.1 d.2)
  each-row valid (op.BarWait x) d = by-value W S s u (op.BarWait x) _ _ _ (barrier-at W x.0 d.0 d.1) (barrier.arrive W Z S s u acts x d.0 d.1)
  each-row valid (op.ReadLock x) d = by-value W S s u (op.ReadLock x) _ _ _ (rwlock-at W x.0 d) (rwlock.readlock W Z S s u acts x d)
  each-row valid (op.WriteLock x) d = by-value W S s u (op.WriteLock x) _ _ _ (rwlock-at W x.0 d) (rwlock.writelock W Z S s u acts x d)
  each-row valid (op.RwUnlock x) d = by-value W S s u (op.RwUnlock x) _ _ _ (rwlock-at W x.0 d) (rwlock.unlock W Z S s u acts x d)
  each-row valid (op.RwLoad x) d = by-value W S s u (op.RwLoad x) _ _ _ (rwlock-at W x.0 d) (rwlock.load W Z S s u acts x d)
  each-row valid (op.RwStore x) d = by-value W S s u (op.RwStore x) _ _ _ (rwlock-at W x.0 d) (rwlock.store W Z S s u acts x d)
  each-row valid a d = local-row W Z S s u acts a (local_by a) refl refl

module _ (W : Parts) (S : State) (s u : ℕ) (heard : Option Heard) (c : Code) (part : Held) (object : Object) (answers : CalledAnswers W S heard object) where
  -- what the step of operation a owes
  record Stepped (a : Op) : Type 0 where
    pub code : c ≡ code_of W S s u a
    pub own : part_of W (after_step W S s u a c) s ≡ part
    pub called : LeavesObject W (after_step W S s u a c) heard object

  -- a step by its row
  step-by-row : (a : Op) (plan : Plan) → RowBy W S s u a plan → Performs (part_of W S s) plan heard c part → Stepped a
  step-by-row a (Does e) done goes = record {
    code = goes.1 ∙ done.code;
    own = ap (λ d. part_of W (after_step W S s u a d) s) goes.1 ∙ (done.own ∙ sym goes.2);
    called = subst (λ h. LeavesObject W (after_step W S s u a c) h object) (sym goes.0) tt;
  }
  step-by-row a (Calls x asked brings) row goes =
      let done : RowDone W S s u a x (brings goes.0) object = row goes.0 object (subst (λ h. CalledAnswers W S h object) goes.1 answers) in
      record {
        code = goes.2 ∙ done.code;
        own = ap (λ d. part_of W (after_step W S s u a d) s) goes.2 ∙ (done.own ∙ sym goes.3);
        called = subst (λ h. LeavesObject W (after_step W S s u a c) h object) (sym goes.1) (ap (λ d. object_of W (after_step W S s u a d) x) goes.2 ∙ done.called);
      }
  step-by-row a (Exits o) done goes = record {
    code = goes.1 ∙ done.0;
    own = ap (λ d. part_of W (after_step W S s u a d) s) goes.1 ∙ (done.1 ∙ sym goes.2);
    called = subst (λ h. LeavesObject W (after_step W S s u a c) h object) (sym goes.0) tt;
  }

-- a step, by its operation
pub simulate-step : (W : Parts) (Z : Stored) (S : State) (s : ℕ) (heard : Option Heard) (part : Held) (object : Object) (o : Owned) (c : Code) (a : Op) → IsValid W → Sound W Z S →
    due_of W s (part_of W S s) ≡ StepDue → first (owned_in W S (InHand s)) ≡ Some o → op_at W o.number o.carried.position ≡ Some a → Performs (part_of W S s) (plan_of W s a o) heard c part →
    CalledAnswers W S heard object → IsNoCall (Some a) →
    Simulated W Z S s (what.Step (unit_no o.number) o.carried.position c) heard part object
simulate-step W Z S s heard part object o c a valid sound is hands operation goes answers other =
    let u : ℕ = o.number in
    let k : ℕ = o.carried.position in
    let h : Head S (standing W S (InHand s)) o = head-of S (standing W S (InHand s)) o hands in
    let acts : IsActing W Z S s u = acting W Z S s u StepDue sound (due-same W S s ∙ is) tt tt h.is in
    let done : Stepped W S s u heard c part object answers a =
    step-by-row W S s u heard c part object answers a (plan_of W s a (owned_at S u)) (each-row W Z S s u acts valid a (op-declared W u k a valid operation)) (subst (λ (q : Owned). Performs (part_of W S s) (plan_of W s a q) heard c part) (sym h.owns) goes) in
    record {
      may = (due-same W S s ∙ is, h.is, ap (λ (q : Owned). q.carried.position) h.owns, done.code ∙ ap (code_at W S s u) (sym operation), subst IsNoCall (sym operation) other);
      own = ap (λ m. part_of W (changed S (step_row W S s u m c)) s) operation ∙ done.own;
      called = subst (λ m. LeavesObject W (changed S (step_row W S s u m c)) heard object) (sym operation) done.called;
    }
