-- What a row owes: if the called object answers so, the step's code, the stream's own part and that object are as the effect of the answer says. Unit u, in the hand of stream s, makes the step.
use Rattle.std.proofs.Common.{◌≡◌, ℕ, List, [], ◌∷◌, Option, Some, None, refl, sym, ◌∙◌, ap, subst}
use Rattle.abt_machine.specs.declared.events.Code.{Code}
use Rattle.abt_machine.specs.declared.events.Code.TheVariants as code
use Rattle.abt_machine.specs.declared.events.Site.{Site}
use Rattle.abt_machine.specs.declared.events.Site.TheVariants as site
use Rattle.abt_machine.specs.declared.operations.Combine.{Combine}
use Rattle.abt_machine.specs.declared.operations.Op.{Op}
use Rattle.abt_machine.specs.Stored.{Stored}
use Rattle.abt_machine.specs.declared.operations.Thing.TheVariants as thing
use Rattle.abt_machine.specs.declared.workload.Parts.{Parts}
use Rattle.abt_machine.specs.Numbers.{pool_no, unit_no, object_no}
use Rattle.abt_machine.specs.Workloads.{thing_at}
use Rattle.abt_machine.specs.Operations.{IsMutex, IsEventual, IsRwLock}
use Rattle.abt_machine.specs.State.{State, Carried}
use Rattle.abt_machine.specs.Carrying.{refused}
use Rattle.abt_machine.specs.Lines.{hand}
use Rattle.abt_machine.specs.Changes.{no_change, changed}
use Rattle.abt_machine.specs.Codes.{code_of}
use Rattle.abt_machine.specs.Steps.{step_row}
use Rattle.abt_machine.specs.Values.{owned_at, part_of, Object, object_of, PoolIs, DeskIs, MonitorIs, EventualIs, FutureIs, BarrierIs, RwLockIs, pool_value, desk_value, monitor_value, eventual_value, future_value, barrier_value, rwlock_value, monitor_at, eventual_at, future_at, barrier_at, rwlock_at}
use Rattle.abt_machine.specs.Acts.{Act, Answer}
use Rattle.abt_machine.specs.Plans.{Effect, Plan, Does, Calls, Exits, plan_of, refusal}
use Rattle.abt_machine.specs.Turns.{exited, stepped}
use Rattle.abt_machine.specs.Pools.{PoolGives}
use Rattle.abt_machine.specs.Desks.{DeskGives}
use Rattle.abt_machine.specs.Monitors.{MonitorGives}
use Rattle.abt_machine.specs.Eventuals.{EventualGives}
use Rattle.abt_machine.specs.Futures.{FutureGives}
use Rattle.abt_machine.specs.Barriers.{BarrierGives}
use Rattle.abt_machine.specs.RwLocks.{RwLockGives}
use Rattle.abt_machine.specs.Gives.{SiteGives}
use Rattle.abt_laws.proofs.Options.{none≢some}
use Rattle.abt_laws.proofs.Codes.{IsRefusal}
use Rattle.abt_laws.proofs.Keeping.{hand-kept}
use Rattle.abt_laws.proofs.Local.{IsLocal, local-none, local-carried}
use Rattle.abt_simulation.proofs.Acting.{IsActing}
use Rattle.abt_simulation.proofs.Others.{objects-stay}
use Rattle.abt_simulation.proofs.OwnParts.{hand-standing}
use Rattle.abt_simulation.proofs.Shapes.{goes-part}

-- after the step of operation a with this code
abbrev pub after_step : Parts → State → ℕ → ℕ → Op → Code → State
after_step W S s u a c = changed S (step_row W S s u (Some a) c)

-- operation a, which called nothing, with this effect
pub record OwnDone (W : Parts) (S : State) (s u : ℕ) (a : Op) (e : Effect) : Type 0 where
  pub code : e.code ≡ code_of W S s u a
  pub own : part_of W (after_step W S s u a e.code) s ≡ stepped (part_of W S s) e

-- operation a, which called site x, with this effect; the object is this afterwards
pub record RowDone (W : Parts) (S : State) (s u : ℕ) (a : Op) (x : Site) (e : Effect) (new : Object) : Type 0 where
  pub code : e.code ≡ code_of W S s u a
  pub own : part_of W (after_step W S s u a e.code) s ≡ stepped (part_of W S s) e
  pub called : object_of W (after_step W S s u a e.code) x ≡ new

-- what the row of operation a owes by this plan, whatever the site answers that it calls
abbrev pub RowBy : Parts → State → ℕ → ℕ → Op → Plan → Type 0
RowBy W S s u a (Does e) = OwnDone W S s u a e
RowBy W S s u a (Calls x asked brings) = (b : Answer) (new : Object) → SiteGives (object_of W S x) asked b new → RowDone W S s u a x (brings b) new
RowBy W S s u a (Exits o) = (code.Ok ≡ code_of W S s u a) × (part_of W (after_step W S s u a code.Ok) s ≡ exited (part_of W S s) o)

-- what it owes by the operation's own plan
abbrev pub Row : Parts → State → ℕ → ℕ → Op → Type 0
Row W S s u a = RowBy W S s u a (plan_of W s a (owned_at S u))

-- The same by the value of the called object.

pub record ValueDone {V : Type 0} (W : Parts) (S : State) (s u : ℕ) (a : Op) (value : State → V) (e : Effect) (new : V) : Type 0 where
  pub code : e.code ≡ code_of W S s u a
  pub own : part_of W (after_step W S s u a e.code) s ≡ stepped (part_of W S s) e
  pub called : value (after_step W S s u a e.code) ≡ new

-- what the row owes then
abbrev pub ValueBy : {V : Type 0} → Parts → State → ℕ → ℕ → Op → (State → V) → (V → Act → Answer → V → Type 0) → Plan → Type 0
ValueBy W S s u a value Gives (Does e) = Unit {0}
ValueBy {V = V} W S s u a value Gives (Calls x asked brings) = (b : Answer) (new : V) → Gives (value S) asked b new → ValueDone W S s u a value (brings b) new
ValueBy W S s u a value Gives (Exits o) = Unit {0}

abbrev pub ValueRow : {V : Type 0} → Parts → State → ℕ → ℕ → Op → (State → V) → (V → Act → Answer → V → Type 0) → Type 0
ValueRow W S s u a value Gives = ValueBy W S s u a value Gives (plan_of W s a (owned_at S u))

-- at site x there is an object of one kind, whose value is this
pub record IsAt {V : Type 0} (W : Parts) (x : Site) (Is : V → Object) (value : State → V) (Gives : V → Act → Answer → V → Type 0) : Type 0 where
  pub here : (T : State) → object_of W T x ≡ Is (value T)
  pub answers : (old : V) (asked : Act) (b : Answer) (new : Object) → SiteGives (Is old) asked b new → (after : V) × (new ≡ Is after) × Gives old asked b after
  pub one : (v w : V) → Is v ≡ Is w → v ≡ w

-- the object that a plan calls is of one kind, if it calls one
abbrev pub CalledIs : {V : Type 0} → Parts → Plan → (V → Object) → (State → V) → (V → Act → Answer → V → Type 0) → Type 0
CalledIs W (Does e) Is value Gives = ⊥
CalledIs W (Calls x asked brings) Is value Gives = IsAt W x Is value Gives
CalledIs W (Exits o) Is value Gives = ⊥

-- the row by the value is the row
pub row-by_value : {V : Type 0} (W : Parts) (S : State) (s u : ℕ) (a : Op) (plan : Plan) (Is : V → Object) (value : State → V) (Gives : V → Act → Answer → V → Type 0) → CalledIs W plan Is value Gives →
    ValueBy W S s u a value Gives plan → RowBy W S s u a plan
row-by_value W S s u a (Does e) Is value Gives at row = absurd at
row-by_value {V = V} W S s u a (Calls x asked brings) Is value Gives at row = λ b new gives.
    let after : (after : V) × (new ≡ Is after) × Gives (value S) asked b after = at.answers (value S) asked b new (subst (λ o. SiteGives o asked b new) (at.here S) gives) in
    let done : ValueDone W S s u a value (brings b) after.0 = row b after.0 after.2 in
    record { code = done.code; own = done.own; called = at.here (after_step W S s u a (brings b).code) ∙ (ap Is done.called ∙ sym after.1) }
row-by_value W S s u a (Exits o) Is value Gives at row = absurd at

-- the row by the operation's own plan
pub by-value : {V : Type 0} (W : Parts) (S : State) (s u : ℕ) (a : Op) (Is : V → Object) (value : State → V) (Gives : V → Act → Answer → V → Type 0) → CalledIs W (plan_of W s a (owned_at S u)) Is value Gives →
    ValueRow W S s u a value Gives → Row W S s u a
by-value W S s u a = row-by_value W S s u a (plan_of W s a (owned_at S u))

-- The kinds.

module _ (W : Parts) where
  -- pool p
  pub pool-at : (p : ℕ) → IsAt W (site.Pool (pool_no p)) PoolIs (λ T. pool_value W T p) PoolGives
  pool-at p = record { here = λ T. refl; answers = λ old asked b new g. g; one = λ v w e. cc }

  -- the desk of v
  pub desk-at : (v : ℕ) → IsAt W (site.Desk (unit_no v)) DeskIs (λ T. desk_value W T v) DeskGives
  desk-at v = record { here = λ T. refl; answers = λ old asked b new g. g; one = λ v w e. cc }

  -- the monitor of mutex x
  pub mutex-at : (x : ℕ) → IsMutex W x → IsAt W (site.Monitor (object_no x)) MonitorIs (λ T. monitor_value W T x) MonitorGives
  mutex-at x is = record { here = λ T. ap (monitor_at W T x) is; answers = λ old asked b new g. g; one = λ v w e. cc }

  -- eventual x
  pub eventual-at : (x : ℕ) → IsEventual W x → IsAt W (site.Eventual (object_no x)) EventualIs (λ T. eventual_value W T x) EventualGives
  eventual-at x is = record { here = λ T. ap (eventual_at W T x) is; answers = λ old asked b new g. g; one = λ v w e. cc }

  -- future x
  pub future-at : (x n : ℕ) (c : Combine) → thing_at W x ≡ Some (thing.Future n c) → IsAt W (site.Future (object_no x)) FutureIs (λ T. future_value W T x n c) FutureGives
  future-at x n c is = record { here = λ T. ap (future_at W T x) is; answers = λ old asked b new g. g; one = λ v w e. cc }

  -- barrier x
  pub barrier-at : (x n : ℕ) → thing_at W x ≡ Some (thing.Barrier n) → IsAt W (site.Barrier (object_no x)) BarrierIs (λ T. barrier_value W T x n) BarrierGives
  barrier-at x n is = record { here = λ T. ap (barrier_at W T x) is; answers = λ old asked b new g. g; one = λ v w e. cc }

  -- reader-writer lock x
  pub rwlock-at : (x : ℕ) → IsRwLock W x → IsAt W (site.Rw (object_no x)) RwLockIs (λ T. rwlock_value W T x) RwLockGives
  rwlock-at x is = record { here = λ T. ap (rwlock_at W T x) is; answers = λ old asked b new g. g; one = λ v w e. cc }

-- Steps that change nothing but what u carries.

module _ (W : Parts) (Z : Stored) (S : State) (s u : ℕ) (acts : IsActing W Z S s u) where
  -- u is in the hand
  pub in-hand : hand W S s ≡ Some u
  in-hand = λ i. first-of (hand-standing W Z S s u acts i) where
    first-of : List ℕ → Option ℕ
    first-of [] = None
    first-of (v ∷ vs) = Some v

  -- they touch no site
  carried-local : (k : Carried) → IsLocal W S s None (record no_change { carried = (u, k) ∷ [] })
  carried-local k = local-carried W S s None no_change (local-none W S s None) ((u, k) ∷ []) (hand-kept W S s None u in-hand, tt)

  -- all objects stay
  pub objects-same : (k : Carried) (x : Site) → object_of W (changed S (record no_change { carried = (u, k) ∷ [] })) x ≡ object_of W S x
  objects-same k x = objects-stay W S s None (record no_change { carried = (u, k) ∷ [] }) (carried-local k) x none≢some

  -- so does the value of an object
  pub value-same : {V : Type 0} (x : Site) (Is : V → Object) (value : State → V) (Gives : V → Act → Answer → V → Type 0) (k : Carried) → IsAt W x Is value Gives →
      value (changed S (record no_change { carried = (u, k) ∷ [] })) ≡ value S
  value-same x Is value Gives k at = at.one _ _ (sym (at.here (changed S (record no_change { carried = (u, k) ∷ [] }))) ∙ (objects-same k x ∙ at.here S))

  -- a refusal changes nothing else
  pub refused-row : (a : Op) (c : Code) → IsRefusal c → step_row W S s u (Some a) c ≡ record no_change { carried = (u, refused c (S.carried u)) ∷ [] }
  refused-row a code.Ok r = absurd r
  refused-row a _ r = refl

  -- a refused operation
  pub refuses : {V : Type 0} (a : Op) (c : Code) (x : Site) (Is : V → Object) (value : State → V) (Gives : V → Act → Answer → V → Type 0) (new : V) → IsAt W x Is value Gives → IsRefusal c → c ≡ code_of W S s u a → new ≡ value S →
      ValueDone W S s u a value (refusal (owned_at S u) c) new
  refuses a c x Is value Gives new at r is same = record {
    code = is;
    own = ap (λ d. part_of W (changed S d) s) (refused-row a c r) ∙ goes-part W Z S s u acts (refused c (S.carried u)) no_change;
    called = ap (λ d. value (changed S d)) (refused-row a c r) ∙ (value-same x Is value Gives (refused c (S.carried u)) at ∙ sym same);
  }
