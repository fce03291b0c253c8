-- What is held at the start and what steps leave are the workload's.
use Rattle.std.proofs.Common.{◌≡◌, ℕ, ◌<◌, List, [], ◌∷◌, length, map, Option, Some, option_map, ◌∙◌, ap, arith, All}
use Rattle.std.specs.List.{flat_map}
use Rattle.std.proofs.lemmas.List.{length-replicate}
use Rattle.std.proofs.lemmas.List.Elements.{All-append, All-cons, All-head, All-nil}
use Rattle.abt_machine.specs.declared.events.Code.TheVariants as code
use Rattle.abt_machine.specs.declared.events.Place.{Place}
use Rattle.abt_machine.specs.declared.events.Place.TheVariants as place
use Rattle.abt_machine.specs.declared.events.Site.{Site}
use Rattle.abt_machine.specs.declared.events.Site.TheVariants as site
use Rattle.abt_machine.specs.declared.events.Spot.TheVariants as spot
use Rattle.abt_machine.specs.declared.operations.Op.{Op}
use Rattle.abt_machine.specs.declared.operations.Thing.{Thing}
use Rattle.abt_machine.specs.declared.operations.Thing.TheVariants as thing
use Rattle.abt_machine.specs.declared.workload.Parts.{Parts}
use Rattle.abt_machine.specs.Operations.{nature_of}
use Rattle.abt_machine.specs.Workloads.{op_at, thing_at}
use Rattle.abt_machine.specs.Carrying.{advanced}
use Rattle.abt_machine.specs.Valid.{IsValid}
use Rattle.abt_machine.specs.State.{Carried, State}
use Rattle.abt_machine.specs.Start.{start}
use Rattle.abt_machine.specs.Lines.{Line, InPool, Joining, Waiting, standing}
use Rattle.abt_machine.specs.Pieces.{IsPieceOf}
use Rattle.abt_machine.specs.Values.{Owned, barrier_at, conditions_of, eventual_at, future_at, monitor_at, object_of, rwlock_at, owned_at, owned_in, phase_at, waiters_at}
use Rattle.abt_machine.specs.Acts.{Answer, Given, Through, Woke, Rested, Miss, Number, Asks, Coded, Back, carrying, moved}
use Rattle.abt_machine.specs.Plans.{Plan, Does, Calls, Exits, plan_of, to_caller, to_condition, to_giver, to_yielder}
use Rattle.abt_laws.proofs.SoundStart.{start-home}
use Rattle.abt_laws.proofs.Lists.{EachOf}
use Rattle.abt_laws.proofs.Standing.{StandsIn, each-stands}
use Rattle.abt_unit.specs.Fits.{Fits}
use Rattle.abt_unit.specs.Local.{local_step, local_step_at, with_carried}
use Rattle.abt_unit.proofs.Fitting.{Fits-local_step, Fits-moved, Fits-noted, Fits-received}
use Rattle.abt_chain.specs.Keeping.{IsPoolOf, contents_answered}
use Rattle.abt_desk.specs.Keeps.{held_in}
use Rattle.abt_calls.specs.Asking.{IsSite}
use Rattle.abt_calls.specs.Effects.{units_left}
use Rattle.abt_calls.specs.Keeps.{EffectsFit, OwnStepsFit, StartFits, contents_of}
use Rattle.abt_calls.proofs.Shapes.{Asker, Caller, Giver, Waiter, Yielder, Facts, Shape, Locally, Yields, Leaves, Refused, Calling, brought, by-shape, plan_by}

-- What holds of each declared unit of a state holds of all that its objects have.

module _ (W : Parts) (S : State) (F : Owned → Type 0) (each : (u : ℕ) → u < length W.units → F (owned_at S u)) where
  line-by : (l : Line) (us : List ℕ) → EachOf (StandsIn W S l) us → All F (map (owned_at S) us)
  line-by l [] stand = All-nil F
  line-by l (u ∷ us) stand = All-cons F (owned_at S u) (map (owned_at S) us) (each u stand.0.declared) (line-by l us stand.1)

  pub line-has : (l : Line) → All F (owned_in W S l)
  line-has l = line-by l (standing W S l) (each-stands W S l)

  pub desk-has : (u : ℕ) (pl : Place) → u < length W.units → All F (held_in (phase_at (owned_at S u) pl))
  desk-has u place.Unborn l = All-cons F (owned_at S u) [] (each u l) (All-nil F)
  desk-has u (place.Blocked spot.Suspended t) l = All-cons F (owned_at S u) [] (each u l) (All-nil F)
  desk-has u (place.Ended c) l = All-cons F (owned_at S u) [] (each u l) (All-nil F)
  desk-has u _ l = All-nil F

  conditions-have : (cs : List ℕ) → All F (flat_map (λ os. os) (map (waiters_at W S) cs))
  conditions-have [] = All-nil F
  conditions-have (c ∷ cs) = All-append F (waiters_at W S c) (flat_map (λ os. os) (map (waiters_at W S) cs)) (line-has (Waiting c)) (conditions-have cs)

  pub monitor-has : (x : ℕ) (t : Option Thing) → All F (contents_of (monitor_at W S x t)).units
  monitor-has x (Some thing.Mutex) = All-append F (waiters_at W S x) (flat_map (λ os. os) (map (waiters_at W S) (conditions_of W x))) (line-has (Waiting x)) (conditions-have (conditions_of W x))
  monitor-has x _ = All-nil F

  pub eventual-has : (x : ℕ) (t : Option Thing) → All F (contents_of (eventual_at W S x t)).units
  eventual-has x (Some thing.Eventual) = line-has (Waiting x)
  eventual-has x _ = All-nil F

  pub future-has : (x : ℕ) (t : Option Thing) → All F (contents_of (future_at W S x t)).units
  future-has x (Some (thing.Future n c)) = line-has (Waiting x)
  future-has x _ = All-nil F

  pub barrier-has : (x : ℕ) (t : Option Thing) → All F (contents_of (barrier_at W S x t)).units
  barrier-has x (Some (thing.Barrier n)) = line-has (Waiting x)
  barrier-has x _ = All-nil F

  pub rwlock-has : (x : ℕ) (t : Option Thing) → All F (contents_of (rwlock_at W S x t)).units
  rwlock-has x (Some thing.RwLock) = line-has (Waiting x)
  rwlock-has x _ = All-nil F

  object-has : (x : Site) → IsSite W x → All F (contents_of (object_of W S x)).units
  object-has (site.Pool p) is = line-has (InPool p.0)
  object-has (site.Desk u) is = All-append F (held_in (phase_at (owned_at S u.0) (S.place u.0))) (owned_in W S (Joining u.0)) (desk-has u.0 (S.place u.0) is) (line-has (Joining u.0))
  object-has (site.Monitor x) is = monitor-has x.0 (thing_at W x.0)
  object-has (site.Eventual x) is = eventual-has x.0 (thing_at W x.0)
  object-has (site.Future x) is = future-has x.0 (thing_at W x.0)
  object-has (site.Barrier x) is = barrier-has x.0 (thing_at W x.0)
  object-has (site.Rw x) is = rwlock-has x.0 (thing_at W x.0)

-- The start.

unit-fits : (W : Parts) → IsValid W → (u : ℕ) → u < length W.units → Fits W (owned_at (start W) u)
unit-fits W valid u declared = record {
  number = declared;
  home = start-home W u valid;
  keys = length-replicate W.keys 0;
  position = omega arith;
  output = All-nil (IsPieceOf W);
}

monitor-pools : (W : Parts) (x : ℕ) (t : Option Thing) → All (IsPoolOf W) (contents_of (monitor_at W (start W) x t)).pools
monitor-pools W x (Some thing.Mutex) = All-nil (IsPoolOf W)
monitor-pools W x _ = All-nil (IsPoolOf W)

eventual-pools : (W : Parts) (x : ℕ) (t : Option Thing) → All (IsPoolOf W) (contents_of (eventual_at W (start W) x t)).pools
eventual-pools W x (Some thing.Eventual) = All-nil (IsPoolOf W)
eventual-pools W x _ = All-nil (IsPoolOf W)

future-pools : (W : Parts) (x : ℕ) (t : Option Thing) → All (IsPoolOf W) (contents_of (future_at W (start W) x t)).pools
future-pools W x (Some (thing.Future n c)) = All-nil (IsPoolOf W)
future-pools W x _ = All-nil (IsPoolOf W)

barrier-pools : (W : Parts) (x : ℕ) (t : Option Thing) → All (IsPoolOf W) (contents_of (barrier_at W (start W) x t)).pools
barrier-pools W x (Some (thing.Barrier n)) = All-nil (IsPoolOf W)
barrier-pools W x _ = All-nil (IsPoolOf W)

rwlock-pools : (W : Parts) (x : ℕ) (t : Option Thing) → All (IsPoolOf W) (contents_of (rwlock_at W (start W) x t)).pools
rwlock-pools W x (Some thing.RwLock) = All-nil (IsPoolOf W)
rwlock-pools W x _ = All-nil (IsPoolOf W)

start-pools : (W : Parts) (x : Site) → All (IsPoolOf W) (contents_of (object_of W (start W) x)).pools
start-pools W (site.Pool p) = All-nil (IsPoolOf W)
start-pools W (site.Desk u) = All-nil (IsPoolOf W)
start-pools W (site.Monitor x) = monitor-pools W x.0 (thing_at W x.0)
start-pools W (site.Eventual x) = eventual-pools W x.0 (thing_at W x.0)
start-pools W (site.Future x) = future-pools W x.0 (thing_at W x.0)
start-pools W (site.Barrier x) = barrier-pools W x.0 (thing_at W x.0)
start-pools W (site.Rw x) = rwlock-pools W x.0 (thing_at W x.0)

pub start-fits : StartFits
start-fits W x valid is = (object-has W (start W) (Fits W) (unit-fits W valid) x is, start-pools W x)

-- Steps.

module _ (W : Parts) where
  one-fits : (o : Owned) → Fits W o → All (Fits W) (o ∷ [])
  one-fits o fits = All-cons (Fits W) o [] fits (All-nil (Fits W))

  abbrev Comes : Answer → Type 0
  Comes answer = All (Fits W) (contents_answered answer).units

  -- What an answer brings fits.

  caller-fits : (o : Owned) (answer : Answer) → Fits W (moved o) → Comes answer → All (Fits W) (units_left (to_caller o answer))
  caller-fits o (Given b) fits come = All-cons (Fits W) (moved o) (b ∷ []) fits come
  caller-fits o (Through b os) fits come = one-fits (moved o) fits
  caller-fits o (Woke os) fits come = All-cons (Fits W) (moved o) os fits come
  caller-fits o Rested fits come = one-fits (moved o) fits
  caller-fits o Miss fits come = one-fits (moved o) fits
  caller-fits o (Number n) fits come = one-fits _ (Fits-received fits n)
  caller-fits o (Asks c m) fits come = one-fits (moved o) fits
  caller-fits o (Coded code.Ok) fits come = one-fits (moved o) fits
  caller-fits o (Coded c) fits come = one-fits _ (Fits-noted fits c)
  caller-fits o (Back b c) fits come = one-fits (moved o) fits

  giver-fits : (answer : Answer) → Comes answer → All (Fits W) (units_left (to_giver answer))
  giver-fits (Given b) come = come
  giver-fits (Through b os) come = come
  giver-fits (Back b c) come = one-fits _ (Fits-noted (All-head (Fits W) b [] come) c)
  giver-fits _ come = All-nil (Fits W)

  condition-fits : (answer : Answer) → Comes answer → All (Fits W) (units_left (to_condition answer))
  condition-fits (Given b) come = come
  condition-fits (Back b c) come = one-fits _ (Fits-noted (All-head (Fits W) b [] come) c)
  condition-fits _ come = All-nil (Fits W)

  yielder-fits : (o : Owned) (answer : Answer) → Fits W (moved o) → Comes answer → All (Fits W) (units_left (to_yielder o answer))
  yielder-fits o (Given b) fits come = All-cons (Fits W) b (moved o ∷ []) (All-head (Fits W) b [] come) (one-fits (moved o) fits)
  yielder-fits o (Coded c) fits come = one-fits _ (Fits-noted fits c)
  yielder-fits o _ fits come = one-fits (moved o) fits

  asker-fits : (asker : Asker) (o : Owned) (answer : Answer) → Fits W (moved o) → Comes answer → All (Fits W) (units_left (brought asker o answer))
  asker-fits Caller o answer fits come = caller-fits o answer fits come
  asker-fits Giver o answer fits come = giver-fits answer come
  asker-fits Waiter o answer fits come = condition-fits answer come
  asker-fits Yielder o answer fits come = yielder-fits o answer fits come

  -- what is planned leaves units that fit: with no call, with any answer, and at an exit
  abbrev PlanFits : Plan → Type 0
  PlanFits (Does e) = IsValid W → All (Fits W) (units_left e)
  PlanFits (Calls x asked brings) = (answer : Answer) → Comes answer → All (Fits W) (units_left (brings answer))
  PlanFits (Exits b) = Fits W b

  -- a local operation makes of a unit what it plans
  local-by : (a : Op) (o : Owned) (f : Carried → Carried) → op_at W o.number o.carried.position ≡ Some a → (nature_of a).local ≡ Some f → local_step W o ≡ Some (moved (carrying f o))
  local-by a o f is local = ap (λ b. local_step_at b o) is ∙ ap (λ g. option_map (with_carried o) (option_map (λ (h : Carried → Carried). advanced (h o.carried)) g)) local

  shape-fits : (a : Op) (o : Owned) → Fits W o → op_at W o.number o.carried.position ≡ Some a → (shape : Shape) → Facts W a o shape → PlanFits (plan_by o shape)
  shape-fits a o fits is (Locally f) local = λ valid. one-fits (moved (carrying f o)) (Fits-local_step W o (moved (carrying f o)) valid fits (local-by a o f is local))
  shape-fits a o fits is Yields facts = λ valid. one-fits (moved o) (Fits-moved fits a is)
  shape-fits a o fits is Leaves facts = Fits-moved fits a is
  shape-fits a o fits is Refused facts = λ valid. one-fits _ (Fits-noted (Fits-moved fits a is) code.PoolAccess)
  shape-fits a o fits is (Calling x asked asker) facts = λ answer. asker-fits asker o answer (Fits-moved fits a is)

pub own-steps-fit : OwnStepsFit
own-steps-fit W s a o e valid fits is plan = by-shape W s a o (PlanFits W) (shape-fits W a o fits is) (Does e) plan valid

pub exits-fit : (W : Parts) (s : ℕ) (a : Op) (o b : Owned) → Fits W o → op_at W o.number o.carried.position ≡ Some a → plan_of W s a o ≡ Exits b → Fits W b
exits-fit W s a o b fits is plan = by-shape W s a o (PlanFits W) (shape-fits W a o fits is) (Exits b) plan

pub effects-fit : EffectsFit
effects-fit W s a o x asked brings answer fits is plan come = by-shape W s a o (PlanFits W) (shape-fits W a o fits is) (Calls x asked brings) plan answer come
