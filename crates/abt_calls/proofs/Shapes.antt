-- What a stream plans at each operation, by what becomes of the unit in hand: one line for each operation that names a pool.
use Rattle.std.proofs.Common.{◌≡◌, ℕ, ◌<◌, Bool, true, false, List, [], ◌∷◌, length, Option, Some, None, refl, sym, ◌∙◌, ap, subst}
use Rattle.std.specs.Prelude.{if◌then◌else◌}
use Rattle.abt_machine.specs.declared.events.Code.{Code}
use Rattle.abt_machine.specs.declared.events.Site.{Site}
use Rattle.abt_machine.specs.declared.events.Site.TheVariants as site
use Rattle.abt_machine.specs.declared.grammar.Number.{Number}
use Rattle.abt_machine.specs.declared.grammar.Number.TheVariants as number
use Rattle.abt_machine.specs.declared.numbers.UnitNo.{UnitNo}
use Rattle.abt_machine.specs.declared.operations.Op.{Op}
use Rattle.abt_machine.specs.declared.operations.Op.TheVariants as op
use Rattle.abt_machine.specs.declared.workload.Parts.{Parts}
use Rattle.abt_machine.specs.Numbers.{object_no, unit_no}
use Rattle.abt_machine.specs.Operations.{AreNamed, IsDeclared, IsNamed, nature_of}
use Rattle.abt_machine.specs.Canonical.{op_numbers}
use Rattle.abt_machine.specs.Forms.{Slot, Numeral, op_slots}
use Rattle.abt_machine.specs.Workloads.{condition_number, mutex_of}
use Rattle.abt_machine.specs.Access.{may_reach}
use Rattle.abt_machine.specs.Sites.{first_pool, monitor_of}
use Rattle.abt_machine.specs.State.{Carried, State}
use Rattle.abt_machine.specs.Valid.{IsValid}
use Rattle.abt_machine.specs.Values.{Owned, conditions_of, desk_value, object_of}
use Rattle.abt_machine.specs.Acts.{Act, Answer, Look, End, moved}
use Rattle.abt_machine.specs.Acts as act
use Rattle.abt_machine.specs.Desks.{takes_back}
use Rattle.abt_machine.specs.Plans.{Effect, Plan, Does, Calls, Exits, denied, empties, local, plan_of, to_caller, to_condition, to_giver, to_yielder, reached_plan}
use Rattle.abt_machine.proofs.Declared.{first_pool-declared, mutex-declared}
use Rattle.abt_unit.specs.Fits.{Fits}
use Rattle.abt_chain.specs.Keeping.{Contents, Have, IsPoolOf, contents_asked, no_contents, only_pool, only_unit}
use Rattle.abt_chain.proofs.Kept.{Have-nothing, Have-pool, Have-unit}
use Rattle.abt_calls.specs.Allowed.{DeskAllows}
use Rattle.abt_calls.specs.Asking.{IsSite}
use Rattle.abt_calls.specs.OwnDesks.{IsTakenBack, TakesBack}
use Rattle.abt_calls.specs.Suits.{Suits}
use Rattle.abt_calls.proofs.SiteCalls.{KindAllows, MayAsk, condition-below, may-at}

-- What the first number of an operation's line names.

-- the first number of a line, with what it names
abbrev first : List Slot → List ℕ → Option (Number × ℕ)
first (Numeral kind ∷ places) (n ∷ numbers) = Some (kind, n)
first (place ∷ places) numbers = first places numbers
first [] numbers = None

-- it is declared
abbrev IsFirstNamed : Parts → Option (Number × ℕ) → Type 0
IsFirstNamed W None = Unit {0}
IsFirstNamed W (Some f) = IsNamed W f.0 f.1

first-named : (W : Parts) (places : List Slot) (numbers : List ℕ) → AreNamed W places numbers → IsFirstNamed W (first places numbers)
first-named W (Numeral kind ∷ []) (n ∷ []) are = are
first-named W (Numeral kind ∷ place ∷ places) (n ∷ []) are = are.0
first-named W (Numeral kind ∷ []) (n ∷ m ∷ numbers) are = are.0
first-named W (Numeral kind ∷ place ∷ places) (n ∷ m ∷ numbers) are = are.0
first-named W (Numeral kind ∷ places) [] are = first-named W places [] are
first-named W (place ∷ places) numbers are = first-named W places numbers are
first-named W [] numbers are = tt

-- the site that a number names, and the unit's own desk if it names none
abbrev site_named : Parts → Owned → Number → ℕ → Site
site_named W o number.Unit n = site.Desk (unit_no n)
site_named W o number.Mutex n = site.Monitor (object_no n)
site_named W o number.Cond n = monitor_of W n
site_named W o number.Eventual n = site.Eventual (object_no n)
site_named W o number.Future n = site.Future (object_no n)
site_named W o number.Barrier n = site.Barrier (object_no n)
site_named W o number.RwLock n = site.Rw (object_no n)
site_named W o _ n = site.Desk (unit_no o.number)

abbrev first_site : Parts → Owned → Option (Number × ℕ) → Site
first_site W o None = site.Desk (unit_no o.number)
first_site W o (Some f) = site_named W o f.0 f.1

named-site : (W : Parts) (o : Owned) → IsValid W → o.number < length W.units → (kind : Number) (n : ℕ) → IsNamed W kind n → IsSite W (site_named W o kind n)
named-site W o valid own number.Unit n is = is
named-site W o valid own number.Mutex n is = is
named-site W o valid own number.Cond n is = mutex-declared W n valid is
named-site W o valid own number.Eventual n is = is
named-site W o valid own number.Future n is = is
named-site W o valid own number.Barrier n is = is
named-site W o valid own number.RwLock n is = is
named-site W o valid own _ n is = own

first-site : (W : Parts) (o : Owned) → IsValid W → o.number < length W.units → (f : Option (Number × ℕ)) → IsFirstNamed W f → IsSite W (first_site W o f)
first-site W o valid own None is = own
first-site W o valid own (Some f) is = named-site W o valid own f.0 f.1 is

-- a condition has a place among those of its mutex
abbrev IsPlaced : Parts → Number → ℕ → Type 0
IsPlaced W number.Cond n = condition_number W n < length (conditions_of W (mutex_of W n))
IsPlaced W _ n = Unit {0}

abbrev IsFirstPlaced : Parts → Option (Number × ℕ) → Type 0
IsFirstPlaced W None = Unit {0}
IsFirstPlaced W (Some f) = IsPlaced W f.0 f.1

named-placed : (W : Parts) (kind : Number) (n : ℕ) → IsNamed W kind n → IsPlaced W kind n
named-placed W number.Cond n is = condition-below W n is
named-placed W _ n is = tt

first-placed : (W : Parts) (f : Option (Number × ℕ)) → IsFirstNamed W f → IsFirstPlaced W f
first-placed W None is = tt
first-placed W (Some f) is = named-placed W f.0 f.1 is

-- Contents.

pub nothing-comes : (W : Parts) → Have (Fits W) (IsPoolOf W) no_contents
nothing-comes W = Have-nothing (Fits W) (IsPoolOf W)

pub unit-comes : (W : Parts) (o : Owned) → Fits W o → Have (Fits W) (IsPoolOf W) (only_unit o)
unit-comes W o fits = Have-unit (Fits W) (IsPoolOf W) o fits

pool-comes : (W : Parts) (p : ℕ) → p < length W.pools → Have (Fits W) (IsPoolOf W) (only_pool p)
pool-comes W p declared = Have-pool (Fits W) (IsPoolOf W) p declared

-- Plans, by what becomes of the unit in hand.

-- who asks: a unit that stays in the hand, one that goes with the act, one that goes to a condition, or one that yields to another
pub data Asker : Type 0 where
  Caller : Asker
  Giver : Asker
  Waiter : Asker
  Yielder : Asker

-- what an answer brings to it
abbrev pub brought : Asker → Owned → Answer → Effect
brought Caller o = to_caller o
brought Giver o = to_giver
brought Waiter o = to_condition
brought Yielder o = to_yielder o

-- the unit, if it goes with the act
abbrev pub gone : Asker → Owned → Contents
gone Caller o = no_contents
gone Giver o = only_unit (moved o)
gone Waiter o = only_unit (moved o)
gone Yielder o = no_contents

-- answers that the act never gets, by which a unit would be lost or be there twice; of a giver also that no code comes to it, so that
-- callers and givers have two facts each
abbrev pub Spares : Asker → Act → Type 0
Spares Caller asked = (b : Owned) (os : List Owned) (c : Code) → (Suits asked (act.Through b os) → ⊥) × (Suits asked (act.Back b c) → ⊥)
Spares Giver asked = (b : Owned) (os : List Owned) (c : Code) → (Suits asked (act.Woke os) → ⊥) × (Suits asked (act.Coded c) → ⊥)
Spares Waiter asked = (b : Owned) (os : List Owned) (c : Code) → (Suits asked (act.Through b os) → ⊥) × (Suits asked (act.Woke os) → ⊥)
Spares Yielder asked =
    (b : Owned) (os : List Owned) (c : Code)
    → (Suits asked (act.Through b os) → ⊥) × (Suits asked (act.Woke os) → ⊥) × (Suits asked (act.Back b c) → ⊥)

-- a unit that comes back with the act of unit o comes to its own desk
abbrev pub ComesHome : Parts → Owned → Site → Act → Type 0
ComesHome W o x asked = (S : State) → takes_back (desk_value W S o.number) o ≡ true → IsTakenBack asked (object_of W S x)

-- what a plan is: a change of what the unit carries, a yield, an exit, a refusal, or a call
pub data Shape : Type 0 where
  Locally : (Carried → Carried) → Shape
  Yields : Shape
  Leaves : Shape
  Refused : Shape
  Calling : Site → Act → Asker → Shape

abbrev pub plan_by : Owned → Shape → Plan
plan_by o (Locally f) = Does (local f o)
plan_by o Yields = Does (empties (moved o ∷ []))
plan_by o Leaves = Exits (moved o)
plan_by o Refused = denied o
plan_by o (Calling x asked asker) = Calls x asked (brought asker o)

-- what is so of a call at operation a of unit o
pub record IsAsked (W : Parts) (a : Op) (o : Owned) (x : Site) (asked : Act) (asker : Asker) : Type 0 where
  pub may : IsValid W → o.number < length W.units → IsDeclared W a → MayAsk W x asked
  pub comes : IsValid W → Fits W (moved o) → IsDeclared W a → Have (Fits W) (IsPoolOf W) (contents_asked asked)
  pub units : (contents_asked asked).units ≡ (gone asker o).units
  pub spares : Spares asker asked
  pub home : ComesHome W o x asked

-- what is so of the plan of operation a, by its shape
abbrev pub Facts : Parts → Op → Owned → Shape → Type 0
Facts W a o (Locally f) = (nature_of a).local ≡ Some f
Facts W a o (Calling x asked asker) = IsAsked W a o x asked asker
Facts W a o _ = Unit {0}

-- the shape of a plan of operation a
record HasShape (W : Parts) (a : Op) (o : Owned) (plan : Plan) : Type 0 where
  shape : Shape
  same : plan ≡ plan_by o shape
  facts : Facts W a o shape

gone-comes : (W : Parts) (asker : Asker) (o : Owned) → Fits W (moved o) → Have (Fits W) (IsPoolOf W) (gone asker o)
gone-comes W Caller o later = nothing-comes W
gone-comes W Giver o later = unit-comes W (moved o) later
gone-comes W Waiter o later = unit-comes W (moved o) later
gone-comes W Yielder o later = nothing-comes W

-- a call with which no pool comes
calling : (W : Parts) (a : Op) (o : Owned) (x : Site) (asked : Act) (asker : Asker) → (IsValid W → o.number < length W.units → IsDeclared W a → MayAsk W x asked)
    → contents_asked asked ≡ gone asker o → Spares asker asked → ComesHome W o x asked → HasShape W a o (Calls x asked (brought asker o))
calling W a o x asked asker may comes spares home = record {
  shape = Calling x asked asker;
  same = refl;
  facts = record {
    may = may;
    comes = λ valid later is. subst (Have (Fits W) (IsPoolOf W)) (sym comes) (gone-comes W asker o later);
    units = ap (λ c. c.units) comes;
    spares = spares;
    home = home;
  };
}

-- a call on a desk that names a pool for its unit
homing : (W : Parts) (a : Op) (o : Owned) (v : UnitNo) (asked : Act) (p : ℕ) → DeskAllows asked → contents_asked asked ≡ only_pool p
    → (IsValid W → IsDeclared W a → (v.0 < length W.units) × (p < length W.pools)) → Spares Caller asked → ComesHome W o (site.Desk v) asked
    → HasShape W a o (Calls (site.Desk v) asked (to_caller o))
homing W a o v asked p allowed comes names spares home = record {
  shape = Calling (site.Desk v) asked Caller;
  same = refl;
  facts = record {
    may = λ valid number is. may-at W (site.Desk v) asked (names valid is).0 allowed;
    comes = λ valid later is. subst (Have (Fits W) (IsPoolOf W)) (sym comes) (pool-comes W p (names valid is).1);
    units = ap (λ c. c.units) comes;
    spares = spares;
    home = home;
  };
}

-- what is planned if the stream may reach the pool that the operation names
granted : (W : Parts) (a : Op) (o : Owned) (may : Bool) → HasShape W a o (reached_plan W a o) → HasShape W a o (if may then reached_plan W a o else denied o)
granted W a o true has = has
granted W a o false has = record { shape = Refused; same = refl; facts = tt }

-- the site and the act of a plan, if it calls; else the unit's own desk and a look, which may be asked there
abbrev site_of : Owned → Plan → Site
site_of o (Calls x asked brings) = x
site_of o _ = site.Desk (unit_no o.number)

abbrev asked_of : Plan → Act
asked_of (Calls x asked brings) = asked
asked_of _ = act.Look

-- who asks, by whether the operation may block
abbrev asker_of : Plan → Bool → Asker
asker_of (Calls x (act.Wait k b) brings) blocks = Waiter
asker_of (Calls x asked brings) true = Giver
asker_of _ blocks = Caller

-- the shape of most plans, by what a local operation changes
abbrev usual : Plan → Option (Carried → Carried) → Asker → Shape
usual (Does e) (Some f) asker = Locally f
usual (Does e) None asker = Yields
usual (Calls x asked brings) f asker = Calling x asked asker
usual (Exits b) f asker = Leaves

-- an operation that calls names what is declared, in the numbers of its line
abbrev Names : Parts → Op → Plan → Type 0
Names W a (Calls x asked brings) = AreNamed W (op_slots a) (op_numbers a)
Names W a _ = IsDeclared W a

-- the desk to which an act brings a unit back, and the unit; for an act that brings none back, the unit that asks and its own desk
abbrev own_desk : Owned → Site × Owned
own_desk o = (site.Desk (unit_no o.number), moved o)

abbrev comes_back : Owned → Site → Act → Site × Owned
comes_back o x (act.End b cause) = (x, b)
comes_back o x (act.Suspend b) = (x, b)
comes_back o x asked = own_desk o

comes-home : (W : Parts) (o : Owned) (x : Site) (asked : Act) → comes_back o x asked ≡ own_desk o → ComesHome W o x asked
comes-home W o x (act.End b cause) own = λ S h. subst (λ (q : Site × Owned). TakesBack (object_of W S q.0) q.1) (sym own) h
comes-home W o x (act.Suspend b) own = λ S h. subst (λ (q : Site × Owned). TakesBack (object_of W S q.0) q.1) (sym own) h
comes-home W o x _ own = λ S h. tt

-- the shape of most plans: a local one, and a call at the site that the first number of the operation's line names
usually : (W : Parts) (a : Op) (o : Owned) (plan : Plan) (f : Option (Carried → Carried)) (asker : Asker) (n : Option (Number × ℕ)) → (nature_of a).local ≡ f
    → plan ≡ plan_by o (usual plan f asker) → first (op_slots a) (op_numbers a) ≡ n → (IsDeclared W a → Names W a plan) → site_of o plan ≡ first_site W o n
    → (IsFirstPlaced W n → KindAllows W (site_of o plan) (asked_of plan)) → contents_asked (asked_of plan) ≡ gone asker o → Spares asker (asked_of plan)
    → comes_back o (site_of o plan) (asked_of plan) ≡ own_desk o → HasShape W a o plan
usually W a o (Does e) (Some f) asker n local same line names at allowed comes spares home = record { shape = Locally f; same = same; facts = local }
usually W a o (Does e) None asker n local same line names at allowed comes spares home = record { shape = Yields; same = same; facts = tt }
usually W a o (Exits b) f asker n local same line names at allowed comes spares home = record { shape = Leaves; same = same; facts = tt }
usually W a o (Calls x asked brings) f asker n local same line names at allowed comes spares home =
    let named : IsDeclared W a → IsFirstNamed W n = λ is. subst (IsFirstNamed W) line (first-named W (op_slots a) (op_numbers a) (names is)) in
    subst (HasShape W a o) (sym same)
    (calling W a o x asked asker (λ valid number is. may-at W x asked (subst (IsSite W) (sym at) (first-site W o valid number n (named is))) (allowed (first-placed W n (named is)))) comes spares (comes-home W o x asked home))

-- an operation that names a pool has a line of its own
reached-shape : (W : Parts) (a : Op) (o : Owned) → HasShape W a o (reached_plan W a o)
reached-shape W (op.YieldTo v p) o =
    calling W _ o (site.Pool p) (act.Remove v.0) Yielder (λ valid number is. may-at W (site.Pool p) (act.Remove v.0) is.1 tt) refl (λ b os c. (λ h. h, λ h. h, λ h. h)) (λ S h. tt)
reached-shape W (op.Create v p) o = homing W _ o v (act.Create p.0) p.0 tt refl (λ valid is. is) (λ b os c. (λ h. h, λ h. h)) (λ S h. tt)
reached-shape W (op.Migrate v p) o = homing W _ o v (act.AskMigrate p.0) p.0 tt refl (λ valid is. is) (λ b os c. (λ h. h, λ h. h)) (λ S h. tt)
reached-shape W (op.MigrateTo v r) o =
    homing W _ o v (act.AskMigrate (first_pool W r.0)) (first_pool W r.0) tt refl
    (λ valid is. (is.0, first_pool-declared W r.0 valid is.1)) (λ b os c. (λ h. h, λ h. h)) (λ S h. tt)
reached-shape W (op.Revive v p) o = homing W _ o v (act.Revive p.0) p.0 tt refl (λ valid is. is) (λ b os c. (λ h. h, λ h. h)) (λ S h. tt)
reached-shape W a o =
    usually W a o (reached_plan W a o) (nature_of a).local (asker_of (reached_plan W a o) (nature_of a).may_block) (first (op_slots a) (op_numbers a))
    refl refl refl (λ is. is) refl (λ placed. placed) refl (λ b os c. (λ h. h, λ h. h)) refl

shape-of : (W : Parts) (s : ℕ) (a : Op) (o : Owned) → HasShape W a o (plan_of W s a o)
shape-of W s a o = granted W a o (may_reach W s a) (reached-shape W a o)

-- what is so of plans of all shapes is so of what operation a plans
pub by-shape : (W : Parts) (s : ℕ) (a : Op) (o : Owned) (P : Plan → Type 0) → ((shape : Shape) → Facts W a o shape → P (plan_by o shape))
    → (plan : Plan) → plan_of W s a o ≡ plan → P plan
by-shape W s a o P each plan is =
    let has : HasShape W a o (plan_of W s a o) = shape-of W s a o in subst P (sym has.same ∙ is) (each has.shape has.facts)
