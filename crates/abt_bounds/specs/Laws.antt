-- Laws that bound the machine from above: what a stream may do next, and what no run does. W is a workload and Z what is stored beside it.
use Rattle.std.specs.Prelude.{ℕ, suc, ◌≡◌, ◌≢◌, ◌<◌, ◌≤◌, ◌+◌, ◌*◌, ◌^◌, ◌↔◌, ◌⊎◌, List, [], ◌∷◌, length, map, sum_by, Option, Some, None, Bool, Contains, IsTrue, slice_get}
use Rattle.std.specs.List.{AllByRecursion}
use Rattle.abt_machine.specs.declared.events.Code.TheVariants as code
use Rattle.abt_machine.specs.declared.events.Event.{Event}
use Rattle.abt_machine.specs.declared.events.Place.TheVariants as place
use Rattle.abt_machine.specs.declared.events.What.{What}
use Rattle.abt_machine.specs.declared.events.What.TheVariants as what
use Rattle.abt_machine.specs.declared.numbers.PoolNo.{PoolNo}
use Rattle.abt_machine.specs.declared.numbers.UnitNo.{UnitNo}
use Rattle.abt_machine.specs.declared.operations.Op.{Op}
use Rattle.abt_machine.specs.declared.operations.Op.TheVariants as op
use Rattle.abt_machine.specs.Stored.{Stored}
use Rattle.abt_machine.specs.declared.operations.OrderShape.TheVariants as shape
use Rattle.abt_machine.specs.declared.operations.Rule.TheVariants as rule
use Rattle.abt_machine.specs.declared.workload.Parts.{Parts}
use Rattle.abt_machine.specs.Access.{may_put, may_take}
use Rattle.abt_machine.specs.Valid.{IsValid}
use Rattle.abt_machine.specs.Rounds.{IsNextPool, IsOrder, OrdersStored}
use Rattle.abt_machine.specs.Workloads.{body_at, op_at, ops_of, pools_of, rule_of}
use Rattle.abt_machine.specs.State.{Frame, State}
use Rattle.abt_machine.specs.Codes.{code_of}
use Rattle.abt_machine.specs.Events.{After, May}
use Rattle.abt_machine.specs.Runs.{Run, last_state}
use Rattle.abt_machine.specs.Start.{start}
use Rattle.abt_machine.specs.Sound.{IsUnderWay, Sound}
use Rattle.abt_machine.specs.Lives.{count_up, last_life}
use Rattle.abt_machine.specs.Outcomes.{Spent, steps_in}
use Rattle.abt_machine.specs.Stamps.{Stamped}
use Rattle.abt_machine.specs.Texts.{ShownUnit, Tally, journal_text, tally_of}
use Rattle.abt_bounds.specs.Accesses.{FramesHaveAccess, IsWithinAccess, KeepsAccess}

-- What comes next.

-- no user scheduler's order is free
abbrev pub HasNoFreeOrder : Parts → Stored → Type 0
HasNoFreeOrder W Z = (g k : ℕ) → rule_of W g ≡ Some (rule.User k) → slice_get Z.orders k ≡ Some shape.Free → ⊥

-- no function that a unit calls may return any word
abbrev pub HasNoFreeCall : Parts → Stored → Type 0
HasNoFreeCall W Z = (u k f a : ℕ) (ks : List ℕ) → op_at W u k ≡ Some (op.Call f) → (n : ℕ) × (Z.returns f u a ks ≡ Some n)

-- neither is free
abbrev pub HasNoFree : Parts → Stored → Type 0
HasNoFree W Z = HasNoFreeOrder W Z × HasNoFreeCall W Z

-- if no order is free, a round of a scheduler has at most one order
abbrev pub OrdersAreOne : Parts → Stored → Type 0
OrdersAreOne W Z = HasNoFreeOrder W Z → (g r : ℕ) (one two : List ℕ) → IsOrder W Z.orders g r one → IsOrder W Z.orders g r two → one ≡ two

-- if nothing is free, a stream of a sound state has at most one event that may come
abbrev pub OneNext : Parts → Stored → Type 0
OneNext W Z = HasNoFree W Z → (S : State) (s : ℕ) (w v : What) → Sound W Z S → May W Z S s w → May W Z S s v → w ≡ v

-- the pool that a round visits
abbrev pub visited : What → Option ℕ
visited (what.Miss p) = Some p.0
visited (what.Take p u) = Some p.0
visited _ = None

-- the word that a call returned
abbrev pub returned : What → Option ℕ
returned (what.Call u k n) = Some n
returned _ = None

-- whatever the orders and functions, two events that may come are one, unless they visit different pools or return different words
abbrev pub OneAtEachPool : Parts → Stored → Type 0
OneAtEachPool W Z = (S : State) (s : ℕ) (w v : What) → Sound W Z S → May W Z S s w → May W Z S s v → visited w ≡ visited v → returned w ≡ returned v → w ≡ v

-- in a free order each pool of the scheduler that the round has not seen may be next
abbrev pub FreeOrdersAreFree : Parts → Stored → Type 0
FreeOrdersAreFree W Z = (f : Frame) (k p : ℕ) → IsUnderWay W Z.orders f → rule_of W f.sched ≡ Some (rule.User k) → slice_get Z.orders k ≡ Some shape.Free →
    Contains (pools_of W f.sched) p → (Contains f.seen p → ⊥) → IsNextPool W Z.orders f p

-- each declared stream of a sound state has an event that may come
abbrev pub SomeNext : Parts → Stored → Type 0
SomeNext W Z = (S : State) (s : ℕ) → Sound W Z S → s < W.streams → (w : What) × May W Z S s w

-- and one that leads to some state
abbrev pub SomeAfter : Parts → Stored → Type 0
SomeAfter W Z = (S : State) (s : ℕ) → Sound W Z S → s < W.streams → (e : Event) × (T : State) × (e.stream.0 ≡ s) × After W Z S e T

-- so a wider relation that has at most one event has no event that May does not have
abbrev pub NothingWider : Parts → Stored → Type 0
NothingWider W Z = (wide : State → ℕ → What → Bool) →
    ((S : State) (s : ℕ) (w : What) → May W Z S s w → IsTrue (wide S s w)) →
    ((S : State) (s : ℕ) (w v : What) → Sound W Z S → IsTrue (wide S s w) → IsTrue (wide S s v) → w ≡ v) →
    (S : State) (s : ℕ) (w : What) → Sound W Z S → s < W.streams → IsTrue (wide S s w) → May W Z S s w

-- the stamps and streams of a journal, in order: whose turn it was each time
abbrev pub turns : List Event → List (ℕ × ℕ)
turns J = map (λ e. (e.stamp, e.stream.0)) J

-- if nothing is free, whose turn it is determines the run
abbrev pub OneRunOfTurns : Parts → Stored → Type 0
OneRunOfTurns W Z = IsValid W → OrdersStored W Z.orders → HasNoFree W Z → (J K : List Event) → Run W Z J → Run W Z K → turns J ≡ turns K → J ≡ K

-- and declared streams may take their turns in any order
abbrev pub SomeRunOfTurns : Parts → Stored → Type 0
SomeRunOfTurns W Z = IsValid W → OrdersStored W Z.orders → (ts : List (ℕ × ℕ)) → AllByRecursion (λ (t : ℕ × ℕ). t.1 < W.streams) ts → (J : List Event) × Run W Z J × (turns J ≡ ts)

-- Access.

-- at the start each stream may take from all pools of the schedulers that it runs
abbrev pub StartHasAccess : Parts → Type 0
StartHasAccess W = IsValid W → FramesHaveAccess W (start W)

-- if this holds, each event keeps to the access of pools, and it holds afterwards
abbrev pub EventsKeepAccess : Parts → Stored → Type 0
EventsKeepAccess W Z = (S T : State) (e : Event) → FramesHaveAccess W S → After W Z S e T → KeepsAccess W e.stream.0 e.what × FramesHaveAccess W T

-- in every run each event keeps to the access of pools, and in its last state each stream may take from all pools of the schedulers that it runs
abbrev pub RunsKeepAccess : Parts → Stored → Type 0
RunsKeepAccess W Z = IsValid W → (J : List Event) → Run W Z J →
    ((e : Event) → Contains J e → KeepsAccess W e.stream.0 e.what) × FramesHaveAccess W (last_state W J)

-- an operation is refused for access exactly if its stream must not reach the pool that it names
abbrev pub DeniedAreRefused : Parts → Type 0
DeniedAreRefused W = (S : State) (s u : ℕ) (o : Op) → (code_of W S s u o ≡ code.PoolAccess) ↔ (IsWithinAccess W s o → ⊥)

-- a unit's home becomes only a pool that the event's stream may put into, or at its look the one of its request to migrate
abbrev pub HomesNeedAccess : Parts → Stored → Type 0
HomesNeedAccess W Z = (S T : State) (e : Event) (v : UnitNo) → After W Z S e T → (T.carried v.0).home ≢ (S.carried v.0).home →
    IsTrue (may_put W e.stream.0 (T.carried v.0).home) ⊎ ((e.what ≡ what.Look v) × ((S.desk v.0).migrate ≡ Some (T.carried v.0).home))

-- a unit begins a life only with a home that the event's stream may put into
abbrev pub BirthsNeedAccess : Parts → Stored → Type 0
BirthsNeedAccess W Z = (S T : State) (e : Event) (v : UnitNo) → After W Z S e T → (T.desk v.0).life ≢ (S.desk v.0).life → IsTrue (may_put W e.stream.0 (T.carried v.0).home)

-- a unit is newly asked to migrate only to a pool that the event's stream may put into
abbrev pub RequestsNeedAccess : Parts → Stored → Type 0
RequestsNeedAccess W Z = (S T : State) (e : Event) (v : UnitNo) (p : ℕ) → After W Z S e T → (T.desk v.0).migrate ≡ Some p → (S.desk v.0).migrate ≢ Some p → IsTrue (may_put W e.stream.0 p)

-- if each stream may take from all pools of the schedulers that it runs, a unit leaves a pool only if the event's stream may take from it
abbrev pub TakersHaveAccess : Parts → Stored → Type 0
TakersHaveAccess W Z = (S T : State) (e : Event) (v : UnitNo) (p : PoolNo) (t : ℕ) → FramesHaveAccess W S → After W Z S e T →
    S.place v.0 ≡ place.Pool p t → T.place v.0 ≢ S.place v.0 → IsTrue (may_take W e.stream.0 p.0)

-- Stamps.

-- in a stamped journal the stamp of event number i, counted from 0, is at most i + 1
abbrev pub StampsFitPlaces : Parts → Type 0
StampsFitPlaces W = (J : List Event) (i : ℕ) (e : Event) → Stamped W J → slice_get J i ≡ Some e → e.stamp ≤ suc i

-- so each stamp is at most the number of events
abbrev pub StampsFitLength : Parts → Type 0
StampsFitLength W = (J : List Event) (e : Event) → Stamped W J → Contains J e → e.stamp ≤ length J

-- Numbers.

-- pools and units of what happened are declared, and a step is of an operation of its unit
abbrev pub NamesDeclared : Parts → What → Type 0
NamesDeclared W (what.Miss p) = p.0 < length W.pools
NamesDeclared W (what.Take p u) = (p.0 < length W.pools) × (u.0 < length W.units)
NamesDeclared W (what.Look u) = u.0 < length W.units
NamesDeclared W (what.Step u k c) = (u.0 < length W.units) × (k < length (ops_of (body_at W u.0)))
NamesDeclared W (what.Call u k n) = (u.0 < length W.units) × (k < length (ops_of (body_at W u.0))) × (n < 2 ^ 64)
NamesDeclared W (what.Put u p) = (u.0 < length W.units) × (p.0 < length W.pools)
NamesDeclared W (what.End u c) = u.0 < length W.units
NamesDeclared W (what.Enter u) = u.0 < length W.units
NamesDeclared W (what.Leave u) = u.0 < length W.units

-- every event of a run is of a declared stream and names declared things
abbrev pub RunsNameDeclared : Parts → Stored → Type 0
RunsNameDeclared W Z = IsValid W → OrdersStored W Z.orders → (J : List Event) (e : Event) → Run W Z J → Contains J e → (e.stream.0 < W.streams) × NamesDeclared W e.what

-- Steps.

-- the operations of a unit
abbrev pub ops_of_unit : Parts → ℕ → ℕ
ops_of_unit W u = length (ops_of (body_at W u))

-- the operations of all units together
abbrev pub ops_in : Parts → ℕ
ops_in W = sum_by (ops_of_unit W) (count_up (length W.units))

-- the operations of all lives of all units together
abbrev pub ops_lived : Parts → List Event → ℕ
ops_lived W J = sum_by (λ u. last_life W J u * ops_of_unit W u) (count_up (length W.units))

-- a run has at most as many steps as its lives have operations
abbrev pub StepsAreOfLives : Parts → Stored → Type 0
StepsAreOfLives W Z = IsValid W → OrdersStored W Z.orders → (J : List Event) → Run W Z J → steps_in J ≤ ops_lived W J

-- no unit has an operation that revives
abbrev pub HasNoRevive : Parts → Type 0
HasNoRevive W = (u k : ℕ) (v : UnitNo) (p : PoolNo) → op_at W u k ≡ Some (op.Revive v p) → ⊥

-- without revivals each unit has at most one life
abbrev pub LivesAreFew : Parts → Stored → Type 0
LivesAreFew W Z = IsValid W → OrdersStored W Z.orders → HasNoRevive W → (J : List Event) (u : ℕ) → Run W Z J → u < length W.units → last_life W J u ≤ 1

-- so a run has at most as many steps as there are operations
abbrev pub StepsAreFew : Parts → Stored → Type 0
StepsAreFew W Z = IsValid W → OrdersStored W Z.orders → HasNoRevive W → (J : List Event) → Run W Z J → steps_in J ≤ ops_in W

-- and if each stream may make that many, none is ever spent
abbrev pub StepsBoundBudgets : Parts → Stored → Type 0
StepsBoundBudgets W Z = IsValid W → OrdersStored W Z.orders → HasNoRevive W → (n s : ℕ) (J : List Event) → ops_in W ≤ n → Run W Z J → Spent W n J s → ⊥

-- Texts.

-- the numbers of what happened
abbrev pub what_numbers : What → List ℕ
what_numbers (what.Miss p) = p.0 ∷ []
what_numbers (what.Take p u) = p.0 ∷ u.0 ∷ []
what_numbers (what.Look u) = u.0 ∷ []
what_numbers (what.Step u k c) = u.0 ∷ k ∷ []
what_numbers (what.Call u k n) = u.0 ∷ k ∷ n ∷ []
what_numbers (what.Put u p) = u.0 ∷ p.0 ∷ []
what_numbers (what.End u c) = u.0 ∷ []
what_numbers (what.Enter u) = u.0 ∷ []
what_numbers (what.Leave u) = u.0 ∷ []

-- each number of the event has at most 64 digits: of a longer one a text has only the last 64
abbrev pub IsWritten : Event → Type 0
IsWritten e = AllByRecursion (λ n. n < 10 ^ 64) (e.stamp ∷ e.stream.0 ∷ what_numbers e.what)

-- different journals have different texts
abbrev pub JournalTextsDiffer : Type 0
JournalTextsDiffer = (J K : List Event) → AllByRecursion IsWritten J → AllByRecursion IsWritten K → journal_text J ≡ journal_text K → J ≡ K

-- it is needed that numbers are short: some two journals, of one look each, have the same text
abbrev pub LongNumbersCoincide : Type 0
LongNumbersCoincide = (J : List Event) × (K : List Event) × (journal_text J ≡ journal_text K) × (J ≢ K)

-- so different stamped runs have different texts
abbrev pub RunTextsDiffer : Parts → Stored → Type 0
RunTextsDiffer W Z = IsValid W → OrdersStored W Z.orders → (J K : List Event) → Run W Z J → Run W Z K → Stamped W J → Stamped W K → length J < 10 ^ 64 → length K < 10 ^ 64 →
    journal_text J ≡ journal_text K → J ≡ K

-- Reports.

-- the units that a tally counts
abbrev pub total : Tally → ℕ
total t = t.unborn + t.pool + t.stream + t.blocked + t.done + t.asked + t.access

-- the numbers of a tally add up to its units
abbrev pub TalliesAddUp : Type 0
TalliesAddUp = (units : List ShownUnit) → total (tally_of units) ≡ length units
