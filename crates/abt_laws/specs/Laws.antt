-- The laws of the machine. W is a workload and Z what is stored beside it; each law but OneAfter supposes that W is valid and that each user scheduler's order is stored.
use Rattle.std.specs.Prelude.{ℕ, ◌≡◌, ◌≢◌, ◌<◌, ◌≤◌, ◌↔◌, ◌⊎◌, true, false, List, [], ◌∷◌, ◌++◌, length, Some}
use Rattle.abt_machine.specs.declared.events.Code.TheVariants as code
use Rattle.abt_machine.specs.declared.events.Place.TheVariants as place
use Rattle.abt_machine.specs.declared.events.Cause.{Cause}
use Rattle.abt_machine.specs.declared.events.Event.{Event}
use Rattle.abt_machine.specs.declared.events.What.{What}
use Rattle.abt_machine.specs.declared.events.What.TheVariants as what
use Rattle.abt_machine.specs.declared.operations.Op.TheVariants as op
use Rattle.abt_machine.specs.Stored.{Stored}
use Rattle.abt_machine.specs.declared.workload.Parts.{Parts}
use Rattle.abt_machine.specs.Numbers.{object_no}
use Rattle.abt_machine.specs.Workloads.{op_at}
use Rattle.abt_machine.specs.Holders.{count_of}
use Rattle.abt_machine.specs.Valid.{IsValid}
use Rattle.abt_machine.specs.Rounds.{OrdersStored}
use Rattle.abt_machine.specs.State.{State}
use Rattle.abt_machine.specs.Start.{start}
use Rattle.abt_machine.specs.EventSites.{event_site}
use Rattle.abt_machine.specs.Events.{After}
use Rattle.abt_machine.specs.Runs.{Run, state_at, last_state}
use Rattle.abt_machine.specs.Sound.{Sound}
use Rattle.abt_machine.specs.Outcomes.{Quiet, AllEnded, Spent, is_step, steps_of}
use Rattle.abt_machine.specs.Lives.{LivesOf, ends_in, last_life, life_events}
use Rattle.abt_laws.specs.Footprint.{ChangesOnly, Apart}
use Rattle.abt_laws.specs.Measure.{steps_left, FallsBy}

-- the start is sound
abbrev pub StartIsSound : Parts → Stored → Type 0
StartIsSound W Z = IsValid W → OrdersStored W Z.orders → Sound W Z (start W)

-- every event leads from a sound state to a sound state
abbrev pub EventsKeepSound : Parts → Stored → Type 0
EventsKeepSound W Z = IsValid W → OrdersStored W Z.orders → (S T : State) (e : Event) → Sound W Z S → After W Z S e T → Sound W Z T

-- every state of a run is sound
abbrev pub RunsAreSound : Parts → Stored → Type 0
RunsAreSound W Z = IsValid W → OrdersStored W Z.orders → (J : List Event) (i : ℕ) → Run W Z J → Sound W Z (state_at W J i)

-- a state and an event determine the next state
abbrev pub OneAfter : Parts → Stored → Type 0
OneAfter W Z = (S T U : State) (e : Event) → After W Z S e T → After W Z S e U → T ≡ U

-- an event changes only its stream, at most one object, and units that these keep
abbrev pub EventsAreLocal : Parts → Stored → Type 0
EventsAreLocal W Z = IsValid W → OrdersStored W Z.orders → (S T : State) (e : Event) → Sound W Z S → After W Z S e T → ChangesOnly W e.stream.0 (event_site W e) S T

-- of two events of different streams and different objects, if one may come and then the other, the other may come first and then the one, with the same state after both
abbrev pub EventsCommute : Parts → Stored → Type 0
EventsCommute W Z = IsValid W → OrdersStored W Z.orders → (S T U : State) (e f : Event) → Sound W Z S → e.stream.0 ≢ f.stream.0 → Apart (event_site W e) (event_site W f) →
    After W Z S e T → After W Z T f U → (V : State) × After W Z S f V × After W Z V e U

-- by this event an `rwstore` to lock x goes through
abbrev pub StoresIn : Parts → ℕ → What → Type 0
StoresIn W x (what.Step u k c) = (op_at W u.0 k ≡ Some (op.RwStore (object_no x))) × (c ≡ code.Ok)
StoresIn W x _ = ⊥

-- while a unit reads a reader-writer lock, no event of a run stores a number in the lock, and its number stays
abbrev pub ReadsStay : Parts → Stored → Type 0
ReadsStay W Z = IsValid W → OrdersStored W Z.orders → (J : List Event) (e : Event) (u x : ℕ) → Run W Z (J ++ e ∷ []) → 0 < count_of u ((last_state W J).rwlock x) →
    (StoresIn W x e.what → ⊥) × (((last_state W (J ++ e ∷ [])).rwlock x).number ≡ ((last_state W J).rwlock x).number)

-- if every unit is unborn or ended, nothing is left to do
abbrev pub EndedIsQuiet : Parts → Stored → Type 0
EndedIsQuiet W Z = IsValid W → OrdersStored W Z.orders → (S : State) → Sound W Z S → AllEnded S → Quiet W S

-- if a stream is spent, something is left to do
abbrev pub SpentIsNotQuiet : Parts → Stored → Type 0
SpentIsNotQuiet W Z = IsValid W → OrdersStored W Z.orders → (n s : ℕ) (J : List Event) → Run W Z J → Spent W n J s → Quiet W (last_state W J) → ⊥

-- the event finds a pool empty
abbrev pub IsMiss : What → Type 0
IsMiss (what.Miss p) = Unit {0}
IsMiss _ = ⊥

-- if nothing is left to do, the next event is a miss, after which nothing is left to do
abbrev pub QuietStays : Parts → Stored → Type 0
QuietStays W Z = IsValid W → OrdersStored W Z.orders → (S T : State) (e : Event) → Sound W Z S → Quiet W S → After W Z S e T → IsMiss e.what × Quiet W T

abbrev pub AllMisses : List Event → Type 0
AllMisses [] = Unit {0}
AllMisses (e ∷ es) = IsMiss e.what × AllMisses es

-- no continuation of a journal after which nothing is left to do has an event other than a miss
abbrev pub QuietRunsMiss : Parts → Stored → Type 0
QuietRunsMiss W Z = IsValid W → OrdersStored W Z.orders → (J K : List Event) → Run W Z (J ++ K) → Quiet W (last_state W J) → AllMisses K × Quiet W (last_state W (J ++ K))

-- in every run each life of each unit is as LivesOf says
abbrev pub RunsLive : Parts → Stored → Type 0
RunsLive W Z = IsValid W → OrdersStored W Z.orders → (J : List Event) → Run W Z J → LivesOf W J

-- a step, of a stream that has steps left, lowers the steps left; every other event keeps them and lowers the weight of the units or, as a miss, the number of open frames if a stacked frame's round ends empty
abbrev pub EventsFall : Parts → Stored → Type 0
EventsFall W Z = IsValid W → OrdersStored W Z.orders → (n : ℕ) (J : List Event) (e : Event) → Run W Z (J ++ e ∷ []) →
    (is_step e.what ≡ true → steps_of e.stream.0 J < n → steps_left W n (J ++ e ∷ []) < steps_left W n J)
    × (is_step e.what ≡ false → steps_left W n (J ++ e ∷ []) ≡ steps_left W n J)
    × FallsBy W e.stream.0 e.what (last_state W J) (last_state W (J ++ e ∷ []))

-- along every run the state's own life of a unit is the journal's, and a unit is unborn exactly if that life is 0
abbrev pub LifeIsTheJournals : Parts → Stored → Type 0
LifeIsTheJournals W Z = IsValid W → OrdersStored W Z.orders → (J : List Event) (u : ℕ) → Run W Z J → u < length W.units →
    (((last_state W J).desk u).life ≡ last_life W J u) × (((last_state W J).place u ≡ place.Unborn) ↔ (last_life W J u ≡ 0))

-- in a run every unit is unborn or ended exactly if each life that a unit began has its one end in the journal
abbrev pub EndsAreTheJournals : Parts → Stored → Type 0
EndsAreTheJournals W Z = IsValid W → OrdersStored W Z.orders → (J : List Event) → Run W Z J →
    AllEnded (last_state W J) ↔ ((u l : ℕ) → u < length W.units → 0 < l → l ≤ last_life W J u → (c : Cause) × (ends_in (life_events W J u l) ≡ c ∷ []))

-- by this event a step of unit u goes through
abbrev pub IsStepOf : ℕ → What → Type 0
IsStepOf u (what.Step v k c) = (v.0 ≡ u) × (c ≡ code.Ok)
IsStepOf u _ = ⊥

-- while a unit owns a mutex, only a step of that unit changes its owner or its number
abbrev pub OwnersAlone : Parts → Stored → Type 0
OwnersAlone W Z = (S T : State) (e : Event) (u x : ℕ) → After W Z S e T → (S.mutex x).owner ≡ Some u → (T.mutex x ≡ S.mutex x) ⊎ IsStepOf u e.what
