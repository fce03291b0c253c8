-- Machines of streams and objects: what merging needs to know of them, and what it makes of their logs and histories.
use Rattle.std.specs.Prelude.{ℕ, ◌≡◌, ◌≢◌, ◌<◌, ◌≤◌, ◌↔◌, Bool, true, List, [], ◌∷◌, Option}
use Rattle.abt_interleave.specs.declared.entries.Entry.{Entry}
use Rattle.abt_interleave.specs.Histories.{Legal}
use Rattle.abt_interleave.specs.Deeds.{Heard, Deed, Course, Answered}
use Rattle.abt_interleave.specs.Logs.{Matched}

-- A state gives each stream a part and each place an object. An event changes its stream's part, and makes at most one call,
-- on the object at one place.
pub record Machine : Type 1 where
  pub State : Type 0
  pub Part : Type 0
  pub Object : Type 0
  pub Place : Type 0
  pub Act : Type 0
  pub Answer : Type 0
  pub What : Type 0
  -- how many streams there are
  pub streams : ℕ
  -- whether two places are one
  pub same : Place → Place → Bool
  pub part_of : State → ℕ → Part
  pub object_of : State → Place → Object
  -- a stream goes from one part to another by an event, with what it hears
  pub Steps : ℕ → Part → What → Option (Heard Place Act Answer) → Part → Type 0
  -- an object answers an act, and is another afterwards
  pub Gives : Object → Act → Answer → Object → Type 0
  -- when an event of a stream may come, and the state after it
  pub May : State → ℕ → What → Type 0
  pub after : State → ℕ → What → State
  pub Sound : State → Type 0

-- what the machine's streams do
abbrev pub DeedOf : Machine → Type 0
DeedOf M = Deed M.Place M.Act M.Answer M.What

-- what its objects see
abbrev pub EntryOf : Machine → Type 0
EntryOf M = Entry M.Act M.Answer

-- from state S each deed, of a stream that there is, is an event that may come then
abbrev pub Runs : (M : Machine) → M.State → List (DeedOf M) → Type 0
Runs M S [] = Unit {0}
Runs M S (d ∷ ds) = (d.stream < M.streams) × M.May S d.stream d.what × Runs M (M.after S d.stream d.what) ds

-- the state after these deeds
abbrev pub ends_at : (M : Machine) → M.State → List (DeedOf M) → M.State
ends_at M S [] = S
ends_at M S (d ∷ ds) = ends_at M (M.after S d.stream d.what) ds

-- an event of stream s may come, keeps the state sound, gives the stream this part and the places these objects, and leaves
-- all other streams alone
pub record Goes (M : Machine) (S : M.State) (s : ℕ) (w : M.What) (part : M.Part) (objects : M.Place → M.Object) : Type 0 where
  pub may : M.May S s w
  pub sound : M.Sound (M.after S s w)
  pub own : M.part_of (M.after S s w) s ≡ part
  pub others : (r : ℕ) → r ≢ s → M.part_of (M.after S s w) r ≡ M.part_of S r
  pub called : (x : M.Place) → M.object_of (M.after S s w) x ≡ objects x

-- in a sound state a step of a stream, with at most one call that the object answers, is an event
abbrev pub IsSimulated : Machine → Type 0
IsSimulated M = (S : M.State) (s : ℕ) (w : M.What) (heard : Option (Heard M.Place M.Act M.Answer)) (part : M.Part) (objects : M.Place → M.Object) →
    M.Sound S → s < M.streams → M.Steps s (M.part_of S s) w heard part → Answered M.Gives (M.object_of S) heard objects →
    Goes M S s w part objects

-- its test tells places apart
abbrev pub TellsPlaces : Machine → Type 0
TellsPlaces M = (x y : M.Place) → (M.same x y ≡ true) ↔ (x ≡ y)

-- each stream's log leads from one part to the other, each object's history from one object to the other, and logs and
-- histories fit each other
pub record Gathered (M : Machine) (parts : ℕ → M.Part) (objects : M.Place → M.Object) (logs : ℕ → List (DeedOf M)) (histories : M.Place → List (EntryOf M)) (ends : ℕ → M.Part) (finals : M.Place → M.Object) : Type 0 where
  pub courses : (s : ℕ) → s < M.streams → Course M.Steps s (parts s) (logs s) (ends s)
  pub undeclared : (s : ℕ) → M.streams ≤ s → logs s ≡ []
  pub legal : (x : M.Place) → Legal M.Gives (objects x) (histories x) (finals x)
  pub matched : Matched logs histories

-- from state S these deeds are a run, which ends in a sound state with these parts and objects
pub record IsRunTo (M : Machine) (S : M.State) (J : List (DeedOf M)) (ends : ℕ → M.Part) (finals : M.Place → M.Object) : Type 0 where
  pub run : Runs M S J
  pub sound : M.Sound (ends_at M S J)
  pub parts : (s : ℕ) → s < M.streams → M.part_of (ends_at M S J) s ≡ ends s
  pub objects : (x : M.Place) → M.object_of (ends_at M S J) x ≡ finals x
