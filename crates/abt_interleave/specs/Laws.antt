-- The laws of merging, of any machine.
use Rattle.std.specs.Prelude.{ℕ, ◌≡◌, ◌≢◌, ◌<◌, List, [], ◌∷◌, ◌++◌, if◌then◌else◌, Option, Some, None, map, Contains}
use Rattle.abt_interleave.specs.declared.entries.Entry.{Entry}
use Rattle.abt_interleave.specs.Histories.{RisesAbove, last_stamp, entry_stamps, Legal}
use Rattle.abt_interleave.specs.Deeds.{Heard, deed_stamps, Course, Answered}
use Rattle.abt_interleave.specs.Logs.{Matched, IsSorted, IsSortedAs}
use Rattle.abt_interleave.specs.Machines.{Machine, DeedOf, EntryOf, IsSimulated, TellsPlaces, Gathered, IsRunTo}
use Rattle.abt_interleave.specs.Stamps.{LeavesNoGap, AllTimed, AreStamped, AreLamports}

-- if each step of a stream with its call is an event, the sorted list of all deeds is a run, and leads to the state that
-- the ends of logs and histories make up
abbrev pub LogsMerge : Machine → Type 0
LogsMerge M = TellsPlaces M → IsSimulated M → (S : M.State) → M.Sound S →
    (logs : ℕ → List (DeedOf M)) (histories : M.Place → List (EntryOf M)) (ends : ℕ → M.Part) (finals : M.Place → M.Object) (J : List (DeedOf M)) →
    Gathered M (M.part_of S) (M.object_of S) logs histories ends finals → IsSorted logs J → IsRunTo M S J ends finals

-- a sorted list of what the deeds are seen as is the sorted list of the deeds, seen so
abbrev pub EventsLift : Machine → Type 0 → Type 0
EventsLift M Event = (event : DeedOf M → Event) (stamp stream : Event → ℕ) → ((d : DeedOf M) → (stamp (event d) ≡ d.stamp) × (stream (event d) ≡ d.stream)) →
    (logs : ℕ → List (DeedOf M)) (J : List Event) → ((s : ℕ) → RisesAbove 0 (deed_stamps (logs s))) → ((s : ℕ) (d : DeedOf M) → Contains (logs s) d → d.stream ≡ s) →
    IsSortedAs event stamp stream logs J → (ds : List (DeedOf M)) × IsSorted logs ds × (map event ds ≡ J)

-- One turn more.

-- a log, and a deed of its stream with a later stamp
abbrev pub CourseGrows : Machine → Type 0
CourseGrows M = (s : ℕ) (p q r : M.Part) (log : List (DeedOf M)) (d : DeedOf M) → Course M.Steps s p log q →
    d.stream ≡ s → last_stamp (deed_stamps log) < d.stamp → M.Steps s q d.what d.heard r → Course M.Steps s p (log ++ d ∷ []) r

-- a history, and an entry with a later stamp
abbrev pub LegalGrows : Machine → Type 0
LegalGrows M = (o p q : M.Object) (history : List (EntryOf M)) (e : EntryOf M) → Legal M.Gives o history p →
    last_stamp (entry_stamps history) < e.stamp → M.Gives p e.act e.answer q → Legal M.Gives o (history ++ e ∷ []) q

-- the deed is the last of its stream's log, and all other logs are as before
abbrev pub LogGrows : (M : Machine) → (ℕ → List (DeedOf M)) → DeedOf M → (ℕ → List (DeedOf M)) → Type 0
LogGrows M logs d more = (more d.stream ≡ logs d.stream ++ d ∷ []) × ((s : ℕ) → d.stream ≢ s → more s ≡ logs s)

-- what the deed heard is the last entry of its object's history, and all other histories are as before
abbrev pub HistoryGrows : (M : Machine) → (M.Place → List (EntryOf M)) → DeedOf M → Option (Heard M.Place M.Act M.Answer) → (M.Place → List (EntryOf M)) → Type 0
HistoryGrows M histories d None longer = (x : M.Place) → longer x ≡ histories x
HistoryGrows M histories d (Some h) longer =
    (longer h.0 ≡ histories h.0 ++ record { stamp = d.stamp; caller = d.stream; act = h.1; answer = h.2 } ∷ [])
    × ((x : M.Place) → h.0 ≢ x → longer x ≡ histories x)

-- logs and histories that fit each other, and a deed with its entry
abbrev pub MatchedGrows : Machine → Type 0
MatchedGrows M = TellsPlaces M → (logs more : ℕ → List (DeedOf M)) (histories longer : M.Place → List (EntryOf M)) (d : DeedOf M) →
    Matched logs histories → LogGrows M logs d more → HistoryGrows M histories d d.heard longer → Matched more longer

-- the deed's stamp is above the last of its stream, and of the object that it called
abbrev pub IsLate : (M : Machine) → (ℕ → List (DeedOf M)) → (M.Place → List (EntryOf M)) → DeedOf M → Option (Heard M.Place M.Act M.Answer) → Type 0
IsLate M logs histories d None = last_stamp (deed_stamps (logs d.stream)) < d.stamp
IsLate M logs histories d (Some h) = (last_stamp (deed_stamps (logs d.stream)) < d.stamp) × (last_stamp (entry_stamps (histories h.0)) < d.stamp)

-- logs and histories of a turn more, and what they lead to
abbrev pub GatheredGrows : Machine → Type 0
GatheredGrows M = TellsPlaces M →
    (parts ends news : ℕ → M.Part) (objects finals results : M.Place → M.Object)
    (logs more : ℕ → List (DeedOf M)) (histories longer : M.Place → List (EntryOf M)) (d : DeedOf M) →
    Gathered M parts objects logs histories ends finals → d.stream < M.streams → IsLate M logs histories d d.heard →
    M.Steps d.stream (ends d.stream) d.what d.heard (news d.stream) → ((s : ℕ) → d.stream ≢ s → news s ≡ ends s) → Answered M.Gives finals d.heard results →
    LogGrows M logs d more → HistoryGrows M histories d d.heard longer → Gathered M parts objects more longer news results

-- One wave more: the logs and histories of a wave behind those of the waves before it.

-- two logs of a stream, the stamps of the second above those of the first
abbrev pub CoursesJoin : Machine → Type 0
CoursesJoin M = (s : ℕ) (p q r : M.Part) (log more : List (DeedOf M)) → Course M.Steps s p log q → Course M.Steps s q more r →
    RisesAbove (last_stamp (deed_stamps log)) (deed_stamps more) → Course M.Steps s p (log ++ more) r

-- two histories of an object, likewise
abbrev pub HistoriesJoin : Machine → Type 0
HistoriesJoin M = (o p q : M.Object) (history more : List (EntryOf M)) → Legal M.Gives o history p → Legal M.Gives p more q →
    RisesAbove (last_stamp (entry_stamps history)) (entry_stamps more) → Legal M.Gives o (history ++ more) q

-- logs and histories that fit each other, in both waves
abbrev pub MatchedJoin : Machine → Type 0
MatchedJoin M = (logs more : ℕ → List (DeedOf M)) (histories longer : M.Place → List (EntryOf M)) → Matched logs histories → Matched more longer →
    Matched (λ s. logs s ++ more s) (λ x. histories x ++ longer x)

-- logs and histories of two waves, and what they lead to
abbrev pub GatheredJoin : Machine → Type 0
GatheredJoin M = (parts ends news : ℕ → M.Part) (objects finals results : M.Place → M.Object)
    (logs more : ℕ → List (DeedOf M)) (histories longer : M.Place → List (EntryOf M)) →
    Gathered M parts objects logs histories ends finals → Gathered M ends finals more longer news results →
    ((s : ℕ) → RisesAbove (last_stamp (deed_stamps (logs s))) (deed_stamps (more s))) →
    ((x : M.Place) → RisesAbove (last_stamp (entry_stamps (histories x))) (entry_stamps (longer x))) →
    Gathered M parts objects (λ s. logs s ++ more s) (λ x. histories x ++ longer x) news results

-- One history of all objects.

-- the entries of the object at x, in a history whose acts name their place
abbrev pub at_place : (M : Machine) → M.Place → List (Entry (M.Place × M.Act) M.Answer) → List (EntryOf M)
at_place M x [] = []
at_place M x (e ∷ es) = if M.same e.act.0 x then record { stamp = e.stamp; caller = e.caller; act = e.act.1; answer = e.answer } ∷ at_place M x es else at_place M x es

-- all objects as one: the named one answers, and all others stay
abbrev pub AllGive : (M : Machine) → (M.Place → M.Object) → M.Place × M.Act → M.Answer → (M.Place → M.Object) → Type 0
AllGive M old asked answer new = Answered M.Gives old (Some (asked.0, asked.1, answer)) new

-- a history of all objects makes a history of each
abbrev pub HistorySplits : Machine → Type 0
HistorySplits M = TellsPlaces M → (old new : M.Place → M.Object) (history : List (Entry (M.Place × M.Act) M.Answer)) → Legal (AllGive M) old history new →
    (x : M.Place) → Legal M.Gives (old x) (at_place M x history) (new x)

-- Stamps.

-- if each stamp is 1 or one more than another, the sorted list is stamped
abbrev pub StampsClose : Machine → Type 0
StampsClose M = (parts : ℕ → M.Part) (objects : M.Place → M.Object) (logs : ℕ → List (DeedOf M)) (histories : M.Place → List (EntryOf M)) (ends : ℕ → M.Part) (finals : M.Place → M.Object) (J : List (DeedOf M)) →
    Gathered M parts objects logs histories ends finals → LeavesNoGap logs → IsSorted logs J → AreStamped J

-- if each stamp is one more than the greater of its stream's last and its object's last, so it is in the sorted list
abbrev pub StampsAreLamports : Machine → Type 0
StampsAreLamports M = (parts : ℕ → M.Part) (objects : M.Place → M.Object) (logs : ℕ → List (DeedOf M)) (histories : M.Place → List (EntryOf M)) (ends : ℕ → M.Part) (finals : M.Place → M.Object) (J : List (DeedOf M)) →
    Gathered M parts objects logs histories ends finals → ((s : ℕ) → AllTimed histories 0 (logs s)) → IsSorted logs J → AreLamports J
