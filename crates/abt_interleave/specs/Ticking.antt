-- Stamps of one turn more.
use Rattle.std.specs.Prelude.{ℕ, suc, max, ◌≡◌, ◌⊎◌, List, Option, Some, None, Contains}
use Rattle.abt_interleave.specs.Histories.{last_stamp, entry_stamps}
use Rattle.abt_interleave.specs.Deeds.{Heard, deed_stamps}
use Rattle.abt_interleave.specs.Machines.{Machine, DeedOf, EntryOf, TellsPlaces, Gathered}
use Rattle.abt_interleave.specs.Stamps.{LeavesNoGap, AllTimed}
use Rattle.abt_interleave.specs.Laws.{LogGrows, HistoryGrows, IsLate}

-- the stamp is one more than the last of its stream or, if it called an object, than the greater of that and the object's last
abbrev pub IsNext : (M : Machine) → (ℕ → List (DeedOf M)) → (M.Place → List (EntryOf M)) → DeedOf M → Option (Heard M.Place M.Act M.Answer) → Type 0
IsNext M logs histories d None = d.stamp ≡ suc (last_stamp (deed_stamps (logs d.stream)))
IsNext M logs histories d (Some h) = d.stamp ≡ suc (max (last_stamp (deed_stamps (logs d.stream))) (last_stamp (entry_stamps (histories h.0))))

-- a clock of these logs: 0, or the stamp of a deed
abbrev pub IsClock : (M : Machine) → (ℕ → List (DeedOf M)) → ℕ → Type 0
IsClock M logs clock = (clock ≡ 0) ⊎ ((e : DeedOf M) × Contains (logs e.stream) e × (e.stamp ≡ clock))

-- the last stamps of streams and of objects are clocks
abbrev pub LastsAreClocks : Machine → Type 0
LastsAreClocks M = (parts : ℕ → M.Part) (objects : M.Place → M.Object) (logs : ℕ → List (DeedOf M)) (histories : M.Place → List (EntryOf M)) (ends : ℕ → M.Part) (finals : M.Place → M.Object) →
    Gathered M parts objects logs histories ends finals → ((s : ℕ) → IsClock M logs (last_stamp (deed_stamps (logs s)))) × ((x : M.Place) → IsClock M logs (last_stamp (entry_stamps (histories x))))

-- the next stamp is later than those before it
abbrev pub NextIsLate : Machine → Type 0
NextIsLate M = (logs : ℕ → List (DeedOf M)) (histories : M.Place → List (EntryOf M)) (d : DeedOf M) → IsNext M logs histories d d.heard → IsLate M logs histories d d.heard

-- if each stamp was one more than the greater of its stream's last and its object's last, it is so with the next one
abbrev pub TimedGrows : Machine → Type 0
TimedGrows M = TellsPlaces M → (logs more : ℕ → List (DeedOf M)) (histories longer : M.Place → List (EntryOf M)) (d : DeedOf M) →
    ((s : ℕ) → AllTimed histories 0 (logs s)) → LogGrows M logs d more → HistoryGrows M histories d d.heard longer → IsNext M logs histories d d.heard →
    (s : ℕ) → AllTimed longer 0 (more s)

-- stamps that left no gap leave none with one that is one more than a clock
abbrev pub NoGapGrows : Machine → Type 0
NoGapGrows M = (logs more : ℕ → List (DeedOf M)) (d : DeedOf M) (clock : ℕ) → LeavesNoGap logs → LogGrows M logs d more → IsClock M logs clock → d.stamp ≡ suc clock → LeavesNoGap more

-- the next stamp is one more than a clock
abbrev pub NextFollowsClock : Machine → Type 0
NextFollowsClock M = (parts : ℕ → M.Part) (objects : M.Place → M.Object) (logs : ℕ → List (DeedOf M)) (histories : M.Place → List (EntryOf M)) (ends : ℕ → M.Part) (finals : M.Place → M.Object) (d : DeedOf M) →
    Gathered M parts objects logs histories ends finals → IsNext M logs histories d d.heard → (clock : ℕ) × IsClock M logs clock × (d.stamp ≡ suc clock)

-- if each stamp is one more than the greater of its stream's last and its object's last, there is no gap
abbrev pub TimedLeavesNoGap : Machine → Type 0
TimedLeavesNoGap M = (parts : ℕ → M.Part) (objects : M.Place → M.Object) (logs : ℕ → List (DeedOf M)) (histories : M.Place → List (EntryOf M)) (ends : ℕ → M.Part) (finals : M.Place → M.Object) →
    Gathered M parts objects logs histories ends finals → ((s : ℕ) → AllTimed histories 0 (logs s)) → LeavesNoGap logs
