-- Objects behind locks. All calls under one lock are one list, its line; each stream sees prefixes of it.
use Rattle.std.specs.Prelude.{ℕ, suc, max, ◌≡◌, ◌≢◌, ◌<◌, List, [], ◌∷◌, ◌++◌, Option, Some, None}
use Rattle.std.specs.List.{All}
use Rattle.abt_interleave.specs.declared.entries.Entry.{Entry}
use Rattle.abt_interleave.specs.Histories.{RisesAbove, Extends, Leads, last_stamp, entry_stamps}
use Rattle.abt_interleave.specs.Deeds.{Heard, Does, deed_stamps}
use Rattle.abt_interleave.specs.Machines.{Machine, DeedOf, EntryOf, Gathered}
use Rattle.abt_interleave.specs.Laws.{at_place}

-- a call in a line: with its act stands the place of the object that was asked
abbrev pub CallOf : Machine → Type 0
CallOf M = Entry (M.Place × M.Act) M.Answer

-- what a deed that called is in a line
abbrev pub call_of : (M : Machine) → DeedOf M → Heard M.Place M.Act M.Answer → CallOf M
call_of M d h = record { stamp = d.stamp; caller = d.stream; act = (h.0, h.1); answer = h.2 }

-- of each object the history that the lines give, each object standing behind its lock
abbrev pub histories_of : (M : Machine) {Lock : Type 0} → (M.Place → Lock) → (Lock → List (CallOf M)) → M.Place → List (EntryOf M)
histories_of M lock lines x = at_place M x (lines (lock x))

module _ (M : Machine) {Lock : Type 0} (lock : M.Place → Lock) (carried : Lock → ℕ) where
  -- What a stream sees while it runs. To each lock a clock was carried from what came before.

  -- what stream s had seen of the lines and sees after a deed, its own clock being this one: if it called, all that it
  -- now knows of that lock's line to have come before its call, and the call; and the stamp is one more than the greatest of
  -- the stream's clock, the clock carried to the lock, and the last stamp before it in the line
  abbrev pub Sees : ℕ → (Lock → List (CallOf M)) → ℕ → (d : DeedOf M) → Option (Heard M.Place M.Act M.Answer) → (Lock → List (CallOf M)) → Type 0
  Sees s before clock d None after = (d.stamp ≡ suc clock) × ((l : Lock) → Extends s (before l) (after l))
  Sees s before clock d (Some h) after =
      ((l : Lock) → lock h.0 ≢ l → Extends s (before l) (after l))
      × (met : List (CallOf M)) × Extends s (before (lock h.0)) met × (after (lock h.0) ≡ met ++ call_of M d h ∷ [])
      × (d.stamp ≡ suc (max (max clock (carried (lock h.0))) (last_stamp (entry_stamps met))))

  -- what it sees deed by deed
  abbrev pub Walks : ℕ → (Lock → List (CallOf M)) → ℕ → List (DeedOf M) → (Lock → List (CallOf M)) → Type 0
  Walks s before clock [] after = (l : Lock) → Extends s (before l) (after l)
  Walks s before clock (d ∷ ds) after = (seen : Lock → List (CallOf M)) × Sees s before clock d d.heard seen × Walks s seen d.stamp ds after

  -- what stream s has done since it saw nothing, its clock being this one then, and what it sees now
  pub record Gone (s clock : ℕ) (old : M.Part) (log : List (DeedOf M)) (new : M.Part) (seen : Lock → List (CallOf M)) : Type 0 where
    pub does : Does M.Steps s old log new
    pub walks : Walks s (λ l. []) clock log seen

  -- What the lines are when all streams are done.

  -- the deed's call stands in its lock's line, and its stamp is one more than the greatest of the stream's clock, the clock
  -- carried to the lock, and the last stamp before it in the line
  abbrev pub Stands : (Lock → List (CallOf M)) → ℕ → (d : DeedOf M) → Option (Heard M.Place M.Act M.Answer) → Type 0
  Stands lines clock d None = d.stamp ≡ suc clock
  Stands lines clock d (Some h) =
      (before : List (CallOf M)) × (later : List (CallOf M)) × (lines (lock h.0) ≡ before ++ call_of M d h ∷ later)
      × (d.stamp ≡ suc (max (max clock (carried (lock h.0))) (last_stamp (entry_stamps before))))

  abbrev pub AllStand : (Lock → List (CallOf M)) → ℕ → List (DeedOf M) → Type 0
  AllStand lines clock [] = Unit {0}
  AllStand lines clock (d ∷ ds) = Stands lines clock d d.heard × AllStand lines d.stamp ds

  -- each deed stands in the lines, each call there is of an object behind that lock, and stamps rise above the clocks of
  -- streams and above those carried to the locks
  pub record Woven (clocks : ℕ → ℕ) (logs : ℕ → List (DeedOf M)) (lines : Lock → List (CallOf M)) : Type 0 where
    pub stand : (s : ℕ) → AllStand lines (clocks s) (logs s)
    pub placed : (l : Lock) → All (λ e. lock e.act.0 ≡ l) (lines l)
    pub climb : (s : ℕ) → RisesAbove (clocks s) (deed_stamps (logs s))
    pub rise : (l : Lock) → RisesAbove (carried l) (entry_stamps (lines l))

-- the line that a lock has left: its stamps rise, its calls are of the first n streams, and each of these had seen a prefix of
-- it with all calls of its own
pub record IsLine (M : Machine) (n : ℕ) (known : ℕ → List (CallOf M)) (line : List (CallOf M)) : Type 0 where
  pub rises : RisesAbove 0 (entry_stamps line)
  pub of_streams : All (λ e. e.caller < n) line
  pub seen : (s : ℕ) → s < n → Extends s (known s) line

-- what a lock has left: a line that goes on from what the streams had seen, ends with this clock, and leads each object behind
-- the lock from one value to the other
pub record LockLeft (M : Machine) {Lock : Type 0} (lock : M.Place → Lock) (l : Lock) (n : ℕ) (known : ℕ → List (CallOf M)) (objects finals : M.Place → M.Object) (clock : ℕ) : Type 0 where
  pub line : List (CallOf M)
  pub is_line : IsLine M n known line
  pub last : clock ≡ last_stamp (entry_stamps line)
  pub leads : (x : M.Place) → lock x ≡ l → Leads M.Gives (objects x) (at_place M x line) (finals x)

-- what a wave of streams has left: the lines of all locks, by which its logs and histories are gathered and woven
pub record WaveLeft (M : Machine) {Lock : Type 0} (lock : M.Place → Lock) (carried : Lock → ℕ) (clocks : ℕ → ℕ) (parts : ℕ → M.Part) (objects : M.Place → M.Object) (logs : ℕ → List (DeedOf M))
    (ends : ℕ → M.Part) (finals : M.Place → M.Object) (closing : Lock → ℕ) : Type 0 where
  pub lines : Lock → List (CallOf M)
  pub gathered : Gathered M parts objects logs (histories_of M lock lines) ends finals
  pub woven : Woven M lock carried clocks logs lines
  pub last : (l : Lock) → closing l ≡ last_stamp (entry_stamps (lines l))
