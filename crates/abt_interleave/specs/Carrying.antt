-- The laws of waves one after the other: clocks are carried from each to the next.
use Rattle.std.specs.Prelude.{ℕ, max, ◌≡◌, ◌<◌, ◌≤◌, ◌^◌, List, [], ◌++◌}
use mathlib.Core.List.{IsPrefix}
use Rattle.abt_interleave.specs.Histories.{last_stamp, entry_stamps}
use Rattle.abt_interleave.specs.Deeds.{deed_stamps}
use Rattle.abt_interleave.specs.Machines.{Machine, DeedOf, EntryOf, TellsPlaces, Gathered}
use Rattle.abt_interleave.specs.Stamps.{LeavesNoGap, AllTimed}
use Rattle.abt_interleave.specs.Ticking.{IsClock}
use Rattle.abt_interleave.specs.Lines.{CallOf, histories_of, WaveLeft}
use Rattle.abt_interleave.specs.Bounds.{NoneWorn}

-- all logs of the waves so far, those of the last wave behind the others
abbrev pub joined_logs : (M : Machine) → (ℕ → List (DeedOf M)) → (ℕ → List (DeedOf M)) → ℕ → List (DeedOf M)
joined_logs M logs more s = logs s ++ more s

-- all histories, likewise
abbrev pub joined_histories : (M : Machine) → (M.Place → List (EntryOf M)) → (M.Place → List (EntryOf M)) → M.Place → List (EntryOf M)
joined_histories M histories longer x = histories x ++ longer x

-- the clocks with which streams begin a wave: their last stamps
abbrev pub stream_clocks : (M : Machine) → (ℕ → List (DeedOf M)) → ℕ → ℕ
stream_clocks M logs s = last_stamp (deed_stamps (logs s))

-- clocks for the locks: no object has a later stamp than its lock's clock, and each clock is 0 or the stamp of a deed
pub record Carries (M : Machine) {Lock : Type 0} (lock : M.Place → Lock) (carried : Lock → ℕ) (logs : ℕ → List (DeedOf M)) (histories : M.Place → List (EntryOf M)) : Type 0 where
  pub above : (x : M.Place) → last_stamp (entry_stamps (histories x)) ≤ carried (lock x)
  pub clocks : (l : Lock) → IsClock M logs (carried l)

-- the clocks after a wave: to each lock its greatest clock so far, if the wave left it with a last stamp
abbrev pub next_clocks : {Lock : Type 0} → (Lock → ℕ) → (Lock → ℕ) → Lock → ℕ
next_clocks carried closing l = max (carried l) (closing l)

-- what all waves so far have left
pub record Waves (M : Machine) {Lock : Type 0} (lock : M.Place → Lock) (carried : Lock → ℕ) (parts : ℕ → M.Part) (objects : M.Place → M.Object)
    (logs : ℕ → List (DeedOf M)) (histories : M.Place → List (EntryOf M)) (ends : ℕ → M.Part) (finals : M.Place → M.Object) : Type 0 where
  pub gathered : Gathered M parts objects logs histories ends finals
  pub no_gap : LeavesNoGap logs
  pub carries : Carries M lock carried logs histories

-- before the first wave no stream has done anything, and no object has seen anything
abbrev pub no_logs : (M : Machine) → ℕ → List (DeedOf M)
no_logs M s = []

abbrev pub no_histories : (M : Machine) → M.Place → List (EntryOf M)
no_histories M x = []

-- then all clocks are 0
abbrev pub WavesBegin : Machine → Type 0 → Type 0
WavesBegin M Lock = (lock : M.Place → Lock) (parts : ℕ → M.Part) (objects : M.Place → M.Object) → Waves M lock (λ l. 0) parts objects (no_logs M) (no_histories M) parts objects

-- one wave more, to whose locks the clocks of those before it were carried
abbrev pub WavesGoOn : Machine → Type 0 → Type 0
WavesGoOn M Lock = TellsPlaces M → (lock : M.Place → Lock) (carried closing : Lock → ℕ) (parts ends news : ℕ → M.Part) (objects finals results : M.Place → M.Object)
    (logs more : ℕ → List (DeedOf M)) (histories : M.Place → List (EntryOf M)) → Waves M lock carried parts objects logs histories ends finals →
    (left : WaveLeft M lock carried (stream_clocks M logs) ends finals more news results closing) →
    Waves M lock (next_clocks carried closing) parts objects (joined_logs M logs more) (joined_histories M histories (histories_of M lock left.lines)) news results

-- If each object has a lock of its own.

-- each stamp is one more than the greater of its stream's last and its object's last, and each object's last stamp is its
-- lock's clock
pub record Timed (M : Machine) {Lock : Type 0} (lock : M.Place → Lock) (carried : Lock → ℕ) (logs : ℕ → List (DeedOf M)) (histories : M.Place → List (EntryOf M)) : Type 0 where
  pub deeds : (s : ℕ) → AllTimed histories 0 (logs s)
  pub clocks : (x : M.Place) → carried (lock x) ≡ last_stamp (entry_stamps (histories x))

-- the times are right before the first wave
abbrev pub TimesBegin : Machine → Type 0 → Type 0
TimesBegin M Lock = (lock : M.Place → Lock) → Timed M lock (λ l. 0) (no_logs M) (no_histories M)

-- and with one wave more
abbrev pub TimesGoOn : Machine → Type 0 → Type 0
TimesGoOn M Lock = TellsPlaces M → (lock : M.Place → Lock) → ((x y : M.Place) → lock x ≡ lock y → x ≡ y) → (carried closing : Lock → ℕ) (ends news : ℕ → M.Part) (finals results : M.Place → M.Object)
    (logs more : ℕ → List (DeedOf M)) (histories : M.Place → List (EntryOf M)) → Timed M lock carried logs histories →
    (left : WaveLeft M lock carried (stream_clocks M logs) ends finals more news results closing) →
    Timed M lock (next_clocks carried closing) (joined_logs M logs more) (joined_histories M histories (histories_of M lock left.lines))

-- Worn clocks.

-- if no stamp is worn after a wave, no call of it met a worn clock: whatever its stream's clock was, and whatever prefix of
-- the line the call met
abbrev pub NoneMeetsWorn : Machine → Type 0 → Type 0
NoneMeetsWorn M Lock = TellsPlaces M → (lock : M.Place → Lock) (carried closing : Lock → ℕ) (parts ends news : ℕ → M.Part) (objects finals results : M.Place → M.Object)
    (logs more : ℕ → List (DeedOf M)) (histories : M.Place → List (EntryOf M)) → Waves M lock carried parts objects logs histories ends finals →
    (left : WaveLeft M lock carried (stream_clocks M logs) ends finals more news results closing) →
    NoneWorn M (joined_logs M logs more) (joined_histories M histories (histories_of M lock left.lines)) →
    (clock : ℕ) → IsClock M (joined_logs M logs more) clock → (l : Lock) (met : List (CallOf M)) → IsPrefix met (left.lines l) →
    max (max clock (carried l)) (last_stamp (entry_stamps met)) < 2 ^ 62
