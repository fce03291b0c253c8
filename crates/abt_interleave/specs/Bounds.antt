-- How great stamps become.
use Rattle.std.specs.Prelude.{ℕ, ◌<◌, ◌≤◌, ◌^◌, List, length, Contains}
use Rattle.abt_interleave.specs.Histories.{last_stamp, entry_stamps}
use Rattle.abt_interleave.specs.Deeds.{deed_stamps}
use Rattle.abt_interleave.specs.Machines.{Machine, DeedOf, EntryOf, Gathered}
use Rattle.abt_interleave.specs.Stamps.{LeavesNoGap, AreStamped}
use Rattle.abt_interleave.specs.Merges.{sum_below}

-- in a stamped list no stamp is greater than the number of deeds
abbrev pub StampedStaysLow : Machine → Type 0
StampedStaysLow M = (J : List (DeedOf M)) → AreStamped J → (d : DeedOf M) → Contains J d → d.stamp ≤ length J

-- if stamps leave no gap, none is greater than the number of deeds in all logs
abbrev pub StampsAreFew : Machine → Type 0
StampsAreFew M = (parts : ℕ → M.Part) (objects : M.Place → M.Object) (logs : ℕ → List (DeedOf M)) (histories : M.Place → List (EntryOf M)) (ends : ℕ → M.Part) (finals : M.Place → M.Object) →
    Gathered M parts objects logs histories ends finals → LeavesNoGap logs → (s : ℕ) (d : DeedOf M) → Contains (logs s) d → d.stamp ≤ sum_below M.streams (λ r. length (logs r))

-- all stamps are below the number at which a clock is worn
pub record NoneWorn (M : Machine) (logs : ℕ → List (DeedOf M)) (histories : M.Place → List (EntryOf M)) : Type 0 where
  pub deeds : (s : ℕ) (d : DeedOf M) → Contains (logs s) d → d.stamp < 2 ^ 62
  pub streams : (s : ℕ) → last_stamp (deed_stamps (logs s)) < 2 ^ 62
  pub objects : (x : M.Place) → last_stamp (entry_stamps (histories x)) < 2 ^ 62

-- no clock is worn with at most 64 streams, whose logs are shorter than 2^55
abbrev pub NeverWorn : Machine → Type 0
NeverWorn M = (parts : ℕ → M.Part) (objects : M.Place → M.Object) (logs : ℕ → List (DeedOf M)) (histories : M.Place → List (EntryOf M)) (ends : ℕ → M.Part) (finals : M.Place → M.Object) →
    Gathered M parts objects logs histories ends finals → LeavesNoGap logs → M.streams ≤ 64 → ((s : ℕ) → length (logs s) < 2 ^ 55) → NoneWorn M logs histories
