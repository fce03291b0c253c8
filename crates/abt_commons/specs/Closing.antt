-- How locks are closed, from the last to the first.
use Rattle.std.specs.Prelude.{ℕ, ◌≡◌, ◌+◌, ◌<◌, ◌≤◌, ◌⊎◌, max, List, [], ◌++◌, length, reverse, slice_get, slice_index_or, Option, None, Some}
use Rattle.abt_booth.specs.declared.booth.Booth.{Booth}
use Rattle.abt_interleave.specs.declared.entries.Entry.{Entry}
use Rattle.abt_booth.specs.Calls.{IsClosed}
use Rattle.abt_booth.specs.Seats.{opening_of}
use Rattle.abt_interleave.proofs.Members.{Among}
use Rattle.abt_commons.specs.declared.acts.Act.{Act}
use Rattle.abt_commons.specs.declared.acts.Answer.{Answer}
use Rattle.abt_commons.specs.declared.split.SplitPass.{SplitPass}
use Rattle.abt_commons.specs.Asks.{Does}
use Rattle.abt_commons.specs.Held.{OneValue}
use Rattle.abt_commons.specs.Splits.{AreTurns, seen_from}

-- each of these passes has the turn of each booth, with its number
abbrev pub HaveTurns : List (Booth OneValue Act Answer) → List SplitPass → Type 0
HaveTurns booths passes = (k : ℕ) (pass : SplitPass) → k < length passes → AreTurns k booths (slice_index_or passes k pass).turns.items

-- what pass k had seen at lock i

abbrev pub knew_by : ℕ → Option SplitPass → List (Entry Act Answer)
knew_by i None = []
knew_by i (Some pass) = seen_from (slice_get pass.turns.items i)

abbrev pub knew : List SplitPass → ℕ → ℕ → List (Entry Act Answer)
knew passes i k = knew_by i (slice_get passes k)

-- booth i was closed, with what the passes had seen there; the clock is the greater of the one that was carried to it and its
-- last stamp
pub record WasClosed (passes : List SplitPass) (i : ℕ) (booth : Booth OneValue Act Answer) (carried : ℕ) (object : OneValue) (clock : ℕ) : Type 0 where
  pub known : List (ℕ × List (Entry Act Answer))
  pub last : ℕ
  pub closed : IsClosed Does (opening_of booth) (length passes) known object last
  pub there : (k : ℕ) → k < length passes → Among (k, knew passes i k) known
  pub raised : clock ≡ max carried last

-- the booths from this number on were closed, and left these objects; the clocks of all others stayed
pub record WereClosed (booths : List (Booth OneValue Act Answer)) (passes : List SplitPass) (carried : List ℕ) (from : ℕ) (objects : List OneValue) (clocks : List ℕ) : Type 0 where
  pub many : from + length objects ≡ length booths
  pub clocks_many : length clocks ≡ length carried
  pub each : (j : ℕ) (booth : Booth OneValue Act Answer) (c d : ℕ) (object : OneValue) → j < length objects
      → WasClosed passes (from + j) (slice_index_or booths (from + j) booth) (slice_index_or carried (from + j) c) (slice_index_or objects j object) (slice_index_or clocks (from + j) d)
  pub others : (i c : ℕ) → (i < from) ⊎ (length booths ≤ i) → slice_index_or clocks i c ≡ slice_index_or carried i c

-- all booths were closed, and their objects stand in the room from its end on
abbrev pub AllClosed : List (Booth OneValue Act Answer) → List SplitPass → List ℕ → List OneValue → List OneValue → List ℕ → Type 0
AllClosed booths passes carried room left clocks =
    (objects : List OneValue) × (left ≡ room ++ reverse objects) × WereClosed booths passes carried 0 objects clocks

-- all booths were closed, and these are their objects, and behind them those of the room, from its end on
abbrev pub AllUnlocked : List (Booth OneValue Act Answer) → List SplitPass → List ℕ → List OneValue → List OneValue → List ℕ → Type 0
AllUnlocked booths passes carried room ones clocks =
    (objects : List OneValue) × (ones ≡ objects ++ reverse room) × WereClosed booths passes carried 0 objects clocks
