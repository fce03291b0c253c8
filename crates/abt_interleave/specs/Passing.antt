-- A test that every call of a run passes.
use Rattle.std.specs.Prelude.{ℕ, ◌<◌, Bool, List, Option, Some, None, IsTrue, ⊤}
use Rattle.abt_interleave.specs.Histories.{Legal}
use Rattle.abt_interleave.specs.Deeds.{Heard}
use Rattle.abt_interleave.specs.Logs.{IsSorted}
use Rattle.abt_interleave.specs.Machines.{Machine, DeedOf, EntryOf, IsSimulated, TellsPlaces, Gathered}

-- a test of an act by the object that is asked it
abbrev pub TestOf : Machine → Type 0
TestOf M = M.Object → M.Act → Bool

-- the call that was made in state S, if one was, passes the test
abbrev pub CallPasses : (M : Machine) → TestOf M → M.State → Option (Heard M.Place M.Act M.Answer) → Type 0
CallPasses M test S None = ⊤
CallPasses M test S (Some h) = IsTrue (test (M.object_of S h.0) h.1)

-- each step of a stream's part in a sound state makes only a call that passes
abbrev pub StepsPass : (M : Machine) → TestOf M → Type 0
StepsPass M test =
    (S : M.State) (s : ℕ) (w : M.What) (heard : Option (Heard M.Place M.Act M.Answer)) (part : M.Part) → M.Sound S → s < M.streams
    → M.Steps s (M.part_of S s) w heard part → CallPasses M test S heard

-- an object answers an act that passes
abbrev pub GivesPassing : (M : Machine) → TestOf M → M.Object → M.Act → M.Answer → M.Object → Type 0
GivesPassing M test old act answer new = M.Gives old act answer new × IsTrue (test old act)

-- if each step makes only calls that pass, each history that all logs gather to is one of acts that pass, at the object
-- that there was then
abbrev pub EntriesPass : Machine → Type 0
EntriesPass M = TellsPlaces M → IsSimulated M → (test : TestOf M) → StepsPass M test → (S : M.State) → M.Sound S →
    (logs : ℕ → List (DeedOf M)) (histories : M.Place → List (EntryOf M)) (ends : ℕ → M.Part) (finals : M.Place → M.Object) (J : List (DeedOf M)) →
    Gathered M (M.part_of S) (M.object_of S) logs histories ends finals → IsSorted logs J →
    (x : M.Place) → Legal (GivesPassing M test) (M.object_of S x) (histories x) (finals x)
