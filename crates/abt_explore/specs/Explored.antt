-- What a search of all interleavings says of a workload.
use Rattle.std.specs.Prelude.{ℕ, ◌≡◌, ◌<◌, ◌≤◌, ◌^◌, ◌⊎◌, List, length, Some, Contains, slice_get}
use Rattle.std.specs.List.{sum_by}
use Rattle.abt_machine.specs.declared.events.Event.{Event}
use Rattle.abt_machine.specs.Stored.{Stored}
use Rattle.abt_machine.specs.declared.workload.Parts.{Parts}
use Rattle.abt_machine.specs.Outcomes.{EndsAs, Quiet}
use Rattle.abt_machine.specs.Runs.{Run, last_state}
use Rattle.abt_machine.specs.Stamps.{Stamped}
use Rattle.abt_model.specs.Choices.{CallsAny}
use Rattle.abt_model.specs.Keys.{model_key}
use Rattle.abt_model.specs.Models.{ModelValue}
use Rattle.abt_report.specs.Pictures.{IsPictureOf, units_in_rows}
use Rattle.abt_explore.specs.declared.exploration.End.{End}
use Rattle.abt_explore.specs.declared.exploration.Exploration.{Exploration}
use Rattle.abt_explore.specs.declared.exploration.Exploration.TheVariants as found
use Rattle.abt_explore.specs.Laws.{IsReachedBy}

-- the journal ends with the end's outcome, however many steps each stream may make, and with its picture
pub record IsEndOf (W : Parts) (J : List Event) (end : End) : Type 0 where
  pub outcome : (n : ℕ) → EndsAs W n J end.outcome
  pub picture : IsPictureOf W J end.picture

-- the end's journal is a stamped run of the workload, and has this end
pub record IsRealEnd (W : Parts) (Z : Stored) (end : End) : Type 0 where
  pub run : Run W Z end.journal
  pub stamped : Stamped W end.journal
  pub end_of : IsEndOf W end.journal end

-- each run of the workload after which nothing is left to do has one of the ends
abbrev pub AreAllEnds : Parts → Stored → List End → Type 0
AreAllEnds W Z ends = (J : List Event) → Run W Z J → Quiet W (last_state W J) → (end : End) × Contains ends end × IsEndOf W J end

-- no two of the ends have the same outcome and show the same units
abbrev pub AreDistinctEnds : List End → Type 0
AreDistinctEnds ends = (i j : ℕ) (one two : End) → slice_get ends i ≡ Some one → slice_get ends j ≡ Some two → one.outcome ≡ two.outcome →
    units_in_rows one.picture ≡ units_in_rows two.picture → i ≡ j

-- these are the ends of the workload, each once
pub record AreEnds (W : Parts) (Z : Stored) (ends : List End) : Type 0 where
  pub all : AreAllEnds W Z ends
  pub real : (end : End) → Contains ends end → IsRealEnd W Z end
  pub distinct : AreDistinctEnds ends

-- States that are told apart.

-- runs lead to what these models show, and no two of them are the same
pub record AreApart (W : Parts) (Z : Stored) (models : List ModelValue) : Type 0 where
  pub reached : (model : ModelValue) → Contains models model → (J : List Event) × IsReachedBy W Z J model
  pub distinct : (i j : ℕ) (model : ModelValue) → slice_get models i ≡ Some model → slice_get models j ≡ Some model → i ≡ j

-- the bytes that their keys have
abbrev pub key_bytes : List ModelValue → ℕ
key_bytes models = sum_by (λ model. length (model_key model)) models

-- how many bytes the keys of a search may have
abbrev pub most_bytes : ℕ
most_bytes = 2 ^ 30

-- the workload has more such models than this, or some whose keys have too many bytes
abbrev pub HasTooMany : Parts → Stored → ℕ → Type 0
HasTooMany W Z most = (models : List ModelValue) × AreApart W Z models × ((most < length models) ⊎ (most_bytes < key_bytes models))

-- Calls.

-- a run leads to a state in which a unit is to call function f, which may return any word there
abbrev pub MayCallAny : Parts → Stored → ℕ → Type 0
MayCallAny W Z f = (J : List Event) × (s : ℕ) × Run W Z J × (s < W.streams) × CallsAny W Z (last_state W J) s f

-- What was found.

-- it is right, if this many states were to be searched at most: a whole list of ends; or there are too many states; or a
-- function that may return any word comes to be called
abbrev pub IsExplored : Parts → Stored → ℕ → Exploration → Type 0
IsExplored W Z most (found.Whole states ends) = AreEnds W Z ends.items × (states ≤ most)
IsExplored W Z most found.TooMany = HasTooMany W Z most
IsExplored W Z most (found.AnyWord f) = MayCallAny W Z f
