-- What a search knows at each of its steps.
use Rattle.std.specs.Prelude.{ℕ, ◌≡◌, ◌<◌, ◌≤◌, ◌+◌, ◌⊎◌, Bool, false, List, [], ◌∷◌, ◌++◌, length, get_or, IsTrue, Contains, Option, None, Some}
use Rattle.abt_machine.specs.declared.events.Event.{Event}
use Rattle.abt_machine.specs.declared.events.Outcome.{Outcome}
use Rattle.abt_machine.specs.declared.events.Outcome.TheVariants as outcome
use Rattle.abt_machine.specs.declared.events.What.{What}
use Rattle.abt_machine.specs.Stored.{Stored}
use Rattle.abt_machine.specs.declared.workload.Parts.{Parts}
use Rattle.abt_machine.specs.Events.{May, after}
use Rattle.abt_machine.specs.Numbers.{stream_no}
use Rattle.abt_machine.specs.Outcomes.{AllEnded, Quiet}
use Rattle.abt_machine.specs.Sound.{Sound}
use Rattle.abt_machine.specs.Start.{start}
use Rattle.abt_machine.specs.State.{State}
use Rattle.abt_machine.specs.Texts.{shown_units}
use Rattle.abt_report.specs.Pictures.{units_in_rows}
use Rattle.abt_model.specs.Hints.{IsHint}
use Rattle.abt_model.specs.Models.{IsAfter, ModelValue, StandsFor}
use Rattle.abt_model.specs.Keys.{model_key}
use Rattle.abt_model.specs.Pictures.{SaysWords}
use Rattle.abt_explore.specs.Alone.{IsOneTried}
use Rattle.abt_explore.specs.declared.exploration.End.{End}
use Rattle.abt_explore.specs.declared.exploration.Exploration.{Exploration}
use Rattle.abt_explore.specs.declared.exploration.Exploration.TheVariants as exploration
use Rattle.abt_explore.specs.declared.search.Found.{Found}
use Rattle.abt_explore.specs.declared.search.Search.{Search}
use Rattle.abt_explore.specs.Explored.{AreApart, AreDistinctEnds, IsRealEnd, key_bytes}
use Rattle.abt_explore.specs.Laws.{IsReachedBy, SeesState}
use Rattle.abt_explore.specs.Same.{ListsSame}
use Rattle.abt_explore.specs.Seen.{IsAdded, has}

-- Models.

-- the journal of what was found
abbrev pub journal_to : List (List Event) → Found → List Event
journal_to journals found = get_or journals found.node []

-- a real run leads to what was found: its journal, which has that many events
pub record IsMet (W : Parts) (Z : Stored) (journals : List (List Event)) (found : Found) : Type 0 where
  pub node : found.node < length journals
  pub depth : found.depth ≡ length (journal_to journals found)
  pub few : found.depth ≤ found.node
  pub reached : IsReachedBy W Z (journal_to journals found) found.model

-- the search has seen the model
abbrev pub sees : Search → ModelValue → Bool
sees search model = has search.seen (model_key model)

-- the search has seen a model that shows the state
abbrev pub Sees : Parts → Search → State → Type 0
Sees W search S = SeesState W (λ model. IsTrue (sees search model)) S

-- the search has seen the start
abbrev pub SeesStart : Parts → Search → Type 0
SeesStart W search = Sees W search (start W)

-- the model waits to be expanded
abbrev pub Waits : Search → ModelValue → Type 0
Waits search model = (found : Found) × Contains search.waiting.items found × (found.model ≡ model)

-- whatever may come of stream s in what the model stands for and the hint tells, the search has seen what it leads to
abbrev pub SeesAfter : Parts → Stored → Search → ModelValue → ℕ → What → Type 0
SeesAfter W Z search model s hint = (S : State) (w : What) → IsAfter W Z 0 S → StandsFor W S model → May W Z S s w → IsHint hint w → Sees W search (after W S s w)

-- the hint tells each event of stream s that may come in what the model stands for
abbrev pub TellsAll : Parts → Stored → ModelValue → ℕ → What → Type 0
TellsAll W Z model s hint = (S : State) (w : What) → IsAfter W Z 0 S → StandsFor W S model → May W Z S s w → IsHint hint w

-- of each of the hints the search has seen what it tells leads to
abbrev pub SeesAfterEach : Parts → Stored → Search → ModelValue → ℕ → List What → Type 0
SeesAfterEach W Z search model s hints = (hint : What) → Contains hints hint → SeesAfter W Z search model s hint

-- whatever may come of stream s in what the model stands for, the search has seen what it leads to
abbrev pub SeesNext : Parts → Stored → Search → ModelValue → ℕ → Type 0
SeesNext W Z search model s = (S : State) (w : What) → IsAfter W Z 0 S → StandsFor W S model → May W Z S s w → Sees W search (after W S s w)

-- in whatever the model stands for, one event may be tried alone, and the search has seen what it leads to
abbrev pub SeesOne : Parts → Stored → Search → ModelValue → Type 0
SeesOne W Z search model = (S : State) → IsAfter W Z 0 S → StandsFor W S model → IsOneTried W Z (λ m. IsTrue (sees search m)) S

-- Ends.

-- the outcome of a state in which nothing is left to do
abbrev pub HasOutcome : State → Outcome → Type 0
HasOutcome S outcome.Finished = AllEnded S
HasOutcome S outcome.Stuck = AllEnded S → ⊥
HasOutcome S (outcome.Budget s) = ⊥

-- the end has the state's outcome, and shows its units
pub record IsEndIn (W : Parts) (S : State) (end : End) : Type 0 where
  pub outcome : HasOutcome S end.outcome
  pub shown : shown_units W S ≡ units_in_rows end.picture

-- the end is that of each state that the model stands for
abbrev pub IsEndOfModel : Parts → ModelValue → End → Type 0
IsEndOfModel W model end = (Z : Stored) (S : State) → Sound W Z S → StandsFor W S model → IsEndIn W S end

-- if nothing is left to do in what the model stands for, one of the ends is its end
abbrev pub ListsEnd : Parts → Stored → List End → ModelValue → Type 0
ListsEnd W Z ends model = (S : State) → Sound W Z S → StandsFor W S model → Quiet W S → (end : End) × Contains ends end × IsEndIn W S end

-- Searches.

-- the search has seen what each event that may come leads to
abbrev pub SeesAll : Parts → Stored → Search → ModelValue → Type 0
SeesAll W Z search model = (s : ℕ) → s < W.streams → SeesNext W Z search model s

-- the search has seen what each event that may come leads to, or one that may be tried alone, and has the end
pub record IsExpanded (W : Parts) (Z : Stored) (search : Search) (model : ModelValue) : Type 0 where
  pub next : SeesAll W Z search model ⊎ SeesOne W Z search model
  pub listed : ListsEnd W Z search.ends.items model

-- these are the models that the search found, one for each journal: runs lead to what they show, no two are the same, they were
-- seen, and their keys have at least the bytes that were counted
pub record AreFound (W : Parts) (Z : Stored) (search : Search) (models : List ModelValue) : Type 0 where
  pub apart : AreApart W Z models
  pub many : length models ≡ length search.paths
  pub seen : (model : ModelValue) → Contains models model → IsTrue (sees search model)
  pub bytes : search.seen.bytes ≤ key_bytes models

-- each model that was seen waits, is the one in hand, or is expanded; real runs lead to those that wait; the ends are real, each
-- once; and what it found are models that are apart
pub record IsSearching (W : Parts) (Z : Stored) (hand : Option ModelValue) (search : Search) : Type 0 where
  pub seen : (model : ModelValue) → IsTrue (sees search model) → Waits search model ⊎ ((hand ≡ Some model) ⊎ IsExpanded W Z search model)
  pub waiting : (found : Found) → Contains search.waiting.items found → IsMet W Z search.paths found
  pub real : (end : End) → Contains search.ends.items end → IsRealEnd W Z end
  pub distinct : AreDistinctEnds search.ends.items
  pub found : (models : List ModelValue) × AreFound W Z search models

-- journals, models and ends that the search had stay, and for each journal more a model more waits
pub record Grows (old new : Search) : Type 0 where
  pub seen : (model : ModelValue) → IsTrue (sees old model) → IsTrue (sees new model)
  pub met : (W : Parts) (Z : Stored) (found : Found) → IsMet W Z old.paths found → IsMet W Z new.paths found
  pub ends : (end : End) → Contains old.ends.items end → Contains new.ends.items end
  pub count : length new.paths + length old.waiting.items ≡ length old.paths + length new.waiting.items

-- Steps.

-- the event w of stream s, which comes after what was found before
abbrev pub event_after : Found → ℕ → What → Event
event_after before s w = record { stamp = before.depth + 1; stream = stream_no s; what = w }

-- what an event leads to, under the number of the next journal
abbrev pub found_after : Search → Found → ModelValue → Found
found_after old before model = record { node = length old.paths; depth = before.depth + 1; model = model }

-- the model was seen, or it waits now, behind the others
abbrev pub HasMet : Search → Found → ℕ → What → ModelValue → Search → Type 0
HasMet old before s w model new =
    (IsTrue (sees old model) × (new.paths ≡ old.paths) × (new.waiting.items ≡ old.waiting.items) × (new.seen.bytes ≡ old.seen.bytes))
    ⊎ ((new.paths ≡ old.paths ++ (journal_to old.paths before ++ event_after before s w ∷ []) ∷ []) × (new.waiting.items ≡ old.waiting.items ++ found_after old before model ∷ [])
    × (sees old model ≡ false) × (new.seen.bytes ≤ old.seen.bytes + length (model_key model)))

-- event w of stream s led from what was found before to the model
pub record Meets (old : Search) (before : Found) (s : ℕ) (w : What) (model : ModelValue) (new : Search) : Type 0 where
  pub added : IsAdded (model_key model) old.seen new.seen
  pub ends : new.ends ≡ old.ends
  pub met : HasMet old before s w model new

-- the end was noted before, or it is the last now, with the journal of what was found
abbrev pub HasNoted : Parts → Search → Found → End → Search → Type 0
HasNoted W old found end new =
    (Contains old.ends.items end × (new.ends.items ≡ old.ends.items))
    ⊎ ((ListsSame old.ends.items end.outcome end.picture → ⊥) × SaysWords W found.model end.picture × (end.journal ≡ journal_to old.paths found) × (new.ends.items ≡ old.ends.items ++ end ∷ []))

-- the end of the model was noted, and nothing else changed
pub record Notes (W : Parts) (old : Search) (found : Found) (new : Search) : Type 0 where
  pub seen : new.seen ≡ old.seen
  pub paths : new.paths ≡ old.paths
  pub waiting : new.waiting ≡ old.waiting
  pub noted : (end : End) × IsEndOfModel W found.model end × HasNoted W old found end new

-- nothing changed if something is left to do in what the model of what was found stands for, and else its end was noted
abbrev pub NotesIfQuiet : Parts → Stored → Search → Found → Search → Type 0
NotesIfQuiet W Z old found new = ((new ≡ old) × ((S : State) → Sound W Z S → StandsFor W S found.model → Quiet W S → ⊥)) ⊎
    (Notes W old found new × ((S : State) → Sound W Z S → StandsFor W S found.model → Quiet W S))

-- the model that waited longest was taken, or none waited
abbrev pub Takes : Search → Option Found → Search → Type 0
Takes old None new = (old.waiting.items ≡ []) × (new.ends ≡ old.ends)
Takes old (Some found) new =
    (rest : List Found) × (old.waiting.items ≡ found ∷ rest) × (new.waiting.items ≡ rest) × (new.paths ≡ old.paths) × (new.seen ≡ old.seen) × (new.ends ≡ old.ends)

-- the ends are all if no model waits, and then this many states were searched
abbrev pub IsFinished : Search → ℕ → Exploration → Type 0
IsFinished search most (exploration.Whole states ends) = (search.waiting.items ≡ []) × (ends ≡ search.ends) × (states ≡ most)
IsFinished search most exploration.TooMany = 0 < length search.waiting.items
IsFinished search most (exploration.AnyWord f) = ⊥
