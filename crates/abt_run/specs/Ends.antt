-- What the command on the ends of a workload prints, and what it comes to.
use Rattle.std.specs.Prelude.{ℕ, zero, suc, ◌≡◌, ◌++◌, ◌⊎◌, Bool, true, false, List, [], ◌∷◌, length, Option, Some, None, codes, decimal, slice_get, unwrap_or}
use Rattle.std.specs.List.{All, list_any}
use Rattle.abt_machine.specs.declared.events.Outcome.{Outcome}
use Rattle.abt_machine.specs.declared.events.Outcome.TheVariants as outcome
use Rattle.abt_machine.specs.declared.workload.Parts.{Parts}
use Rattle.abt_machine.specs.Words.{Text, ended, line_of}
use Rattle.abt_explore.specs.declared.exploration.End.{End}
use Rattle.abt_explore.specs.declared.exploration.Exploration.{Exploration}
use Rattle.abt_explore.specs.declared.exploration.Exploration.TheVariants as found
use Rattle.abt_explore.specs.Explored.{IsExplored}
use Rattle.abt_explore.specs.Orders.{MayChange}
use Rattle.abt_explore.specs.Texts.{SaysWords, explored_text, report_of_end, shown_text}
use Rattle.abt_words.specs.declared.commands.Command.TheVariants as command
use Rattle.abt_words.specs.declared.commands.ExploreWords.{ExploreWords}
use Rattle.abt_words.specs.Commands.{Says, state_limit}
use Rattle.abt_run.specs.Given.{Given, IsReadFrom}
use Rattle.abt_run.specs.declared.status.Conclusion.{Conclusion}
use Rattle.abt_run.specs.declared.status.Conclusion.TheVariants.{Finishes, Sticks, GoesOn, Unexplored}

-- Conclusions.

abbrev pub is_stuck : Outcome → Bool
is_stuck outcome.Finished = false
is_stuck outcome.Stuck = true
is_stuck (outcome.Budget s) = false

-- by whether an end is stuck
abbrev pub concluded : Bool → Conclusion
concluded true = Sticks
concluded false = Finishes

-- a workload of these ends sticks if one of them does, and goes on if there is none
abbrev pub conclusion_on : List End → Conclusion
conclusion_on [] = GoesOn
conclusion_on (end ∷ ends) = concluded (list_any (λ (e : End). is_stuck e.outcome) (end ∷ ends))

-- Texts.

-- end k, counted from 1
abbrev pub end_at : List End → ℕ → Option End
end_at ends zero = None
end_at ends (suc k) = slice_get ends k

-- one end: its report, after the journal that leads to it, if that is asked for
abbrev pub end_shown : Parts → Bool → End → Text
end_shown W true end = shown_text W end
end_shown W false end = report_of_end W end

-- one of n ends, or how many there are
abbrev pub one_shown : Parts → Bool → ℕ → Option End → Conclusion × Text
one_shown W journal n None = (Unexplored, ended (line_of (codes "ends" ∷ decimal n ∷ [])))
one_shown W journal n (Some end) = (concluded (is_stuck end.outcome), end_shown W journal end)

-- all ends, or the one that is asked for
abbrev pub ends_shown : Parts → Option ℕ → Bool → ℕ → List End → Conclusion × Text
ends_shown W None journal states ends = (conclusion_on ends, explored_text W states ends)
ends_shown W (Some k) journal states ends = one_shown W journal (length ends) (end_at ends k)

-- the text that names a function which may return any word
abbrev pub any_word_text : ℕ → Text
any_word_text f = codes "function " ++ (decimal f ++ codes " may return any word\n")

-- the conclusion, and what is printed: the ends that were found, or why there are none
abbrev pub shown_of : Parts → Option ℕ → Bool → Exploration → Conclusion × Text
shown_of W asked journal (found.Whole states ends) = ends_shown W asked journal states ends.items
shown_of W asked journal found.TooMany = (Unexplored, codes "too many states\n")
shown_of W asked journal (found.AnyWord f) = (Unexplored, any_word_text f)

-- the words of each end that was found are the workload's
abbrev pub FoundSays : Parts → Exploration → Type 0
FoundSays W (found.Whole states ends) = All (SaysWords W) ends.items
FoundSays W found.TooMany = Unit {0}
FoundSays W (found.AnyWord f) = Unit {0}

-- the text that names a scheduler whose order may change
abbrev pub changing_text : ℕ → Text
changing_text g = codes "scheduler " ++ (decimal g ++ codes " changes its order\n")

-- Calls.

-- the words ask for the ends of W, or for one of them
pub record AsksEnds (g : Given) (W : Parts) (asked : ExploreWords) : Type 0 where
  pub says : Says g.words (command.Explore asked)
  pub reads : IsReadFrom g asked.file W

-- how many states are searched at most
abbrev pub states_searched : Option ℕ → ℕ
states_searched asked = unwrap_or asked state_limit

-- its interleavings were searched, and this is what was found
pub record HasSearched (g : Given) (W : Parts) (asked : ExploreWords) (c : Conclusion) (text : Text) : Type 0 where
  pub found : Exploration
  pub explored : IsExplored W g.stored (states_searched asked.states) found
  pub shown : ◌≡◌ {A = Conclusion × Text} (c, text) (shown_of W asked.end asked.journal found)

-- they were not, since a scheduler may change its order
pub record HasNotSearched (g : Given) (W : Parts) (c : Conclusion) (text : Text) : Type 0 where
  pub scheduler : ℕ
  pub changes : MayChange W g.stored.orders scheduler
  pub shown : ◌≡◌ {A = Conclusion × Text} (c, text) (Unexplored, changing_text scheduler)

-- the words ask for ends, and the text shows them, or says why it does not
pub record ShowsEnds (g : Given) (c : Conclusion) (text : Text) : Type 0 where
  pub workload : Parts
  pub asked : ExploreWords
  pub asks : AsksEnds g workload asked
  pub shows : HasSearched g workload asked c text ⊎ HasNotSearched g workload c text
