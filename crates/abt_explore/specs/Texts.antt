-- What is printed of the ends of a workload.
use Rattle.std.specs.Prelude.{ℕ, suc, List, [], ◌∷◌, ◌++◌, length, codes, decimal}
use Rattle.std.specs.List.{All}
use Rattle.abt_machine.specs.declared.workload.Parts.{Parts}
use Rattle.abt_machine.specs.Outcomes.{steps_in}
use Rattle.abt_machine.specs.Texts.{journal_text, outcome_words, report_of}
use Rattle.abt_machine.specs.Words.{Text, ended, line_of}
use Rattle.abt_report.specs.Pictures.{SaysWordsOf, units_in_rows}
use Rattle.abt_explore.specs.declared.exploration.End.{End}

-- the words of an end's report are the workload's
abbrev pub SaysWords : Parts → End → Type 0
SaysWords W end = All (SaysWordsOf W) end.picture

-- the words of the line of end k: its outcome, and by how many events it is reached
abbrev pub end_words : ℕ → End → List Text
end_words k end = codes "end" ∷ decimal k ∷ (outcome_words end.outcome ++ codes "events" ∷ decimal (length end.journal) ∷ [])

-- the report of a run that ends so
abbrev pub report_of_end : Parts → End → Text
report_of_end W end = report_of W (units_in_rows end.picture) (steps_in end.journal) end.outcome

abbrev pub end_text : Parts → ℕ → End → Text
end_text W k end = ended (line_of (end_words k end)) ++ report_of_end W end

-- the ends, the first of which has number k
abbrev pub ends_text : Parts → ℕ → List End → Text
ends_text W k [] = []
ends_text W k (end ∷ ends) = end_text W k end ++ ends_text W (suc k) ends

-- how many states there are, and all ends
abbrev pub explored_text : Parts → ℕ → List End → Text
explored_text W states ends = ended (line_of (codes "states" ∷ decimal states ∷ [])) ++ ends_text W 1 ends

-- one end: the journal that leads to it, and its report
abbrev pub shown_text : Parts → End → Text
shown_text W end = journal_text end.journal ++ report_of_end W end
