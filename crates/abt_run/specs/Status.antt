-- The name of the program, how it is called, and the exit status of each conclusion.
use Rattle.std.specs.Prelude.{ℕ, List, [], ◌∷◌, ◌++◌, Option, None, Some, if◌then◌else◌, codes}
use Rattle.std.specs.Str.{bytes_eq}
use Rattle.abt_machine.specs.declared.events.Outcome.{Outcome}
use Rattle.abt_machine.specs.Words.{Text}
use Rattle.abt_check.specs.declared.verdict.Verdict.TheVariants as verdict
use Rattle.abt_shell.specs.Status.{number_of_outcome}
use Rattle.abt_run.specs.declared.status.Conclusion.{Conclusion}
use Rattle.abt_run.specs.declared.status.Conclusion.TheVariants.{Ended, Judged, Ends, Followed, Strays, Belongs, Differs, Flows, NotConfluent, Undefined, Finishes, Sticks, GoesOn, Unexplored, Helps, NamesVersion}

abbrev pub name : Text
name = codes "abtrun"

-- How each command is called.

abbrev pub run_usage : Text
run_usage = codes "abtrun run FILE [--steps V] [--journal] [--why] [--in-turn | --seed N]\nabtrun run FILE --schedule JOURNAL [--why]\n"

abbrev pub self_usage : Text
self_usage = codes "abtrun self N\n"

abbrev pub check_usage : Text
check_usage = codes "abtrun check WORKLOAD JOURNAL [--end]\nabtrun check WORKLOAD OUTPUT --report [--why]\n"

abbrev pub flow_usage : Text
flow_usage = codes "abtrun flow FILE\n"

abbrev pub explore_usage : Text
explore_usage = codes "abtrun explore FILE [--states M] [--end K [--journal]]\n"

abbrev pub help_usage : Text
help_usage = codes "abtrun --help\n"

abbrev pub version_usage : Text
version_usage = codes "abtrun --version\n"

-- how all are called, which is what it prints of its words
abbrev pub help_text : Text
help_text = run_usage ++ (self_usage ++ (check_usage ++ (flow_usage ++ (explore_usage ++ (help_usage ++ version_usage)))))

-- how the command of this name is called, or all are, if it is the name of none
abbrev pub usage_by : Text → Text
usage_by name =
    if bytes_eq name (codes "run") then run_usage else
    if bytes_eq name (codes "self") then self_usage else
    if bytes_eq name (codes "check") then check_usage else
    if bytes_eq name (codes "flow") then flow_usage else
    if bytes_eq name (codes "explore") then explore_usage else
    if bytes_eq name (codes "--help") then help_usage else
    if bytes_eq name (codes "--version") then version_usage else help_text

-- how the command is called whose name the first word is, or all are, if that is the name of none
abbrev pub usage_of : List Text → Text
usage_of [] = help_text
usage_of (name ∷ words) = usage_by name

-- of a journal that was followed to this end, or to where it could go on
abbrev pub number_of_end : Option Outcome → ℕ
number_of_end None = 8
number_of_end (Some o) = number_of_outcome o

-- if all that the command prints was written
abbrev pub number_of_conclusion : Conclusion → ℕ
number_of_conclusion (Ended o) = number_of_outcome o
number_of_conclusion (Judged verdict.Run) = 0
number_of_conclusion (Judged (verdict.Bad at)) = 1
number_of_conclusion (Ends None) = 1
number_of_conclusion (Ends (Some o)) = 0
number_of_conclusion (Followed end) = number_of_end end
number_of_conclusion (Strays at) = 3
number_of_conclusion (Belongs o) = 0
number_of_conclusion Differs = 1
number_of_conclusion Flows = 0
number_of_conclusion NotConfluent = 1
number_of_conclusion Undefined = 1
number_of_conclusion Finishes = 0
number_of_conclusion Sticks = 1
number_of_conclusion GoesOn = 4
number_of_conclusion Unexplored = 8
number_of_conclusion Helps = 0
number_of_conclusion NamesVersion = 0
