-- Which command the words after the program's name say.
use Rattle.std.specs.Prelude.{◌≡◌, ◌≢◌, ◌^◌, ◌<◌, ℕ, Bool, true, false, List, [], ◌∷◌, Option, Some, None, codes}
use Rattle.std.specs.Str.Parse.{IsNumeral, digits_value}
use Rattle.abt_machine.specs.declared.grammar.Format.TheVariants as format
use Rattle.abt_machine.specs.Limits.{adder_limit}
use Rattle.abt_machine.specs.Spelling.{SaysNumber}
use Rattle.abt_machine.specs.Words.{Text}
use Rattle.abt_words.specs.declared.commands.Command.{Command}
use Rattle.abt_words.specs.declared.commands.Command.TheVariants as command
use Rattle.abt_words.specs.declared.commands.CheckWords.{CheckWords}
use Rattle.abt_words.specs.declared.commands.ExploreWords.{ExploreWords}
use Rattle.abt_words.specs.declared.commands.OutputWords.{OutputWords}
use Rattle.abt_words.specs.declared.commands.RunWords.{RunWords}
use Rattle.abt_words.specs.declared.commands.Schedule.{Schedule}
use Rattle.abt_words.specs.declared.commands.Schedule.TheVariants as schedule
use Rattle.abt_words.specs.declared.commands.Shows.{Shows}
use Rattle.abt_words.specs.declared.commands.Shows.TheVariants as shows
use Rattle.abt_words.specs.Rests.{Options, Rest, rest_of}
use Rattle.abt_words.specs.Steps.{step_limit_of}

abbrev pub run_options : Options
run_options = (codes "steps", true) ∷ (codes "journal", false) ∷ (codes "why", false) ∷ (codes "in-turn", false) ∷ (codes "seed", true) ∷ (codes "schedule", true) ∷ []

abbrev pub check_options : Options
check_options = (codes "end", false) ∷ (codes "report", false) ∷ (codes "why", false) ∷ []

abbrev pub explore_options : Options
explore_options = (codes "states", true) ∷ (codes "end", true) ∷ (codes "journal", false) ∷ []

-- the rest has exactly these words, and no option that the command does not have
abbrev pub HasWords : Rest → List Text → Type 0
HasWords r words = (r.words ≡ words) × (r.others ≡ 0)

-- at most one value asks for a number, which is from 1 to this
abbrev pub SaysAtMostOne : ℕ → List Text → Option ℕ → Type 0
SaysAtMostOne most [] asked = asked ≡ None
SaysAtMostOne most (v ∷ []) None = ⊥
SaysAtMostOne most (v ∷ []) (Some n) = SaysNumber most v n
SaysAtMostOne most (v ∷ w ∷ vs) asked = ⊥

-- an option without a value is given at most once
abbrev pub SaysFlag : List Text → Bool → Type 0
SaysFlag [] is_given = is_given ≡ false
SaysFlag (v ∷ []) is_given = is_given ≡ true
SaysFlag (v ∷ w ∷ vs) is_given = ⊥

-- at most one option asks for steps, and for no more than the last format allows
abbrev pub SaysSteps : List Text → Option ℕ → Type 0
SaysSteps = SaysAtMostOne (step_limit_of format.Three)

-- two FILEs, of at least one byte each, which are not both `-`
abbrev pub AreFiles : Text → Text → Type 0
AreFiles first second = (first ≢ []) × (second ≢ []) × (first ≡ codes "-" → second ≡ codes "-" → ⊥)

-- one or more ASCII digits of a value below 2 ^ 64; leading zeros are allowed
abbrev pub SaysSeed : Text → ℕ → Type 0
SaysSeed digits n = IsNumeral 10 digits × (n ≡ digits_value 10 digits) × (n < 2 ^ 64)

-- of the two options that say how the streams take turns at most one is given, and once
abbrev pub SaysSchedule : List Text → List Text → Schedule → Type 0
SaysSchedule [] [] s = s ≡ schedule.Threads
SaysSchedule (v ∷ []) [] s = s ≡ schedule.InTurn
SaysSchedule [] (digits ∷ []) s = (n : ℕ) × (s ≡ schedule.Seed n) × SaysSeed digits n
SaysSchedule in_turns seeds s = ⊥

-- exactly one FILE, of at least one byte, and the options, each at most once, in any order, but none that names a schedule
abbrev pub SaysRun : Rest → RunWords → Type 0
SaysRun r w = HasWords r (w.file ∷ []) × (w.file ≢ []) × SaysSteps (r.given (codes "steps")) w.steps
    × SaysFlag (r.given (codes "journal")) w.journal × SaysFlag (r.given (codes "why")) w.why
    × SaysSchedule (r.given (codes "in-turn")) (r.given (codes "seed")) w.schedule × (r.given (codes "schedule") ≡ [])

-- the report of a schedule is shown, with what units wait for, if that option is given, which it may be once
abbrev pub SaysReport : List Text → Shows → Type 0
SaysReport [] s = s ≡ shows.Report false
SaysReport (v ∷ []) s = s ≡ shows.Report true
SaysReport (v ∷ w ∷ vs) s = ⊥

-- exactly one FILE and a schedule, which are two files, and no other option but that
abbrev pub SaysFollow : Rest → CheckWords → Type 0
SaysFollow r w = HasWords r (w.workload ∷ []) × AreFiles w.workload w.journal × (r.given (codes "schedule") ≡ w.journal ∷ [])
    × SaysReport (r.given (codes "why")) w.shows × (r.given (codes "steps") ≡ []) × (r.given (codes "journal") ≡ [])
    × (r.given (codes "in-turn") ≡ []) × (r.given (codes "seed") ≡ [])

-- exactly one word N
abbrev pub SaysSelf : Rest → ℕ → Type 0
SaysSelf r units = (n : Text) × HasWords r (n ∷ []) × SaysNumber adder_limit n units

-- how the journal ends is shown, if that option is given, which it may be once
abbrev pub SaysEnd : List Text → Shows → Type 0
SaysEnd [] s = s ≡ shows.Verdict
SaysEnd (v ∷ []) s = s ≡ shows.End
SaysEnd (v ∷ w ∷ vs) s = ⊥

-- exactly two FILEs, and no option but that
abbrev pub SaysCheck : Rest → CheckWords → Type 0
SaysCheck r w = HasWords r (w.workload ∷ w.journal ∷ []) × AreFiles w.workload w.journal × SaysEnd (r.given (codes "end")) w.shows
    × (r.given (codes "report") ≡ []) × (r.given (codes "why") ≡ [])

-- exactly two FILEs, the option that asks for the report to be judged, and perhaps the one that says what units wait for, each once
abbrev pub SaysOutput : Rest → OutputWords → Type 0
SaysOutput r w = HasWords r (w.workload ∷ w.output ∷ []) × AreFiles w.workload w.output × SaysFlag (r.given (codes "report")) true
    × SaysFlag (r.given (codes "why")) w.why × (r.given (codes "end") ≡ [])

-- a report is shown after `run`, and else after `check`
abbrev pub judge_name : Shows → Text
judge_name shows.Verdict = codes "check"
judge_name shows.End = codes "check"
judge_name (shows.Report why) = codes "run"

-- the words after that name say what is judged
abbrev pub SaysJudge : Shows → List Text → CheckWords → Type 0
SaysJudge shows.Verdict ws w = SaysCheck (rest_of check_options None ws) w
SaysJudge shows.End ws w = SaysCheck (rest_of check_options None ws) w
SaysJudge (shows.Report why) ws w = SaysFollow (rest_of run_options None ws) w

-- exactly one FILE, of at least one byte
abbrev pub SaysFile : Rest → Text → Type 0
SaysFile r file = HasWords r (file ∷ []) × (file ≢ [])

-- the greatest number of states that are explored, and so of ends
abbrev pub state_limit : ℕ
state_limit = 1000000

-- a journal is printed only of the end that is asked for
abbrev pub IsOfEnd : Option ℕ → Bool → Type 0
IsOfEnd None journal = journal ≡ false
IsOfEnd (Some end) journal = Unit {0}

-- one FILE, of at least one byte, and the options, each at most once, in any order
abbrev pub SaysExplore : Rest → ExploreWords → Type 0
SaysExplore r w = SaysFile r w.file × SaysAtMostOne state_limit (r.given (codes "states")) w.states
    × SaysAtMostOne state_limit (r.given (codes "end")) w.end × SaysFlag (r.given (codes "journal")) w.journal × IsOfEnd w.end w.journal

abbrev pub name_of : Command → Text
name_of (command.Run w) = codes "run"
name_of (command.SelfRun units) = codes "self"
name_of (command.Check w) = judge_name w.shows
name_of (command.CheckOutput w) = codes "check"
name_of (command.Flow file) = codes "flow"
name_of (command.Explore w) = codes "explore"
name_of command.Help = codes "--help"
name_of command.Version = codes "--version"

-- the words after its name say the rest of the command
abbrev pub SaysRest : List Text → Command → Type 0
SaysRest ws (command.Run w) = SaysRun (rest_of run_options None ws) w
SaysRest ws (command.SelfRun units) = SaysSelf (rest_of [] None ws) units
SaysRest ws (command.Check w) = SaysJudge w.shows ws w
SaysRest ws (command.CheckOutput w) = SaysOutput (rest_of check_options None ws) w
SaysRest ws (command.Flow file) = SaysFile (rest_of [] None ws) file
SaysRest ws (command.Explore w) = SaysExplore (rest_of explore_options None ws) w
SaysRest ws command.Help = ws ≡ []
SaysRest ws command.Version = ws ≡ []

-- a name and the words after it say the command
abbrev pub SaysBy : Text → List Text → Command → Type 0
SaysBy name ws c = (name ≡ name_of c) × SaysRest ws c

-- the words say the command: the first is its name
abbrev pub Says : List Text → Command → Type 0
Says [] c = ⊥
Says (name ∷ ws) c = SaysBy name ws c
