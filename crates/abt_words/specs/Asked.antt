-- What `clap` found in the words after a command's name.
use Rattle.std.specs.Prelude.{◌≡◌, List, [], ◌∷◌, codes, if◌then◌else◌, map, option_map, unwrap_or}
use Rattle.std.specs.Str.{bytes_eq}
use Rattle.clap.specs.Words.{found_of, matched_of, raw_values}
use Rattle.clap.specs.declared.error.kind.ErrorKind.{ErrorKind}
use Rattle.clap.specs.declared.error.kind.ErrorKind.TheVariants as kind
use Rattle.clap.specs.declared.parser.matches.ArgMatches.{ArgMatches}
use Rattle.abt_machine.specs.Words.{Text}
use Rattle.abt_words.specs.Rests.{Options, Rest}
use Rattle.abt_words.specs.declared.check.CheckAsked.{CheckAsked}
use Rattle.abt_words.specs.declared.check.OutputAsked.{OutputAsked}
use Rattle.abt_words.specs.declared.commands.CheckWords.{CheckWords}
use Rattle.abt_words.specs.declared.commands.ExploreWords.{ExploreWords}
use Rattle.abt_words.specs.declared.commands.OutputWords.{OutputWords}
use Rattle.abt_words.specs.declared.commands.RunWords.{RunWords}
use Rattle.abt_words.specs.declared.explore.ExploreAsked.{ExploreAsked}
use Rattle.abt_words.specs.declared.run.RunAsked.{RunAsked}
use Rattle.abt_words.specs.declared.fault.WordFault.{WordFault}
use Rattle.abt_words.specs.declared.fault.WordFault.TheVariants as fault
use Rattle.abt_words.specs.declared.options.HowOften.{HowOften}
use Rattle.abt_words.specs.declared.options.HowOften.TheVariants as how_often
use Rattle.abt_words.specs.declared.options.OptionForm.{OptionForm}

-- of `clap`'s errors only out of memory does not come from the words
abbrev pub fault_of_kind : ErrorKind → WordFault
fault_of_kind kind.OutOfMemory = fault.Memory
fault_of_kind _ = fault.Bad

-- the options by their forms
abbrev pub options_of : List OptionForm → Options
options_of = map (λ o. (o.name.now, o.takes_value))

-- all values of an argument
abbrev pub found_values : ArgMatches → Text → List Text
found_values m id = unwrap_or (option_map raw_values (matched_of (found_of m) id)) []

-- these values are given
abbrev pub IsGiven : HowOften → List Text → Type 0
IsGiven how_often.Never vs = vs ≡ []
IsGiven (how_often.Once v) vs = vs ≡ v.now ∷ []
IsGiven how_often.Often vs = (v w : Text) × (more : List Text) × (vs ≡ v ∷ w ∷ more)

-- the rest that has exactly these words and options
abbrev pub rest_found : ArgMatches → Rest
rest_found m = record {
  words = found_values m (codes "words");
  given = λ name. if bytes_eq name (codes "words") then [] else found_values m name;
  others = 0;
}

-- the words, with names of their own
abbrev pub run_words : RunAsked → RunWords
run_words a = record { file = a.file.now; steps = a.steps; journal = a.journal; why = a.why; schedule = a.schedule }

abbrev pub check_words : CheckAsked → CheckWords
check_words a = record { workload = a.workload.now; journal = a.journal.now; shows = a.shows }

abbrev pub output_words : OutputAsked → OutputWords
output_words a = record { workload = a.workload.now; output = a.output.now; why = a.why }

abbrev pub explore_words : ExploreAsked → ExploreWords
explore_words a = record { file = a.file.now; states = a.states; end = a.end; journal = a.journal }
