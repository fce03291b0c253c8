-- The `clap` command that reads the words after a command's name.
use Rattle.std.specs.Prelude.{Bool, true, false, [], ◌∷◌, codes, map, Some}
use Rattle.clap.specs.Words.{App, Rule, Text, new_app, new_rule}
use Rattle.clap.specs.declared.builder.ArgAction.TheVariants.{Append}
use Rattle.abt_words.specs.Rests.{Options}

-- all words that are no options
abbrev pub words_rule : Rule
words_rule = record (new_rule (codes "words")) { action = Some Append }

-- an option `--name` that may come more than once; one without a value has the empty one each time
abbrev pub option_rule : Text → Bool → Rule
option_rule name true = record (new_rule name) { long = Some name; action = Some Append }
option_rule name false = record (new_rule name) {
  long = Some name;
  action = Some Append;
  range = Some (record { start_inclusive = 0; end_inclusive = 0 });
  missing = [] ∷ [];
}

-- the words are read from the first on, and no word asks for help or the version
abbrev pub app_with : Options → App
app_with table =
    let a = new_app (codes "words") in record a {
      top = record a.top {
        no_binary_name = true;
        disable_help_flag = true;
        disable_version_flag = true;
        rules = words_rule ∷ map (λ o. option_rule o.0 o.1) table;
      };
    }
