-- The name of the program, how it is called, what it prints of itself, and the exit status of each conclusion.
use Rattle.std.specs.Prelude.{ℕ, ◌++◌, codes}
use Rattle.abt_machine.specs.Words.{Text}
use Rattle.abt_shell.specs.Status.{number_of_outcome}
use Rattle.abt_words.specs.declared.itself.Topic.{Topic}
use Rattle.abt_words.specs.declared.itself.Topic.TheVariants.{Help, Version}
use Rattle.abt_words.specs.declared.versions.Program.TheVariants as program_of
use Rattle.abt_words.specs.Versions.{version_text}
use Rattle.abt_lives.specs.declared.status.Conclusion.{Conclusion}
use Rattle.abt_lives.specs.declared.status.Conclusion.TheVariants.{Ended, Explained}

abbrev pub name : Text
name = codes "abtwaves"

-- how it is called for a run
abbrev pub usage : Text
usage = codes "abtwaves WORKLOAD LIVES [--steps V] [--journal]\n"

-- its words, and its version
abbrev pub about_text : Topic → Text
about_text Help = usage ++ codes "abtwaves --help\nabtwaves --version\n"
about_text Version = version_text program_of.Waves

-- if all that the call prints was written
abbrev pub number_of_conclusion : Conclusion → ℕ
number_of_conclusion (Ended o) = number_of_outcome o
number_of_conclusion (Explained a) = 0
