-- How many steps each stream may make, by the words of a call and the format of the file that they name.
use Rattle.std.specs.Prelude.{ℕ, suc, ◌≡◌, ⊤, Option, Some, IfSome, take}
use Rattle.abt_machine.specs.declared.grammar.Format.{Format}
use Rattle.abt_machine.specs.declared.grammar.Format.TheVariants as format
use Rattle.abt_machine.specs.Grammar.{format_of}
use Rattle.abt_machine.specs.Limits.{default_steps, text_limit}
use Rattle.abt_machine.specs.Spelling.{lines_of}
use Rattle.abt_machine.specs.Words.{Text}
use Rattle.abt_shell.specs.Fetched.{StopsFor}
use Rattle.abt_shell.specs.declared.status.Stop.{Stop}
use Rattle.abt_words.specs.declared.commands.Command.{Command}
use Rattle.abt_words.specs.declared.commands.Command.TheVariants as command
use Rattle.abt_words.specs.declared.commands.RunWords.{RunWords}
use Rattle.abt_words.specs.Commands.{Says}
use Rattle.abt_words.specs.Steps.{AsksTooMany, LetsMake}
use Rattle.abt_run.specs.Given.{Given}

-- One file, by its bytes, if they are observable.

-- the format of a file of these bytes, of which at most one more is read than a text may have
abbrev pub format_read : Text → Format
format_read bytes = format_of (lines_of (take (suc (text_limit format.Three)) bytes))

abbrev pub HasFormat : Option Text → Format → Type 0
HasFormat told f = IfSome told (λ bytes. f ≡ format_read bytes)

-- the format of the file lets each stream make n steps, by the number that the words ask for, if they do
pub record LetsStreams (told : Option Text) (asked : Option ℕ) (n : ℕ) : Type 0 where
  pub format : Format
  pub its : HasFormat told format
  pub lets : LetsMake format asked n

-- the words ask for more steps than the format of the file allows
pub record Exceeds (told : Option Text) (asked : Option ℕ) : Type 0 where
  pub format : Format
  pub its : HasFormat told format
  pub many : AsksTooMany format asked

-- and the bytes of the file are observable
abbrev pub ExceedsKnown : Option Text → Option ℕ → Type 0
ExceedsKnown told asked = (bytes : Text) × (told ≡ Some bytes) × AsksTooMany (format_read bytes) asked

-- no line of a file is why a call stops; faults are the counts of faults of reading before and afterwards
abbrev pub StopsAtNoLine : ℕ × ℕ → Stop → Type 0
StopsAtNoLine = StopsFor ⊤ ⊤ (λ line w. ⊥)

-- Commands.

-- the command lets each stream make n steps
abbrev pub MayMake : Command → Given → ℕ → Type 0
MayMake (command.Run w) g n = LetsStreams (g.file w.file) w.steps n
MayMake (command.SelfRun units) g n = n ≡ default_steps
MayMake (command.Check w) g n = ⊥
MayMake (command.CheckOutput w) g n = ⊥
MayMake (command.Flow file) g n = ⊥
MayMake (command.Explore w) g n = ⊥
MayMake command.Help g n = ⊥
MayMake command.Version g n = ⊥

-- the words ask for more steps than the format of the file that they name allows
pub record AsksBeyond (g : Given) : Type 0 where
  pub asked : RunWords
  pub says : Says g.words (command.Run asked)
  pub exceeds : Exceeds (g.file asked.file) asked.steps
