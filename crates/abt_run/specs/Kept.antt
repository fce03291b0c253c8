-- Which runs keep their journal.
use Rattle.std.specs.Prelude.{Bool, true, false, if◌then◌else◌}
use Rattle.abt_words.specs.declared.commands.Command.{Command}
use Rattle.abt_words.specs.declared.commands.Command.TheVariants as command
use Rattle.abt_run.specs.declared.keeping.Keep.{Keep}
use Rattle.abt_run.specs.declared.keeping.Keep.TheVariants as keep

-- one of both
abbrev pub either : Bool → Bool → Bool
either a b = if a then true else b

-- the command prints the journal of its run, or what units wait for after it
abbrev pub needs_journal : Command → Bool
needs_journal (command.Run w) = either w.journal w.why
needs_journal (command.SelfRun units) = false
needs_journal (command.Check w) = false
needs_journal (command.CheckOutput w) = false
needs_journal (command.Flow file) = false
needs_journal (command.Explore w) = false
needs_journal command.Help = false
needs_journal command.Version = false

-- a run keeps its journal, if it is needed, or if it is not
abbrev pub keeps : Keep → Bool → Bool
keeps keep.Always needs = true
keeps keep.IfPrinted needs = needs
