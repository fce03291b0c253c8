use Rattle.std.proofs.Common.{◌≡◌, take}
use Rattle.clap.specs.Words.{app_of}
use Rattle.abt_words.specs.Apps.{app_with}
use Rattle.abt_words.specs.Asked.{options_of}
use Rattle.abt_words.proofs.options.command_with.Given as goal

abbrev pub invariant-loop-form : goal.invariant-loop-form
invariant-loop-form l = app_of l.command ≡ app_with (options_of (take l.form-index l.options))
