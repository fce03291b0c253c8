-- One option more.
use Rattle.std.proofs.Common.{◌∙◌, ap₂}
use Rattle.clap.specs.Words.{with_rule}
use Rattle.abt_words.proofs.Building.{one-more}
use Rattle.abt_words.proofs.options.command_with.Goals as goal

pub loop-form-preserved : goal.loop-form-preserved
loop-form-preserved c = c.in_ok-command-2.ensures.shape c.option_arg.ensures.own ∙ ap₂ with_rule c.loop-form.invariant c.option_arg.ensures.rule
    ∙ one-more c.args.options.now c.loop-form.form-index _ c.loop-form-test.true
