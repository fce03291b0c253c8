use Rattle.abt_shell.specs.More.{more_text}
use Rattle.abt_shell.proofs.Telling.{told-first, told-second}
use Rattle.abt_shell.proofs.writing.write_with.Goals as goal

pub returns-in-Ok-clause-told : goal.returns-in-Ok-clause-told
returns-in-Ok-clause-told g c = told-second _ _ _ _ _ _ c.args.text.now (more_text c.args.more) c.in-Ok.ensures.whole c.in-Ok.ensures.quiet c.write_more.ensures.told

pub returns-in-Err-clause-told : goal.returns-in-Err-clause-told
returns-in-Err-clause-told g c = told-first _ _ _ _ c.args.text.now (more_text c.args.more) c.in-Err.ensures.prefix c.in-Err.ensures.cause
