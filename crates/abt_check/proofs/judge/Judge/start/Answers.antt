use Rattle.abt_check.proofs.Judged.{judge-starts}
use Rattle.abt_check.proofs.judge.Judge.start.Goals as goal

pub returns : goal.returns
returns c Z stored = judge-starts c.args.w.now Z c.in_ok-model.model c.in_ok-clocks.clocks c.requires stored c.in_ok-model.ensures c.in_ok-clocks.ensures
