use Rattle.std.proofs.Common.{rules}
use Rattle.std.proofs.lemmas.Result.{IfOk-weaker}
use Rattle.abt_calls.specs.Starts.{start_part}
use Rattle.abt_model.proofs.Numbered.{made-numbered}
use Rattle.abt_model.proofs.starts.lanes.Goals as goal

pub returns : goal.returns
returns c = IfOk-weaker c.numbered.result _ _ (λ lanes made. made-numbered _ (start_part c.args.w.now) _ _ lanes.items c.streams.ensures.count (λ s lane one. search rules) made) c.numbered.ensures
