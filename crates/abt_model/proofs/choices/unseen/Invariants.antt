use Rattle.std.proofs.Common.{take}
use Rattle.abt_model.specs.Hints.{TellUnseen}
use Rattle.abt_model.proofs.choices.unseen.Given as goal

abbrev pub invariant-loop-p : goal.invariant-loop-p
invariant-loop-p l = TellUnseen (take l.p-index l.pools) l.seen l.hints.items
