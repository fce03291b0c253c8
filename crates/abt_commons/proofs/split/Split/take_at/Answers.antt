-- The pass still has the turn of each lock.
use Rattle.std.proofs.Common.{◌∙◌}
use Rattle.abt_commons.proofs.Asking.{turn-is, turns-set}
use Rattle.abt_commons.proofs.split.Split.take_at.Goals as goal

pub give_way-requires : goal.give_way-requires
give_way-requires g c =
    let pass = c.args.pass.now in
    let booths = c.args.self.now.booths in
    let booth = c.args.booth.now in
    let was = turn-is booths pass.turns.items pass.stream c.requires.pass c.args.number c.requires.number booth c.requires.booth c.index_mut.result.now c.index_mut.ensures.value in
    record { pass = turns-set booths pass.turns.items pass.stream c.requires.pass c.args.number c.requires.number booth c.requires.booth c.try_take.new.self c.try_take.ensures.booth (c.try_take.ensures.number ∙ was.1) }
