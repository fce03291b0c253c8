-- A turn that is given back is seen as before.
use Rattle.abt_commons.proofs.TurnsSeen.{its-turn, same-seen}
use Rattle.abt_commons.proofs.turn.Turn.rest.Goals as goal

pub give_back-requires : goal.give_back-requires
give_back-requires c = its-turn c.args.booth.now c.args.self.now c.requires c.self.inside.holder c.self.view_is c.self.inside.kept c.if-self.true c.self.invariant

pub returns-then-self : goal.returns-then-self
returns-then-self c =
    let back = c.give_back.ensures in
    same-seen c.args.booth.now c.args.self.now c.requires c.self.inside.holder c.self.view_is c.give_back.new.holder back.holder back.number back.seen
