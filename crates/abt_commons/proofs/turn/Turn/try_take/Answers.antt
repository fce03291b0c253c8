-- A turn that was taken is still of the booth.
use Rattle.abt_booth.proofs.HolderPlaces.{at-place}
use Rattle.abt_commons.proofs.TurnsSeen.{its-holder, rests-or-keeps}
use Rattle.abt_commons.proofs.turn.Turn.try_take.Goals as goal

pub try_hold-self-inside-requires-clause-holder : goal.try_hold-self-inside-requires-clause-holder
try_hold-self-inside-requires-clause-holder c = its-holder c.args.booth.now c.args.self.now c.requires c.self.inside.holder c.self.view_is

pub invariant_of-self : goal.invariant_of-self
invariant_of-self c =
    let tried = c.try_hold-self-inside in
    rests-or-keeps c.args.booth.now tried.new.holder tried.result tried.ensures.turn tried.ensures.rests

pub returns-clause-booth : goal.returns-clause-booth
returns-clause-booth c = at-place c.args.booth.now c.try_hold-self-inside.new.holder c.try_hold-self-inside.ensures.holder
