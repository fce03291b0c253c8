-- The seat is of the booth, whether the turn was kept or not.
use Rattle.std.proofs.Common.{subst, sym}
use Rattle.abt_booth.specs.Holders.{IsHolderOf}
use Rattle.abt_commons.proofs.TurnsSeen.{its-holder, its-turn}
use Rattle.abt_commons.proofs.turn.Turn.into_seat.Goals.{then-kept, else-kept}
use Rattle.abt_commons.proofs.turn.Turn.into_seat.Goals as goal

pub give_back-requires : goal.give_back-requires
give_back-requires c = its-turn c.args.booth.now c.args.self c.requires c.self.inside.holder c.self.view_is c.self.inside.kept c.if-kept.true c.self.invariant

pub returns-clause-booth : goal.returns-clause-booth
returns-clause-booth c =
    let booth = c.args.booth.now in
    c.into_seat.ensures.booth booth (elim c.if-kept.branch [
      | then-kept w ↦ subst (IsHolderOf booth) (sym w.holder-is) w.give_back.ensures.holder
      | else-kept w ↦ subst (IsHolderOf booth) (sym w.holder-is) (its-holder booth c.args.self c.requires c.self.inside.holder c.self.view_is)
    ])
