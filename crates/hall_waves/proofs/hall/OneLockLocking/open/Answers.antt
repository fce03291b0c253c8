-- What the hall has left.
use Rattle.std.proofs.Common.{subst}
use Rattle.abt_commons.specs.Halls.{HallLeft, HallValue}
use Rattle.hall_waves.proofs.HallClosed.{hall-closed}
use Rattle.hall_waves.proofs.hall.OneLockLocking.open.Goals as goal

pub returns : goal.returns
returns g c = hall-closed c.args.self c.args.passes.items c.close.result c.requires.valid
    (subst (λ (h : HallValue). HallLeft h.booth h.clock c.args.passes.items c.close.result) c.self.view_is c.close.ensures.leaves)
