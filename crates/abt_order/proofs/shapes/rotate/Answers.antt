use Rattle.std.proofs.Math.Nat.{mod-add-mod}
use Rattle.abt_order.proofs.shapes.rotate.Goals as goal

pub returns : goal.returns
returns c = rw (c.from.ensures, c.from-2.ensures, c.from-3.ensures) (mod-add-mod c.args.round c.args.n c.args.i)
