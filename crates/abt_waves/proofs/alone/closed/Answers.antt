-- The objects of the one pass.
use Rattle.abt_drain.proofs.Closing.{only-one}
use Rattle.abt_waves.proofs.alone.closed.Goals as goal

pub returns : goal.returns
returns c = only-one c.close.result c.args.pass c.in_ok-vec.field-0.items c.close.ensures.leaves c.in_ok-vec.ensures.items
