-- One pass more is made.
use Rattle.std.proofs.Common.{◌+◌, [], sym, subst, arith}
use Rattle.abt_commons.specs.Locking.{AreDealt}
use Rattle.abt_commons.proofs.Dealing.{dealt-next}
use Rattle.abt_commons.proofs.locking.turnless.Goals as goal

pub loop-stream-preserved : goal.loop-stream-preserved
loop-stream-preserved c =
    let inv = c.loop-stream.invariant in
    let next = dealt-next [] c.args.count c.loop-stream.stream c.loop-stream.passes.items c.in_ok-without_turns.field-0 inv.0 c.in_ok-without_turns.ensures in (
      subst (AreDealt [] c.args.count (c.loop-stream.stream + 1)) (sym c.push_reserved.ensures.items) next,
      (let many = c.push_reserved.ensures.len in let old = inv.1 in omega (arith, many, old)),
      (let same = c.push_reserved.ensures.capacity in let fits = inv.2 in omega (arith, same, fits)),
    )
