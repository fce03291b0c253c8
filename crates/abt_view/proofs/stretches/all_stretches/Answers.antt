use Rattle.std.proofs.Common.{arith, []}
use Rattle.abt_view.specs.Stretches.{stretches_of}
use Rattle.abt_view.proofs.Ranges.{one-more}
use Rattle.abt_view.proofs.stretches.all_stretches.Goals as goal

pub loop-s-preserved : goal.loop-s-preserved
loop-s-preserved c =
    one-more (stretches_of c.args.notes.now) [] c.loop-s.all.items c.append.new.self.items 0 c.loop-s.s _ (omega arith) c.loop-s.invariant
    (rw (c.into_items-found.ensures, c.in_ok-stretches.ensures) at c.in_ok-append.ensures.items)
