use Rattle.abt_workload.proofs.RoundTrip.{reads-canonical}
use Rattle.abt_workload.proofs.WholeTexts.{written}
use Rattle.abt_workload.proofs.writing.write.Goals as goal

pub settle-requires-clause-valid : goal.settle-requires-clause-valid
settle-requires-clause-valid c = c.streams.ensures.valid

pub settle-requires-clause-text : goal.settle-requires-clause-text
settle-requires-clause-text c =
    written c.args.w.now c.push_head.new.out.items c.push_pools.new.out.items c.push_scheds.new.out.items c.push_streams.new.out.items c.push_objects.new.out.items c.push_line.new.out.items c.push_units.new.out.items c.push_line-2.new.out.items
    (rw (c.streams.ensures.count, c.keys.ensures, c.new-out.ensures.items) at c.in_ok-push_head.ensures)
    c.in_ok-push_pools.ensures c.in_ok-push_scheds.ensures c.in_ok-push_streams.ensures c.in_ok-push_objects.ensures
    (rw (c.from.ensures, c.units.ensures) at c.in_ok-push_line.ensures)
    c.in_ok-push_units.ensures c.in_ok-push_line-2.ensures

pub returns : goal.returns
returns c = record {
  text = c.settle.ensures;
  read_back = rw c.settle.ensures (reads-canonical c.args.w.now c.streams.ensures.valid);
}
