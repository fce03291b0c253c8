use Rattle.abt_why.specs.Held.{shown_in, wait_shown}
use Rattle.abt_why.proofs.Numbers.{mapped-more}
use Rattle.abt_why.proofs.finding.waits.Goals as goal

pub loop-u-preserved : goal.loop-u-preserved
loop-u-preserved c = record {
  waits =
      mapped-more (λ u. wait_shown c.args.w.now c.args.slots.now c.args.rows.now u (shown_in c.args.rows.now u)) c.loop-u.u c.loop-u.waits.items c.push.new.self.items c.in_ok-wait_of.field-0
      c.loop-u.invariant.waits c.in_ok-wait_of.ensures c.in_ok-push.ensures.items;
  end = c.loop-u.invariant.end;
}
