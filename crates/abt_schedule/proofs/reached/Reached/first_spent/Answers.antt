-- No stream before is spent.
use Rattle.std.proofs.Common.{ℕ, below_more}
use Rattle.abt_machine.specs.Outcomes.{Spent}
use Rattle.abt_schedule.proofs.reached.Reached.first_spent.Goals as goal

pub loop-s-preserved : goal.loop-s-preserved
loop-s-preserved c = record {
  none = λ Z J is. below_more (λ (r : ℕ). Spent c.args.w.now c.args.steps J r → ⊥) c.loop-s.s (λ r below. c.loop-s.invariant.none Z J is r below)
      (λ spent. let yes = (c.is_spent.ensures Z J is).1 spent in let no = c.if-is_spent.false in cc);
  end = c.loop-s.invariant.end;
}
