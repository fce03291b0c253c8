use Rattle.std.proofs.Common.{arith}
use Rattle.abt_machine.specs.Numbers.{pool_no}
use Rattle.abt_machine.specs.Rounds.{IsNextPool}
use Rattle.abt_model.proofs.Hinting.{first-all, first-more, first-none}
use Rattle.abt_model.proofs.hints.first_next.Goals as goal

pub loop-p-init : goal.loop-p-init
loop-p-init c = first-none (IsNextPool c.args.w.now c.args.z.now c.args.frame.now) c.args.pools.now

pub loop-p-preserved : goal.loop-p-preserved
loop-p-preserved c =
    first-more (IsNextPool c.args.w.now c.args.z.now c.args.frame.now) c.args.pools.now c.loop-p.p-index (pool_no 0) c.loop-p-test.true c.loop-p.invariant
    (λ next. let yes = c.may_visit.ensures.1 next in let no = c.if-may_visit.false in cc)

pub returns-clause-none : goal.returns-clause-none
returns-clause-none c =
    first-all (IsNextPool c.args.w.now c.args.z.now c.args.frame.now) c.args.pools.now c.loop-p.p-index (omega (arith, c.loop-p-test.false, c.loop-p.auto.p-index-end)) c.loop-p.invariant
