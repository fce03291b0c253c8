-- One pool more, and all.
use Rattle.std.proofs.Common.{◌∙◌, arith, refl, sym}
use Rattle.abt_machine.specs.Numbers.{pool_no}
use Rattle.abt_model.proofs.Ending.{all-empty, one-empty}
use Rattle.abt_model.proofs.ends.has_empty_pools.Goals as goal

pub returns-then-not-is_empty : goal.returns-then-not-is_empty
returns-then-not-is_empty c = (
  λ no. cc,
  λ all. sym c.if-not-is_empty.true ∙ c.is_empty.ensures.1
      (one-empty c.args.w.now c.args.s.0 c.main.result c.sched.result.now c.items-p-items.result.now c.main.ensures c.sched.ensures c.items-p-items.ensures
      c.args.objects.now all c.loop-p.p-index (pool_no 0) c.loop-p-test.true),
)

pub returns : goal.returns
returns c = (
  λ yes. all-empty c.args.w.now c.args.s.0 c.main.result c.sched.result.now c.items-p-items.result.now c.main.ensures c.sched.ensures c.items-p-items.ensures c.args.objects.now
      (λ k d l. c.loop-p.invariant k d (omega (arith, l, c.loop-p-test.false))),
  λ all. refl,
)
