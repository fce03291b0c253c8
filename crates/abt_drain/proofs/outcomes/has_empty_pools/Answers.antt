-- One pool more, and all.
use Rattle.std.proofs.Common.{◌<◌, get_or, length, refl, sym, ◌∙◌, subst, arith}
use Rattle.std.proofs.lemmas.List.{get_or_default}
use Rattle.abt_machine.specs.declared.events.Site.TheVariants as site
use Rattle.abt_machine.specs.declared.workload.Parts.{Parts}
use Rattle.abt_machine.specs.Numbers.{pool_no}
use Rattle.abt_commons.specs.Held.{object_at}
use Rattle.abt_drain.specs.Looks.{IsEmptyAt}
use Rattle.abt_drain.proofs.Looking.{all-empty, empty-pool, one-declared, one-empty, one-further, used-pool}
use Rattle.abt_drain.proofs.outcomes.has_empty_pools.Goals as goal

pub pool_is_empty-requires : goal.pool_is_empty-requires
pool_is_empty-requires c =
    let declared = one-declared c.args.w.now c.args.s.0 c.main.result c.sched.result.now c.items-p-items.result.now c.main.ensures c.sched.ensures c.items-p-items.ensures
    c.known.ensures c.requires.stream c.loop-p.p-index (pool_no 0) c.loop-p-test.true in
    subst (λ (W : Parts). (get_or c.items-p-items.result.now c.loop-p.p-index (pool_no 0)).0 < length W.pools) (sym c.requires.objects) declared

pub returns-then-not-pool_is_empty : goal.returns-then-not-pool_is_empty
returns-then-not-pool_is_empty c =
    let p = get_or c.items-p-items.result.now c.loop-p.p-index (pool_no 0) in (
      λ no. cc,
      λ all. absurd (used-pool (object_at c.args.objects.now (site.Pool p)) (sym c.pool_is_empty.ensures.empty ∙ c.if-not-pool_is_empty.true)
          (one-empty c.args.w.now c.args.s.0 c.main.result c.sched.result.now c.items-p-items.result.now c.main.ensures c.sched.ensures c.items-p-items.ensures
          c.args.objects.now all c.loop-p.p-index (pool_no 0) c.loop-p-test.true)),
    )

pub loop-p-preserved : goal.loop-p-preserved
loop-p-preserved c =
    let pools = c.items-p-items.result.now in
    let at = c.loop-p.p-index in
    let p = get_or pools at (pool_no 0) in
    let here : IsEmptyAt c.args.objects.now p.0 = empty-pool (object_at c.args.objects.now (site.Pool p)) c.pool_is_empty.ensures.pool (sym c.pool_is_empty.ensures.empty ∙ c.if-not-pool_is_empty.false) in
    λ k d lt. one-further (λ j. IsEmptyAt c.args.objects.now (get_or pools j d).0) at (λ j less. c.loop-p.invariant j d less)
    (subst (λ (q : _). IsEmptyAt c.args.objects.now q.0) (get_or_default pools at (pool_no 0) d c.loop-p-test.true) here) k lt

pub returns : goal.returns
returns c = (
  λ yes. all-empty c.args.w.now c.args.s.0 c.main.result c.sched.result.now c.items-p-items.result.now c.main.ensures c.sched.ensures c.items-p-items.ensures c.args.objects.now
      (λ k d lt. c.loop-p.invariant k d (omega (arith, lt, c.loop-p-test.false))),
  λ all. refl,
)
