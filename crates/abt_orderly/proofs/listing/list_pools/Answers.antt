use Rattle.std.proofs.Common.{◌≡◌, ◌∙◌, ◌<◌, ◌≤◌, Some, ap, arith, length, map, sym}
use Rattle.std.specs.Prelude.{slice_get, slice_index_or}
use Rattle.std.proofs.lemmas.Option.{slice_get-get_or}
use Rattle.abt_machine.specs.declared.numbers.PoolNo.{PoolNo}
use Rattle.abt_machine.specs.Numbers.{pool_no}
use Rattle.abt_machine.specs.Workloads.{main_of, pools_of}
use Rattle.abt_orderly.proofs.Listed.{all-listed, listed-below, listed-in, one-listed, one-marked}
use Rattle.abt_orderly.proofs.listing.list_pools.Goals as goal

pub loop-p-preserved : goal.loop-p-preserved
loop-p-preserved c =
    let is : pools_of c.args.w.now (main_of c.args.w.now c.args.s.0) ≡ map (λ (p : PoolNo). p.0) c.items-p-items.result.now = listed-in c.args.w.now c.args.s.0 c.main.result c.sched.result.now c.main.ensures
    c.sched.ensures ∙ ap (map (λ (p : PoolNo). p.0)) (sym c.items-p-items.ensures) in
    let inside : c.loop-p.p-index < length c.items-p-items.result.now = omega arith in
    let at : slice_get c.items-p-items.result.now c.loop-p.p-index ≡ Some (slice_index_or c.items-p-items.result.now c.loop-p.p-index (pool_no 0)) = slice_get-get_or c.items-p-items.result.now c.loop-p.p-index
    (pool_no 0) inside in
    let below : (slice_index_or c.items-p-items.result.now c.loop-p.p-index (pool_no 0)).0 < length c.loop-p.listed = listed-below c.args.w.now c.args.s.0 c.requires.stream c.items-p-items.result.now is
    c.loop-p.listed c.loop-p.invariant.has c.known.ensures c.loop-p.p-index (slice_index_or c.items-p-items.result.now c.loop-p.p-index (pool_no 0)) at in
    record {
      has = one-listed c.args.w.now c.args.s.0 c.requires.stream c.items-p-items.result.now is c.loop-p.listed c.loop-p.invariant.has c.loop-p.p-index
          (slice_index_or c.items-p-items.result.now c.loop-p.p-index (pool_no 0)) at below;
      more = one-marked c.args.w.now c.args.s.0 c.requires.stream c.items-p-items.result.now is c.loop-p.listed c.loop-p.invariant.has c.loop-p.p-index
          (slice_index_or c.items-p-items.result.now c.loop-p.p-index (pool_no 0)) at below c.loop-p.invariant.more;
    }

pub returns : goal.returns
returns c =
    let is : pools_of c.args.w.now (main_of c.args.w.now c.args.s.0) ≡ map (λ (p : PoolNo). p.0) c.items-p-items.result.now = listed-in c.args.w.now c.args.s.0 c.main.result c.sched.result.now c.main.ensures
    c.sched.ensures ∙ ap (map (λ (p : PoolNo). p.0)) (sym c.items-p-items.ensures) in
    let over : length c.items-p-items.result.now ≤ c.loop-p.p-index = omega arith in
    all-listed c.args.w.now c.args.s.0 c.requires.stream c.items-p-items.result.now is c.loop-p.listed c.loop-p.invariant.has c.loop-p.p-index over c.loop-p.invariant.more
